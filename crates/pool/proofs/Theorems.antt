-- What is promised of pooled pictures, over the number of lanes R. The entry has four.
use mathlib.Core.Path.{◌≡◌, refl, sym, ap, ap₂, ◌∙◌, subst}
use mathlib.Core.Logic.{◌≢◌, ◌⊎◌, ⊎_elim}
use mathlib.Core.Bool.{Bool, true, false, not}
use mathlib.Core.List.{List, [], ◌∷◌}
use Prim.Native.Nat.{ℕ, zero, suc, ◌+◌, ◌*◌, ◌/◌, ◌≤◌, ◌<◌}
use native.Mathlib.Omega.{arith}
use lib.Dec.{T, eqb, eqb→eq}
use lib.ListN.{length, get_or}
use lib.Seq.{ext_get_or}
use borrow.Author.Tests.{eq-eqb, ne_eqb}
use Rattle.account.specs.Lists.{list_of}
use Rattle.account.specs.Reach.{count_to, one_if, and, is_marked, is_read, differs, differs_at, differing, marked, GoodMarks, NoMarks, SameRead}
use Rattle.account.specs.Lanes.{lane}
use Rattle.account.specs.Runs.{ChangedIn}
use Rattle.account.proofs.Cells.{count_cong, count_none, count_both}
use Rattle.account.proofs.Lanes.{length_lane, get_d_lane, cell_below, get_d_past}
use Rattle.account.proofs.Runs.{differing_in_run}
use Rattle.gf256.specs.Gf256.{gf256}
use Rattle.gf256.proofs.Field256.{field256}
use Rattle.std.specs.Prelude.{Result, Ok, Err}
use Rattle.rules.specs.declared.Refusal.{Refusal}
use Rattle.rules.specs.Refusal.{First, Hold}
use Rattle.rules.proofs.Laws.{first_fixes, first_alike, all_hold, either}
use Rattle.rules.proofs.Numbers.{lt_or_ge}
use Rattle.level.specs.Level.{Level}
use Rattle.level.specs.Strip.{LaneCount, Legal, IsStrip, marked_in}
use Rattle.level.proofs.Dealing.{lanes_short}
use Rattle.level.proofs.Lengths.{lanes_within}
use Rattle.level.proofs.Theorems.{strip_injective}
use Rattle.level.proofs.Counts.{marked_cells}
use Rattle.level.proofs.Strips.{lane_apart}
use Rattle.level.proofs.Runs.{lanes_reach, wrong_in_run, six_marks}
use Rattle.strip.specs.Writing.{WeWrote}
use Rattle.strip.specs.Reading.{strip_numbers, Answers, Gives}
use Rattle.strip.proofs.Theorems.{beyond_is_six, wrote_level, wrote_strip, wrote_legal, damaged_read_back}
use Rattle.pool.specs.declared.Pooled.{Pooled}
use Rattle.pool.specs.Pooled.{Picture, photo, Kind, agreed, taken, conflict, both, kind_of, mark_of, is, kind_at, byte_at, pooled, count_of, PoolNumbers, pool_numbers, told, pooling, PoolsAs, WePooled, Shows, GaveLevel}
use Rattle.pool.proofs.OneCell.{unset, agreed_by, taken_by, conflict_by, both_by}
use Rattle.pool.proofs.Pouring.{total}
use Rattle.pool.proofs.Shown.{shown_by, mark_differs, mark_right, no_conflict, kind_swap, mark_self, marked_self, mark_small, unmarked_zero, past_unmarked, length_cells, length_marks, cell_at, mark_at, pooled_swap}

-- what passes one of two tests, and never both
count_sum : (f g h : ℕ → Bool) (n : ℕ) → ((p : ℕ) → one_if (f p) ≡ one_if (g p) + one_if (h p)) → count_to f n ≡ count_to g n + count_to h n
unfolding count_to
count_sum f g h zero e = refl
count_sum f g h (suc n) e = omega (arith, count_sum f g h n e, e n)

-- the counts of an answer, and the code, are all of it
same_numbers : (m n : PoolNumbers) → m.code ≡ n.code → ((k : Kind) → told m k ≡ told n k) → m ≡ n
same_numbers m n e f =
    ap₂ (λ (c x : ℕ). made c x m.taken m.conflict m.both) e (f agreed)
    ∙ ap₂ (λ (x y : ℕ). made n.code n.agreed x y m.both) (f taken) (f conflict)
    ∙ ap (made n.code n.agreed n.taken n.conflict) (f both)
  where
    made : ℕ → ℕ → ℕ → ℕ → ℕ → PoolNumbers
    made c a t k m = record { code = c; agreed = a; taken = t; conflict = k; both = m }

-- with a refusal the counts are zero
pub pool_zeros : (r : Result Pooled Refusal) → (pool_numbers r).code ≢ 0 → (k : Kind) → told (pool_numbers r) k ≡ 0
pool_zeros (Ok r) n k = absurd (n refl)
pool_zeros (Err e) n agreed = refl
pool_zeros (Err e) n taken = refl
pool_zeros (Err e) n conflict = refl
pool_zeros (Err e) n both = refl

module _ (R : ℕ) where
  -- ---- the answer

  -- FORMAT 10.9: the promise fixes every number and byte.
  pub pools_fixed : (a b out u v : Picture) (r s : Result Pooled Refusal) → PoolsAs R a b out u r → PoolsAs R a b out v s → (u ≡ v) × (pool_numbers r ≡ pool_numbers s)
  pools_fixed a b out u v r s P Q = (
    either (u ≡ v) (pool_numbers r).code (λ z. P.picture z ∙ sym (Q.picture (sym codes ∙ z))) (λ n. P.kept n ∙ sym (Q.kept (λ z. n (codes ∙ z)))),
    same_numbers (pool_numbers r) (pool_numbers s) codes (λ k.
        either (told (pool_numbers r) k ≡ told (pool_numbers s) k) (pool_numbers r).code (λ z. P.counts z k ∙ sym (Q.counts (sym codes ∙ z) k))
        (λ n. pool_zeros r n k ∙ sym (pool_zeros s (λ z. n (codes ∙ z)) k))),
  )
    where
      codes : (pool_numbers r).code ≡ (pool_numbers s).code
      codes =
          first_fixes (pooling R a b (length out.cells) (length out.marks)) (pool_numbers r).code (pool_numbers s).code P.code Q.code

  -- FORMAT 15.7: exchanged, the pictures are refused by the same number
  refused_alike : (a b : Picture) (x y c : ℕ) → First (pooling R a b x y) c → First (pooling R b a x y) c
  refused_alike a b x y c =
      first_alike (pooling R a b x y) (pooling R b a x y) c (
        refl,
        (λ h. (h.1, h.0)),
        (λ h. (h.1, h.0)),
        λ _. (
          refl,
          (λ e. sym e),
          (λ e. sym e),
          λ e. (
            refl,
            (λ h. (h.1, h.0)),
            (λ h. (h.1, h.0)),
            λ _. (
              refl,
              (λ h. (h.1, h.0)),
              (λ h. (h.1, h.0)),
              λ _. (refl, (λ h. (h.0 ∙ sym e, h.1 ∙ sym e)), (λ h. (h.0 ∙ e, h.1 ∙ e)), λ _. tt),
            ),
          ),
        ),
      )

  -- FORMAT 15.7: and what keeps the promise for the one order keeps it for the other,
  pub exchanged : (a b out out' : Picture) (r : Result Pooled Refusal) → PoolsAs R a b out out' r → PoolsAs R b a out out' r
  exchanged a b out out' r P = record {
    code = refused_alike a b (length out.cells) (length out.marks) (pool_numbers r).code P.code;
    counts = λ z k. P.counts z k ∙ count k (same z);
    picture = λ z. P.picture z ∙ pooled_swap a b (same z);
    kept = P.kept;
  }
    where
      same : (pool_numbers r).code ≡ 0 → length b.cells ≡ length a.cells
      same z = (all_hold 13 (pooling R a b (length out.cells) (length out.marks)) (pool_numbers r).code tt P.code z).1.0

      count : (k : Kind) → length b.cells ≡ length a.cells → count_of a b k ≡ count_of b a k
      count k e =
          count_cong (λ p. is k (kind_at a b p)) (λ p. is k (kind_at b a p)) (length a.cells)
          (λ p _. ap (is k) (kind_swap (get_or a.cells p 0) (get_or a.marks p 0) (get_or b.cells p 0) (get_or b.marks p 0)))
          ∙ ap (count_to (λ p. is k (kind_at b a p))) (sym e)

  -- so that two calls, with the pictures exchanged, give the same cells, marks and numbers, refused or not.
  pub symmetric : (a b out u v : Picture) (r s : Result Pooled Refusal) → PoolsAs R a b out u r → PoolsAs R b a out v s → (u ≡ v) × (pool_numbers r ≡ pool_numbers s)
  symmetric a b out u v r s P Q = pools_fixed b a out u v r s (exchanged a b out u r P) Q

  -- ---- a picture that we pooled

  module _ (a b c : Picture) (w : WePooled R a b c) where
    abbrev n : ℕ
    n = length a.cells

    abbrev counted : PoolNumbers
    counted = pool_numbers w.answer

    held : Hold (pooling R a b (length w.out.cells) (length w.out.marks))
    held = all_hold 13 (pooling R a b (length w.out.cells) (length w.out.marks)) counted.code tt w.promise.code w.done

    -- it is the pooled picture
    pub is_pooled : c ≡ pooled a b
    is_pooled = w.promise.picture w.done

    same : length b.cells ≡ n
    same = held.1.0

    matched : (length a.marks ≡ n) × (length b.marks ≡ n)
    matched = (held.1.1.0.0, held.1.1.0.1 ∙ same)

    -- as long as the two
    pub as_long : (length c.cells ≡ n) × (length c.marks ≡ n)
    as_long = (ap (λ (x : Picture). length x.cells) is_pooled ∙ length_cells a b, ap (λ (x : Picture). length x.marks) is_pooled ∙ length_marks a b)

    pub cell_is : (p : ℕ) → p < n → get_or c.cells p 0 ≡ byte_at a b p
    cell_is p h = ap (λ (x : Picture). get_or x.cells p 0) is_pooled ∙ cell_at a b p h

    pub mark_is : (p : ℕ) → p < n → get_or c.marks p 0 ≡ mark_of (kind_at a b p)
    mark_is p h = ap (λ (x : Picture). get_or x.marks p 0) is_pooled ∙ mark_at a b p h

    -- with marks of 0 and 1
    pub good : GoodMarks c.marks
    good p h = rw (mark_is p (omega (arith, as_long.1))) (mark_small (kind_at a b p))

    -- FORMAT 15.4: the counts returned add up to the length,
    pub counts_add_up : counted.agreed + counted.taken + counted.conflict + counted.both ≡ n
    counts_add_up =
        omega (
          arith,
          w.promise.counts w.done agreed,
          w.promise.counts w.done taken,
          w.promise.counts w.done conflict,
          w.promise.counts w.done both,
          total (kind_at a b) n,
        )

    -- and each is the number of cells of its kind, in terms of marks and bytes: unmarked in both and equal; unmarked in the first alone, or in the
    -- second; unmarked in both and different; marked in both.
    pub agreed_counts : counted.agreed ≡ count_to (λ p. and (and (is_read a.marks p) (is_read b.marks p)) (not (differs b.cells a.cells p))) n
    agreed_counts =
        w.promise.counts w.done agreed
        ∙ count_cong (λ p. is agreed (kind_at a b p)) (λ p. and (and (is_read a.marks p) (is_read b.marks p)) (not (differs b.cells a.cells p))) n
        (λ p _. agreed_by (is_marked a.marks p) (is_marked b.marks p) (eqb (get_or a.cells p 0) (get_or b.cells p 0))
        ∙ ap (and (and (is_read a.marks p) (is_read b.marks p))) (twice (eqb (get_or a.cells p 0) (get_or b.cells p 0))))
      where
        twice : (t : Bool) → t ≡ not (not t)
        twice true = refl
        twice false = refl

    pub taken_counts : counted.taken
        ≡ count_to (λ p. and (is_read a.marks p) (is_marked b.marks p)) n + count_to (λ p. and (is_marked a.marks p) (is_read b.marks p)) n
    taken_counts =
        w.promise.counts w.done taken
        ∙ count_sum (λ p. is taken (kind_at a b p)) (λ p. and (is_read a.marks p) (is_marked b.marks p))
        (λ p. and (is_marked a.marks p) (is_read b.marks p)) n
        (λ p. taken_by (is_marked a.marks p) (is_marked b.marks p) (eqb (get_or a.cells p 0) (get_or b.cells p 0)))

    pub conflict_counts : counted.conflict ≡ count_to (λ p. and (and (is_read a.marks p) (is_read b.marks p)) (differs b.cells a.cells p)) n
    conflict_counts =
        w.promise.counts w.done conflict
        ∙ count_cong (λ p. is conflict (kind_at a b p)) (λ p. and (and (is_read a.marks p) (is_read b.marks p)) (differs b.cells a.cells p)) n
        (λ p _. conflict_by (is_marked a.marks p) (is_marked b.marks p) (eqb (get_or a.cells p 0) (get_or b.cells p 0)))

    pub both_counts : counted.both ≡ count_to (λ p. and (is_marked a.marks p) (is_marked b.marks p)) n
    both_counts =
        w.promise.counts w.done both
        ∙ count_cong (λ p. is both (kind_at a b p)) (λ p. and (is_marked a.marks p) (is_marked b.marks p)) n
        (λ p _. both_by (is_marked a.marks p) (is_marked b.marks p) (eqb (get_or a.cells p 0) (get_or b.cells p 0)))

    -- FORMAT 15.9: a cell that is unmarked in the pooled picture has the byte of each picture in which it is unmarked, and is so in at least one;
    pub shown_alike : (p : ℕ) → p < n → is_marked c.marks p ≡ false
        → (is_marked a.marks p ≡ false → get_or c.cells p 0 ≡ get_or a.cells p 0) × (is_marked b.marks p ≡ false → get_or c.cells p 0 ≡ get_or b.cells p 0)
        × ((is_marked a.marks p ≡ false) ⊎ (is_marked b.marks p ≡ false))
    shown_alike p h u =
        let x =
        shown_by (is_marked a.marks p) (is_marked b.marks p) (eqb (get_or a.cells p 0) (get_or b.cells p 0)) (get_or a.cells p 0) (get_or b.cells p 0)
        (eqb→eq (get_or a.cells p 0) (get_or b.cells p 0)) (sym (mark_is p h) ∙ unmarked_zero (get_or c.marks p 0) u) in
        ((λ q. cell_is p h ∙ x.0 q), (λ q. cell_is p h ∙ x.1 q), x.2)

    -- so where the two show different bytes, neither is believed: it is marked, with byte 0.
    pub conflict_marked : (p : ℕ) → p < n → is_marked a.marks p ≡ false → is_marked b.marks p ≡ false → get_or a.cells p 0 ≢ get_or b.cells p 0
        → (get_or c.marks p 0 ≡ 1) × (get_or c.cells p 0 ≡ 0)
    conflict_marked p h ua ub ne =
        let q = ne_eqb (get_or a.cells p 0) (get_or b.cells p 0) ne in (mark_is p h ∙ rw (ua, ub, q) refl, cell_is p h ∙ rw (ua, ub, q) refl)

    -- ---- two pictures of one strip: every unmarked cell of both is right

    module _ (t : List ℕ) (sa : Shows t a) (sb : Shows t b) where
      -- FORMAT 15.5: the unmarked cells of the pooled picture are right,
      pub pooled_shows : Shows t c
      pooled_shows = record { same_length = as_long.0 ∙ sa.same_length; read = λ p u. ⊎_elim (inside p u) (outside p) (lt_or_ge p n) }
        where
          inside : (p : ℕ) → is_marked c.marks p ≡ false → p < n → get_or c.cells p 0 ≡ get_or t p 0
          inside p u h = let x = shown_alike p h u in ⊎_elim (λ q. x.0 q ∙ sa.read p q) (λ q. x.1 q ∙ sb.read p q) x.2

          outside : (p : ℕ) → n ≤ p → get_or c.cells p 0 ≡ get_or t p 0
          outside p h = get_d_past c.cells p (omega (arith, as_long.0)) ∙ sym (get_d_past t p (omega (arith, sa.same_length)))

      -- its marked cells are those that are marked in both,
      pub marked_in_both : (p : ℕ) → is_marked c.marks p ≡ and (is_marked a.marks p) (is_marked b.marks p)
      marked_in_both p = ⊎_elim inside outside (lt_or_ge p n)
        where
          inside : p < n → is_marked c.marks p ≡ and (is_marked a.marks p) (is_marked b.marks p)
          inside h =
              ap (λ (m : ℕ). not (eqb m 0)) (mark_is p h)
              ∙ mark_right (is_marked a.marks p) (is_marked b.marks p) (eqb (get_or a.cells p 0) (get_or b.cells p 0)) (get_or a.cells p 0)
              (get_or b.cells p 0) (get_or t p 0) refl (sa.read p) (sb.read p)

          outside : n ≤ p → is_marked c.marks p ≡ and (is_marked a.marks p) (is_marked b.marks p)
          outside h =
              past_unmarked c.marks p (omega (arith, as_long.1))
              ∙ sym (ap (λ (i : Bool). and i (is_marked b.marks p)) (past_unmarked a.marks p (omega (arith, matched.0))))

      -- and no cell is in conflict.
      pub none_in_conflict : counted.conflict ≡ 0
      none_in_conflict =
          w.promise.counts w.done conflict
          ∙ count_none (λ p. is conflict (kind_at a b p)) n
          (λ p _. no_conflict (is_marked a.marks p) (is_marked b.marks p) (eqb (get_or a.cells p 0) (get_or b.cells p 0)) (get_or a.cells p 0)
          (get_or b.cells p 0) (get_or t p 0) refl (sa.read p) (sb.read p))

      -- in no lane are more cells marked than in the first picture
      fewer_marked : 0 < R → (j : ℕ) → marked_in R c.marks j ≤ marked_in R a.marks j
      fewer_marked some j =
          rw (
            marked_cells R some c.marks j,
            marked_cells R some a.marks j,
            as_long.1,
            matched.0,
            count_cong (λ i. is_marked c.marks (R * i + j)) (λ i. and (is_marked a.marks (R * i + j)) (is_marked b.marks (R * i + j))) (n / R)
                (λ i _. marked_in_both (R * i + j)),
          )
          (count_both (λ i. is_marked a.marks (R * i + j)) (λ i. is_marked b.marks (R * i + j)) (n / R))

  -- ---- read

  -- of a picture that was read by itself, no lane has more than five marked cells
  five_alone : {upto : ℕ} → 0 < R → (a : Picture) → length a.marks ≡ length a.cells → GaveLevel upto R a → (j : ℕ) → j < R → marked_in R a.marks j ≤ 5
  five_alone some a e g j hj =
      rw e (omega (arith, rw (length_lane R some j a.cells) at ((g.reading.promise.level g.done).reached.reach.each j hj).few))

  module _ (named : LaneCount R) (upto : ℕ) (l : Level) (t : List ℕ) (wrote : WeWrote R l t) (early : l.version ≤ upto) where
    some : 0 < R
    some = omega (arith, (lanes_within R named).from)

    module _ (a b c : Picture) (w : WePooled R a b c) (sa : Shows t a) (sb : Shows t b) where
      -- FORMAT 15.6: of a strip that we wrote, of a version that is taken, the level is returned where no lane has more than five cells that are marked in
      -- both; nothing is mended.
      pub pooled_read_back : ((j : ℕ) → j < R → marked_in R c.marks j ≤ 5) → Answers upto R c.cells c.marks (λ x tiles'. Gives l x tiles' × (x.mended ≡ 0))
      pooled_read_back five r =
          let s = pooled_shows a b c w t sa sb in
          let only : ChangedIn c.marks 0 0 c.cells t = record { same_length = s.same_length; outside = λ p _. s.read p } in
          let long : length t ≡ length c.cells = sym s.same_length in
          let even : length c.marks ≡ length c.cells = (as_long a b c w).1 ∙ sym (as_long a b c w).0 in
          let back =
          damaged_read_back R named l t wrote upto c.cells c.marks long even (good a b c w) early
          (lanes_reach R some c.marks c.cells t even long
          (λ j hj. omega (arith, wrong_in_run R some c.marks c.cells t even long 0 0 0 (omega arith) only j hj, five j hj))) r in
          (back.0, omega (arith, back.1, differing_in_run c.marks 0 0 c.cells t only))

      -- in particular where the first picture alone was read
      first_gives : GaveLevel upto R a → Answers upto R c.cells c.marks (λ x tiles'. Gives l x tiles' × (x.mended ≡ 0))
      first_gives g =
          pooled_read_back (λ j hj. omega (arith, fewer_marked a b c w t sa sb some j, five_alone some a (matched a b c w).0 g j hj))

    -- FORMAT 15.6: or either.
    pub pooled_gives : (a b c : Picture) → WePooled R a b c → Shows t a → Shows t b → GaveLevel upto R a ⊎ GaveLevel upto R b
        → Answers upto R c.cells c.marks (λ x tiles'. Gives l x tiles' × (x.mended ≡ 0))
    pooled_gives a b c w sa sb =
        ⊎_elim (first_gives a b c w sa sb)
        (first_gives b a c
        (record { out = w.out; answer = w.answer; promise = exchanged a b w.out c w.answer w.promise; done = w.done }) sb sa)

  -- ---- pictures of two strips

  -- FORMAT 15.11: of two levels, with every cell right and none marked. They are never taken for one: the pooled picture is refused with 6.
  pub two_strips_refused : LaneCount R → (upto : ℕ) (l m : Level) (t u x y : List ℕ) (c : Picture) → l ≢ m → WeWrote R l t → WeWrote R m u → NoMarks x → NoMarks y
      → WePooled R (photo t x) (photo u y) c → Answers upto R c.cells c.marks (λ n tiles'. n.code ≡ 6)
  two_strips_refused named upto l m t u x y c other wt wu nx ny w r = ⊎_elim (λ e. absurd (apart e)) refused lanes
    where
      two : 2 ≤ R
      two = (lanes_within R named).from

      some : 0 < R
      some = omega (arith, two)

      long : length u ≡ length t
      long = same (photo t x) (photo u y) c w

      legal : Legal R (length t)
      legal = wrote_legal R named l t wt

      apart : t ≡ u → ⊥
      apart e =
          other (strip_injective gf256 field256 R some l m t (wrote_level R named l t wt) (wrote_level R named m u wu) (wrote_strip R named l t wt)
          (subst (IsStrip gf256 R m) (sym e) (wrote_strip R named m u wu)))

      lanes : (t ≡ u) ⊎ ((j : ℕ) × (j < R) × (6 ≤ differing [] (lane R j u) (lane R j t)))
      lanes =
          let st = (wrote_strip R named l t wt).dealt in
          let su = (wrote_strip R named m u wu).dealt in
          lane_apart gf256 field256 R some t u (legal.k + 5) legal.cells long (omega (arith, legal.to, lanes_short R two)) st.cells su.cells
          st.clean su.clean

      -- where the two differ, and nowhere else, it is marked
      marked_where : (p : ℕ) → p < length t → is_marked c.marks p ≡ not (eqb (get_or t p 0) (get_or u p 0))
      marked_where p h =
          ap (λ (k : ℕ). not (eqb k 0)) (mark_is (photo t x) (photo u y) c w p h)
          ∙ rw (unset (get_or x p 0) (nx p), unset (get_or y p 0) (ny p)) (mark_differs (eqb (get_or t p 0) (get_or u p 0)))

      even : length c.marks ≡ length t
      even = (as_long (photo t x) (photo u y) c w).1

      counted : (j : ℕ) → j < R → marked_in R c.marks j ≡ differing [] (lane R j u) (lane R j t)
      counted j hj =
          marked_cells R some c.marks j
          ∙ count_cong (λ i. is_marked c.marks (R * i + j)) (differs_at [] (lane R j u) (lane R j t)) (length c.marks / R)
          (λ i h. let k : i < length t / R = subst (λ (n : ℕ). i < n / R) even h in
          marked_where (R * i + j) (cell_below R some (length t) i j hj k)
          ∙ ap₂ (λ (v z : ℕ). not (eqb v z)) (sym (get_d_lane R some j t i k)) (sym (get_d_lane R some j u i (subst (λ (n : ℕ). i < n / R) (sym long) k))))
          ∙ ap (count_to (differs_at [] (lane R j u) (lane R j t))) (ap (λ (n : ℕ). n / R) (even ∙ sym long) ∙ sym (length_lane R some j u))

      refused : (j : ℕ) × (j < R) × (6 ≤ differing [] (lane R j u) (lane R j t)) → (strip_numbers r.answer).code ≡ 6
      refused z =
          let size : length c.cells ≡ length t = (as_long (photo t x) (photo u y) c w).0 in
          beyond_is_six R named upto c.cells c.marks r.tiles r.tiles' r.scratch r.scratch'
          (named, (subst (Legal R) (sym size) legal, (even ∙ sym size, (good (photo t x) (photo u y) c w, (r.room, (r.room', tt)))))) r.answer r.promise z.0 z.1
          (six_marks R some c.marks c.cells c.cells (even ∙ sym size) refl gf256 z.0 (omega (arith, counted z.0 z.1, z.2)))

  -- ---- with itself

  module _ (a c : Picture) (w : WePooled R a a c) where
    -- FORMAT 15.8: it comes back with the same marks,
    pub itself_marked : c.marks ≡ a.marks
    itself_marked =
        ext_get_or 0 c.marks a.marks ((as_long a a c w).1 ∙ sym (matched a a c w).0)
        (λ p h. let k : p < length a.cells = omega (arith, (as_long a a c w).1) in
        mark_is a a c w p k ∙ mark_self (get_or a.cells p 0) (get_or a.marks p 0) ((held a a c w).1.1.1.0.0 p (omega (arith, (matched a a c w).0))))

    -- of its own cells it is right
    own : Shows a.cells a
    own = record { same_length = refl; read = λ p _. refl }

    -- the same bytes where it is unmarked,
    pub itself_shown : SameRead a.marks c.cells a.cells
    itself_shown = subst (λ (m : List ℕ). SameRead m c.cells a.cells) itself_marked (pooled_shows a a c w a.cells own own)

    -- and byte 0 under its marks;
    pub itself_hidden : (p : ℕ) → is_marked a.marks p ≡ true → get_or c.cells p 0 ≡ 0
    itself_hidden p u = ⊎_elim inside outside (lt_or_ge p (length a.cells))
      where
        inside : p < length a.cells → get_or c.cells p 0 ≡ 0
        inside h = cell_is a a c w p h ∙ marked_self (get_or a.cells p 0) (get_or a.marks p 0) u

        outside : length a.cells ≤ p → get_or c.cells p 0 ≡ 0
        outside h = get_d_past c.cells p (omega (arith, (as_long a a c w).0))

    -- all its unmarked cells are agreed, and the others marked in both.
    pub itself_counted : ((pool_numbers w.answer).agreed ≡ count_to (is_read a.marks) (length a.cells))
        × ((pool_numbers w.answer).both ≡ marked a.marks a.cells) × ((pool_numbers w.answer).taken ≡ 0) × ((pool_numbers w.answer).conflict ≡ 0)
    itself_counted = (agree, hide, none, none_in_conflict a a c w a.cells own own)
      where
        twice : (i : Bool) → and i i ≡ i
        twice true = refl
        twice false = refl

        equal : (i : Bool) (x : ℕ) → is agreed (kind_of i i (eqb x x)) ≡ not i
        equal true x = refl
        equal false x = ap (λ (e : Bool). is agreed (kind_of false false e)) (eq-eqb x x refl)

        untaken : (i e : Bool) → T (not (is taken (kind_of i i e)))
        untaken true e = tt
        untaken false true = tt
        untaken false false = tt

        agree : (pool_numbers w.answer).agreed ≡ count_to (is_read a.marks) (length a.cells)
        agree =
            w.promise.counts w.done agreed
            ∙ count_cong (λ p. is agreed (kind_at a a p)) (is_read a.marks) (length a.cells) (λ p _. equal (is_marked a.marks p) (get_or a.cells p 0))

        hide : (pool_numbers w.answer).both ≡ marked a.marks a.cells
        hide =
            both_counts a a c w
            ∙ count_cong (λ p. and (is_marked a.marks p) (is_marked a.marks p)) (is_marked a.marks) (length a.cells)
            (λ p _. twice (is_marked a.marks p))

        none : (pool_numbers w.answer).taken ≡ 0
        none =
            w.promise.counts w.done taken
            ∙ count_none (λ p. is taken (kind_at a a p)) (length a.cells)
            (λ p _. untaken (is_marked a.marks p) (eqb (get_or a.cells p 0) (get_or a.cells p 0)))

-- ---- worked

-- FORMAT 15.10: the strip of 12.14 in two pictures. All cells but the first six are alike in both, and unmarked.
module _ where
  abbrev rest : List ℕ
  rest = 209 ∷ 175 ∷ 32 ∷ 191 ∷ 89 ∷ 154 ∷ 32 ∷ 191 ∷ 89 ∷ 154 ∷ 178 ∷ 31 ∷ 209 ∷ 175 ∷ 17 ∷ 4 ∷ 5 ∷ 88 ∷ []

  abbrev unmarked : List ℕ
  unmarked = 0 ∷ 0 ∷ 0 ∷ 0 ∷ 0 ∷ 0 ∷ 0 ∷ 0 ∷ 0 ∷ 0 ∷ 0 ∷ 0 ∷ 0 ∷ 0 ∷ 0 ∷ 0 ∷ 0 ∷ 0 ∷ []

  abbrev first : Picture
  first = photo (255 ∷ 255 ∷ 5 ∷ 88 ∷ 178 ∷ 31 ∷ rest) (1 ∷ 1 ∷ 0 ∷ 0 ∷ 0 ∷ 0 ∷ unmarked)

  abbrev second : Picture
  second = photo (17 ∷ 0 ∷ 5 ∷ 89 ∷ 178 ∷ 0 ∷ rest) (0 ∷ 1 ∷ 0 ∷ 0 ∷ 0 ∷ 1 ∷ unmarked)

  pub worked : (pooled first second ≡ photo (17 ∷ 0 ∷ 5 ∷ 0 ∷ 178 ∷ 31 ∷ rest) (0 ∷ 1 ∷ 0 ∷ 1 ∷ 0 ∷ 0 ∷ unmarked))
      × (count_of first second agreed ≡ 20) × (count_of first second taken ≡ 2) × (count_of first second conflict ≡ 1) × (count_of first second both ≡ 1)
  unfolding list_of count_to
  worked = (refl, refl, refl, refl, refl)
