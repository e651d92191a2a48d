-- What is promised of strips, over the lane count R that is named: one argument for all of them.
use mathlib.Core.Path.{◌≡◌, refl, sym, ap, ap₂, ◌∙◌, subst}
use mathlib.Core.Logic.{◌≢◌, ◌⊎◌, inl, inr, ⊎_elim}
use mathlib.Core.Bool.{not}
use mathlib.Core.List.{List, [], ◌∷◌, ◌++◌}
use Prim.Native.Nat.{ℕ, ◌+◌, ◌*◌, ◌%◌, ◌≤◌, ◌<◌}
use native.Mathlib.Nat.{mod-lt}
use native.Mathlib.Omega.{arith}
use lib.Dec.{T, eqb}
use lib.ListN.{length, get_or, take, take-append-drop}
use Rattle.account.specs.Reach.{count_to, differs, differing, repainted, GoodMarks, NoMarks, SameRead}
use Rattle.account.specs.Runs.{InRun, ChangedIn, MarkedIn}
use Rattle.account.proofs.Theorems.{read_itself}
use Rattle.account.proofs.Runs.{differing_in_run, repainted_in_run, unmarked_wrong, unmarked_differing}
use Rattle.gf256.specs.Gf256.{gf256}
use Rattle.gf256.proofs.Field256.{field256}
use Rattle.rules.specs.Refusal.{First, Hold, asked, written_numbers}
use Rattle.rules.proofs.Laws.{first_fixes, all_hold, after, rest, hold_both, numbered, first_alike, asked_alike, decided, either}
use Rattle.std.specs.Prelude.{Result}
use Rattle.rules.specs.declared.Refusal.{Refusal}
use Rattle.code.proofs.Answers.{written_zero}
use Rattle.level.specs.Sizes.{strip_most, scratch_least}
use Rattle.level.specs.Level.{Level, IsLevel, newest, Counted, Coded, lending}
use Rattle.level.specs.Record.{field_at, record_length}
use Rattle.level.specs.Strip.{LaneCount, columns, Legal, IsStrip, StripReach, Reached, Mends, Mendable, wrong_in, marked_in, mended_of, repainted_of, IsWear}
use Rattle.level.specs.Reading.{ReadNumbers, refused_at, but_repainted, returned, level_of, data_of, OfMended, entering_with, naming, entering, mending}
use Rattle.level.specs.Writing.{writing_level, writing_strip}
use Rattle.level.proofs.Dealing.{columns_more, lanes_short}
use Rattle.level.proofs.Lengths.{lanes_within}
use Rattle.level.proofs.Counts.{legal_some, most_or_one}
use Rattle.level.proofs.Strips.{strip_size, same_strip, one_mended, mendable, six_beyond}
use Rattle.level.proofs.Versions.{but_two}
use Rattle.level.proofs.Runs.{lanes_reach, wrong_in_run, marked_in_run, run_wrong, run_marked, six_marks, runs_reach}
use Rattle.level.proofs.Judged.{late_coded, not_nine}
use Rattle.level.proofs.Mended.{reached_spells, board_found}
use Rattle.level.proofs.Theorems as levels
use Rattle.lending.proofs.Lent.{written_level, level_written}
use Rattle.strip.specs.Writing.{strip_length, WritesWith, StripWritesAs, WeWrote, changed_most, marked_most}
use Rattle.strip.specs.Reading.{Reading, strip_numbers, LevelRead, ReadsWith, StripReadsAs, WeRead, Answers, Gives}
use Rattle.strip.proofs.Laid.{record_fits}
use Rattle.strip.proofs.Alike as alike
use Rattle.strip.proofs.Reader.{zeros}

module _ (R : ℕ) (lanes : LaneCount R) where
  two : 2 ≤ R
  two = (lanes_within R lanes).from

  some : 0 < R
  some = omega (arith, two)

  -- no lane is longer than a word
  short : columns R 364 + 5 ≤ 255
  short = omega (arith, lanes_short R two)

  -- ---- reading

  -- FORMAT 11.1, 11.2: any strip of legal length, whatever its cells hold and whichever are marked, with buffers long enough, read by a reader of
  -- versions up to one of them:
  module _ (upto : ℕ) (s marks tiles tiles' scratch scratch' : List ℕ) (h : Hold (entering R s marks (length tiles) (length scratch)))
      (a : Reading) (A : StripReadsAs upto R s marks tiles tiles' scratch scratch' a) where
    -- where a level of those versions has a strip of that length within reach, one is returned;
    pub read_when_reached : (l : Level) (t : List ℕ) → Reached gf256 R upto marks s l t → (strip_numbers a).code ≡ 0
    read_when_reached l t q = either ((strip_numbers a).code ≡ 0) (strip_numbers a).code (λ z. z) (λ n. absurd (A.no_level h n l t q))

    -- FORMAT 9.54: where the strip of a board, a level or not, is within reach, the strip is refused as a writer of the same versions refuses
    -- the board, with lane 0.
    pub board_read_alike : (l : Level) (t : List ℕ) → Counted l → IsStrip gf256 R l t → StripReach R marks s t → (c : ℕ)
        → First (asked (λ ask. ask l) (lending upto)) c → ((strip_numbers a).code ≡ c) × ((strip_numbers a).lane ≡ 0)
    board_read_alike l t co st reach c f = (code, A.other_lane (λ e. not_six (sym code ∙ e)))
      where
        code : (strip_numbers a).code ≡ c
        code =
            first_fixes (entering R s marks (length tiles) (length scratch) ++ mending gf256 R upto s marks) (strip_numbers a).code c A.code
            (after (entering R s marks (length tiles) (length scratch)) (mending gf256 R upto s marks) c h
            (board_found gf256 field256 (omega arith) R some marks s t h.1.0.k h.1.0.cells (omega (arith, h.1.0.to, short)) l co st reach upto c f))

        not_six : c ≢ 6
        not_six = either (c ≢ 6) c (λ z e. omega arith) (λ n e. omega (arith, numbered 7 10 (asked (λ ask. ask l) (lending upto)) c tt f n))

    -- FORMAT 11.2 to 11.7: and one is returned only then: it is such a level, and no other is. With it: mended, repainted, wear, the other tile bytes.
    pub reached_when_read : (strip_numbers a).code ≡ 0 → LevelRead gf256 upto R s marks tiles tiles' (strip_numbers a)
    reached_when_read = A.level

    -- FORMAT 9.6: where a lane cannot be mended, the strip is refused with 6.
    pub beyond_is_six : (j : ℕ) → j < R → (Mendable gf256 R marks s j → ⊥) → (strip_numbers a).code ≡ 6
    beyond_is_six j hj n =
        first_fixes (entering R s marks (length tiles) (length scratch) ++ mending gf256 R upto s marks) (strip_numbers a).code 6 A.code
        (after (entering R s marks (length tiles) (length scratch)) (mending gf256 R upto s marks) 6 h (inl ((λ all. n (all j hj)), refl)))

    -- FORMAT 9.7: and a version that is not taken is refused with 7, whatever else there is to refuse of the mended record.
    pub version_refused : (t : List ℕ) → Mends gf256 R marks s t → (field_at (data_of R t) 0 4 ≤ upto → ⊥) → (strip_numbers a).code ≡ 7
    version_refused t M late =
        first_fixes (entering R s marks (length tiles) (length scratch) ++ mending gf256 R upto s marks) (strip_numbers a).code 7 A.code
        (after (entering R s marks (length tiles) (length scratch)) (mending gf256 R upto s marks) 7 h
        (inr (mendable gf256 field256 R some marks s t M, inl ((λ f. late (f t M).not_newer), refl))))

    -- FORMAT 9.55: 9 does not arise where the strip is mended to a record of version 2.
    pub v2_coded : (t : List ℕ) → Mends gf256 R marks s t → field_at (data_of R t) 0 4 ≡ 2 → (strip_numbers a).code ≢ 9
    v2_coded t M second nine =
        go (rest (entering R s marks (length tiles) (length scratch)) (mending gf256 R upto s marks) 9 h
        (subst (First (entering R s marks (length tiles) (length scratch) ++ mending gf256 R upto s marks)) nine A.code))
      where
        coded : OfMended gf256 R marks s (λ bs. Coded (level_of bs))
        coded u N =
            subst (λ (x : List ℕ). Coded (level_of (data_of R x)))
            (one_mended gf256 field256 R some marks s (h.1.0.k + 5) h.1.0.cells (omega (arith, h.1.0.to, short)) t u M N)
            (late_coded (data_of R t) (omega (arith, second)))

        go : First (mending gf256 R upto s marks) 9 → ⊥
        go (inl p) = omega (arith, p.1)
        go (inr (all, f)) = not_nine upto R (OfMended gf256 R marks s) coded f

  -- FORMAT 7.15, 7.16, 7.19: wear is at most 33, mended at most twice the lanes, and repainted five times.
  module _ (upto : ℕ) (s marks tiles tiles' scratch scratch' : List ℕ) (a : Reading) (A : StripReadsAs upto R s marks tiles tiles' scratch scratch' a) where
    entered_when_read : (strip_numbers a).code ≡ 0 → Hold (entering R s marks (length tiles) (length scratch))
    entered_when_read z =
        (hold_both (entering R s marks (length tiles) (length scratch)) (mending gf256 R upto s marks)
        (all_hold 15 (entering R s marks (length tiles) (length scratch) ++ mending gf256 R upto s marks) (strip_numbers a).code tt A.code z)).0

    -- the version returned is that of what the strip is mended to
    mended_version : (strip_numbers a).code ≡ 0 → (t : List ℕ) → Mends gf256 R marks s t → field_at (data_of R t) 0 4 ≡ (strip_numbers a).version
    mended_version z t M =
        let h = entered_when_read z in
        ap (λ (l : Level). l.version) (reached_spells gf256 field256 (omega arith) R some marks s t h.1.0.k h.1.0.cells (omega (arith, h.1.0.to, short)) M
        (returned (strip_numbers a) tiles') (A.level z).strip (A.level z).reached)

    pub mended_most : (strip_numbers a).mended ≤ 2 * R
    mended_most =
        either ((strip_numbers a).mended ≤ 2 * R) (strip_numbers a).code
        (λ z. rw (A.level z).mended_is (levels.mended_most R some marks s (A.level z).strip (A.level z).reached.reach))
        (λ n. omega (arith, ap (λ (x : ReadNumbers). x.mended) (zeros a n)))

    pub repainted_most : (strip_numbers a).repainted ≤ 5 * R
    repainted_most =
        either ((strip_numbers a).repainted ≤ 5 * R) (strip_numbers a).code
        (λ z. rw (A.level z).repainted_is (levels.repainted_most R some marks s (A.level z).strip (A.level z).reached.reach))
        (λ n. omega (arith, ap (λ (x : ReadNumbers). x.repainted) (zeros a n)))

    pub wear_most : (strip_numbers a).wear ≤ 33
    wear_most =
        either ((strip_numbers a).wear ≤ 33) (strip_numbers a).code
        (λ z. levels.wear_most R some marks s (A.level z).strip (strip_numbers a).wear (entered_when_read z).1.0 (A.level z).reached.reach
        (subst (λ (m : ℕ). IsWear m (length s) (strip_numbers a).wear) (A.level z).mended_is (A.level z).wear_is))
        (λ n. omega (arith, ap (λ (x : ReadNumbers). x.wear) (zeros a n)))

    -- FORMAT 11.9: with nothing mended there is no wear.
    pub wear_none : (strip_numbers a).mended ≡ 0 → (strip_numbers a).wear ≡ 0
    wear_none e =
        either ((strip_numbers a).wear ≡ 0) (strip_numbers a).code
        (λ z. levels.wear_none (length s) (strip_numbers a).wear (legal_some R some (entered_when_read z).1.0)
        (subst (λ (m : ℕ). IsWear m (length s) (strip_numbers a).wear) e (A.level z).wear_is))
        (λ n. ap (λ (x : ReadNumbers). x.wear) (zeros a n))

  -- readers of the same versions take each alike
  same_versions : (upto : ℕ) (marks s : List ℕ) → alike.VersionAlike upto upto R marks s
  same_versions upto marks s t M = ((λ h. h), (λ h. h))

  -- scratches of one length are long enough alike
  enough_alike : (u v : List ℕ) → length u ≡ length v → alike.EnoughAlike scratch_least scratch_least u v
  enough_alike u v eu = ((λ h. omega (arith, eu)), (λ h. omega (arith, eu)))

  -- what is asked of one strip before it is looked at
  early : (s marks tiles u v : List ℕ) → length u ≡ length v
      → alike.EntersAlike R s marks (entering R s marks (length tiles) (length u)) (entering R s marks (length tiles) (length v))
  early s marks tiles u v eu = alike.enters_alike R scratch_least scratch_least s s marks tiles u v (read_itself marks s) (enough_alike u v eu)

  -- FORMAT 10.8, 10.9: the reader's promise fixes every number and every tile byte; the scratch's old bytes have no influence.
  pub strip_reads_fixed : (upto : ℕ) (s marks tiles t1 t2 u u' v v' : List ℕ) (a b : Reading) → length u ≡ length v
      → StripReadsAs upto R s marks tiles t1 u u' a → StripReadsAs upto R s marks tiles t2 v v' b → (t1 ≡ t2) × (strip_numbers a ≡ strip_numbers b)
  strip_reads_fixed upto s marks tiles t1 t2 u u' v v' a b eu A B =
      alike.read_once upto upto R two (entering R s marks (length tiles) (length u)) (entering R s marks (length tiles) (length v)) s marks tiles t1 t2 u u' v v'
      (early s marks tiles u v eu) (same_versions upto marks s) a b A B

  -- FORMAT 8.32: two readers that both take the version of what a strip is mended to, or neither, read it alike.
  pub strip_versions_alike : (m n : ℕ) (s marks tiles t1 t2 u u' v v' : List ℕ) (a b : Reading) → length u ≡ length v → alike.VersionAlike m n R marks s
      → StripReadsAs m R s marks tiles t1 u u' a → StripReadsAs n R s marks tiles t2 v v' b → (t1 ≡ t2) × (strip_numbers a ≡ strip_numbers b)
  strip_versions_alike m n s marks tiles t1 t2 u u' v v' a b eu takes A B =
      alike.read_once m n R two (entering R s marks (length tiles) (length u)) (entering R s marks (length tiles) (length v)) s marks tiles t1 t2 u u' v v'
      (early s marks tiles u v eu) takes a b A B

  -- FORMAT 8.32: so the reader of version 1 and the one of every version do where that version is not 2.
  pub strip_v1_alike : (s marks tiles t1 t2 u u' v v' : List ℕ) (a b : Reading) → length u ≡ length v
      → ((t : List ℕ) → Mends gf256 R marks s t → field_at (data_of R t) 0 4 ≢ 2)
      → StripReadsAs newest R s marks tiles t1 u u' a → StripReadsAs 1 R s marks tiles t2 v v' b → (t1 ≡ t2) × (strip_numbers a ≡ strip_numbers b)
  strip_v1_alike s marks tiles t1 t2 u u' v v' a b eu other =
      strip_versions_alike newest 1 s marks tiles t1 t2 u u' v v' a b eu (λ t M. but_two (field_at (data_of R t) 0 4) (other t M))

  -- in particular where either reads it as a level of version 1
  pub strip_v1_same : (s marks tiles t1 t2 u u' v v' : List ℕ) (a b : Reading) → length u ≡ length v
      → StripReadsAs newest R s marks tiles t1 u u' a → StripReadsAs 1 R s marks tiles t2 v v' b
      → (((strip_numbers a).code ≡ 0) × ((strip_numbers a).version ≡ 1)) ⊎ ((strip_numbers b).code ≡ 0)
      → (t1 ≡ t2) × (strip_numbers a ≡ strip_numbers b)
  strip_v1_same s marks tiles t1 t2 u u' v v' a b eu A B reads =
      strip_v1_alike s marks tiles t1 t2 u u' v v' a b eu (λ t M. ⊎_elim (λ q e.
      omega (arith, e, q.1, mended_version newest s marks tiles t1 u u' a A q.0 t M)) (λ z e.
      omega (arith, e, (B.level z).reached.not_newer, mended_version 1 s marks tiles t2 v v' b B z t M)) reads) A B

  -- FORMAT 10.10: of two readers, one asks for x bytes of scratch and one for y, and each is lent enough: the same numbers and tile bytes.
  pub any_scratch : (upto x y : ℕ) (s marks tiles t1 t2 u u' v v' : List ℕ) (a b : Reading) → x ≤ length u → y ≤ length v
      → ReadsWith upto R (naming R ∷ entering_with x R s marks (length tiles) (length u)) s marks tiles t1 u u' a
      → ReadsWith upto R (naming R ∷ entering_with y R s marks (length tiles) (length v)) s marks tiles t2 v v' b
      → (t1 ≡ t2) × (strip_numbers a ≡ strip_numbers b)
  any_scratch upto x y s marks tiles t1 t2 u u' v v' a b hx hy A B =
      alike.read_once upto upto R two (naming R ∷ entering_with x R s marks (length tiles) (length u))
      (naming R ∷ entering_with y R s marks (length tiles) (length v)) s marks tiles t1 t2 u u' v v'
      (alike.enters_alike R x y s s marks tiles u v (read_itself marks s) ((λ _. hy), (λ _. hx))) (same_versions upto marks s) a b A B

  -- FORMAT 11.11: the bytes under marks influence repainted, and no other number and no tile.
  pub under_marks : (upto : ℕ) (r s marks tiles t1 t2 u u' v v' : List ℕ) (a b : Reading) → SameRead marks r s → length u ≡ length v
      → StripReadsAs upto R r marks tiles t1 u u' a
      → StripReadsAs upto R s marks tiles t2 v v' b → (t1 ≡ t2) × (but_repainted (strip_numbers a) ≡ but_repainted (strip_numbers b))
  under_marks upto r s marks tiles t1 t2 u u' v v' a b same eu A B =
      alike.read_alike upto upto R two (entering R r marks (length tiles) (length u)) (entering R s marks (length tiles) (length v)) r s marks tiles t1 t2
      u u' v v' same (alike.enters_alike R scratch_least scratch_least r s marks tiles u v same (enough_alike u v eu)) (same_versions upto marks r) a b A B

  -- ---- writing

  -- two writers that are asked the same of the level write the same
  writes_alike : (x y : ℕ) (l : Level) (old u v : List ℕ) (a b : Result ℕ Refusal) → (x ≤ length old → y ≤ length old) → (y ≤ length old → x ≤ length old)
      → WritesWith R (naming R ∷ writing_level x l (length old)) l old u a → WritesWith R (naming R ∷ writing_level y l (length old)) l old v b
      → (u ≡ v) × (written_numbers a ≡ written_numbers b)
  writes_alike x y l old u v a b to from A B = (
    either (u ≡ v) (written_numbers a).code same (λ n. A.kept n ∙ sym (B.kept (λ z. n (codes ∙ z)))),
    decided (written_numbers a) (written_numbers b) (written_zero a) (written_zero b) codes (λ z. A.value z ∙ sym (B.value (sym codes ∙ z))),
  )
    where
      moved : First (naming R ∷ writing_level y l (length old)) (written_numbers a).code
      moved =
          first_alike (naming R ∷ writing_level x l (length old)) (naming R ∷ writing_level y l (length old)) (written_numbers a).code
          (refl, (λ g. g), (λ g. g), λ _. (refl, to, from, λ _. asked_alike (λ ask. ask l) (λ ask. ask l) (lending 2) (λ P g. g) (λ P g. g))) A.code

      codes : (written_numbers a).code ≡ (written_numbers b).code
      codes = first_fixes (naming R ∷ writing_level y l (length old)) (written_numbers a).code (written_numbers b).code moved B.code

      same : (written_numbers a).code ≡ 0 → u ≡ v
      same z =
          let il = (written_level 2 l x (length old) (written_numbers a).code z (rest (naming R ∷ []) (writing_level x l (length old)) (written_numbers a).code (lanes, tt) A.code)).1 in
          sym (take-append-drop (strip_length R l) u)
          ∙ ap₂ (λ (x y : List ℕ). x ++ y)
          (levels.one_strip gf256 field256 R some l (take (strip_length R l) u) (take (strip_length R l) v) il
          (omega (arith, short, columns_more R some (record_length l.width l.height) 364 (record_fits l il).1)) (A.strip z) (B.strip (sym codes ∙ z)))
          (A.past z ∙ sym (B.past (sym codes ∙ z)))
          ∙ take-append-drop (strip_length R l) v

  -- FORMAT 10.9: the writer's promise fixes every number and byte.
  pub strip_writes_fixed : (l : Level) (old u v : List ℕ) (a b : Result ℕ Refusal) → StripWritesAs R l old u a → StripWritesAs R l old v b
      → (u ≡ v) × (written_numbers a ≡ written_numbers b)
  strip_writes_fixed l old u v a b = writes_alike strip_most strip_most l old u v a b (λ h. h) (λ h. h)

  -- FORMAT 8.16: each level is written, and nothing else is.
  pub level_strip_written : (l : Level) (old new : List ℕ) (a : Result ℕ Refusal) → IsLevel l → strip_most ≤ length old → StripWritesAs R l old new a
      → (written_numbers a).code ≡ 0
  level_strip_written l old new a il room A =
      first_fixes (writing_strip R l (length old)) (written_numbers a).code 0 A.code
      (inr (lanes, level_written 2 l strip_most (length old) room il il.ranged.known.to))

  pub written_strip_level : (l : Level) (old new : List ℕ) (a : Result ℕ Refusal) → StripWritesAs R l old new a → (written_numbers a).code ≡ 0 → IsLevel l
  written_strip_level l old new a A z =
      (written_level 2 l strip_most (length old) (written_numbers a).code z
      (rest (naming R ∷ []) (writing_level strip_most l (length old)) (written_numbers a).code (lanes, tt) A.code)).1

  -- ---- strips that we read, with buffers that are long enough

  good_none : (marks : List ℕ) → NoMarks marks → GoodMarks marks
  good_none marks none p l = omega (arith, none p)

  unworn : (upto : ℕ) (s marks : List ℕ) → Answers upto R s marks (λ x tiles'. x.mended ≡ 0 → x.wear ≡ 0)
  unworn upto s marks r = wear_none upto s marks r.tiles r.tiles' r.scratch r.scratch' r.answer r.promise

  module _ (upto : ℕ) (s marks : List ℕ) (legal : Legal R (length s)) (matched : length marks ≡ length s) (good : GoodMarks marks) where
    entered : (r : WeRead upto R s marks) → Hold (entering R s marks (length r.tiles) (length r.scratch))
    entered r = (lanes, (legal, (matched, (good, (r.room, (r.room', tt))))))

    told_six : (j : ℕ) → j < R → (Mendable gf256 R marks s j → ⊥) → Answers upto R s marks (λ x tiles'. x.code ≡ 6)
    told_six j hj n r = beyond_is_six upto s marks r.tiles r.tiles' r.scratch r.scratch' (entered r) r.answer r.promise j hj n

  -- ---- strips that we wrote

  module _ (l : Level) (t : List ℕ) (w : WeWrote R l t) where
    -- such a strip is its level's
    pub wrote_level : IsLevel l
    wrote_level = written_strip_level l w.old w.new w.answer w.promise w.done

    -- of a version that there is
    pub wrote_known : l.version ≤ newest
    wrote_known = wrote_level.ranged.known.to

    pub wrote_strip : IsStrip gf256 R l t
    wrote_strip = subst (IsStrip gf256 R l) (sym (w.front ∙ ap (λ (n : ℕ). take n w.new) (w.promise.value w.done))) (w.promise.strip w.done)

    -- of legal length
    pub wrote_legal : Legal R (length t)
    wrote_legal =
        let f = record_fits l wrote_level in
        record {
          k = columns R (record_length l.width l.height);
          from = columns_more R some 4 (record_length l.width l.height) f.0;
          to = columns_more R some (record_length l.width l.height) 364 f.1;
          cells = strip_size gf256 field256 R some l t wrote_strip;
        }

    -- a picture of it: a strip of that length, with marks
    module _ (upto : ℕ) (s marks : List ℕ) (same : length t ≡ length s) (matched : length marks ≡ length s) (good : GoodMarks marks) where
      legal : Legal R (length s)
      legal = subst (Legal R) same wrote_legal

      words : legal.k + 5 ≤ 255
      words = omega (arith, legal.to, short)

      -- FORMAT 11.8: where 2e + f is 6 in a lane, the strip is refused with 6.
      pub refused_at_six : (j : ℕ) → j < R → 2 * wrong_in R marks s t j + marked_in R marks j ≡ 6 → Answers upto R s marks (λ x tiles'. x.code ≡ 6)
      refused_at_six j hj six r =
          told_six upto s marks legal matched good j hj
          (six_beyond gf256 field256 R some marks s (legal.k + 5) legal.cells words l t j matched wrote_strip same hj six) r

      -- FORMAT 11.10: with damage within reach in every lane its level is returned, if its version is taken; mended is the number of unmarked cells
      -- that changed, and repainted that of the marked ones.
      pub damaged_read_back : l.version ≤ upto → StripReach R marks s t
          → Answers upto R s marks (λ x tiles'. Gives l x tiles' × (x.mended ≡ differing marks s t) × (x.repainted ≡ repainted marks s t))
      damaged_read_back early reach r = (
        record { read = z; level = sym (read.only l t at) },
        read.mended_is ∙ ap (mended_of R marks s) strips ∙ levels.mended_differing R some marks s t (legal.k + 5) legal.cells matched same,
        read.repainted_is ∙ ap (repainted_of R marks s) strips ∙ levels.repainted_differing R some marks s t (legal.k + 5) legal.cells matched same,
      )
        where
          at : Reached gf256 R upto marks s l t
          at = record { is_level = wrote_level; not_newer = early; is_strip = wrote_strip; reach = reach }

          z : (strip_numbers r.answer).code ≡ 0
          z =
              read_when_reached upto s marks r.tiles r.tiles' r.scratch r.scratch' (entered upto s marks legal matched good r) r.answer
              r.promise l t at

          read : LevelRead gf256 upto R s marks r.tiles r.tiles' (strip_numbers r.answer)
          read = r.promise.level z

          strips : read.strip ≡ t
          strips =
              same_strip gf256 field256 R some marks s (legal.k + 5) legal.cells words (returned (strip_numbers r.answer) r.tiles') l
              read.strip t read.reached at

      -- FORMAT 11.15: with 2e + f at most 6 in every lane its level is returned, or the strip is refused with 6.
      pub level_or_six : l.version ≤ upto → ((j : ℕ) → j < R → 2 * wrong_in R marks s t j + marked_in R marks j ≤ 6)
          → Answers upto R s marks (λ x tiles'. Gives l x tiles' ⊎ (x.code ≡ 6))
      level_or_six early near r =
          ⊎_elim (λ few. inl (damaged_read_back early (lanes_reach R some marks s t matched same few) r).0) (λ x. inr (refused_at_six x.0 x.1 x.2 r))
          (most_or_one R 5 (λ j. 2 * wrong_in R marks s t j + marked_in R marks j) near)

  -- ---- stickers: damage to a strip that we wrote, in runs of neighbouring cells, read by a reader that takes its version

  -- FORMAT 14.8: some cells of a run of c times R are changed, some of another of d times R are marked: its level is returned if 2c + d is at most 5.
  pub two_runs : (upto : ℕ) (l : Level) (t s marks : List ℕ) (a n c b m d : ℕ) → WeWrote R l t → l.version ≤ upto → length marks ≡ length s → GoodMarks marks
      → 2 * c + d ≤ 5 → n ≤ R * c → ChangedIn marks a n s t → m ≤ R * d → MarkedIn b m marks
      → Answers upto R s marks (λ x tiles'. Gives l x tiles' × (x.mended ≡ differing marks s t) × (x.mended ≤ n) × (x.repainted ≡ repainted marks s t)
      × (x.repainted ≤ m))
  two_runs upto l t s marks a n c b m d w early matched good five few changed few' only r =
      let same = sym changed.same_length in
      let back = damaged_read_back l t w upto s marks same matched good early (runs_reach R some marks s t matched same a n c b m d five few few' changed only) r in (
        back.0,
        back.1,
        omega (arith, back.1, differing_in_run marks a n s t changed),
        back.2,
        omega (arith, back.2, repainted_in_run marks b m only s t),
      )

  -- FORMAT 14.3: up to 2R neighbouring cells changed at will, and no marks: the same level. Mended is the number of cells that did change.
  pub changed_run : (upto : ℕ) (l : Level) (t s marks : List ℕ) (a n : ℕ) → WeWrote R l t → l.version ≤ upto → length marks ≡ length s → NoMarks marks
      → n ≤ changed_most R → ChangedIn marks a n s t
      → Answers upto R s marks (λ x tiles'. Gives l x tiles' × (x.mended ≡ count_to (differs s t) (length s)) × (x.mended ≤ n) × (x.repainted ≡ 0))
  changed_run upto l t s marks a n w early matched none few changed r =
      let back =
      two_runs upto l t s marks a n 2 0 0 0 w early matched (good_none marks none) (omega arith) (omega arith) changed (omega arith) (λ p o. none p) r in
      (back.0, back.1 ∙ unmarked_differing marks s t none, back.2, omega (arith, back.4))

  -- FORMAT 11.9: with none changed nothing is mended, repainted or worn.
  pub strip_read_back : (upto : ℕ) (l : Level) (t marks : List ℕ) → WeWrote R l t → l.version ≤ upto → length marks ≡ length t → NoMarks marks
      → Answers upto R t marks (λ x tiles'. Gives l x tiles' × (x.mended ≡ 0) × (x.repainted ≡ 0) × (x.wear ≡ 0))
  strip_read_back upto l t marks w early matched none r =
      let back = changed_run upto l t t marks 0 0 w early matched none (omega arith) (record { same_length = refl; outside = λ p o e. refl }) r in
      let unmended : (strip_numbers r.answer).mended ≡ 0 = omega (arith, back.2) in
      (back.0, unmended, back.3, unworn upto t marks r unmended)

  -- FORMAT 14.4: up to 5R neighbouring cells marked, whatever stands there, and all others right: the same level, and nothing is mended.
  pub marked_run : (upto : ℕ) (l : Level) (t s marks : List ℕ) (a n : ℕ) → WeWrote R l t → l.version ≤ upto → length marks ≡ length s → GoodMarks marks
      → n ≤ marked_most R → MarkedIn a n marks → SameRead marks s t
      → Answers upto R s marks (λ x tiles'. Gives l x tiles' × (x.mended ≡ 0) × (x.wear ≡ 0) × (x.repainted ≡ repainted marks s t) × (x.repainted ≤ n))
  marked_run upto l t s marks a n w early matched good few only right r =
      let back = two_runs upto l t s marks 0 0 0 a n 5 w early matched good (omega arith) (omega arith)
      (record { same_length = right.same_length; outside = λ p o. right.read p }) (omega arith) only r in
      let unmended : (strip_numbers r.answer).mended ≡ 0 = omega (arith, back.2) in
      (back.0, unmended, unworn upto s marks r unmended, back.3, back.4)

  -- FORMAT 14.5: one cell more is too many. A run of 2R + 1 to 3R cells, each of which did change, is refused with 6,
  pub changed_refused : (upto : ℕ) (l : Level) (t s marks : List ℕ) (a n : ℕ) → WeWrote R l t → length marks ≡ length s → NoMarks marks
      → changed_most R < n → n ≤ 3 * R → a + n ≤ length s → ChangedIn marks a n s t → ((p : ℕ) → InRun a n p → get_or s p 0 ≢ get_or t p 0)
      → Answers upto R s marks (λ x tiles'. x.code ≡ 6)
  changed_refused upto l t s marks a n w matched none many few ends changed all =
      let same = sym changed.same_length in
      let j = mod-lt a some in
      refused_at_six l t w upto s marks same matched (good_none marks none) (a % R) j
      (omega (
        arith,
        run_wrong R some marks s t matched same a n 2 ((wrote_legal l t w).k + 5) (changed.same_length ∙ (wrote_legal l t w).cells) (omega arith) ends
            (λ p u. unmarked_wrong marks s t p (none p) (all p u)),
        wrong_in_run R some marks s t matched same a n 3 (omega arith) changed (a % R) j,
        marked_in_run R some marks s t matched same 0 0 0 (omega arith) (λ p o. none p) (a % R) j,
      ))

  -- FORMAT 14.6: and any strip of legal length with a run of 5R + 1 marked cells or more is.
  pub marked_refused : (upto : ℕ) (s marks : List ℕ) (a n : ℕ) → Legal R (length s) → length marks ≡ length s → GoodMarks marks
      → marked_most R < n → a + n ≤ length s → ((p : ℕ) → InRun a n p → get_or marks p 0 ≡ 1)
      → Answers upto R s marks (λ x tiles'. x.code ≡ 6)
  marked_refused upto s marks a n legal matched good many ends all =
      told_six upto s marks legal matched good (a % R) (mod-lt a some)
      (six_marks R some marks s s matched refl gf256 (a % R)
      (run_marked R some marks s s matched refl a n 5 (legal.k + 5) legal.cells (omega arith) ends
      (λ p u. subst (λ (m : ℕ). T (not (eqb m 0))) (sym (all p u)) tt)))

  -- FORMAT 14.7: up to 3R neighbouring cells changed at will, and no marks: the same level or refusal 6, and never another level.
  pub changed_or_refused : (upto : ℕ) (l : Level) (t s marks : List ℕ) (a n : ℕ) → WeWrote R l t → l.version ≤ upto → length marks ≡ length s → NoMarks marks
      → n ≤ 3 * R → ChangedIn marks a n s t → Answers upto R s marks (λ x tiles'. Gives l x tiles' ⊎ (x.code ≡ 6))
  changed_or_refused upto l t s marks a n w early matched none few changed =
      let same = sym changed.same_length in
      level_or_six l t w upto s marks same matched (good_none marks none) early (λ j hj. omega (
        arith,
        wrong_in_run R some marks s t matched same a n 3 (omega arith) changed j hj,
        marked_in_run R some marks s t matched same 0 0 0 (omega arith) (λ p o. none p) j hj,
      ))

  -- ---- drawn again

  -- FORMAT 11.14: for whoever draws the mended strip. What the strip writer writes for the level returned, to a buffer that is long enough, has the
  -- length of the strip read, and is the strip within reach; where it differs from the strip read, unmarked cells are mended in number, and marked
  -- ones repainted.
  module _ (upto : ℕ) (s marks tiles tiles' scratch scratch' : List ℕ) (a : Reading) (A : StripReadsAs upto R s marks tiles tiles' scratch scratch' a)
      (z : (strip_numbers a).code ≡ 0) (old new : List ℕ) (b : Result ℕ Refusal) (W : StripWritesAs R (returned (strip_numbers a) tiles') old new b)
      (room : strip_most ≤ length old) where
    abbrev level : Level
    level = returned (strip_numbers a) tiles'

    abbrev drawn : List ℕ
    drawn = take (strip_length R level) new

    read : LevelRead gf256 upto R s marks tiles tiles' (strip_numbers a)
    read = A.level z

    lent : Hold (entering R s marks (length tiles) (length scratch))
    lent = entered_when_read upto s marks tiles tiles' scratch scratch' a A z

    zw : (written_numbers b).code ≡ 0
    zw = level_strip_written level old new b read.reached.is_level room W

    same : read.strip ≡ drawn
    same =
        levels.one_strip gf256 field256 R some level read.strip drawn read.reached.is_level
        (omega (arith, short, columns_more R some (record_length level.width level.height) 364 (record_fits level read.reached.is_level).1))
        read.reached.is_strip (W.strip zw)

    as_long : strip_length R level ≡ length s
    as_long = sym (strip_size gf256 field256 R some level drawn (W.strip zw)) ∙ ap length (sym same) ∙ read.reached.reach.same_length

    pub redrawn : ((written_numbers b).code ≡ 0) × ((written_numbers b).value ≡ length s) × Reached gf256 R upto marks s level (take (length s) new)
        × ((strip_numbers a).mended ≡ differing marks s (take (length s) new)) × ((strip_numbers a).repainted ≡ repainted marks s (take (length s) new))
    redrawn = (
      zw,
      W.value zw ∙ as_long,
      subst (Reached gf256 R upto marks s level) front read.reached,
      read.mended_is ∙ levels.mended_differing R some marks s read.strip (lent.1.0.k + 5) lent.1.0.cells lent.1.1.0 read.reached.reach.same_length
          ∙ ap (differing marks s) front,
      read.repainted_is ∙ levels.repainted_differing R some marks s read.strip (lent.1.0.k + 5) lent.1.0.cells lent.1.1.0
          read.reached.reach.same_length
          ∙ ap (repainted marks s) front,
    )
      where
        front : read.strip ≡ take (length s) new
        front = same ∙ ap (λ (n : ℕ). take n new) as_long

-- ---- another lane count

-- FORMAT 9.15: it is refused with 15 before all else, by readers and writers, whatever the strip or the level; nothing is written, the scratch neither.
module _ (R : ℕ) (other : LaneCount R → ⊥) where
  pub lanes_refused : (upto : ℕ) (s marks tiles tiles' scratch scratch' : List ℕ) (a : Reading) → StripReadsAs upto R s marks tiles tiles' scratch scratch' a
      → (strip_numbers a ≡ refused_at 15 0) × (tiles' ≡ tiles) × (scratch' ≡ scratch)
  lanes_refused upto s marks tiles tiles' scratch scratch' a A = (
    zeros a none ∙ ap₂ (λ (c j : ℕ). refused_at c j) code (A.other_lane (λ e. omega (arith, code, e))),
    A.tiles_kept none,
    A.scratch_kept (λ h. other h.0),
  )
    where
      code : (strip_numbers a).code ≡ 15
      code =
          first_fixes (entering R s marks (length tiles) (length scratch) ++ mending gf256 R upto s marks) (strip_numbers a).code 15 A.code
          (inl (other, refl))

      none : (strip_numbers a).code ≢ 0
      none z = omega (arith, code, z)

  pub lanes_unwritten : (l : Level) (old new : List ℕ) (a : Result ℕ Refusal) → StripWritesAs R l old new a → ((written_numbers a).code ≡ 15) × (new ≡ old)
  lanes_unwritten l old new a A = (code, A.kept (λ z. omega (arith, code, z)))
    where
      code : (written_numbers a).code ≡ 15
      code = first_fixes (writing_strip R l (length old)) (written_numbers a).code 15 A.code (inl (other, refl))

-- ---- four lanes, as every strip had before the number could be named

four : LaneCount 4
four = inr (inl refl)

-- FORMAT 14.3: any one run of up to 8 neighbouring cells of a strip we wrote changed at will, and no marks: the same level is returned.
pub eight_changed : (l : Level) (t s marks : List ℕ) (a n : ℕ) → WeWrote 4 l t → length marks ≡ length s → NoMarks marks → n ≤ 8 → ChangedIn marks a n s t
    → Answers newest 4 s marks (λ x tiles'. Gives l x tiles' × (x.mended ≡ count_to (differs s t) (length s)) × (x.mended ≤ n) × (x.repainted ≡ 0))
eight_changed l t s marks a n w = changed_run 4 four newest l t s marks a n w (wrote_known 4 four l t w)

-- FORMAT 14.4: only a run of up to 20 neighbouring cells marked, and all others right: again the same level.
pub twenty_marked : (l : Level) (t s marks : List ℕ) (a n : ℕ) → WeWrote 4 l t → length marks ≡ length s → GoodMarks marks → n ≤ 20 → MarkedIn a n marks
    → SameRead marks s t
    → Answers newest 4 s marks (λ x tiles'. Gives l x tiles' × (x.mended ≡ 0) × (x.wear ≡ 0) × (x.repainted ≡ repainted marks s t) × (x.repainted ≤ n))
twenty_marked l t s marks a n w = marked_run 4 four newest l t s marks a n w (wrote_known 4 four l t w)

-- FORMAT 10.12: the reader's promise with four lanes is the one that it gave before, but that it asks for more scratch.
module _ (upto : ℕ) (s marks tiles tiles' scratch scratch' : List ℕ) (a : Reading) where
  pub four_promised : StripReadsAs upto 4 s marks tiles tiles' scratch scratch' a
      → ReadsWith upto 4 (entering_with scratch_least 4 s marks (length tiles) (length scratch)) s marks tiles tiles' scratch scratch' a
  four_promised =
      alike.rule_dropped upto 4 (naming 4) (entering_with scratch_least 4 s marks (length tiles) (length scratch)) s marks tiles tiles' scratch scratch' a four

  pub promised_four : ReadsWith upto 4 (entering_with scratch_least 4 s marks (length tiles) (length scratch)) s marks tiles tiles' scratch scratch' a
      → StripReadsAs upto 4 s marks tiles tiles' scratch scratch' a
  promised_four =
      alike.rule_added upto 4 (naming 4) (entering_with scratch_least 4 s marks (length tiles) (length scratch)) s marks tiles tiles' scratch scratch' a four

-- FORMAT 10.12: so with four lanes every number and every tile byte are what they were where `least` bytes of scratch were asked for, 96 or 384, if
-- each is lent enough;
pub four_as_before : (upto least : ℕ) (s marks tiles t1 t2 u u' v v' : List ℕ) (a b : Reading) → scratch_least ≤ length u → least ≤ length v
    → StripReadsAs upto 4 s marks tiles t1 u u' a
    → ReadsWith upto 4 (entering_with least 4 s marks (length tiles) (length v)) s marks tiles t2 v v' b → (t1 ≡ t2) × (strip_numbers a ≡ strip_numbers b)
four_as_before upto least s marks tiles t1 t2 u u' v v' a b hu hv A B =
    any_scratch 4 four upto scratch_least least s marks tiles t1 t2 u u' v v' a b hu hv A
    (alike.rule_added upto 4 (naming 4) (entering_with least 4 s marks (length tiles) (length v)) s marks tiles t2 v v' b four B)

-- and every number and every cell written, where a buffer of `least` cells was asked for, 384, and each is long enough.
pub four_written_as_before : (least : ℕ) (l : Level) (old u v : List ℕ) (a b : Result ℕ Refusal) → strip_most ≤ length old → least ≤ length old
    → StripWritesAs 4 l old u a → WritesWith 4 (writing_level least l (length old)) l old v b → (u ≡ v) × (written_numbers a ≡ written_numbers b)
four_written_as_before least l old u v a b hu hv A B =
    writes_alike 4 four strip_most least l old u v a b (λ _. hv) (λ _. hu) A
    (record { code = inr (four, B.code); value = B.value; strip = B.strip; past = B.past; kept = B.kept })
