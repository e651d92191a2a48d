-- What the code is worth, over any field.
use mathlib.Core.Path.{◌≡◌, refl, sym, ap, ap₂, ◌∙◌, subst}
use mathlib.Core.Logic.{◌⊎◌, inl, inr}
use mathlib.Core.Bool.{Bool, true, false, not}
use mathlib.Core.List.{List, [], ◌∷◌, ◌++◌}
use Prim.Native.Nat.{ℕ, zero, suc, ◌+◌, ◌*◌, ◌-◌, ◌≤◌, ◌<◌}
use native.Mathlib.Omega.{arith}
use native.Mathlib.Decide.{dec_lt}
use lib.Dec.{T, eqb}
use lib.ListN.{length, get_or, take, length-append, replicate, get_or-replicate, get_or-append}
use lib.Seq.{ext_get_or, get_or-take, length-take-le, get_or-append-add}
use Rattle.account.specs.Field.{Ops, In, IsField}
use Rattle.account.specs.Code.{Cells, Clean, WordOf}
use Rattle.account.specs.Reach.{count_to, is_marked, is_read, and, differs, differs_at, marked, differing, repainted, Reach, SameRead, Reachable}
use Rattle.account.specs.Lists.{list_of}
use Rattle.account.specs.Errata.{Outside, Below, added, Applied}
use Rattle.account.specs.Search.{places}
use Rattle.account.proofs.Lists.{length_list_of, get_d_list_of}
use Rattle.account.proofs.Cells.{outside_left, outside_right, below_append, below_places, outside_places}
use Rattle.account.proofs.Cells.{count_places, count_cong, count_none, count_both, same_at, none_differ}
use Rattle.account.proofs.Solve as solve
use Rattle.account.proofs.Decode as decode
use Rattle.account.proofs.Decode.{values}

-- FORMAT 3.11: no more cells are repainted than are marked.
pub repainted_marked : (marks r w : List ℕ) → repainted marks r w ≤ marked marks r
repainted_marked marks r w = count_both (is_marked marks) (differs r w) (length r)

-- ---- FORMAT 3.6: what stands under a mark does not matter

pub read_itself : (marks r : List ℕ) → SameRead marks r r
read_itself marks r = record { same_length = refl; read = λ p e. refl }

pub read_turned : (marks r s : List ℕ) → SameRead marks r s → SameRead marks s r
read_turned marks r s same = record { same_length = sym same.same_length; read = λ p e. sym (same.read p e) }

pub same_differing : (marks r s w : List ℕ) → SameRead marks r s → differing marks r w ≡ differing marks s w
same_differing marks r s w same =
    count_cong (differs_at marks r w) (differs_at marks s w) (length r) (λ p _. at p (is_marked marks p) refl)
    ∙ ap (count_to (differs_at marks s w)) same.same_length
  where
    at : (p : ℕ) (m : Bool) → is_marked marks p ≡ m → and (not m) (not (eqb (get_or w p 0) (get_or r p 0))) ≡ and (not m) (not (eqb (get_or w p 0) (get_or s p 0)))
    at p true e = refl
    at p false e = ap (λ (x : ℕ). not (eqb (get_or w p 0) x)) (same.read p e)

pub same_reach : (marks r s w : List ℕ) → SameRead marks r s → Reach marks r w → Reach marks s w
same_reach marks r s w same R = record {
  same_length = R.same_length ∙ same.same_length;
  few = rw (← same_differing marks r s w same, ← same.same_length) R.few;
}

pub same_reachable : (O : Ops) (marks r s : List ℕ) → SameRead marks r s → Reachable O marks r → Reachable O marks s
same_reachable O marks r s same R = record {
  word = R.word;
  cells = R.cells;
  clean = R.clean;
  reach = same_reach marks r s R.word same R.reach;
}

-- the five cells from m on
abbrev checks : ℕ → List ℕ
checks m = m ∷ (m + 1) ∷ (m + 2) ∷ (m + 3) ∷ (m + 4) ∷ []

before_checks : (m i : ℕ) → i < m → Outside (checks m) i
before_checks m i l = ((λ e. omega arith), ((λ e. omega arith), ((λ e. omega arith), ((λ e. omega arith), ((λ e. omega arith), tt)))))

outside_checks : (m i : ℕ) → i < m + 5 → Outside (checks m) i → i < m
outside_checks m i l o = go (dec_lt i m)
  where
    go : Dec (i < m) → i < m
    go (yes h) = h
    go (no h) = absurd (last (i - m) (omega arith))
      where
        last : (k : ℕ) → i ≡ m + k → ⊥
        last zero e = o.0 (omega arith)
        last (suc zero) e = o.1.0 (omega arith)
        last (suc (suc zero)) e = o.1.1.0 (omega arith)
        last (suc (suc (suc zero))) e = o.1.1.1.0 (omega arith)
        last (suc (suc (suc (suc zero)))) e = o.1.1.1.1.0 (omega arith)
        last (suc (suc (suc (suc (suc k))))) e = omega arith

get_d_past : (xs ys : List ℕ) (p : ℕ) → length xs ≤ p → get_or (xs ++ ys) p 0 ≡ get_or ys (p - length xs) 0
get_d_past xs ys p h = ap (λ (k : ℕ). get_or (xs ++ ys) k 0) split ∙ get_or-append-add xs ys (p - length xs) 0
  where
    split : p ≡ length xs + (p - length xs)
    split = omega arith

module _ (O : Ops) (F : IsField O) where
  open O use {◌⊕◌, order}

  infixl 60 ◌⊕◌
  -- two clean words near one word, in all at most five cells away, are one word
  near : (marks r v w : List ℕ) → length r ≤ order → Cells O v → Cells O w → length v ≡ length r → length w ≡ length r
      → differing marks r v + (differing marks r w + marked marks r) ≤ 5 → Clean O v → Clean O w → v ≡ w
  near marks r v w short iv iw ev ew few cv cw =
      decode.same O F (length r) short ps v w ev ew below five iv iw cv cw
      (λ p l o.
      same_at marks r v p (unmarked p l o) (outside_places (differs_at marks r v) (length r) p l (outside_left pv (pw ++ pm) p o))
      ∙ sym (same_at marks r w p (unmarked p l o)
      (outside_places (differs_at marks r w) (length r) p l (outside_left pw pm p (outside_right pv (pw ++ pm) p o)))))
    where
      pv : List ℕ
      pv = places (differs_at marks r v) (length r)

      pw : List ℕ
      pw = places (differs_at marks r w) (length r)

      pm : List ℕ
      pm = places (is_marked marks) (length r)

      ps : List ℕ
      ps = pv ++ (pw ++ pm)

      unmarked : (p : ℕ) → p < length r → Outside ps p → T (not (is_marked marks p))
      unmarked p l o = outside_places (is_marked marks) (length r) p l (outside_right pw pm p (outside_right pv (pw ++ pm) p o))

      below : Below ps (length r)
      below =
          below_append pv (pw ++ pm) (length r) (below_places (differs_at marks r v) (length r))
          (below_append pw pm (length r) (below_places (differs_at marks r w) (length r)) (below_places (is_marked marks) (length r)))

      five : length ps ≤ 5
      five =
          omega (
            arith,
            length-append pv (pw ++ pm),
            length-append pw pm,
            count_places (differs_at marks r v) (length r),
            count_places (differs_at marks r w) (length r),
            count_places (is_marked marks) (length r),
          )

  -- FORMAT 2.11: two clean words of one length differ in at least six cells or nowhere.
  pub six_apart : (v w : List ℕ) → length v ≤ order → length w ≡ length v → Cells O v → Cells O w → Clean O v → Clean O w
      → (v ≡ w) ⊎ (6 ≤ differing [] v w)
  six_apart v w short e iv iw cv cw = go (dec_lt (differing [] v w) 6)
    where
      go : Dec (differing [] v w < 6) → (v ≡ w) ⊎ (6 ≤ differing [] v w)
      go (yes h) =
          inl (near [] v v w short iv iw refl e
          (omega (arith, none_differ (is_read []) v (length v), count_none (is_marked []) (length v) (λ p l. tt))) cv cw)
      go (no h) = inr (omega arith)

  -- FORMAT 3.5: at most one clean word is within reach of a word with its marks.
  pub one_in_reach : (marks r v w : List ℕ) → length r ≤ order → Cells O v → Cells O w → Clean O v → Clean O w
      → Reach marks r v → Reach marks r w → v ≡ w
  one_in_reach marks r v w short iv iw cv cw hv hw =
      let a = hv.few in
      let b = hw.few in
      near marks r v w short iv iw hv.same_length hw.same_length (omega arith) cv cw

  -- FORMAT 3.9: a word at 2e + f = 6 from a clean word has no clean word within reach.
  pub none_at_six : (marks r v w : List ℕ) → length r ≤ order → Cells O v → Cells O w → Clean O v → Clean O w
      → length v ≡ length r → 2 * differing marks r v + marked marks r ≡ 6 → Reach marks r w → ⊥
  none_at_six marks r v w short iv iw cv cw ev six hw =
      let b = hw.few in
      let e : v ≡ w = near marks r v w short iv iw ev hw.same_length (omega arith) cv cw in
      let f : differing marks r v ≡ differing marks r w = ap (differing marks r) e in
      omega arith

  -- FORMAT 2.7: exactly one clean word has given data in front: no two ..
  pub one_with_data : (d v w : List ℕ) → length d + 5 ≤ order → Cells O v → Cells O w → WordOf O d v → WordOf O d w → v ≡ w
  one_with_data d v w short iv iw A B =
      decode.same O F (length d + 5) short (checks (length d)) v w A.size B.size
      (omega arith, (omega arith, (omega arith, (omega arith, (omega arith, tt))))) (omega arith) iv iw
      A.clean B.clean
      (λ p l o.
      let h : p < length d = outside_checks (length d) p l o in
      sym (get_or-take (length d) v p 0 h) ∙ ap (λ (x : List ℕ). get_or x p 0) (A.front ∙ sym B.front) ∙ get_or-take (length d) w p 0 h)

  -- .. and one.
  pub some_with_data : (data' : List ℕ) → length data' + 5 ≤ order → Cells O data' → (w : List ℕ) × WordOf O data' w × Cells O w
  some_with_data data' short id = (w, record { size = size; front = front; clean = clean }, cells)
    where
      m : ℕ
      m = length data'

      r : List ℕ
      r = data' ++ replicate 5 0

      lr : length r ≡ m + 5
      lr = length-append data' (replicate 5 0)

      at : ℕ → ℕ
      at p = get_or r p 0 ⊕ added O (checks m) (values O F (checks m) r) p

      w : List ℕ
      w = list_of (m + 5) at

      size : length w ≡ m + 5
      size = length_list_of (m + 5) at

      applied : Applied O (checks m) (values O F (checks m) r) r w
      applied = record { same_length = size ∙ sym lr; cell = λ p l. get_d_list_of (m + 5) at p (omega (arith, lr)) }

      clean : Clean O w
      clean =
          decode.sound O F r (checks m) (omega (arith, lr, short))
          (subst (Below (checks m)) (sym lr) (omega arith, (omega arith, (omega arith, (omega arith, (omega arith, tt)))))) (
            ((λ e. omega arith), ((λ e. omega arith), ((λ e. omega arith), ((λ e. omega arith), tt)))),
            (
              ((λ e. omega arith), ((λ e. omega arith), ((λ e. omega arith), tt))),
              (((λ e. omega arith), ((λ e. omega arith), tt)), (((λ e. omega arith), tt), (tt, tt))),
            ),
          )
          (λ k l. absurd (omega arith)) w applied

      r_in : (p : ℕ) → p < m + 5 → In O (get_or r p 0)
      r_in p l = go (dec_lt p m)
        where
          go : Dec (p < m) → In O (get_or r p 0)
          go (yes h) = subst (In O) (sym (get_or-append data' (replicate 5 0) 0 p h)) (id.cell p h)
          go (no h) = subst (In O) (sym (get_d_past data' (replicate 5 0) p (omega arith) ∙ get_or-replicate 5 (p - m) 0 0 (omega arith))) F.in_zero

      cells : Cells O w
      cells = record {
        cell = λ p l.
            subst (In O) (sym (get_d_list_of (m + 5) at p (omega (arith, size))))
            (F.in_add (get_or r p 0) (added O (checks m) (values O F (checks m) r) p) (r_in p (omega (arith, size)))
            (solve.added_in O F (checks m) (values O F (checks m) r) p (decode.values_in O F (checks m) r)));
      }

      front : take m w ≡ data'
      front =
          ext_get_or 0 (take m w) data' (length-take-le m w (omega (arith, size)))
          (λ p l.
          let h : p < m = omega (arith, length-take-le m w (omega (arith, size))) in
          get_or-take m w p 0 h ∙ get_d_list_of (m + 5) at p (omega arith)
          ∙ ap₂ (λ (x y : ℕ). x ⊕ y) (get_or-append data' (replicate 5 0) 0 p h)
          (solve.added_off O F (checks m) (values O F (checks m) r) p (before_checks m p h))
          ∙ F.add_zero (get_or data' p 0))
