-- The cells of a pooled picture: what each comes to, by its marks and bytes in the two.
use mathlib.Core.Path.{◌≡◌, refl, sym, ap, ap₂, ◌∙◌, subst}
use mathlib.Core.Logic.{◌⊎◌, inl, inr}
use mathlib.Core.Bool.{Bool, true, false, not}
use mathlib.Core.List.{List}
use Prim.Native.Nat.{ℕ, zero, suc, ◌≤◌, ◌<◌}
use native.Mathlib.Omega.{arith}
use native.Mathlib.Decide.{ℕ_discrete}
use lib.Dec.{T, eqb, eqb→eq}
use lib.ListN.{length, get_or}
use lib.Seq.{ext_get_or}
use borrow.Author.Tests.{eq-eqb, ne_eqb}
use Rattle.account.specs.Lists.{list_of}
use Rattle.account.specs.Reach.{and, is_marked}
use Rattle.account.proofs.Cells.{not_not}
use Rattle.account.proofs.Lists.{length_list_of, get_d_list_of}
use Rattle.account.proofs.Lanes.{get_d_past}
use Rattle.pool.specs.Pooled.{Picture, photo, Kind, agreed, taken, conflict, both, kind_of, byte_of, mark_of, kind, byte, is, kind_at, byte_at, pooled}

-- ---- one cell, marked in the first or not, marked in the second or not, equal or not

-- FORMAT 15.9: unmarked in the pooled picture, it is unmarked in one of the two, and has the byte of each in which it is
pub shown_by : (i j e : Bool) (x y : ℕ) → (T e → x ≡ y) → mark_of (kind_of i j e) ≡ 0
    → (i ≡ false → byte_of (kind_of i j e) i x y ≡ x) × (j ≡ false → byte_of (kind_of i j e) i x y ≡ y) × ((i ≡ false) ⊎ (j ≡ false))
shown_by false false true x y same z = ((λ _. refl), (λ _. same tt), inl refl)
shown_by false false false x y same z = absurd (omega arith)
shown_by false true e x y same z = ((λ _. refl), (λ q. absurd (subst T q tt)), inl refl)
shown_by true false e x y same z = ((λ q. absurd (subst T q tt)), (λ _. refl), inr refl)
shown_by true true e x y same z = absurd (omega arith)

-- FORMAT 15.5: where both are right, it is marked just where it is in both
pub mark_right : (i j e : Bool) (x y t : ℕ) → eqb x y ≡ e → (i ≡ false → x ≡ t) → (j ≡ false → y ≡ t) → not (eqb (mark_of (kind_of i j e)) 0) ≡ and i j
mark_right false false true x y t q a b = refl
mark_right false false false x y t q a b = absurd (subst T (sym (eq-eqb x y (a refl ∙ sym (b refl))) ∙ q) tt)
mark_right false true e x y t q a b = refl
mark_right true false e x y t q a b = refl
mark_right true true e x y t q a b = refl

-- and not in conflict
pub no_conflict : (i j e : Bool) (x y t : ℕ) → eqb x y ≡ e → (i ≡ false → x ≡ t) → (j ≡ false → y ≡ t) → T (not (is conflict (kind_of i j e)))
no_conflict false false true x y t q a b = tt
no_conflict false false false x y t q a b = absurd (subst T (sym (eq-eqb x y (a refl ∙ sym (b refl))) ∙ q) tt)
no_conflict false true e x y t q a b = tt
no_conflict true false e x y t q a b = tt
no_conflict true true e x y t q a b = tt

-- unmarked in both, it is marked where they differ
pub mark_differs : (e : Bool) → not (eqb (mark_of (kind_of false false e)) 0) ≡ not e
mark_differs true = refl
mark_differs false = refl

-- FORMAT 15.7: with the pictures exchanged
pub kind_by : (i j e : Bool) → kind_of i j e ≡ kind_of j i e
kind_by false false true = refl
kind_by false false false = refl
kind_by false true e = refl
kind_by true false e = refl
kind_by true true e = refl

pub byte_by : (i j e : Bool) (x y : ℕ) → (T e → x ≡ y) → byte_of (kind_of i j e) i x y ≡ byte_of (kind_of j i e) j y x
byte_by false false true x y same = same tt
byte_by false false false x y same = refl
byte_by false true e x y same = refl
byte_by true false e x y same = refl
byte_by true true e x y same = refl

eqb_sym : (x y : ℕ) → eqb x y ≡ eqb y x
eqb_sym x y = go (ℕ_discrete x y)
  where
    go : Dec (x ≡ y) → eqb x y ≡ eqb y x
    go (yes e) = eq-eqb x y e ∙ sym (eq-eqb y x (sym e))
    go (no n) = ne_eqb x y n ∙ sym (ne_eqb y x (λ e. n (sym e)))

pub kind_swap : (x m y n : ℕ) → kind x m y n ≡ kind y n x m
kind_swap x m y n = kind_by (not (eqb m 0)) (not (eqb n 0)) (eqb x y) ∙ ap (kind_of (not (eqb n 0)) (not (eqb m 0))) (eqb_sym x y)

pub byte_swap : (x m y n : ℕ) → byte x m y n ≡ byte y n x m
byte_swap x m y n =
    byte_by (not (eqb m 0)) (not (eqb n 0)) (eqb x y) x y (eqb→eq x y)
    ∙ ap (λ (e : Bool). byte_of (kind_of (not (eqb n 0)) (not (eqb m 0)) e) (not (eqb n 0)) y x) (eqb_sym x y)

-- FORMAT 15.8: with itself
pub mark_self : (x m : ℕ) → m ≤ 1 → mark_of (kind x m x m) ≡ m
mark_self x zero h = ap (λ (e : Bool). mark_of (kind_of false false e)) (eq-eqb x x refl)
mark_self x (suc zero) h = refl
mark_self x (suc (suc m)) h = absurd (omega arith)

pub marked_self : (x m : ℕ) → not (eqb m 0) ≡ true → byte x m x m ≡ 0
marked_self x m q = rw q refl

-- a mark is 0 or 1
pub mark_small : (k : Kind) → mark_of k ≤ 1
mark_small agreed = omega arith
mark_small taken = omega arith
mark_small conflict = omega arith
mark_small both = omega arith

-- ---- marks in a list

pub unmarked_zero : (m : ℕ) → not (eqb m 0) ≡ false → m ≡ 0
unmarked_zero m q = eqb→eq m 0 (not_not (eqb m 0) (subst (λ (t : Bool). T (not t)) (sym q) tt))

pub past_unmarked : (marks : List ℕ) (p : ℕ) → length marks ≤ p → is_marked marks p ≡ false
past_unmarked marks p h = ap not (eq-eqb (get_or marks p 0) 0 (get_d_past marks p h))

-- ---- all cells

pub list_cong : (n m : ℕ) (f g : ℕ → ℕ) → n ≡ m → ((p : ℕ) → f p ≡ g p) → list_of n f ≡ list_of m g
list_cong n m f g e h =
    ext_get_or 0 (list_of n f) (list_of m g) (length_list_of n f ∙ e ∙ sym (length_list_of m g))
    (λ p l. get_d_list_of n f p (omega (arith, length_list_of n f)) ∙ h p ∙ sym (get_d_list_of m g p (omega (arith, length_list_of n f))))

module _ (a b : Picture) where
  pub length_cells : length (pooled a b).cells ≡ length a.cells
  length_cells = length_list_of (length a.cells) (byte_at a b)

  pub length_marks : length (pooled a b).marks ≡ length a.cells
  length_marks = length_list_of (length a.cells) (λ p. mark_of (kind_at a b p))

  pub cell_at : (p : ℕ) → p < length a.cells → get_or (pooled a b).cells p 0 ≡ byte_at a b p
  cell_at p h = get_d_list_of (length a.cells) (byte_at a b) p h

  pub mark_at : (p : ℕ) → p < length a.cells → get_or (pooled a b).marks p 0 ≡ mark_of (kind_at a b p)
  mark_at p h = get_d_list_of (length a.cells) (λ i. mark_of (kind_at a b i)) p h

  -- FORMAT 15.7
  pub pooled_swap : length b.cells ≡ length a.cells → pooled a b ≡ pooled b a
  pooled_swap e =
      ap₂ photo
      (list_cong (length a.cells) (length b.cells) (byte_at a b) (byte_at b a) (sym e)
      (λ p. byte_swap (get_or a.cells p 0) (get_or a.marks p 0) (get_or b.cells p 0) (get_or b.marks p 0)))
      (list_cong (length a.cells) (length b.cells) (λ p. mark_of (kind_at a b p)) (λ p. mark_of (kind_at b a p)) (sym e)
      (λ p. ap mark_of (kind_swap (get_or a.cells p 0) (get_or a.marks p 0) (get_or b.cells p 0) (get_or b.marks p 0))))
