-- The rows of FORMAT 12.12 hold, and have every exact half of a legal length: both by computed tests.
use mathlib.Core.Path.{◌≡◌, sym, ap, ap₂, ◌∙◌, subst}
use mathlib.Core.Bool.{Bool, true, false, not}
use mathlib.Core.Logic.{◌≢◌, inl, inr, ⊎_elim}
use mathlib.Core.List.{List, [], ◌∷◌}
use Prim.Native.Nat.{ℕ, ◌+◌, ◌*◌, ◌%◌, ◌≤◌, ◌<◌}
use native.Mathlib.Omega.{arith}
use borrow.Author.Tests.{eq-eqb}
use lib.Dec.{T, eqb, eqb→eq, ltb, ltb→lt}
use Rattle.account.proofs.Test.{both, both_left, both_right, or, or_one, upto, upto_at}
use Rattle.level.specs.Strip.{Legal, distance, IsWear}
use Rattle.level.specs.Cells.{Worn, row, IsWorn, Has, worn}
use Rattle.level.proofs.Nearest.{rounded, nearest_one, nearest_rounded, nearest_half}
use Rattle.level.proofs.Counts.{legal_some}

-- ---- each row holds

abbrev is_worn : Worn → Bool
is_worn (row m N w) = both (ltb 0 N) (eqb (rounded (100 * m) N) w)

abbrev all_worn : List Worn → Bool
all_worn [] = true
all_worn (r ∷ rs) = both (is_worn r) (all_worn rs)

worn_said : (r : Worn) → T (is_worn r) → IsWorn r
worn_said (row m N w) t =
    subst (IsWear m N) (eqb→eq (rounded (100 * m) N) w (both_right (ltb 0 N) (eqb (rounded (100 * m) N) w) t))
    (nearest_rounded (100 * m) N (ltb→lt 0 N (both_left (ltb 0 N) (eqb (rounded (100 * m) N) w) t)))

worn_all : (rs : List Worn) → T (all_worn rs) → (r : Worn) → Has r rs → IsWorn r
worn_all [] t r h = absurd h
worn_all (q ∷ rs) t r (inl e) = subst IsWorn (sym e) (worn_said q (both_left (is_worn q) (all_worn rs) t))
worn_all (q ∷ rs) t r (inr h) = worn_all rs (both_right (is_worn q) (all_worn rs) t) r h

pub every_row : (r : Worn) → Has r worn → IsWorn r
every_row = worn_all worn tt

-- ---- each exact half is there

abbrev is_row : ℕ → ℕ → ℕ → Worn → Bool
is_row m N w (row x y z) = both (eqb m x) (both (eqb N y) (eqb w z))

row_said : (m N w : ℕ) (r : Worn) → T (is_row m N w r) → row m N w ≡ r
row_said m N w (row x y z) t =
    let u = both_right (eqb m x) (both (eqb N y) (eqb w z)) t in
    ap₂ (λ (i j : ℕ). row i j w) (eqb→eq m x (both_left (eqb m x) (both (eqb N y) (eqb w z)) t)) (eqb→eq N y (both_left (eqb N y) (eqb w z) u))
    ∙ ap (row x y) (eqb→eq w z (both_right (eqb N y) (eqb w z) u))

abbrev has : ℕ → ℕ → ℕ → List Worn → Bool
has m N w [] = false
has m N w (r ∷ rs) = or (is_row m N w r) (has m N w rs)

has_row : (m N w : ℕ) (rs : List Worn) → T (has m N w rs) → Has (row m N w) rs
has_row m N w [] t = absurd t
has_row m N w (r ∷ rs) t = ⊎_elim (λ u. inl (row_said m N w r u)) (λ u. inr (has_row m N w rs u)) (or_one (is_row m N w r) (has m N w rs) t)

-- where a half is left there is a row for it
abbrev told_half : ℕ → ℕ → Bool
told_half m N = or (not (eqb (2 * (100 * m % N)) N)) (has m N (rounded (100 * m) N) worn)

half_told : (m N : ℕ) → 2 * (100 * m % N) ≡ N → T (told_half m N) → T (has m N (rounded (100 * m) N) worn)
half_told m N e t = rw (eq-eqb (2 * (100 * m % N)) N e) at t

module _ (m N v w : ℕ) (few : m ≤ 8) (legal : Legal 4 N) (is_wear : IsWear m N w) (other : v ≢ w) (as_near : distance (100 * m) N v ≡ distance (100 * m) N w) where
  some : 0 < N
  some = legal_some 4 (omega arith) legal

  found : w ≡ rounded (100 * m) N
  found = nearest_one (100 * m) N some w (rounded (100 * m) N) is_wear (nearest_rounded (100 * m) N some)

  half : 2 * (100 * m % N) ≡ N
  half = nearest_half (100 * m) N some v (λ e. other (e ∙ sym found)) (as_near ∙ ap (distance (100 * m) N) found)

  told : T (told_half m N)
  told =
      subst (λ (n : ℕ). T (told_half m n)) (sym legal.cells)
      (upto_at (λ i. told_half i (4 * (legal.k + 5))) 9 (upto_at (λ k. upto (λ i. told_half i (4 * (k + 5))) 9) 92 tt legal.k (omega (arith, legal.to))) m
      (omega (arith, few)))

  pub every_half : Has (row m N w) worn
  every_half = rw found (has_row m N (rounded (100 * m) N) worn (half_told m N half told))
