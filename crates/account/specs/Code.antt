-- FORMAT 2, over any field: sums and clean words.
use Rattle.std.specs.Prelude.{◌≡◌, List, [], ◌∷◌, ℤ, negsuc, ◌*ℤ◌, ◌≤ℤ◌, length, take}
use Prim.Native.Nat.{ℕ, suc, ◌+◌, ◌-◌, ◌<◌}
use Rattle.std.proofs.Math.IntN.{pos}
use Rattle.std.proofs.Math.ListN.{get_or}
use Rattle.account.specs.Field.{Ops, In, power, sum_to}

module _ (O : Ops) where
  open O use {◌⊗◌, α, α⁻¹}

  infixl 70 ◌⊗◌
  -- FORMAT 1.8: α^j; for a negative j, a power of the inverse
  unfoldable pub alpha_to : ℤ → ℕ
  unfolding power
  alpha_to (pos m) = power O α m
  alpha_to (negsuc m) = power O α⁻¹ (suc m)

  -- the cells of w are elements of the field
  pub record Cells (w : List ℕ) : Type 0 where
    pub cell : (p : ℕ) → p < length w → In O (get_or w p 0)

  -- FORMAT 2.3, 2.4, 2.12: the sum of each byte times α^(j i), where i is its power: 0 for the last byte, n - 1 for the first
  unfoldable pub S : ℤ → List ℕ → ℕ
  unfolding sum_to alpha_to
  S j w = sum_to O (length w) (λ p. get_or w p 0 ⊗ alpha_to (j *ℤ pos (length w - suc p)))

  -- FORMAT 2.5: the syndrome, the five sums S_-2 to S_2
  abbrev pub syndrome : List ℕ → List ℕ
  syndrome w = S (negsuc 1) w ∷ S (negsuc 0) w ∷ S (pos 0) w ∷ S (pos 1) w ∷ S (pos 2) w ∷ []

  -- FORMAT 2.6: a word is clean where the five sums S_-2 to S_2 are all zero
  abbrev pub Clean : List ℕ → Type 0
  Clean w = (j : ℤ) → negsuc 1 ≤ℤ j → j ≤ℤ pos 2 → S j w ≡ 0

  -- FORMAT 2.2, 2.7: w is the data d unchanged, and after it five check bytes that make it clean
  pub record WordOf (d w : List ℕ) : Type 0 where
    pub size : length w ≡ length d + 5
    pub front : take (length d) w ≡ d
    pub clean : Clean w
