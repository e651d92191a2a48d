-- The powers of α: no two of the powers 0 .. order - 1 are alike, and none is nothing. The places of a word's cells are such powers.
use mathlib.Core.Path.{◌≡◌, sym, ap, ap₂, ◌∙◌}
use mathlib.Core.Logic.{◌≢◌}
use Prim.Native.Nat.{ℕ, zero, suc, ◌+◌, ◌*◌, ◌-◌, ◌≤◌, ◌<◌}
use native.Mathlib.Nat.{add-zero, add-suc, mul-zero, mul-suc}
use native.Mathlib.Decide.{dec_lt}
use native.Mathlib.Omega.{arith}
use Rattle.account.specs.Field.{Ops, In, IsField, power}
use Rattle.account.specs.Errata.{place}
use Rattle.account.proofs.Laws as laws

module _ (O : Ops) (F : IsField O) where
  open O use {◌⊕◌, ◌⊗◌, α, α⁻¹, order}

  infixl 60 ◌⊕◌
  infixl 70 ◌⊗◌
  abbrev pow : ℕ → ℕ → ℕ
  pow = power O

  pub pow_in : (x m : ℕ) → In O (pow x m)
  unfolding power
  pow_in x zero = F.in_one
  pow_in x (suc m) = F.in_mul (pow x m) x

  pub pow_add : (x i j : ℕ) → pow x (i + j) ≡ pow x i ⊗ pow x j
  unfolding power
  pow_add x i zero = ap (pow x) (add-zero i) ∙ sym (F.mul_one (pow x i) (pow_in x i))
  pow_add x i (suc j) = ap (pow x) (add-suc i j) ∙ ap (λ (y : ℕ). y ⊗ x) (pow_add x i j) ∙ F.mul_assoc (pow x i) (pow x j) x

  pub pow_mul : (x i j : ℕ) → pow (pow x i) j ≡ pow x (i * j)
  unfolding power
  pow_mul x i zero = ap (pow x) (sym (mul-zero i))
  pow_mul x i (suc j) = ap (λ (y : ℕ). y ⊗ pow x i) (pow_mul x i j) ∙ sym (pow_add x (i * j) i) ∙ ap (pow x) (sym (mul-suc i j))

  pub one_some : ◌≢◌ {A = ℕ} 1 0
  one_some = omega arith

  -- a power, undone by that of the inverse
  pub pow_back : (k : ℕ) → pow α k ⊗ pow α⁻¹ k ≡ 1
  unfolding power
  pow_back zero = F.mul_one 1 F.in_one
  pow_back (suc k) =
      F.mul_assoc (pow α k) α (pow α⁻¹ k ⊗ α⁻¹)
      ∙ ap (λ (y : ℕ). pow α k ⊗ y) (laws.mul_left O F α (pow α⁻¹ k) α⁻¹ ∙ ap (λ (y : ℕ). pow α⁻¹ k ⊗ y) F.α_inverse ∙ F.mul_one (pow α⁻¹ k) (pow_in α⁻¹ k))
      ∙ pow_back k

  pub pow_some : (k : ℕ) → pow α k ≢ 0
  pow_some k e = one_some (sym (pow_back k) ∙ ap (λ (y : ℕ). y ⊗ pow α⁻¹ k) e ∙ laws.zero_mul O F (pow α⁻¹ k))

  pub back_some : (k : ℕ) → pow α⁻¹ k ≢ 0
  back_some k e = one_some (sym (pow_back k) ∙ ap (λ (y : ℕ). pow α k ⊗ y) e ∙ laws.mul_zero O F (pow α k))

  pow_less : (i j : ℕ) → i < j → j < order → pow α i ≢ pow α j
  pow_less i j l h e =
      F.α_order (j - i) (omega arith) (omega arith)
      (sym (laws.add_eq O F 1 (pow α (j - i))
      (laws.mul_cancel O F (pow α i) (1 ⊕ pow α (j - i)) (pow_in α i) (F.in_add 1 (pow α (j - i)) F.in_one (pow_in α (j - i))) (pow_some i)
      (F.mul_comm (1 ⊕ pow α (j - i)) (pow α i) ∙ F.mul_add (pow α i) 1 (pow α (j - i))
      ∙ ap₂ (λ (y z : ℕ). y ⊕ z) (F.mul_one (pow α i) (pow_in α i) ∙ e) (sym (pow_add α i (j - i)) ∙ ap (pow α) both)
      ∙ F.add_self (pow α j)))))
    where
      both : i + (j - i) ≡ j
      both = omega arith

  pub pow_apart : (i j : ℕ) → i < order → j < order → i ≢ j → pow α i ≢ pow α j
  pow_apart i j hi hj ne e = go (dec_lt i j)
    where
      go : Dec (i < j) → ⊥
      go (yes l) = pow_less i j l hj e
      go (no g) = pow_less j i (omega arith) hi (sym e)

  pub place_in : (n p : ℕ) → In O (place O n p)
  place_in n p = pow_in α (n - suc p)

  pub place_apart : (n : ℕ) → n ≤ order → (i j : ℕ) → i < n → j < n → i ≢ j → place O n i ≢ place O n j
  place_apart n h i j hi hj ne = pow_apart (n - suc i) (n - suc j) (omega arith) (omega arith) (omega arith)

  -- what S_-2 multiplies cell p of n by
  abbrev pub weigh : ℕ → ℕ → ℕ
  weigh n p = pow α⁻¹ (2 * (n - suc p))

  pub weigh_back : (n p : ℕ) → weigh n p ⊗ (place O n p ⊗ place O n p) ≡ 1
  weigh_back n p =
      F.mul_comm (weigh n p) (place O n p ⊗ place O n p)
      ∙ ap (λ (y : ℕ). y ⊗ weigh n p) (sym (pow_add α (n - suc p) (n - suc p)) ∙ ap (pow α) twice)
      ∙ pow_back (2 * (n - suc p))
    where
      twice : (n - suc p) + (n - suc p) ≡ 2 * (n - suc p)
      twice = omega arith
