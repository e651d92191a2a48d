-- A field on the numbers below `size`, with the element α whose powers are the places of a word.
use Rattle.std.specs.Prelude.{◌≡◌, ◌≢◌, ℕ, zero, suc, ◌<◌}

pub record Ops : Type 0 where
  infixl 60 ◌⊕◌
  infixl 70 ◌⊗◌
  pub size : ℕ
  pub ◌⊕◌ : ℕ → ℕ → ℕ
  pub ◌⊗◌ : ℕ → ℕ → ℕ
  pub α : ℕ
  pub α⁻¹ : ℕ
  pub order : ℕ

-- a is an element of the field
abbrev pub In : Ops → ℕ → Type 0
In O a = a < O.size

-- x times itself, m times
unfoldable pub power : Ops → ℕ → ℕ → ℕ
power O x zero = 1
power O x (suc m) = O.◌⊗◌ (power O x m) x

-- f 0 ⊕ .. ⊕ f (n - 1)
unfoldable pub sum_to : Ops → ℕ → (ℕ → ℕ) → ℕ
sum_to O zero f = 0
sum_to O (suc n) f = O.◌⊕◌ (sum_to O n f) (f n)

-- The laws of a field whose sum is its own inverse, with 0 and 1 as its nothing and its unit. The ring's laws hold at all
-- numbers, so that they need no side condition; only the unit and the inverse ask for an element. Of α: FORMAT 1.6, 1.7 and 1.10.
module _ (O : Ops) where
  open O use {◌⊕◌, ◌⊗◌, α, α⁻¹, order}

  infixl 60 ◌⊕◌
  infixl 70 ◌⊗◌
  pub record IsField : Type 0 where
    pub inv : ℕ → ℕ
    pub add_assoc : (a b c : ℕ) → (a ⊕ b) ⊕ c ≡ a ⊕ (b ⊕ c)
    pub add_comm : (a b : ℕ) → a ⊕ b ≡ b ⊕ a
    pub add_self : (a : ℕ) → a ⊕ a ≡ 0
    pub add_zero : (a : ℕ) → a ⊕ 0 ≡ a
    pub mul_assoc : (a b c : ℕ) → (a ⊗ b) ⊗ c ≡ a ⊗ (b ⊗ c)
    pub mul_comm : (a b : ℕ) → a ⊗ b ≡ b ⊗ a
    pub mul_add : (a b c : ℕ) → a ⊗ (b ⊕ c) ≡ (a ⊗ b) ⊕ (a ⊗ c)
    pub in_zero : In O 0
    pub in_one : In O 1
    pub in_add : (a b : ℕ) → In O a → In O b → In O (a ⊕ b)
    pub in_mul : (a b : ℕ) → In O (a ⊗ b)
    pub mul_one : (a : ℕ) → In O a → a ⊗ 1 ≡ a
    pub mul_inv : (a : ℕ) → In O a → a ≢ 0 → a ⊗ inv a ≡ 1
    pub α_in : In O α
    pub α_inverse : α ⊗ α⁻¹ ≡ 1
    pub α_order : (k : ℕ) → 0 < k → k < order → power O α k ≢ 1
    pub α_around : power O α order ≡ 1
