-- What follows from the laws of a field alone.
use mathlib.Core.Path.{◌≡◌, sym, ap, ap₂, ◌∙◌}
use mathlib.Core.Logic.{◌≢◌}
use Prim.Native.Nat.{ℕ}
use Rattle.account.specs.Field.{Ops, In, IsField}

module _ (O : Ops) (F : IsField O) where
  open O use {◌⊕◌, ◌⊗◌}

  infixl 60 ◌⊕◌
  infixl 70 ◌⊗◌
  pub zero_add : (a : ℕ) → 0 ⊕ a ≡ a
  zero_add a = F.add_comm 0 a ∙ F.add_zero a

  pub add_left : (a b c : ℕ) → a ⊕ (b ⊕ c) ≡ b ⊕ (a ⊕ c)
  add_left a b c = simp (← F.add_assoc) (rw (F.add_comm a b))

  pub add_swap : (a b c d : ℕ) → (a ⊕ b) ⊕ (c ⊕ d) ≡ (a ⊕ c) ⊕ (b ⊕ d)
  add_swap a b c d = simp (F.add_assoc, add_left)

  -- a sum that is already there goes
  pub gone : (a b : ℕ) → a ⊕ (a ⊕ b) ≡ b
  gone a b = sym (F.add_assoc a a b) ∙ ap (λ (x : ℕ). x ⊕ b) (F.add_self a) ∙ zero_add b

  pub mul_left : (a b c : ℕ) → a ⊗ (b ⊗ c) ≡ b ⊗ (a ⊗ c)
  mul_left a b c = sym (F.mul_assoc a b c) ∙ ap (λ (x : ℕ). x ⊗ c) (F.mul_comm a b) ∙ F.mul_assoc b a c

  pub add_mul : (a b c : ℕ) → (a ⊕ b) ⊗ c ≡ (a ⊗ c) ⊕ (b ⊗ c)
  add_mul a b c = F.mul_comm (a ⊕ b) c ∙ F.mul_add c a b ∙ ap₂ (λ (x y : ℕ). x ⊕ y) (F.mul_comm c a) (F.mul_comm c b)

  pub mul_zero : (a : ℕ) → a ⊗ 0 ≡ 0
  mul_zero a = ap (λ (x : ℕ). a ⊗ x) (sym (F.add_self 0)) ∙ F.mul_add a 0 0 ∙ F.add_self (a ⊗ 0)

  pub zero_mul : (a : ℕ) → 0 ⊗ a ≡ 0
  zero_mul a = F.mul_comm 0 a ∙ mul_zero a

  -- the ring's laws as one list for `simp`: sums of products, each in one order, and nothing twice
  pub mul_add : (a b c : ℕ) → a ⊗ (b ⊕ c) ≡ (a ⊗ b) ⊕ (a ⊗ c)
  mul_add = F.mul_add

  pub mul_assoc : (a b c : ℕ) → (a ⊗ b) ⊗ c ≡ a ⊗ (b ⊗ c)
  mul_assoc = F.mul_assoc

  pub mul_comm : (a b : ℕ) → a ⊗ b ≡ b ⊗ a
  mul_comm = F.mul_comm

  pub add_assoc : (a b c : ℕ) → (a ⊕ b) ⊕ c ≡ a ⊕ (b ⊕ c)
  add_assoc = F.add_assoc

  pub add_comm : (a b : ℕ) → a ⊕ b ≡ b ⊕ a
  add_comm = F.add_comm

  pub add_self : (a : ℕ) → a ⊕ a ≡ 0
  add_self = F.add_self

  pub add_zero : (a : ℕ) → a ⊕ 0 ≡ a
  add_zero = F.add_zero

  pub ruleset ring = (mul_add, add_mul, mul_assoc, mul_comm, mul_left, add_assoc, add_comm, add_left, gone, add_self, zero_add, add_zero)

  -- no zero divisors
  pub mul_cancel : (a b : ℕ) → In O a → In O b → a ≢ 0 → b ⊗ a ≡ 0 → b ≡ 0
  mul_cancel a b ha hb na e =
      sym (F.mul_one b hb) ∙ ap (λ (x : ℕ). b ⊗ x) (sym (F.mul_inv a ha na)) ∙ sym (F.mul_assoc b a (F.inv a))
      ∙ ap (λ (x : ℕ). x ⊗ F.inv a) e ∙ zero_mul (F.inv a)

  -- a sum is nothing only where its two parts agree
  pub add_eq : (a b : ℕ) → a ⊕ b ≡ 0 → a ≡ b
  add_eq a b e =
      sym (F.add_zero a) ∙ ap (λ (x : ℕ). a ⊕ x) (sym (F.add_self b)) ∙ sym (F.add_assoc a b b)
      ∙ ap (λ (x : ℕ). x ⊕ b) e ∙ zero_add b
