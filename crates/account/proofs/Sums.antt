-- Laws of sums, and the moments of a word: the sums of a word whose cells stand at places.
use mathlib.Core.Path.{◌≡◌, refl, sym, ap, ap₂, ◌∙◌}
use mathlib.Core.Logic.{◌≢◌}
use Prim.Native.Nat.{ℕ, zero, suc, ◌<◌}
use native.Mathlib.Omega.{arith}
use native.Mathlib.Decide.{ℕ_discrete}
use Rattle.account.specs.Field.{Ops, In, IsField, power, sum_to}
use Rattle.account.proofs.Laws as laws

-- the m-th moment of v, whose cell i of n stands at X i
unfoldable pub moment : Ops → (ℕ → ℕ) → ℕ → (ℕ → ℕ) → ℕ → ℕ
unfolding sum_to power
moment O X n v m = sum_to O n (λ i. O.◌⊗◌ (v i) (power O (X i) m))

module _ (O : Ops) (F : IsField O) where
  open O use {◌⊕◌, ◌⊗◌}

  infixl 60 ◌⊕◌
  infixl 70 ◌⊗◌
  pub sum_cong : (n : ℕ) (f g : ℕ → ℕ) → ((i : ℕ) → i < n → f i ≡ g i) → sum_to O n f ≡ sum_to O n g
  unfolding sum_to
  sum_cong zero f g h = refl
  sum_cong (suc n) f g h = ap₂ (λ (x y : ℕ). x ⊕ y) (sum_cong n f g (λ i l. h i (omega arith))) (h n (omega arith))

  pub sum_add : (n : ℕ) (f g : ℕ → ℕ) → sum_to O n (λ i. f i ⊕ g i) ≡ sum_to O n f ⊕ sum_to O n g
  unfolding sum_to
  sum_add zero f g = sym (F.add_zero 0)
  sum_add (suc n) f g = ap (λ (x : ℕ). x ⊕ (f n ⊕ g n)) (sum_add n f g) ∙ laws.add_swap O F (sum_to O n f) (sum_to O n g) (f n) (g n)

  pub sum_mul : (n a : ℕ) (f : ℕ → ℕ) → sum_to O n (λ i. a ⊗ f i) ≡ a ⊗ sum_to O n f
  unfolding sum_to
  sum_mul zero a f = sym (laws.mul_zero O F a)
  sum_mul (suc n) a f = ap (λ (x : ℕ). x ⊕ (a ⊗ f n)) (sum_mul n a f) ∙ sym (F.mul_add a (sum_to O n f) (f n))

  pub sum_zero : (n : ℕ) (f : ℕ → ℕ) → ((i : ℕ) → i < n → f i ≡ 0) → sum_to O n f ≡ 0
  unfolding sum_to
  sum_zero zero f h = refl
  sum_zero (suc n) f h = ap₂ (λ (x y : ℕ). x ⊕ y) (sum_zero n f (λ i l. h i (omega arith))) (h n (omega arith)) ∙ F.add_zero 0

  pub sum_in : (n : ℕ) (f : ℕ → ℕ) → ((i : ℕ) → In O (f i)) → In O (sum_to O n f)
  unfolding sum_to
  sum_in zero f h = F.in_zero
  sum_in (suc n) f h = F.in_add (sum_to O n f) (f n) (sum_in n f h) (h n)

  -- a sum of nothing but at p is what stands there
  pub sum_at : (n p : ℕ) (f : ℕ → ℕ) → p < n → ((i : ℕ) → i < n → i ≢ p → f i ≡ 0) → sum_to O n f ≡ f p
  unfolding sum_to
  sum_at zero p f l h = absurd (omega arith)
  sum_at (suc n) p f l h = go (ℕ_discrete n p) (sum_at n p f)
    where
      go : Dec (n ≡ p) → (p < n → ((i : ℕ) → i < n → i ≢ p → f i ≡ 0) → sum_to O n f ≡ f p) → sum_to O n f ⊕ f n ≡ f p
      go (yes e) rec =
          ap (λ (x : ℕ). x ⊕ f n) (sum_zero n f (λ i k. h i (omega arith) (omega arith))) ∙ laws.zero_add O F (f n) ∙ ap f e
      go (no ne) rec =
          ap₂ (λ (x y : ℕ). x ⊕ y) (rec (omega arith) (λ i k. h i (omega arith))) (h n (omega arith) ne) ∙ F.add_zero (f p)

  module _ (X : ℕ → ℕ) (n : ℕ) where
    abbrev M : (ℕ → ℕ) → ℕ → ℕ
    M = moment O X n

    pub moment_cong : (v w : ℕ → ℕ) (m : ℕ) → ((i : ℕ) → i < n → v i ≡ w i) → M v m ≡ M w m
    unfolding moment
    moment_cong v w m h =
        sum_cong n (λ i. v i ⊗ power O (X i) m) (λ i. w i ⊗ power O (X i) m) (λ i l. ap (λ (x : ℕ). x ⊗ power O (X i) m) (h i l))

    pub moment_add : (v w : ℕ → ℕ) (m : ℕ) → M (λ i. v i ⊕ w i) m ≡ M v m ⊕ M w m
    unfolding moment
    moment_add v w m =
        sum_cong n (λ i. (v i ⊕ w i) ⊗ power O (X i) m) (λ i. (v i ⊗ power O (X i) m) ⊕ (w i ⊗ power O (X i) m))
        (λ i l. laws.add_mul O F (v i) (w i) (power O (X i) m))
        ∙ sum_add n (λ i. v i ⊗ power O (X i) m) (λ i. w i ⊗ power O (X i) m)

    pub moment_zero : (v : ℕ → ℕ) (m : ℕ) → ((i : ℕ) → i < n → v i ≡ 0) → M v m ≡ 0
    unfolding moment
    moment_zero v m h =
        sum_zero n (λ i. v i ⊗ power O (X i) m)
        (λ i l. ap (λ (x : ℕ). x ⊗ power O (X i) m) (h i l) ∙ laws.zero_mul O F (power O (X i) m))

    pub moment_in : (v : ℕ → ℕ) (m : ℕ) → In O (M v m)
    unfolding moment
    moment_in v m = sum_in n (λ i. v i ⊗ power O (X i) m) (λ i. F.in_mul (v i) (power O (X i) m))

    -- the first moment of a word that is nothing but at p
    pub moment_at : (p : ℕ) (v : ℕ → ℕ) → p < n → In O (v p) → ((i : ℕ) → i < n → i ≢ p → v i ≡ 0) → M v 0 ≡ v p
    unfolding moment power
    moment_at p v l h z =
        sum_at n p (λ i. v i ⊗ 1) l (λ i k ne. ap (λ (x : ℕ). x ⊗ 1) (z i k ne) ∙ laws.zero_mul O F 1) ∙ F.mul_one (v p) h
