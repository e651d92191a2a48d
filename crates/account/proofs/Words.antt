-- Words: the five sums as moments, by Horner's rule, and of a word with errata.
use mathlib.Core.Path.{◌≡◌, refl, sym, ap, ap₂, ◌∙◌, subst}
use mathlib.Core.List.{List, [], ◌∷◌, ◌++◌}
use Prim.Native.Nat.{ℕ, zero, suc, ◌+◌, ◌*◌, ◌-◌, ◌≤◌, ◌<◌}
use native.Mathlib.Nat.{mul_comm}
use native.Mathlib.Omega.{arith}
use lib.Dec.{leb→le}
use lib.IntN.{ℤ, pos, negsuc, neg_ℤ, ◌*ℤ◌}
use lib.Signed.{◌≤ℤ◌, le_z_yes}
use lib.ListN.{length, length-append, get_or, get_or-append}
use lib.Seq.{get_or-append_seam}
use Rattle.account.specs.Field.{Ops, In, IsField, power, sum_to}
use Rattle.account.specs.Code.{alpha_to, S, Clean}
use Rattle.account.specs.Errata.{place}
use Rattle.account.proofs.Laws as laws
use Rattle.account.proofs.Powers as powers
use Rattle.account.proofs.Sums as sums
use Rattle.account.proofs.Sums.{moment}

-- what holds at each of the five exponents holds at any from -2 to 2
pub five : (P : ℤ → Type 0) → P (negsuc 1) → P (negsuc 0) → P (pos 0) → P (pos 1) → P (pos 2) → (j : ℤ) → negsuc 1 ≤ℤ j → j ≤ℤ pos 2 → P j
five P a b c d e (negsuc zero) l h = b
five P a b c d e (negsuc (suc zero)) l h = a
five P a b c d e (negsuc (suc (suc n))) l h = let f : suc (suc n) ≤ 1 = leb→le (suc (suc n)) 1 l.le in absurd (omega arith)
five P a b c d e (pos zero) l h = c
five P a b c d e (pos (suc zero)) l h = d
five P a b c d e (pos (suc (suc zero))) l h = e
five P a b c d e (pos (suc (suc (suc n)))) l h = let f : suc (suc (suc n)) ≤ 2 = leb→le (suc (suc (suc n))) 2 h.le in absurd (omega arith)

-- the exponent of the m-th sum: -2, -1, 0, ..
abbrev pub exponent : ℕ → ℤ
exponent zero = negsuc 1
exponent (suc zero) = negsuc 0
exponent (suc (suc m)) = pos m

-- the sums of a word, counted from 0
abbrev pub sums_of : Ops → List ℕ → ℕ → ℕ
sums_of O w m = S O (exponent m) w

pub clean_sums : (O : Ops) (w : List ℕ) → Clean O w → (m : ℕ) → m < 5 → sums_of O w m ≡ 0
clean_sums O w c zero l = c (negsuc 1) (le_z_yes tt) (le_z_yes tt)
clean_sums O w c (suc zero) l = c (negsuc 0) (le_z_yes tt) (le_z_yes tt)
clean_sums O w c (suc (suc zero)) l = c (pos 0) (le_z_yes tt) (le_z_yes tt)
clean_sums O w c (suc (suc (suc zero))) l = c (pos 1) (le_z_yes tt) (le_z_yes tt)
clean_sums O w c (suc (suc (suc (suc zero)))) l = c (pos 2) (le_z_yes tt) (le_z_yes tt)
clean_sums O w c (suc (suc (suc (suc (suc m))))) l = absurd (omega arith)

pub sums_clean : (O : Ops) (w : List ℕ) → ((m : ℕ) → m < 5 → sums_of O w m ≡ 0) → Clean O w
sums_clean O w h =
    five (λ j. S O j w ≡ 0) (h 0 (omega arith)) (h 1 (omega arith)) (h 2 (omega arith)) (h 3 (omega arith)) (h 4 (omega arith))

-- the polynomial of w at x
unfoldable pub value : Ops → ℕ → List ℕ → ℕ
unfolding sum_to power
value O x w = sum_to O (length w) (λ p. O.◌⊗◌ (get_or w p 0) (power O x (length w - suc p)))

module _ (O : Ops) (F : IsField O) where
  open O use {◌⊕◌, ◌⊗◌, α, α⁻¹, order}

  infixl 60 ◌⊕◌
  infixl 70 ◌⊗◌
  pub alpha_neg : (k : ℕ) → alpha_to O (neg_ℤ (pos k)) ≡ power O α⁻¹ k
  unfolding alpha_to power
  alpha_neg zero = refl
  alpha_neg (suc k) = refl

  -- α^(ji) is the i-th power of α^j
  pub alpha_mul : (j : ℤ) (i : ℕ) → alpha_to O (j *ℤ pos i) ≡ power O (alpha_to O j) i
  unfolding alpha_to
  alpha_mul (pos m) i = sym (powers.pow_mul O F α m i)
  alpha_mul (negsuc m) i = alpha_neg (suc m * i) ∙ sym (powers.pow_mul O F α⁻¹ (suc m) i)

  -- S_j is the value of the word's polynomial at α^j
  pub sum_value : (j : ℤ) (w : List ℕ) → S O j w ≡ value O (alpha_to O j) w
  unfolding S value
  sum_value j w =
      sums.sum_cong O F (length w) (λ p. get_or w p 0 ⊗ alpha_to O (j *ℤ pos (length w - suc p))) (λ p. get_or w p 0 ⊗ power O (alpha_to O j) (length w - suc p))
      (λ p l. ap (λ (y : ℕ). get_or w p 0 ⊗ y) (alpha_mul j (length w - suc p)))

  -- Horner's rule
  pub value_snoc : (x : ℕ) (w : List ℕ) (b : ℕ) → In O b → value O x (w ++ b ∷ []) ≡ (value O x w ⊗ x) ⊕ b
  unfolding value power sum_to
  value_snoc x w b h =
      ap (λ (n : ℕ). sum_to O n (λ j. get_or (w ++ b ∷ []) j 0 ⊗ power O x (n - suc j))) len
      ∙ ap₂ (λ (y z : ℕ). y ⊕ z)
      (sums.sum_cong O F (length w)
      (λ j. get_or (w ++ b ∷ []) j 0 ⊗ power O x (suc (length w) - suc j)) (λ j. x ⊗ (get_or w j 0 ⊗ power O x (length w - suc j))) before
      ∙ sums.sum_mul O F (length w) x (λ j. get_or w j 0 ⊗ power O x (length w - suc j))
      ∙ F.mul_comm x (value O x w))
      (ap₂ (λ (y k : ℕ). y ⊗ power O x k) (get_or-append_seam w b [] 0) last ∙ F.mul_one b h)
    where
      len : length (w ++ b ∷ []) ≡ suc (length w)
      len = length-append w (b ∷ []) ∙ omega arith

      last : suc (length w) - suc (length w) ≡ 0
      last = omega arith

      more : (j : ℕ) → j < length w → suc (length w) - suc j ≡ suc (length w - suc j)
      more j l = omega arith

      before : (j : ℕ) → j < length w → get_or (w ++ b ∷ []) j 0 ⊗ power O x (suc (length w) - suc j) ≡ x ⊗ (get_or w j 0 ⊗ power O x (length w - suc j))
      before j l =
          ap₂ (λ (y k : ℕ). y ⊗ power O x k) (get_or-append w (b ∷ []) 0 j l) (more j l)
          ∙ sym (F.mul_assoc (get_or w j 0) (power O x (length w - suc j)) x) ∙ F.mul_comm (get_or w j 0 ⊗ power O x (length w - suc j)) x

  pub value_in : (x : ℕ) (w : List ℕ) → In O (value O x w)
  unfolding value
  value_in x w = sums.sum_in O F (length w) (λ p. get_or w p 0 ⊗ power O x (length w - suc p)) (λ p. F.in_mul (get_or w p 0) (power O x (length w - suc p)))

  pub value_none : (x : ℕ) → value O x [] ≡ 0
  unfolding value sum_to
  value_none x = refl

  -- the power of α that the m-th sum multiplies by, as the m-th power of the place, weighed
  weighed : (m i : ℕ) → alpha_to O (exponent m *ℤ pos i) ≡ power O α⁻¹ (2 * i) ⊗ power O (power O α i) m
  unfolding alpha_to power
  weighed zero i = alpha_neg (2 * i) ∙ sym (F.mul_one (power O α⁻¹ (2 * i)) (powers.pow_in O F α⁻¹ (2 * i)))
  weighed (suc zero) i =
      alpha_neg (1 * i) ∙ ap (power O α⁻¹) one
      ∙ sym
      (ap (λ (y : ℕ). power O α⁻¹ (2 * i) ⊗ y) (F.mul_comm 1 (power O α i) ∙ F.mul_one (power O α i) (powers.pow_in O F α i))
      ∙ ap (λ (y : ℕ). y ⊗ power O α i) (ap (power O α⁻¹) two ∙ powers.pow_add O F α⁻¹ i i)
      ∙ F.mul_assoc (power O α⁻¹ i) (power O α⁻¹ i) (power O α i)
      ∙ ap (λ (y : ℕ). power O α⁻¹ i ⊗ y) (F.mul_comm (power O α⁻¹ i) (power O α i) ∙ powers.pow_back O F i)
      ∙ F.mul_one (power O α⁻¹ i) (powers.pow_in O F α⁻¹ i))
    where
      one : 1 * i ≡ i
      one = omega arith

      two : 2 * i ≡ i + i
      two = omega arith
  weighed (suc (suc m)) i =
      ap (power O α) (mul_comm m i) ∙ sym (powers.pow_mul O F α i m)
      ∙ sym
      (ap (λ (y : ℕ). power O α⁻¹ (2 * i) ⊗ y) (F.mul_assoc (power O (power O α i) m) (power O α i) (power O α i))
      ∙ laws.mul_left O F (power O α⁻¹ (2 * i)) (power O (power O α i) m) (power O α i ⊗ power O α i)
      ∙ ap (λ (y : ℕ). power O (power O α i) m ⊗ y)
      (F.mul_comm (power O α⁻¹ (2 * i)) (power O α i ⊗ power O α i)
      ∙ ap (λ (y : ℕ). y ⊗ power O α⁻¹ (2 * i)) (sym (powers.pow_add O F α i i) ∙ ap (power O α) two) ∙ powers.pow_back O F (2 * i))
      ∙ F.mul_one (power O (power O α i) m) (powers.pow_in O F (power O α i) m))
    where
      two : i + i ≡ 2 * i
      two = omega arith

  module _ (n : ℕ) where
    abbrev pub X : ℕ → ℕ
    X = place O n

    abbrev W : ℕ → ℕ
    W = powers.weigh O F n

    abbrev M : (ℕ → ℕ) → ℕ → ℕ
    M = moment O X n

    -- the sums of a word of n cells are the moments of its weighed cells
    pub sums_moment : (w : List ℕ) → length w ≡ n → (m : ℕ) → sums_of O w m ≡ M (λ p. get_or w p 0 ⊗ W p) m
    unfolding S moment
    sums_moment w e m =
        ap (λ (k : ℕ). sum_to O k (λ p. get_or w p 0 ⊗ alpha_to O (exponent m *ℤ pos (k - suc p)))) e
        ∙ sums.sum_cong O F n (λ p. get_or w p 0 ⊗ alpha_to O (exponent m *ℤ pos (n - suc p))) (λ p. (get_or w p 0 ⊗ W p) ⊗ power O (X p) m)
        (λ p l. ap (λ (y : ℕ). get_or w p 0 ⊗ y) (weighed m (n - suc p)) ∙ sym (F.mul_assoc (get_or w p 0) (W p) (power O (X p) m)))

    pub sums_in : (w : List ℕ) → length w ≡ n → (m : ℕ) → In O (sums_of O w m)
    sums_in w e m = subst (In O) (sym (sums_moment w e m)) (sums.moment_in O F X n (λ p. get_or w p 0 ⊗ W p) m)
