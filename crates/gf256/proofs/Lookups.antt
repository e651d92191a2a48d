-- What is read from the tables: products, quotients, places, and powers of α and of its inverse.
use mathlib.Core.Path.{◌≡◌, sym, ap, ap₂, ◌∙◌}
use mathlib.Core.Logic.{◌≢◌, ⊎_elim}
use mathlib.Core.List.{List, ◌++◌}
use Prim.Native.Nat.{ℕ, zero, suc, ◌+◌, ◌*◌, ◌-◌, ◌/◌, ◌%◌, ◌<◌, ◌≤◌}
use native.Mathlib.Nat.{mul-zero, mul-suc}
use native.Mathlib.Omega.{arith}
use lib.ListN.{get_or, get_or-append}
use Rattle.std.proofs.Math.Seq.{get_or-append_right}
use Rattle.rules.proofs.Numbers.{lt_or_ge}
use Rattle.account.specs.Field.{power}
use Rattle.account.proofs.Powers as powers
use Rattle.gf256.specs.Gf256.{gf256, times, IsLog}
use Rattle.gf256.specs.Tables.{Powers, inverse_of}
use Rattle.gf256.proofs.Rules.{powers_list, powers_right}
use Rattle.gf256.proofs.Field256.{field256, inverse_right}

-- ---- powers

whole : (x i k : ℕ) → power gf256 x k ≡ 1 → power gf256 x (k * i) ≡ 1
unfolding power
whole x zero k e = ap (power gf256 x) (mul-zero k)
whole x (suc i) k e =
    ap (power gf256 x) (mul-suc k i) ∙ powers.pow_add gf256 field256 x (k * i) k ∙ ap₂ times (whole x i k e) e ∙ field256.mul_one 1 field256.in_one

-- a power goes by the remainder of its exponent
pub reduced : (x k : ℕ) → power gf256 x 255 ≡ 1 → power gf256 x (k % 255) ≡ power gf256 x k
reduced x k e =
    sym
    (ap (power gf256 x) split ∙ powers.pow_add gf256 field256 x (255 * (k / 255)) (k % 255)
    ∙ ap (λ (y : ℕ). times y (power gf256 x (k % 255))) (whole x (k / 255) 255 e)
    ∙ field256.mul_comm 1 (power gf256 x (k % 255)) ∙ field256.mul_one (power gf256 x (k % 255)) (powers.pow_in gf256 field256 x (k % 255)))
  where
    split : k ≡ 255 * (k / 255) + k % 255
    split = omega arith

-- the table has the powers twice around
pub twice_around : (k : ℕ) → k < 510 → get_or (powers_list ++ powers_list) k 0 ≡ power gf256 2 k
twice_around k h = ⊎_elim first again (lt_or_ge k 255)
  where
    first : k < 255 → get_or (powers_list ++ powers_list) k 0 ≡ power gf256 2 k
    first l = get_or-append powers_list powers_list 0 k l ∙ powers_right.power_at k l

    rest : 255 ≤ k → k - 255 ≡ k % 255
    rest g = omega arith

    again : 255 ≤ k → get_or (powers_list ++ powers_list) k 0 ≡ power gf256 2 k
    again g =
        get_or-append_right powers_list powers_list k 0 g ∙ powers_right.power_at (k - 255) (omega arith) ∙ ap (power gf256 2) (rest g)
        ∙ reduced 2 k field256.α_around

-- the 255 entries of the table of powers are all different
pub entries_differ : (t : List ℕ) → Powers t → (i j : ℕ) → i < 255 → j < 255 → i ≢ j → get_or t i 0 ≢ get_or t j 0
entries_differ t P i j hi hj n e = powers.pow_apart gf256 field256 i j hi hj n (sym (P.power_at i hi) ∙ e ∙ P.power_at j hj)

-- ---- products

pub product_by : (a b i j : ℕ) → IsLog a i → IsLog b j → power gf256 2 (i + j) ≡ times a b
product_by a b i j I J = powers.pow_add gf256 field256 2 i j ∙ ap₂ times I.is J.is

-- FORMAT 1.12
pub product_of_logs : (a b i j : ℕ) → IsLog a i → IsLog b j → times a b ≡ power gf256 2 ((i + j) % 255)
product_of_logs a b i j I J = sym (reduced 2 (i + j) field256.α_around ∙ product_by a b i j I J)

-- dividing by a is multiplying with any inverse of it
pub same_quotient : (u a i : ℕ) → a < 256 → a ≢ 0 → times a i ≡ 1 → times u i ≡ times u (inverse_of a)
same_quotient u a i ha na e =
    sym (field256.mul_one (times u i) (field256.in_mul u i)) ∙ ap (times (times u i)) (sym (inverse_right a ha na))
    ∙ field256.mul_assoc u i (times a (inverse_of a))
    ∙ ap (times u) (sym (field256.mul_assoc i a (inverse_of a)) ∙ ap (λ (y : ℕ). times y (inverse_of a)) (field256.mul_comm i a ∙ e)
    ∙ field256.mul_comm 1 (inverse_of a))
    ∙ sym (field256.mul_assoc u (inverse_of a) 1) ∙ field256.mul_one (times u (inverse_of a)) (field256.in_mul u (inverse_of a))

pub inverse_by : (a i : ℕ) → IsLog a i → times a (power gf256 2 (255 - i)) ≡ 1
inverse_by a i I =
    ap (λ (x : ℕ). times x (power gf256 2 (255 - i))) (sym I.is) ∙ sym (powers.pow_add gf256 field256 2 i (255 - i)) ∙ ap (power gf256 2) all
    ∙ field256.α_around
  where
    all : i + (255 - i) ≡ 255
    all = omega (arith, I.small)

pub quotient_by : (a b i j : ℕ) → b < 256 → b ≢ 0 → IsLog a i → IsLog b j → power gf256 2 (i + (255 - j)) ≡ times a (inverse_of b)
quotient_by a b i j hb nb I J =
    powers.pow_add gf256 field256 2 i (255 - j) ∙ ap (λ (x : ℕ). times x (power gf256 2 (255 - j))) I.is
    ∙ same_quotient a b (power gf256 2 (255 - j)) hb nb (inverse_by b j J)

-- ---- powers of α and of its inverse by the table

inverse_around : power gf256 0x8E 255 ≡ 1
inverse_around =
    sym (field256.mul_one (power gf256 0x8E 255) (powers.pow_in gf256 field256 0x8E 255)) ∙ field256.mul_comm (power gf256 0x8E 255) 1
    ∙ ap (λ (y : ℕ). times y (power gf256 0x8E 255)) (sym field256.α_around) ∙ powers.pow_back gf256 field256 255

-- α^(255 - i) is the power i of the inverse: both undo α^i
pub backward_by : (k : ℕ) → power gf256 2 (255 - k % 255) ≡ power gf256 0x8E k
backward_by k =
    sym (field256.mul_one (pow 2 (255 - i)) (powers.pow_in gf256 field256 2 (255 - i)))
    ∙ ap (times (pow 2 (255 - i))) (sym (powers.pow_back gf256 field256 i))
    ∙ sym (field256.mul_assoc (pow 2 (255 - i)) (pow 2 i) (pow 0x8E i))
    ∙ ap (λ (y : ℕ). times y (pow 0x8E i)) (sym (powers.pow_add gf256 field256 2 (255 - i) i) ∙ ap (pow 2) all ∙ field256.α_around)
    ∙ field256.mul_comm 1 (pow 0x8E i) ∙ field256.mul_one (pow 0x8E i) (powers.pow_in gf256 field256 0x8E i)
    ∙ reduced 0x8E k inverse_around
  where
    i : ℕ
    i = k % 255

    pow : ℕ → ℕ → ℕ
    pow = power gf256

    all : 255 - i + i ≡ 255
    all = omega arith
