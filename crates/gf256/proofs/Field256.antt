-- GF(256) is a field: the facts of its polynomial by computed tests.
use mathlib.Core.Path.{◌≡◌, refl, sym, ap, ◌∙◌, subst}
use mathlib.Core.Logic.{◌≢◌}
use mathlib.Core.Bool.{not}
use Prim.Native.Nat.{ℕ, zero, suc, ◌+◌, ◌-◌, ◌/◌, ◌%◌, ◌<◌}
use native.Mathlib.Nat.{add-zero, suc-add, add-suc, mul_comm}
use native.Mathlib.Numerals.{one-add}
use native.Mathlib.Omega.{arith}
use lib.Dec.{T, T_not, eqb, ltb, eqb→eq, ltb→lt}
use lib.ListN.{get_or}
use lib.Bits.{bit_xor}
use Rattle.account.specs.Field.{IsField, power}
use Rattle.account.specs.Product.{times_t, horner, product}
use Rattle.account.proofs.Test.{upto_at, walk_at, repeated}
use Rattle.account.proofs.Product as laws
use Rattle.account.proofs.Powers as powers
use Rattle.gf256.specs.Gf256.{gf256, times}
use Rattle.gf256.specs.Tables.{inverse_of}
use Rattle.gf256.proofs.Rules.{powers_list, logs_list, logs_right}

t_lt : (a : ℕ) → a < 256 → times_t 128 0x11D a < 256
unfolding times_t
t_lt a h = ltb→lt _ 256 (upto_at (λ x. ltb (times_t 128 0x11D x) 256) 256 tt a h)

cancel : (a : ℕ) → a < 256 → horner 128 0x11D 9 a 0x11D ≡ 0
unfolding horner
cancel a h = eqb→eq _ 0 (upto_at (λ x. eqb (horner 128 0x11D 9 x 0x11D) 0) 256 tt a h)

one_times : (b : ℕ) → b < 256 → horner 128 0x11D 8 1 b ≡ b
unfolding horner
one_times b h = eqb→eq _ b (upto_at (λ x. eqb (horner 128 0x11D 8 1 x) x) 256 tt b h)

digit : (a : ℕ) → a < 256 → a ≡ bit_xor (times_t 128 0x11D (a / 2)) (a % 2)
unfolding times_t
digit a h = eqb→eq a _ (upto_at (λ x. eqb x (bit_xor (times_t 128 0x11D (x / 2)) (x % 2))) 256 tt a h)

-- times α
next : ℕ → ℕ
next x = times x 2

powers_next : (k m : ℕ) → repeated next k (power gf256 2 m) ≡ power gf256 2 (m + k)
unfolding power next
powers_next zero m = ap (power gf256 2) (sym (add-zero m))
powers_next (suc k) m = powers_next k (suc m) ∙ ap (power gf256 2) (suc-add m k ∙ sym (add-suc m k))

-- the powers 1 .. 254 are not 1: one walk through them
once : (k : ℕ) → 0 < k → k < 255 → power gf256 2 k ≢ 1
unfolding power product next
once zero l h e = absurd (omega arith)
once (suc k) l h e =
    T_not (eqb (power gf256 2 (suc k)) 1)
    (subst (λ (x : ℕ). T (not (eqb x 1))) (powers_next k 1 ∙ ap (power gf256 2) (one-add k)) (walk_at (λ x. not (eqb x 1)) next 254 2 tt k (omega arith)))
    (subst (λ (x : ℕ). T (eqb x 1)) (sym e) tt)

around : power gf256 2 255 ≡ 1
unfolding power product
around = refl

two_back : times 2 0x8E ≡ 1
unfolding product
two_back = refl

-- the inverse that the tables give: of the power i the power 255 - i
found : ℕ → ℕ
found zero = 0
found (suc a) = get_or powers_list ((255 - get_or logs_list a 0) % 255) 0

found_right : (a : ℕ) → a < 256 → a ≢ 0 → times a (found a) ≡ 1
unfolding product found
found_right zero h n = absurd (n refl)
found_right (suc a) h n = eqb→eq _ 1 (upto_at (λ x. eqb (times (suc x) (found (suc x))) 1) 255 tt a (omega arith))

pub by_table : IsField gf256
by_table = laws.is_field 7 0x11D t_lt cancel one_times digit 0x8E 255 found found_right (omega arith) two_back once around

-- one, to any power
ones : (k : ℕ) → power gf256 1 k ≡ 1
unfolding power
ones zero = refl
ones (suc k) = ap (λ (x : ℕ). times x 1) (ones k) ∙ by_table.mul_one 1 by_table.in_one

-- every byte but 0 is a power of α, so its power 255 is 1
pub inverse_right : (a : ℕ) → a < 256 → a ≢ 0 → times a (inverse_of a) ≡ 1
unfolding power inverse_of
inverse_right zero h n = absurd (n refl)
inverse_right (suc a) h n =
    by_table.mul_comm (suc a) (power gf256 (suc a) 254) ∙ ap (λ (x : ℕ). power gf256 x 255) (sym (logs_right.log_at a (omega arith)).is)
    ∙ powers.pow_mul gf256 by_table 2 i 255 ∙ ap (power gf256 2) (mul_comm i 255) ∙ sym (powers.pow_mul gf256 by_table 2 255 i)
    ∙ ap (λ (x : ℕ). power gf256 x i) around ∙ ones i
  where
    i : ℕ
    i = get_or logs_list a 0

-- The field laws of GF(256), its inverses, and that its 255 powers of α are different and non-zero.
unfoldable pub field256 : IsField gf256
field256 = record {
  inv = inverse_of;
  add_assoc = by_table.add_assoc;
  add_comm = by_table.add_comm;
  add_self = by_table.add_self;
  add_zero = by_table.add_zero;
  mul_assoc = by_table.mul_assoc;
  mul_comm = by_table.mul_comm;
  mul_add = by_table.mul_add;
  in_zero = by_table.in_zero;
  in_one = by_table.in_one;
  in_add = by_table.in_add;
  in_mul = by_table.in_mul;
  mul_one = by_table.mul_one;
  mul_inv = inverse_right;
  α_in = by_table.α_in;
  α_inverse = by_table.α_inverse;
  α_order = by_table.α_order;
  α_around = by_table.α_around;
}

pub inv_is : field256.inv ≡ inverse_of
unfolding field256
inv_is = refl
