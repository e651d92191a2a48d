-- The five sums of packed bytes, half byte by half byte. The table's rule is a computed test of each entry at the five roots.
use mathlib.Core.Path.{◌≡◌, refl, sym, ap, ap₂, ◌∙◌, subst}
use Prim.Native.Nat.{ℕ, ◌+◌, ◌*◌, ◌/◌, ◌%◌, ◌^◌}
use native.Mathlib.Nat.{mod-lt}
use native.Mathlib.Omega.{arith}
use lib.Bits.{bit_xor, xor_comm, xor_shifted}
use lib.Pow.{pow_pos, shr-shr, mod-pow-add}
use lib.IntN.{pos, negsuc}
use Rattle.account.specs.Field.{power}
use Rattle.account.specs.Product.{product}
use Rattle.account.specs.Code.{alpha_to, syndrome}
use Rattle.gf256.specs.Gf256.{gf256}
use Rattle.reductions.specs.Packed.{SumsOf}
use Rattle.reductions.proofs.Packed.{xors, unpacked_xor, at5_xor}
use Rattle.remainder.specs.Remainder.{unpacked, horn_all, at5}
use Rattle.remainder.proofs.Whole.{at5_sum}

both_sums : (a b x z : ℕ) → SumsOf a x → SumsOf b z → SumsOf (bit_xor a b) (bit_xor x z)
both_sums a b x z X Z =
    rw (at5_xor 71 a b, at5_xor 142 a b, at5_xor 1 a b, at5_xor 2 a b, at5_xor 4 a b) (unpacked_xor x z ∙ ap₂ xors X Z)

zero_sums : SumsOf 0 0
unfolding at5 power product
zero_sums = refl

at5_same : (y a b : ℕ) → unpacked a ≡ unpacked b → at5 y a ≡ at5 y b
unfolding at5
at5_same y a b e = ap (horn_all y 0) e

-- ---- the loop

pub sums_start : (r : ℕ) → SumsOf (r % 2 ^ (4 * 0)) 0
sums_start r = subst (λ (v : ℕ). SumsOf v 0) (sym none) zero_sums
  where
    none : r % 1 ≡ 0
    none = omega arith

pub sums_next : (r k x e : ℕ) → SumsOf (r % 2 ^ (4 * k)) x → SumsOf (r / 2 ^ (4 * k) % 16 * 2 ^ (4 * k)) e → SumsOf (r % 2 ^ (4 * (k + 1))) (bit_xor x e)
sums_next r k x e S E = subst (λ (v : ℕ). SumsOf v (bit_xor x e)) more (both_sums (r % 2 ^ (4 * k)) (d * 2 ^ (4 * k)) x e S E)
  where
    d : ℕ
    d = r / 2 ^ (4 * k) % 16

    exponent : 4 + 4 * k ≡ 4 * (k + 1)
    exponent = omega arith

    more : bit_xor (r % 2 ^ (4 * k)) (d * 2 ^ (4 * k)) ≡ r % 2 ^ (4 * (k + 1))
    more =
        xor_comm (r % 2 ^ (4 * k)) (d * 2 ^ (4 * k)) ∙ xor_shifted d (4 * k) (r % 2 ^ (4 * k)) (mod-lt r (pow_pos (4 * k)))
        ∙ sym (mod-pow-add r 4 (4 * k)) ∙ ap (λ (m : ℕ). r % 2 ^ m) exponent

pub rest_next : (r k : ℕ) → r / 2 ^ (4 * k) / 16 ≡ r / 2 ^ (4 * (k + 1))
rest_next r k = shr-shr r (4 * k) 4 ∙ ap (λ (m : ℕ). r / 2 ^ m) exponent
  where
    exponent : 4 * k + 4 ≡ 4 * (k + 1)
    exponent = omega arith

same_bytes : (r : ℕ) → unpacked (r % 1099511627776) ≡ unpacked r
same_bytes r = rw (d4, d3, d2, d1, d0)
  where
    d4 : r % 1099511627776 / 4294967296 % 256 ≡ r / 4294967296 % 256
    d4 = omega arith

    d3 : r % 1099511627776 / 16777216 % 256 ≡ r / 16777216 % 256
    d3 = omega arith

    d2 : r % 1099511627776 / 65536 % 256 ≡ r / 65536 % 256
    d2 = omega arith

    d1 : r % 1099511627776 / 256 % 256 ≡ r / 256 % 256
    d1 = omega arith

    d0 : r % 1099511627776 % 256 ≡ r % 256
    d0 = omega arith

pub sums_end : (r x : ℕ) → SumsOf (r % 2 ^ (4 * 10)) x → unpacked x ≡ syndrome gf256 (unpacked r)
unfolding alpha_to power product
sums_end r x S =
    S
    ∙ rw (same 71, same 142, same 1, same 2, same 4, at5_sum (negsuc 1) r, at5_sum (negsuc 0) r, at5_sum (pos 0) r, at5_sum (pos 1) r, at5_sum (pos 2) r)
  where
    same : (y : ℕ) → at5 y (r % 1099511627776) ≡ at5 y r
    same y = at5_same y (r % 1099511627776) r (same_bytes r)
