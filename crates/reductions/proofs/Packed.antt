-- Packed bytes added: their polynomials are, at each point.
use mathlib.Core.Path.{◌≡◌, refl, sym, ap, ap₂, ◌∙◌}
use mathlib.Core.List.{List, [], ◌∷◌}
use Prim.Native.Nat.{ℕ, ◌+◌, ◌/◌, ◌%◌, ◌^◌}
use native.Mathlib.Omega.{arith}
use lib.ListN.{length}
use lib.Bits.{bit_xor, xor_shr, xor_mod, xor_lt}
use Rattle.account.specs.Field.{power}
use Rattle.account.specs.Code.{alpha_to}
use Rattle.account.proofs.Laws as laws
use Rattle.gf256.specs.Gf256.{gf256, times}
use Rattle.gf256.proofs.Field256.{field256}
use Rattle.reductions.specs.Packed.{unpacked, horn, horn_all, at5, Reduced}

-- ---- exclusive or, byte by byte

abbrev pub xors : List ℕ → List ℕ → List ℕ
xors [] cs = []
xors (b ∷ bs) [] = []
xors (b ∷ bs) (c ∷ cs) = bit_xor b c ∷ xors bs cs

byte_xor : (k a b : ℕ) → bit_xor a b / 2 ^ k % 256 ≡ bit_xor (a / 2 ^ k % 256) (b / 2 ^ k % 256)
byte_xor k a b = ap (λ (z : ℕ). z % 256) (xor_shr a b k) ∙ xor_mod (a / 2 ^ k) (b / 2 ^ k) 8

pub unpacked_xor : (a b : ℕ) → unpacked (bit_xor a b) ≡ xors (unpacked a) (unpacked b)
unpacked_xor a b = rw (byte_xor 32 a b, byte_xor 24 a b, byte_xor 16 a b, byte_xor 8 a b, xor_mod a b 8)

-- ---- Horner's rule

module _ (y : ℕ) where
  pub horn_zero : (b : ℕ) → horn y 0 b ≡ b
  horn_zero b = ap (λ (z : ℕ). bit_xor z b) (laws.zero_mul gf256 field256 y) ∙ laws.zero_add gf256 field256 b

  horn_xor : (u v : ℕ) (bs cs : List ℕ) → length bs ≡ length cs → horn_all y (bit_xor u v) (xors bs cs) ≡ bit_xor (horn_all y u bs) (horn_all y v cs)
  horn_xor u v [] [] e = refl
  horn_xor u v [] (c ∷ cs) e = absurd (omega arith)
  horn_xor u v (b ∷ bs) [] e = absurd (omega arith)
  horn_xor u v (b ∷ bs) (c ∷ cs) e =
      ap (λ (z : ℕ). horn_all y z (xors bs cs))
      (ap (λ (z : ℕ). bit_xor z (bit_xor b c)) (laws.add_mul gf256 field256 u v y) ∙ laws.add_swap gf256 field256 (times u y) (times v y) b c)
      ∙ horn_xor (horn y u b) (horn y v c) bs cs (omega arith)

  pub at5_xor : (a b : ℕ) → at5 y (bit_xor a b) ≡ bit_xor (at5 y a) (at5 y b)
  unfolding at5
  at5_xor a b = ap (horn_all y 0) (unpacked_xor a b) ∙ horn_xor 0 0 (unpacked a) (unpacked b) refl

-- two bytes at one power, added
pub added : (k a b x z : ℕ) → Reduced k a x → Reduced k b z → Reduced k (bit_xor a b) (bit_xor x z)
added k a b x z X Z = record {
  small = xor_lt 40 x z X.small Z.small;
  roots = λ j l u.
      at5_xor (alpha_to gf256 j) x z ∙ ap₂ bit_xor (X.roots j l u) (Z.roots j l u)
      ∙ sym (laws.add_mul gf256 field256 a b (power gf256 (alpha_to gf256 j) (5 + k)));
}
