-- Horner's rule on packed bytes, and the steps.
use mathlib.Core.Path.{◌≡◌, sym, ap, ap₂, ◌∙◌, subst}
use mathlib.Core.List.{List, [], ◌∷◌}
use Prim.Native.Nat.{ℕ, ◌+◌, ◌*◌, ◌/◌, ◌%◌, ◌<◌}
use native.Mathlib.Nat.{mod-lt, zero-lt-suc}
use native.Mathlib.Omega.{arith}
use lib.ListN.{length}
use lib.Bits.{bit_xor, xor_lt}
use Rattle.account.specs.Field.{power}
use Rattle.account.specs.Code.{alpha_to}
use Rattle.account.proofs.Laws as laws
use Rattle.gf256.specs.Gf256.{gf256, times}
use Rattle.gf256.proofs.Field256.{field256}
use Rattle.reductions.proofs.Packed.{horn_zero, at5_xor}
use Rattle.remainder.specs.Remainder.{packed_end, unpacked, horn, horn_all, at5, Reduced, Moved}

-- all are bytes
abbrev pub AllBytes : List ℕ → Type 0
AllBytes [] = Unit {0}
AllBytes (b ∷ bs) = (b < 256) × AllBytes bs

-- ---- Horner's rule

module _ (y : ℕ) where
  -- what stands in front, times the power of what follows
  pub start : (u : ℕ) (bs : List ℕ) → u < 256 → AllBytes bs → horn_all y u bs ≡ bit_xor (times u (power gf256 y (length bs))) (horn_all y 0 bs)
  unfolding power
  start u [] hu h = sym (field256.add_zero (times u 1) ∙ field256.mul_one u hu)
  start u (b ∷ bs) hu h =
      start (horn y u b) bs (field256.in_add (times u y) b (field256.in_mul u y) h.0) h.1
      ∙ ap (λ (z : ℕ). bit_xor z (horn_all y 0 bs)) (laws.add_mul gf256 field256 (times u y) b p)
      ∙ field256.add_assoc (times (times u y) p) (times b p) (horn_all y 0 bs)
      ∙ ap₂ bit_xor (field256.mul_assoc u y p ∙ ap (times u) (field256.mul_comm y p))
      (sym (start (horn y 0 b) bs (subst (λ (z : ℕ). z < 256) (sym (horn_zero y b)) h.0) h.1
      ∙ ap (λ (z : ℕ). bit_xor (times z p) (horn_all y 0 bs)) (horn_zero y b)))
    where
      p : ℕ
      p = power gf256 y (length bs)

  pub peel : (a : ℕ) (bs : List ℕ) → a < 256 → AllBytes bs → horn_all y 0 (a ∷ bs) ≡ bit_xor (times a (power gf256 y (length bs))) (horn_all y 0 bs)
  peel a bs ha h =
      start (horn y 0 a) bs (subst (λ (z : ℕ). z < 256) (sym (horn_zero y a)) ha) h
      ∙ ap (λ (z : ℕ). bit_xor (times z (power gf256 y (length bs))) (horn_all y 0 bs)) (horn_zero y a)

-- ---- the steps

pub low : (x : ℕ) → x % 256 < 256
low x = mod-lt x (zero-lt-suc 255)

pub bytes5 : (r : ℕ) → AllBytes (unpacked r)
bytes5 r = (low _, (low _, (low _, (low _, (low _, tt)))))

module _ (r : ℕ) (hr : r < packed_end) where
  abbrev a4 : ℕ
  a4 = r / 4294967296 % 256

  abbrev a3 : ℕ
  a3 = r / 16777216 % 256

  abbrev a2 : ℕ
  a2 = r / 65536 % 256

  abbrev a1 : ℕ
  a1 = r / 256 % 256

  abbrev a0 : ℕ
  a0 = r % 256

  -- a byte after a number whose top byte is nothing
  pub moved1 : (b : ℕ) → b < 256 → r < 4294967296 → Moved r (b ∷ []) (r * 256 + b)
  unfolding at5
  moved1 b hb h = record { small = omega arith; roots = λ j l u. at (alpha_to gf256 j) }
    where
      shifted : unpacked (r * 256 + b) ≡ a3 ∷ a2 ∷ a1 ∷ a0 ∷ b ∷ []
      shifted = rw (d4, d3, d2, d1, d0)
        where
          d4 : (r * 256 + b) / 4294967296 % 256 ≡ a3
          d4 = omega arith

          d3 : (r * 256 + b) / 16777216 % 256 ≡ a2
          d3 = omega arith

          d2 : (r * 256 + b) / 65536 % 256 ≡ a1
          d2 = omega arith

          d1 : (r * 256 + b) / 256 % 256 ≡ a0
          d1 = omega arith

          d0 : (r * 256 + b) % 256 ≡ b
          d0 = omega arith

      none : a4 ≡ 0
      none = omega arith

      at : (y : ℕ) → at5 y (r * 256 + b) ≡ horn_all y (at5 y r) (b ∷ [])
      at y =
          ap (horn_all y 0) shifted
          ∙ sym (peel y a4 (a3 ∷ a2 ∷ a1 ∷ a0 ∷ b ∷ []) (low _) (low _, (low _, (low _, (low _, (hb, tt)))))
          ∙ ap (λ (z : ℕ). bit_xor (times z (power gf256 y 5)) (horn_all y 0 (a3 ∷ a2 ∷ a1 ∷ a0 ∷ b ∷ []))) none
          ∙ ap (λ (z : ℕ). bit_xor z (horn_all y 0 (a3 ∷ a2 ∷ a1 ∷ a0 ∷ b ∷ []))) (laws.zero_mul gf256 field256 (power gf256 y 5))
          ∙ laws.zero_add gf256 field256 (horn_all y 0 (a3 ∷ a2 ∷ a1 ∷ a0 ∷ b ∷ [])))

  -- five bytes as one number
  joined5 : (b c d e f : ℕ) → b < 256 → c < 256 → d < 256 → e < 256 → f < 256
      → unpacked (b * 4294967296 + c * 16777216 + d * 65536 + e * 256 + f) ≡ b ∷ c ∷ d ∷ e ∷ f ∷ []
  joined5 b c d e f hb hc hd he hf = rw (d4, d3, d2, d1, d0)
    where
      s : ℕ
      s = b * 4294967296 + c * 16777216 + d * 65536 + e * 256 + f

      d4 : s / 4294967296 % 256 ≡ b
      d4 = omega arith

      d3 : s / 16777216 % 256 ≡ c
      d3 = omega arith

      d2 : s / 65536 % 256 ≡ d
      d2 = omega arith

      d1 : s / 256 % 256 ≡ e
      d1 = omega arith

      d0 : s % 256 ≡ f
      d0 = omega arith

  -- the order of the sums
  turned : (m x y z w v : ℕ) → bit_xor m (bit_xor (bit_xor (bit_xor x y) (bit_xor z w)) v) ≡ bit_xor v (bit_xor w (bit_xor z (bit_xor y (bit_xor x m))))
  turned m x y z w v = simp (field256.add_assoc, field256.add_comm, laws.add_left gf256 field256)

  module _ (b c d e f x0 x1 x2 x3 x4 : ℕ) (hb : b < 256) (hc : c < 256) (hd : d < 256) (he : e < 256) (hf : f < 256)
      (X0 : Reduced 0 a0 x0) (X1 : Reduced 1 a1 x1) (X2 : Reduced 2 a2 x2) (X3 : Reduced 3 a3 x3) (X4 : Reduced 4 a4 x4) where
    abbrev s5 : ℕ
    s5 = b * 4294967296 + c * 16777216 + d * 65536 + e * 256 + f

    at_y : (y : ℕ) → at5 y x0 ≡ times a0 (power gf256 y 5) → at5 y x1 ≡ times a1 (power gf256 y 6) → at5 y x2 ≡ times a2 (power gf256 y 7)
        → at5 y x3 ≡ times a3 (power gf256 y 8) → at5 y x4 ≡ times a4 (power gf256 y 9)
        → at5 y (bit_xor s5 (bit_xor (bit_xor (bit_xor x0 x1) (bit_xor x2 x3)) x4)) ≡ horn_all y (at5 y r) (b ∷ c ∷ d ∷ e ∷ f ∷ [])
    unfolding at5
    at_y y e0 e1 e2 e3 e4 =
        at5_xor y s5 (bit_xor (bit_xor (bit_xor x0 x1) (bit_xor x2 x3)) x4)
        ∙ ap₂ bit_xor (ap (horn_all y 0) (joined5 b c d e f hb hc hd he hf))
        (at5_xor y (bit_xor (bit_xor x0 x1) (bit_xor x2 x3)) x4
        ∙ ap₂ bit_xor
        (at5_xor y (bit_xor x0 x1) (bit_xor x2 x3) ∙ ap₂ bit_xor (at5_xor y x0 x1 ∙ ap₂ bit_xor e0 e1) (at5_xor y x2 x3 ∙ ap₂ bit_xor e2 e3))
        e4)
        ∙ turned (horn_all y 0 (b ∷ c ∷ d ∷ e ∷ f ∷ [])) (times a0 (power gf256 y 5)) (times a1 (power gf256 y 6)) (times a2 (power gf256 y 7))
        (times a3 (power gf256 y 8)) (times a4 (power gf256 y 9))
        ∙ sym
        (peel y a4 (a3 ∷ a2 ∷ a1 ∷ a0 ∷ b ∷ c ∷ d ∷ e ∷ f ∷ []) (low _) (low _, (low _, (low _, (low _, rest))))
        ∙ ap (bit_xor (times a4 (power gf256 y 9)))
        (peel y a3 (a2 ∷ a1 ∷ a0 ∷ b ∷ c ∷ d ∷ e ∷ f ∷ []) (low _) (low _, (low _, (low _, rest)))
        ∙ ap (bit_xor (times a3 (power gf256 y 8)))
        (peel y a2 (a1 ∷ a0 ∷ b ∷ c ∷ d ∷ e ∷ f ∷ []) (low _) (low _, (low _, rest))
        ∙ ap (bit_xor (times a2 (power gf256 y 7)))
        (peel y a1 (a0 ∷ b ∷ c ∷ d ∷ e ∷ f ∷ []) (low _) (low _, rest)
        ∙ ap (bit_xor (times a1 (power gf256 y 6))) (peel y a0 (b ∷ c ∷ d ∷ e ∷ f ∷ []) (low _) rest)))))
      where
        rest : AllBytes (b ∷ c ∷ d ∷ e ∷ f ∷ [])
        rest = (hb, (hc, (hd, (he, (hf, tt)))))

    pub moved5 : Moved r (b ∷ c ∷ d ∷ e ∷ f ∷ []) (bit_xor s5 (bit_xor (bit_xor (bit_xor x0 x1) (bit_xor x2 x3)) x4))
    moved5 = record {
      small =
          xor_lt 40 s5 (bit_xor (bit_xor (bit_xor x0 x1) (bit_xor x2 x3)) x4) (omega arith)
          (xor_lt 40 (bit_xor (bit_xor x0 x1) (bit_xor x2 x3)) x4
          (xor_lt 40 (bit_xor x0 x1) (bit_xor x2 x3) (xor_lt 40 x0 x1 X0.small X1.small) (xor_lt 40 x2 x3 X2.small X3.small)) X4.small);
      roots = λ j l u. at_y (alpha_to gf256 j) (X0.roots j l u) (X1.roots j l u) (X2.roots j l u) (X3.roots j l u) (X4.roots j l u);
    }
