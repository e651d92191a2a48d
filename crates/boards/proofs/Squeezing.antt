-- The tiles in a number of eight bytes, put together.
use mathlib.Core.Path.{◌≡◌, ap, ap₂, ◌∙◌}
use Prim.Native.Nat.{ℕ, ◌+◌, ◌*◌, ◌/◌, ◌%◌, ◌≤◌, ◌<◌}
use native.Mathlib.Omega.{arith}
use lib.Bits.{bit_and, and_block, and_mask}
use Rattle.tiles.specs.Word.{word_of}

-- ---- masks

-- six bits at each of four places
mask_six : (x0 x1 x2 x3 : ℕ) → x1 < 65536 → x2 < 65536 → x3 < 65536
    → bit_and (x0 * 281474976710656 + x1 * 4294967296 + x2 * 65536 + x3) 17733194119839807
    ≡ x0 % 64 * 281474976710656 + x1 % 64 * 4294967296 + x2 % 64 * 65536 + x3 % 64
mask_six x0 x1 x2 x3 h1 h2 h3 =
    let z : x0 * 281474976710656 + x1 * 4294967296 + x2 * 65536 + x3 ≡ ((x0 * 65536 + x1) * 65536 + x2) * 65536 + x3 = omega arith in
    ap (λ (v : ℕ). bit_and v 17733194119839807) z
    ∙ and_block 16 ((x0 * 65536 + x1) * 65536 + x2) 270587068479 x3 63 h3 (omega arith)
    ∙ ap₂ two (and_block 16 (x0 * 65536 + x1) 4128831 x2 63 h2 (omega arith)
    ∙ ap₂ two (and_block 16 x0 63 x1 63 h1 (omega arith) ∙ ap₂ two (and_mask x0 6) (and_mask x1 6)) (and_mask x2 6)) (and_mask x3 6)
    ∙ omega arith
  where
    two : ℕ → ℕ → ℕ
    two u v = u * 65536 + v

-- twelve bits at each of two
mask_twelve : (y0 y1 : ℕ) → y1 < 4294967296 → bit_and (y0 * 4294967296 + y1) 17587891081215 ≡ y0 % 4096 * 4294967296 + y1 % 4096
mask_twelve y0 y1 h =
    and_block 32 y0 4095 y1 4095 h (omega arith) ∙ ap₂ (λ (u v : ℕ). u * 4294967296 + v) (and_mask y0 12) (and_mask y1 12)

-- ---- eight tiles

-- two and two
module _ (a b c d e f g h : ℕ) (ha : a ≤ 7) (hb : b ≤ 7) (hc : c ≤ 7) (hd : d ≤ 7) (he : e ≤ 7) (hf : f ≤ 7) (hg : g ≤ 7) (hh : h ≤ 7) where
  abbrev w : ℕ
  w = word_of a b c d e f g h

  beside : w + w / 32
      ≡ (a * 256 + (a * 8 + b)) * 281474976710656 + ((b * 8 + c) * 256 + (c * 8 + d)) * 4294967296
      + ((d * 8 + e) * 256 + (e * 8 + f)) * 65536 + ((f * 8 + g) * 256 + (g * 8 + h))
  beside = omega arith

  low : (x y : ℕ) → y < 64 → (x * 256 + y) % 64 ≡ y
  low x y l = omega arith

  pairs : bit_and (w + w / 32) 17733194119839807 ≡ (a * 8 + b) * 281474976710656 + (c * 8 + d) * 4294967296 + (e * 8 + f) * 65536 + (g * 8 + h)
  pairs =
      ap (λ (v : ℕ). bit_and v 17733194119839807) beside
      ∙ mask_six (a * 256 + (a * 8 + b)) ((b * 8 + c) * 256 + (c * 8 + d)) ((d * 8 + e) * 256 + (e * 8 + f)) ((f * 8 + g) * 256 + (g * 8 + h))
      (omega arith) (omega arith) (omega arith)
      ∙ omega (
        arith,
        low a (a * 8 + b) (omega arith),
        low (b * 8 + c) (c * 8 + d) (omega arith),
        low (d * 8 + e) (e * 8 + f) (omega arith),
        low (f * 8 + g) (g * 8 + h) (omega arith),
      )

-- four and four, and all
module _ (p q r s : ℕ) (hp : p < 64) (hq : q < 64) (hr : r < 64) (hs : s < 64) where
  abbrev v : ℕ
  v = p * 281474976710656 + q * 4294967296 + r * 65536 + s

  next_to : v + v / 1024 ≡ (p * 65536 + q + p * 64) * 4294967296 + (q * 4194304 + r * 65536 + r * 64 + s)
  next_to = omega arith

  fours : bit_and (v + v / 1024) 17587891081215 ≡ (p * 64 + q) * 4294967296 + (r * 64 + s)
  fours =
      ap (λ (x : ℕ). bit_and x 17587891081215) next_to
      ∙ mask_twelve (p * 65536 + q + p * 64) (q * 4194304 + r * 65536 + r * 64 + s) (omega arith)
      ∙ omega (arith, high, low_four)
    where
      high : (p * 65536 + q + p * 64) % 4096 ≡ p * 64 + q
      high = omega arith

      low_four : (q * 4194304 + r * 65536 + r * 64 + s) % 4096 ≡ r * 64 + s
      low_four = omega arith

abbrev quads : ℕ → ℕ
quads x = bit_and (x + x / 1024) 17587891081215

abbrev whole : ℕ → ℕ
whole x = (x + x / 1048576) % 16777216

together : (x y : ℕ) → x < 4096 → y < 4096 → whole (x * 4294967296 + y) ≡ x * 4096 + y
together x y hx hy = let z : (x * 4294967296 + y) / 1048576 ≡ x * 4096 = omega arith in ap (λ (k : ℕ). (x * 4294967296 + y + k) % 16777216) z ∙ omega arith

-- as the program does it
abbrev pub squeeze : ℕ → ℕ
squeeze x = whole (quads (bit_and (x + x / 32) 17733194119839807))

pub squeezed : (a b c d e f g h : ℕ) → a ≤ 7 → b ≤ 7 → c ≤ 7 → d ≤ 7 → e ≤ 7 → f ≤ 7 → g ≤ 7 → h ≤ 7
    → squeeze (word_of a b c d e f g h) ≡ (((a * 8 + b) * 64 + (c * 8 + d)) * 64 + (e * 8 + f)) * 64 + (g * 8 + h)
squeezed a b c d e f g h ha hb hc hd he hf hg hh =
    ap (λ (x : ℕ). whole (quads x)) (pairs a b c d e f g h ha hb hc hd he hf hg hh)
    ∙ ap whole (fours (a * 8 + b) (c * 8 + d) (e * 8 + f) (g * 8 + h) (omega arith) (omega arith) (omega arith) (omega arith))
    ∙ together ((a * 8 + b) * 64 + (c * 8 + d)) ((e * 8 + f) * 64 + (g * 8 + h)) (omega arith) (omega arith)
    ∙ omega arith
