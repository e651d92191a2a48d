-- Five bytes packed in one number, as a polynomial at the roots of the generator: a byte at a higher power, reduced, and five sums.
use Rattle.std.specs.Prelude.{◌≡◌, List, [], ◌∷◌, ℕ, ◌+◌, ◌/◌, ◌%◌, ◌<◌, ℤ, pos, negsuc, ◌≤ℤ◌}
use Rattle.std.specs.Int.Bits.{bit_xor}
use Rattle.account.specs.Field.{power}
use Rattle.account.specs.Code.{alpha_to}
use Rattle.gf256.specs.Gf256.{gf256, times}

-- 2^40: five packed bytes are below it
abbrev pub packed_end : ℕ
packed_end = 1099511627776

-- the five bytes, the highest power first
abbrev pub unpacked : ℕ → List ℕ
unpacked r = r / 4294967296 % 256 ∷ r / 16777216 % 256 ∷ r / 65536 % 256 ∷ r / 256 % 256 ∷ r % 256 ∷ []

-- P holds at the five roots of the generator
abbrev pub AtRoots : (ℕ → Type 0) → Type 0
AtRoots P = (j : ℤ) → negsuc 1 ≤ℤ j → j ≤ℤ pos 2 → P (alpha_to gf256 j)

-- one step of Horner's rule at y
abbrev pub horn : ℕ → ℕ → ℕ → ℕ
horn y u b = bit_xor (times u y) b

-- and as many as there are bytes
abbrev pub horn_all : ℕ → ℕ → List ℕ → ℕ
horn_all y u [] = u
horn_all y u (b ∷ bs) = horn_all y (horn y u b) bs

-- the polynomial of the five bytes at y
unfoldable pub at5 : ℕ → ℕ → ℕ
at5 y r = horn_all y 0 (unpacked r)

-- x is a at the power 5 + k, modulo the generator
pub record Reduced (k a x : ℕ) : Type 0 where
  pub small : x < packed_end
  pub roots : AtRoots (λ y. at5 y x ≡ times a (power gf256 y (5 + k)))

-- x has the five sums of the packed bytes r: r at the five roots, from α^-2 to α^2
abbrev pub SumsOf : ℕ → ℕ → Type 0
SumsOf r x = unpacked x ≡ at5 71 r ∷ at5 142 r ∷ at5 1 r ∷ at5 2 r ∷ at5 4 r ∷ []
