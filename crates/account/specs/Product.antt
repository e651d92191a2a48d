-- FORMAT 1.1, 1.2, for every field GF(2^w): the bits of a number below 2^w are a polynomial over the two-element field, the constant
-- lowest. The sum is exclusive or.
use Rattle.std.specs.Prelude.{ℕ, zero, suc, ◌*◌, ◌/◌, ◌%◌, ◌^◌}
use Rattle.std.specs.Int.Bits.{bit_xor}
use Rattle.account.specs.Field.{Ops}

-- x, or nothing: c is a digit, 0 or 1
unfoldable pub bit_times : ℕ → ℕ → ℕ
bit_times zero x = 0
bit_times (suc c) x = x

-- t times a, modulo the polynomial: twice a, less poly where the top digit was set
unfoldable pub times_t : ℕ → ℕ → ℕ → ℕ
unfolding bit_times
times_t top poly a = bit_xor (a * 2) (bit_times (a / top) poly)

-- a times the n lowest digits of b, the highest first
unfoldable pub horner : ℕ → ℕ → ℕ → ℕ → ℕ → ℕ
unfolding times_t
horner top poly zero a b = 0
horner top poly (suc n) a b = bit_xor (times_t top poly (horner top poly n a (b / 2))) (bit_times (b % 2) a)

-- FORMAT 1.3: the product modulo poly, a polynomial of degree suc k
unfoldable pub product : ℕ → ℕ → ℕ → ℕ → ℕ
unfolding horner
product k poly a b = horner (2 ^ k) poly (suc k) (a % 2 ^ suc k) (b % 2 ^ suc k)

-- FORMAT 1.2, 1.3, 1.5: the field modulo poly; α is t, that is 2
abbrev pub binary : ℕ → ℕ → ℕ → ℕ → Ops
binary k poly inverse n = record { size = 2 ^ suc k; ◌⊕◌ = bit_xor; ◌⊗◌ = product k poly; α = 2; α⁻¹ = inverse; order = n }
