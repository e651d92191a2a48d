-- What each of three bytes has of their eight tiles, a byte each, the first tile lowest.
use Rattle.std.specs.Prelude.{ℕ, zero, suc, ◌+◌, ◌*◌, ◌/◌, ◌%◌}

abbrev pub first_of : ℕ → ℕ
first_of x = x / 32 + 256 * (x / 4 % 8) + 65536 * (x % 4 * 2)

abbrev pub second_of : ℕ → ℕ
second_of y = 65536 * (y / 128) + 16777216 * (y / 16 % 8) + 4294967296 * (y / 2 % 8) + 1099511627776 * (y % 2 * 4)

abbrev pub third_of : ℕ → ℕ
third_of z = 1099511627776 * (z / 64) + 281474976710656 * (z / 8 % 8) + 72057594037927936 * (z % 8)

-- by the byte, counted from 0
abbrev pub bits_of : ℕ → ℕ → ℕ
bits_of zero = first_of
bits_of (suc zero) = second_of
bits_of (suc (suc k)) = third_of
