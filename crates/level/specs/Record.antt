-- FORMAT 6: records, the fields of a level, bit-packed, the most significant bit first.
use Rattle.std.specs.Prelude.{◌≡◌, ℕ, zero, suc, ◌+◌, ◌*◌, ◌-◌, ◌/◌, ◌%◌, ◌^◌, ◌≤◌, ◌<◌, List, length, get_or}
use Rattle.rules.specs.Bytes.{Bytes}
use Rattle.level.specs.Level.{Level}

-- FORMAT 6.1: bit p of a run of bytes, the most significant of each byte first
unfoldable pub bit_at : List ℕ → ℕ → ℕ
bit_at bs p = get_or bs (p / 8) 0 / 2 ^ (7 - p % 8) % 2

-- FORMAT 6.2: the number that n bits from bit p on spell
unfoldable pub field_at : List ℕ → ℕ → ℕ → ℕ
field_at bs p zero = 0
field_at bs p (suc n) = 2 * field_at bs p n + bit_at bs (p + n)

-- FORMAT 6.7: three bytes, and the bits of the tiles, rounded up to whole bytes
abbrev pub record_length : ℕ → ℕ → ℕ
record_length w h = 3 + (3 * (w * h) + 7) / 8

-- FORMAT 6.3 to 6.6: version 4 bits, width 5, height 5, par 10; the tiles from byte 3 on, row by row, 3 bits each; zero bits to the end
pub record IsRecord (l : Level) (bs : List ℕ) : Type 0 where
  pub bytes : Bytes bs
  pub size : length bs ≡ record_length l.width l.height
  pub version : field_at bs 0 4 ≡ l.version
  pub width : field_at bs 4 5 ≡ l.width
  pub height : field_at bs 9 5 ≡ l.height
  pub par : field_at bs 14 10 ≡ l.par
  pub tile : (i : ℕ) → i < length l.tiles → field_at bs (24 + 3 * i) 3 ≡ get_or l.tiles i 0
  pub filling : (p : ℕ) → 24 + 3 * length l.tiles ≤ p → p < 8 * length bs → bit_at bs p ≡ 0
