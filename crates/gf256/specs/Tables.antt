-- The tables of the field, and what is read from them.
use Rattle.std.specs.Prelude.{◌≡◌, List, ℕ, suc, ◌<◌, length, get_or}
use Rattle.std.specs.Int.Bits.{bit_xor}
use Rattle.account.specs.Field.{power}
use Rattle.account.specs.Errata.{place}
use Rattle.account.specs.Search.{HalfOf}
use Rattle.gf256.specs.Gf256.{gf256, IsLog}

-- the 255 powers of α, from α^0 on
pub record Powers (t : List ℕ) : Type 0 where
  pub all : length t ≡ 255
  pub power_at : (k : ℕ) → k < 255 → get_or t k 0 ≡ power gf256 2 k

-- the logarithms of the 255 bytes other than 0, that of 1 first
pub record Logs (t : List ℕ) : Type 0 where
  pub all : length t ≡ 255
  pub log_at : (i : ℕ) → i < 255 → IsLog (suc i) (get_or t i 0)

-- for each byte c the square of one of the two z with z z + z = c, wherever there are any: with c added it is z
pub record Halves (t : List ℕ) : Type 0 where
  pub all : length t ≡ 256
  pub half_at : (c : ℕ) → c < 256 → HalfOf gf256 c (bit_xor (get_or t c 0) c)

-- ---- what is read from them

-- the place of cell p of n
abbrev pub place_of : ℕ → ℕ → ℕ
place_of = place gf256

-- the inverse of a byte other than 0: its power 254
unfoldable pub inverse_of : ℕ → ℕ
unfolding power
inverse_of a = power gf256 a 254
