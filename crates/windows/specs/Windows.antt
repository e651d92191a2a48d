-- Parts: the record of a strip that was mended, seen through windows.
use Rattle.std.specs.Prelude.{◌≡◌, List, ℕ, ◌*◌, ◌-◌, ◌≤◌, ◌<◌, length, take, drop, Option, Some, None}
use Rattle.level.specs.Record.{bit_at}
use Rattle.level.specs.Sizes.{record_least, filled_most}
use Rattle.patches.specs.declared.Fixes.{Fixes}
use Rattle.patches.specs.Patched.{patched}
use Rattle.tiles.specs.Sum.{PartSummed}

-- the record is in the first cells of a strip, up to one of them; the scratch has its size
pub record Lent (s : List ℕ) (to scratch : ℕ) : Type 0 where
  pub some : record_least ≤ to
  pub short : to ≤ filled_most
  pub inside : to ≤ length s
  pub room : 186 ≤ scratch

-- the record in the first cells of the mended strip
abbrev pub record_in : List ℕ → Fixes → ℕ → List ℕ
record_in s f to = take to (patched f.cells f.bytes f.count s)

-- no bit is set from a place on
abbrev pub BlankFrom : ℕ → List ℕ → Type 0
BlankFrom d w = (p : ℕ) → d ≤ p → p < 8 * length w → bit_at w p ≡ 0

-- what the tiles of the part from byte 3 add, if no bit is set from a place on
abbrev pub WeighedAs : List ℕ → ℕ → Option ℕ → Type 0
WeighedAs bs bits (Some sum) = BlankFrom bits bs × PartSummed (take (length bs - 3) (drop 3 bs)) sum
WeighedAs bs bits None = BlankFrom bits bs → ⊥
