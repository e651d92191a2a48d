-- FORMAT 6.5: a record's part from byte 3 has its tiles, three bits each.
use Rattle.std.specs.Prelude.{List, ℕ, ◌+◌, ◌*◌, get_or}
use Rattle.account.specs.Lists.{list_of}
use Rattle.level.specs.Record.{field_at}

-- the first m tiles
unfoldable pub tiles_from : List ℕ → ℕ → List ℕ
unfolding list_of
tiles_from part m = list_of m (λ i. field_at part (3 * i) 3)

-- ---- parts

-- three bytes from byte 3 g on as one number, zero past the end
abbrev pub three_at : List ℕ → ℕ → ℕ
three_at part g = get_or part (3 * g) 0 * 65536 + get_or part (3 * g + 1) 0 * 256 + get_or part (3 * g + 2) 0
