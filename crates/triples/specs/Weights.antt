-- FORMAT 5.1: what a tile adds, as one number.
use Rattle.std.specs.Prelude.{cond, ℕ, ◌+◌, ◌*◌, ◌/◌, ◌%◌, ltb}
use Rattle.level.specs.Tile.{Row, adds}

-- ten bits a sum, which is at most the number of tiles
abbrev pub packed : Row → ℕ
packed r = r.player + 1024 * r.crate' + 1048576 * r.goal + 1073741824 * r.off

-- what a tile adds; above the four sums are counted what is a tile code from version 2 on only, the pit, and what is none
abbrev pub weighed : ℕ → ℕ
weighed t = cond (ltb t 7) (packed (adds t)) (cond (ltb t 8) 1099511627776 1125899906842624)

-- what three tiles add, of nine bits
abbrev pub tripled : ℕ → ℕ
tripled a = weighed (a / 64) + weighed (a / 8 % 8) + weighed (a % 8)
