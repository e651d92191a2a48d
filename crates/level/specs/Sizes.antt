-- FORMAT 9.49: the sizes that levels, records and strips have at the most; buffers are asked for by these.
use Rattle.std.specs.Prelude.{ℕ}

-- FORMAT 5.5: tiles of a board, 31 by 31
abbrev pub tiles_most : ℕ
tiles_most = 961

-- FORMAT 6.7: bytes of a record, that of 961 tiles; the least is that of one
abbrev pub record_most : ℕ
record_most = 364

abbrev pub record_least : ℕ
record_least = 4

-- FORMAT 7.9: cells of a strip, that of the longest record in sixteen lanes
abbrev pub strip_most : ℕ
strip_most = 448

-- FORMAT 9.5: what the strip reader is lent beside, as many bytes as a lane has at the most, one of two
abbrev pub scratch_least : ℕ
scratch_least = 187

-- ---- parts

-- bytes of a record, with the cells that fill its last column, of sixteen lanes at the most
abbrev pub filled_most : ℕ
filled_most = 379
