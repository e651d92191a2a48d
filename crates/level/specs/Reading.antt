-- What reading means: which level is spelled (FORMAT 6), what is refused (FORMAT 9), and the numbers of an answer.
use Rattle.std.specs.Prelude.{◌≡◌, List, [], ◌∷◌, ℕ, ◌+◌, ◌*◌, ◌-◌, ◌≤◌, ◌<◌, length, take}
use Rattle.account.specs.Field.{Ops}
use Rattle.account.specs.Lists.{list_of}
use Rattle.account.specs.Reach.{GoodMarks}
use Rattle.rules.specs.Refusal.{Rule, unless, Within, Question, about, asked}
use Rattle.level.specs.Sizes.{tiles_most, record_least, record_most, scratch_least}
use Rattle.level.specs.Level.{Level, Taken, boarding}
use Rattle.level.specs.Record.{bit_at, field_at, record_length}
use Rattle.level.specs.Strip.{LaneCount, columns, Legal, Mends, Mendable}

-- ---- the level that a run of bytes spells

-- FORMAT 6.5: the first n tiles, from byte 3 on
unfoldable pub tiles_in : List ℕ → ℕ → List ℕ
unfolding list_of
tiles_in bs n = list_of n (λ i. field_at bs (24 + 3 * i) 3)

abbrev pub tiles_of : List ℕ → List ℕ
tiles_of bs = tiles_in bs (field_at bs 4 5 * field_at bs 9 5)

-- FORMAT 6.3: the fields of the bytes, as a level
abbrev pub level_of : List ℕ → Level
level_of bs = record { version = field_at bs 0 4; width = field_at bs 4 5; height = field_at bs 9 5; par = field_at bs 14 10; tiles = tiles_of bs }

-- ---- refusals 7 to 10

-- FORMAT 9.8: the bytes are a record (R = 1) or the data cells of a strip of R lanes; as many as the size asks for, and zero bits after the tiles
pub record Shaped (R : ℕ) (bs : List ℕ) : Type 0 where
  pub fits : length bs ≡ R * columns R (record_length (field_at bs 4 5) (field_at bs 9 5))
  pub filling : (p : ℕ) → 24 + 3 * (field_at bs 4 5 * field_at bs 9 5) ≤ p → p < 8 * length bs → bit_at bs p ≡ 0

-- FORMAT 9.7 to 9.10: what a reader of versions up to this one asks of the bytes: of the level that they spell, and of their shape
abbrev pub judging : ℕ → ℕ → List (Question (List ℕ))
judging upto R = record { number = 7; asks = λ bs. Taken upto (level_of bs) } ∷ record { number = 8; asks = Shaped R } ∷ about level_of boarding

-- ---- records

-- FORMAT 9.40, 9.47. 1: the length; 4: the tile buffer; 7 to 10
abbrev pub reading_record : ℕ → List ℕ → ℕ → List Rule
reading_record upto bs room = unless 1 (Within record_least record_most (length bs)) ∷ unless 4 (tiles_most ≤ room) ∷ asked (λ ask. ask bs) (judging upto 1)

-- ---- strips

-- FORMAT 7.10: the data cells of a strip of R lanes: all but the last five columns
abbrev pub data_of : ℕ → List ℕ → List ℕ
data_of R t = take (length t - R * 5) t

-- FORMAT 9.48: what is asked holds of the data cells of whatever the strip is mended to
abbrev pub OfMended : Ops → ℕ → List ℕ → List ℕ → (List ℕ → Type 0) → Type 0
OfMended O R marks s ask = (t : List ℕ) → Mends O R marks s t → ask (data_of R t)

-- FORMAT 9.1 to 9.5: what is asked before the picture is looked at. 1: the length; 2: as many marks; 3: each 0 or 1; 4: the tile buffer;
-- 5: the scratch, of so many bytes at least
abbrev pub entering_with : ℕ → ℕ → List ℕ → List ℕ → ℕ → ℕ → List Rule
entering_with least R s marks room scratch =
    unless 1 (Legal R (length s))
    ∷ unless 2 (length marks ≡ length s)
    ∷ unless 3 (GoodMarks marks)
    ∷ unless 4 (tiles_most ≤ room)
    ∷ unless 5 (least ≤ scratch)
    ∷ []

-- FORMAT 9.15: the lane count that is named. 15, before all else, for writers and readers
abbrev pub naming : ℕ → Rule
naming R = unless 15 (LaneCount R)

-- FORMAT 9.1 to 9.5, 9.15: the lane count, and the rest with the limit of FORMAT 9.5
abbrev pub entering : ℕ → List ℕ → List ℕ → ℕ → ℕ → List Rule
entering R s marks room scratch = naming R ∷ entering_with scratch_least R s marks room scratch

-- FORMAT 9.6, 9.46: what the picture is asked. 6: each lane can be mended; 7 to 10 of the mended record
abbrev pub mending : Ops → ℕ → ℕ → List ℕ → List ℕ → List Rule
mending O R upto s marks = unless 6 ((j : ℕ) → j < R → Mendable O R marks s j) ∷ asked (OfMended O R marks s) (judging upto R)

-- ---- answers

-- FORMAT 8.11, 8.13: the numbers of a reader's answer
pub record ReadNumbers : Type 0 where
  pub code : ℕ
  pub lane : ℕ
  pub version : ℕ
  pub width : ℕ
  pub height : ℕ
  pub par : ℕ
  pub mended : ℕ
  pub repainted : ℕ
  pub wear : ℕ
  pub lanes : ℕ

-- FORMAT 9.43: with a refusal all are zero but the code and, for 6, the lane
abbrev pub refused_at : ℕ → ℕ → ReadNumbers
refused_at code lane = record { code = code; lane = lane; version = 0; width = 0; height = 0; par = 0; mended = 0; repainted = 0; wear = 0; lanes = 0 }

-- FORMAT 11.11: all numbers but repainted
abbrev pub but_repainted : ReadNumbers → ReadNumbers
but_repainted n = record {
  code = n.code;
  lane = n.lane;
  version = n.version;
  width = n.width;
  height = n.height;
  par = n.par;
  mended = n.mended;
  repainted = 0;
  wear = n.wear;
  lanes = n.lanes;
}

-- FORMAT 8.15: the level returned: these numbers, and the first tiles of the buffer
abbrev pub returned : ReadNumbers → List ℕ → Level
returned n tiles = record { version = n.version; width = n.width; height = n.height; par = n.par; tiles = take (n.width * n.height) tiles }
