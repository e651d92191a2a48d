-- FORMAT 12.1, 12.2, 12.4 to 12.6, 12.12 to 12.14, 12.16 to 12.18: the worked examples that are proved, as one table.
use Rattle.std.specs.Prelude.{◌≡◌, ◌⊎◌, List, [], ◌∷◌, ℕ}
use Rattle.account.specs.Code.{Clean, WordOf}
use Rattle.account.specs.Reach.{differing, repainted, Reach, Reachable}
use Rattle.gf256.specs.Gf256.{gf256, times}
use Rattle.rules.specs.Refusal.{First, asked}
use Rattle.level.specs.Sizes.{tiles_most}
use Rattle.level.specs.Level.{Level, IsLevel, newest, lending}
use Rattle.level.specs.Record.{IsRecord}
use Rattle.level.specs.Strip.{IsStrip, IsWear}
use Rattle.level.specs.Reading.{reading_record}

-- FORMAT 12.12: m cells mended out of N are wear w
pub data Worn : Type 0 where
  row : ℕ → ℕ → ℕ → Worn

abbrev pub IsWorn : Worn → Type 0
IsWorn (row m N w) = IsWear m N w

-- the row stands among these
abbrev pub Has : Worn → List Worn → Type 0
Has r [] = ⊥
Has r (q ∷ rs) = (r ≡ q) ⊎ Has r rs

pub data Cell : Type 0 where
  -- FORMAT 12.1: a times b is c
  product : ℕ → ℕ → ℕ → Cell
  -- FORMAT 12.2: data d gives the word w
  gives : List ℕ → List ℕ → Cell
  -- FORMAT 12.4: r with these marks becomes w, mended e and repainted d
  becomes : List ℕ → List ℕ → List ℕ → ℕ → ℕ → Cell
  -- FORMAT 12.4: r with these marks is refused (6)
  refused : List ℕ → List ℕ → Cell
  -- FORMAT 12.5, 12.6, 12.13, 12.14, 12.16 to 12.18: a board, whether or not it is a level, is laid out as this record and this strip of so many lanes
  lays : ℕ → Level → List ℕ → List ℕ → Cell
  -- FORMAT 12.13, 12.16: it is a level
  level : Level → Cell
  -- FORMAT 12.5, 12.16, 12.17: it is none, and lent to a writer it is refused with this number
  no_level : Level → ℕ → Cell
  -- FORMAT 12.17: as a record these bytes are refused with this number
  no_record : List ℕ → ℕ → Cell
  -- FORMAT 12.12: each of these rows holds
  wears : List Worn → Cell

abbrev pub Holds : Cell → Type 0
Holds (product a b c) = times a b ≡ c
Holds (gives d w) = WordOf gf256 d w
Holds (becomes marks r w e d) = Clean gf256 w × Reach marks r w × (differing marks r w ≡ e) × (repainted marks r w ≡ d)
Holds (refused marks r) = Reachable gf256 marks r → ⊥
Holds (lays R l bs s) = IsRecord l bs × IsStrip gf256 R l s
Holds (level l) = IsLevel l
Holds (no_level l n) = (IsLevel l → ⊥) × First (asked (λ ask. ask l) (lending newest)) n
Holds (no_record bs n) = First (reading_record newest bs tiles_most) n
Holds (wears rows) = (r : Worn) → Has r rows → IsWorn r

abbrev pub All : List Cell → Type 0
All [] = Unit {0}
All (c ∷ cs) = Holds c × All cs

abbrev none6 : List ℕ
none6 = 0 ∷ 0 ∷ 0 ∷ 0 ∷ 0 ∷ 0 ∷ []

abbrev none7 : List ℕ
none7 = 0 ∷ none6

-- a board of width 2 and par 5
abbrev pub board : ℕ → ℕ → List ℕ → Level
board v h tiles = record { version = v; width = 2; height = h; par = 5; tiles = tiles }

-- FORMAT 12.5, 12.6: crate on goal, player
abbrev pub finished : ℕ → Level
finished v = board v 1 (4 ∷ 5 ∷ [])

abbrev pub finished_record : List ℕ
finished_record = 0x11 ∷ 0x04 ∷ 0x05 ∷ 0x94 ∷ []

abbrev pub finished_strip : List ℕ
finished_strip =
    0x11 ∷ 0x04 ∷ 0x05 ∷ 0x94 ∷ 0xB2 ∷ 0x1F ∷ 0xD1 ∷ 0xA4 ∷ 0x20 ∷ 0xBF ∷ 0x59 ∷ 0x07
    ∷ 0x20 ∷ 0xBF ∷ 0x59 ∷ 0x07 ∷ 0xB2 ∷ 0x1F ∷ 0xD1 ∷ 0xA4 ∷ 0x11 ∷ 0x04 ∷ 0x05 ∷ 0x94 ∷ []

-- FORMAT 12.13, 12.14: crate, player on goal
abbrev pub unfinished : ℕ → Level
unfinished v = board v 1 (2 ∷ 6 ∷ [])

abbrev pub unfinished_record : List ℕ
unfinished_record = 0x11 ∷ 0x04 ∷ 0x05 ∷ 0x58 ∷ []

abbrev pub unfinished_strip : List ℕ
unfinished_strip =
    0x11 ∷ 0x04 ∷ 0x05 ∷ 0x58 ∷ 0xB2 ∷ 0x1F ∷ 0xD1 ∷ 0xAF ∷ 0x20 ∷ 0xBF ∷ 0x59 ∷ 0x9A
    ∷ 0x20 ∷ 0xBF ∷ 0x59 ∷ 0x9A ∷ 0xB2 ∷ 0x1F ∷ 0xD1 ∷ 0xAF ∷ 0x11 ∷ 0x04 ∷ 0x05 ∷ 0x58 ∷ []

-- FORMAT 12.18: the same level in two lanes, and in eight
abbrev pub unfinished_of_two : List ℕ
unfinished_of_two = 0x11 ∷ 0x04 ∷ 0x05 ∷ 0x58 ∷ 0x33 ∷ 0x02 ∷ 0x81 ∷ 0x08 ∷ 0x13 ∷ 0xA8 ∷ 0x02 ∷ 0xB9 ∷ 0xB7 ∷ 0x47 ∷ []

abbrev pub unfinished_of_eight : List ℕ
unfinished_of_eight =
    0x11 ∷ 0x04 ∷ 0x05 ∷ 0x58 ∷ 0x00 ∷ 0x00 ∷ 0x00 ∷ 0x00 ∷ 0xB2 ∷ 0x1F ∷ 0xD1 ∷ 0xAF ∷ 0x00 ∷ 0x00 ∷ 0x00 ∷ 0x00
    ∷ 0x20 ∷ 0xBF ∷ 0x59 ∷ 0x9A ∷ 0x00 ∷ 0x00 ∷ 0x00 ∷ 0x00 ∷ 0x20 ∷ 0xBF ∷ 0x59 ∷ 0x9A ∷ 0x00 ∷ 0x00 ∷ 0x00 ∷ 0x00
    ∷ 0xB2 ∷ 0x1F ∷ 0xD1 ∷ 0xAF ∷ 0x00 ∷ 0x00 ∷ 0x00 ∷ 0x00 ∷ 0x11 ∷ 0x04 ∷ 0x05 ∷ 0x58 ∷ 0x00 ∷ 0x00 ∷ 0x00 ∷ 0x00 ∷ []

-- FORMAT 12.17: the same tiles in version 2
abbrev pub unfinished_record2 : List ℕ
unfinished_record2 = 0x21 ∷ 0x04 ∷ 0x05 ∷ 0x58 ∷ []

abbrev pub unfinished_strip2 : List ℕ
unfinished_strip2 =
    0x21 ∷ 0x04 ∷ 0x05 ∷ 0x58 ∷ 0x36 ∷ 0x1F ∷ 0xD1 ∷ 0xAF ∷ 0x77 ∷ 0xBF ∷ 0x59 ∷ 0x9A
    ∷ 0x77 ∷ 0xBF ∷ 0x59 ∷ 0x9A ∷ 0x36 ∷ 0x1F ∷ 0xD1 ∷ 0xAF ∷ 0x21 ∷ 0x04 ∷ 0x05 ∷ 0x58 ∷ []

-- FORMAT 12.16: crate, player on goal; crate, pit
abbrev pub pitted : ℕ → Level
pitted v = board v 2 (2 ∷ 6 ∷ 2 ∷ 7 ∷ [])

abbrev pub pitted_record : List ℕ
pitted_record = 0x21 ∷ 0x08 ∷ 0x05 ∷ 0x59 ∷ 0x70 ∷ []

abbrev pub pitted_strip : List ℕ
pitted_strip =
    0x21 ∷ 0x08 ∷ 0x05 ∷ 0x59 ∷ 0x70 ∷ 0x00 ∷ 0x00 ∷ 0x00 ∷ 0x04 ∷ 0x47 ∷ 0xC1 ∷ 0xA7 ∷ 0x26 ∷ 0x39
    ∷ 0x38 ∷ 0x34 ∷ 0x67 ∷ 0x64 ∷ 0xB0 ∷ 0x29 ∷ 0x52 ∷ 0x2C ∷ 0x9D ∷ 0x82 ∷ 0x46 ∷ 0x3E ∷ 0xD1 ∷ 0x61 ∷ []

-- of four lanes: nothing mended, the most, and each exact half that a legal length allows
abbrev pub worn : List Worn
worn =
    row 0 24 0
    ∷ row 8 24 33
    ∷ row 1 40 2
    ∷ row 1 200 0
    ∷ row 2 80 2
    ∷ row 3 24 12
    ∷ row 3 40 8
    ∷ row 3 120 2
    ∷ row 3 200 2
    ∷ row 4 32 12
    ∷ row 4 160 2
    ∷ row 5 40 12
    ∷ row 5 200 2
    ∷ row 6 48 12
    ∷ row 6 80 8
    ∷ row 6 240 2
    ∷ row 7 40 18
    ∷ row 7 56 12
    ∷ row 7 200 4
    ∷ row 7 280 2
    ∷ row 8 64 12
    ∷ row 8 320 2
    ∷ []

abbrev pub table : List Cell
table =
    product 0x02 0x8E 0x01
    ∷ product 0xCE 0xCE 0x8A
    ∷ product 0xCE 0xE6 0x4C
    ∷ gives (0x01 ∷ []) (0x01 ∷ 0xCE ∷ 0xE6 ∷ 0xE6 ∷ 0xCE ∷ 0x01 ∷ [])
    ∷ gives (0x02 ∷ []) (0x02 ∷ 0x81 ∷ 0xD1 ∷ 0xD1 ∷ 0x81 ∷ 0x02 ∷ [])
    ∷ gives (0x01 ∷ 0x00 ∷ []) (0x01 ∷ 0x00 ∷ 0x6C ∷ 0xAA ∷ 0x82 ∷ 0x8B ∷ 0xCE ∷ [])
    ∷ becomes none6 (0x00 ∷ 0xCE ∷ 0xE6 ∷ 0x00 ∷ 0x00 ∷ 0x00 ∷ []) (0 ∷ 0 ∷ 0 ∷ 0 ∷ 0 ∷ 0 ∷ []) 2 0
    ∷ refused none6 (0x01 ∷ 0xCE ∷ 0xE6 ∷ 0x00 ∷ 0x00 ∷ 0x00 ∷ [])
    ∷ becomes (0 ∷ 0 ∷ 0 ∷ 1 ∷ 0 ∷ 0 ∷ []) (0x01 ∷ 0xCE ∷ 0xE6 ∷ 0x00 ∷ 0x00 ∷ 0x00 ∷ []) (0x01 ∷ 0xCE ∷ 0xE6 ∷ 0xE6 ∷ 0xCE ∷ 0x01 ∷ []) 2 1
    ∷ becomes (0 ∷ 0 ∷ 0 ∷ 1 ∷ 0 ∷ 0 ∷ []) (0x01 ∷ 0xCE ∷ 0xE6 ∷ 0xFF ∷ 0xCE ∷ 0x01 ∷ []) (0x01 ∷ 0xCE ∷ 0xE6 ∷ 0xE6 ∷ 0xCE ∷ 0x01 ∷ []) 0 1
    ∷ becomes (0 ∷ 0 ∷ 0 ∷ 1 ∷ 0 ∷ 0 ∷ []) (0x01 ∷ 0xCE ∷ 0xE6 ∷ 0xE6 ∷ 0xCE ∷ 0x01 ∷ []) (0x01 ∷ 0xCE ∷ 0xE6 ∷ 0xE6 ∷ 0xCE ∷ 0x01 ∷ []) 0 0
    ∷ becomes (0 ∷ 1 ∷ 1 ∷ 1 ∷ 1 ∷ 1 ∷ []) (0x02 ∷ 0 ∷ 0 ∷ 0 ∷ 0 ∷ 0 ∷ []) (0x02 ∷ 0x81 ∷ 0xD1 ∷ 0xD1 ∷ 0x81 ∷ 0x02 ∷ []) 0 5
    ∷ becomes (0 ∷ 1 ∷ 1 ∷ 1 ∷ 1 ∷ 1 ∷ []) (0x02 ∷ 0x81 ∷ 0x00 ∷ 0x00 ∷ 0x00 ∷ 0x02 ∷ []) (0x02 ∷ 0x81 ∷ 0xD1 ∷ 0xD1 ∷ 0x81 ∷ 0x02 ∷ []) 0 3
    ∷ refused (1 ∷ 1 ∷ 1 ∷ 1 ∷ 1 ∷ 1 ∷ []) (0x02 ∷ 0 ∷ 0 ∷ 0 ∷ 0 ∷ 0 ∷ [])
    ∷ becomes none7 (0x00 ∷ 0x00 ∷ 0x6C ∷ 0xAA ∷ 0x82 ∷ 0x8B ∷ 0xCE ∷ []) (0x01 ∷ 0x00 ∷ 0x6C ∷ 0xAA ∷ 0x82 ∷ 0x8B ∷ 0xCE ∷ []) 1 0
    ∷ refused none6 (0x00 ∷ 0x6C ∷ 0xAA ∷ 0x82 ∷ 0x8B ∷ 0xCE ∷ [])
    ∷ lays 4 (finished 1) finished_record finished_strip
    ∷ no_level (finished 1) 10
    ∷ lays 4 (unfinished 1) unfinished_record unfinished_strip
    ∷ lays 2 (unfinished 1) unfinished_record unfinished_of_two
    ∷ lays 8 (unfinished 1) unfinished_record unfinished_of_eight
    ∷ level (unfinished 1)
    ∷ lays 4 (pitted 2) pitted_record pitted_strip
    ∷ level (pitted 2)
    ∷ no_level (pitted 1) 9
    ∷ lays 4 (unfinished 2) unfinished_record2 unfinished_strip2
    ∷ level (unfinished 2)
    ∷ no_record (0x31 ∷ 0x04 ∷ 0x05 ∷ 0x94 ∷ []) 7
    ∷ no_record (0x21 ∷ 0x04 ∷ 0x05 ∷ 0x94 ∷ []) 10
    ∷ wears worn
    ∷ []
