-- FORMAT 5: levels, each a version, a width, a height, a par and a tile code for each place, within the ranges and the rule of the version.
use Rattle.std.specs.Prelude.{◌≡◌, cond, ℕ, ◌*◌, ◌≤◌, ◌<◌, List, [], ◌∷◌, ltb, length, get_or}
use Rattle.rules.specs.Refusal.{Question, Within}
use Rattle.level.specs.Tile.{Row, totals}

-- FORMAT 5.3, 5.4: the tiles stand row by row; the version is that of its record, 6.4
pub record Level : Type 0 where
  pub version : ℕ
  pub width : ℕ
  pub height : ℕ
  pub par : ℕ
  pub tiles : List ℕ

-- ---- what a version allows

-- FORMAT 6.4: the versions that there are, 1 and 2
abbrev pub newest : ℕ
newest = 2

abbrev pub Known : ℕ → Type 0
Known = Within 1 newest

-- FORMAT 5.7: the greatest tile code: that of player on goal, and from version 2 on that of the pit
abbrev pub code_most : ℕ → ℕ
code_most v = cond (ltb v 2) 6 7

-- FORMAT 5.8 to 5.10, 5.13: the rule over what the tiles add. Crates do not fall short of goals; before version 2 they do not outnumber them either.
pub record Playable (v : ℕ) (r : Row) : Type 0 where
  pub one_player : r.player ≡ 1
  pub some_crate : 1 ≤ r.crate'
  pub enough : r.goal ≤ r.crate'
  pub as_many : v < 2 → r.crate' ≡ r.goal
  pub unfinished : 1 ≤ r.off

-- ---- what is asked of a level

-- FORMAT 5.5: width and height are 1 to 31
pub record Sized (w h : ℕ) : Type 0 where
  pub wide : 1 ≤ w
  pub not_wider : w ≤ 31
  pub high : 1 ≤ h
  pub not_higher : h ≤ 31

-- FORMAT 5.5, 5.6, 6.4: version, size and par are within their ranges
pub record Ranged (l : Level) : Type 0 where
  pub known : Known l.version
  pub sized : Sized l.width l.height
  pub par_small : l.par ≤ 1023

-- FORMAT 5.3: there are as many tiles as the size has places
abbrev pub Counted : Level → Type 0
Counted l = length l.tiles ≡ l.width * l.height

-- FORMAT 5.7: each tile code is one of the version
abbrev pub AllTiles : ℕ → List ℕ → Type 0
AllTiles v ts = (i : ℕ) → i < length ts → get_or ts i 0 ≤ code_most v

abbrev pub Coded : Level → Type 0
Coded l = AllTiles l.version l.tiles

-- FORMAT 5.8 to 5.10, 5.13: the board keeps the rule
abbrev pub Fair : Level → Type 0
Fair l = Playable l.version (totals l.tiles)

-- FORMAT 5.3: l is a level
pub record IsLevel (l : Level) : Type 0 where
  pub ranged : Ranged l
  pub count : Counted l
  pub codes : Coded l
  pub playable : Fair l

-- ---- the refusals of what is no level

-- FORMAT 9.7: within the ranges, and of a version that is taken. A reader or writer takes every version up to one of them, which is 1 or the newest.
pub record Taken (upto : ℕ) (l : Level) : Type 0 where
  pub ranged : Ranged l
  pub not_newer : l.version ≤ upto

-- FORMAT 9.10: for readers and writers alike, of texts too
abbrev pub ruling : Question Level
ruling = record { number = 10; asks = Fair }

-- FORMAT 9.9, 9.10: for readers and writers alike
abbrev pub boarding : List (Question Level)
boarding = record { number = 9; asks = Coded } ∷ ruling ∷ []

-- FORMAT 9.7 to 9.10: of a level that is lent to a writer of versions up to this one
abbrev pub lending : ℕ → List (Question Level)
lending upto = record { number = 7; asks = Taken upto } ∷ record { number = 8; asks = Counted } ∷ boarding
