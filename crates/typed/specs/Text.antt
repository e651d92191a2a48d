-- FORMAT 13: levels typed as text: which level a text says, and the text of a level.
use Rattle.std.specs.Prelude.{◌≡◌, cond, List, [], ◌∷◌, ◌++◌, map, ℕ, zero, suc, ◌+◌, ◌-◌, ◌/◌, ◌%◌, ◌≤◌, max, ltb, length, take, drop, replicate}
use Rattle.level.specs.Level.{Level}
use Rattle.typed.specs.Letters.{tile_of, letter_of}

-- ---- lines

-- FORMAT 13.1: lines, one after the other, each ended by a line feed
abbrev pub joined : List (List ℕ) → List ℕ
joined [] = []
joined (l ∷ ls) = l ++ 10 ∷ joined ls

-- ---- the first line

-- the last k digits of a number
abbrev pub digits : ℕ → ℕ → List ℕ
digits zero n = []
digits (suc k) n = digits k (n / 10) ++ (48 + n % 10) ∷ []

-- FORMAT 13.2: a number of at most four digits, in as many as it takes
unfoldable pub decimal : ℕ → List ℕ
decimal n = cond (ltb n 10) (digits 1 n) (cond (ltb n 100) (digits 2 n) (cond (ltb n 1000) (digits 3 n) (digits 4 n)))

-- FORMAT 13.2: `par`, a space and the par
abbrev pub first_line : ℕ → List ℕ
first_line par = 112 ∷ 97 ∷ 114 ∷ 32 ∷ decimal par

-- ---- rows

-- FORMAT 13.3: each byte of a row is a letter
abbrev pub Letters : List ℕ → Type 0
Letters [] = Unit {0}
Letters (c ∷ r) = (tile_of c ≤ 6) × Letters r

abbrev pub Rows : List (List ℕ) → Type 0
Rows [] = Unit {0}
Rows (r ∷ rs) = Letters r × Rows rs

-- FORMAT 13.4: the letters of the longest row
abbrev pub longest : List (List ℕ) → ℕ
longest [] = 0
longest (r ∷ rs) = max (length r) (longest rs)

-- FORMAT 13.5: the tiles of a row, filled with floor to a width
abbrev pub filled : ℕ → List ℕ → List ℕ
filled w r = map tile_of r ++ replicate (w - length r) 0

-- and those of all rows
abbrev pub board : ℕ → List (List ℕ) → List ℕ
board w [] = []
board w (r ∷ rs) = filled w r ++ board w rs

-- ---- what a text says

-- FORMAT 13.1 to 13.3: the text has this par and these rows
pub record Typed (text : List ℕ) (par : ℕ) (rows : List (List ℕ)) : Type 0 where
  pub par_small : par ≤ 1023
  pub letters : Rows rows
  pub is : text ≡ joined (first_line par ∷ rows)

-- FORMAT 9.11: the text has a par and rows
pub record IsText (text : List ℕ) : Type 0 where
  pub par : ℕ
  pub rows : List (List ℕ)
  pub has : Typed text par rows

-- FORMAT 13.4, 13.5: the level of a par and rows, as far as it is one
abbrev pub level_typed : ℕ → List (List ℕ) → Level
level_typed par rows = record { version = 1; width = longest rows; height = length rows; par = par; tiles = board (longest rows) rows }

-- FORMAT 13.8: the text says the level
pub record SaysLevel (text : List ℕ) (l : Level) : Type 0 where
  pub typed : IsText text
  pub says : l ≡ level_typed typed.par typed.rows

-- ---- the text of a level

-- FORMAT 13.6: h rows of w tiles each, in letters
abbrev pub rows_of : ℕ → ℕ → List ℕ → List (List ℕ)
rows_of w zero tiles = []
rows_of w (suc h) tiles = map letter_of (take w tiles) ∷ rows_of w h (drop w tiles)

-- FORMAT 13.6: the first line and the rows, each of full width
abbrev pub text_of : Level → List ℕ
text_of l = joined (first_line l.par ∷ rows_of l.width l.height l.tiles)

-- FORMAT 9.4: the bytes of the longest, that of 31 rows and a par of four digits
abbrev pub text_most : ℕ
text_most = 1001
