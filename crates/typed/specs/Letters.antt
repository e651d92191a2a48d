-- FORMAT 13.3: the letters that rows are typed in.
use Rattle.std.specs.Prelude.{cond, List, [], ◌∷◌, ℕ, eqb}

-- a letter, and the code of the tile that it stands for
pub record Letter : Type 0 where
  pub letter : ℕ
  pub tile : ℕ

abbrev stands : ℕ → ℕ → Letter
stands c t = record { letter = c; tile = t }

-- floor -, wall #, crate $, goal ., crate on goal *, player @, player on goal +, and a space for floor too
abbrev pub letters : List Letter
letters = stands 45 0 ∷ stands 35 1 ∷ stands 36 2 ∷ stands 46 3 ∷ stands 42 4 ∷ stands 64 5 ∷ stands 43 6 ∷ stands 32 0 ∷ []

-- the tile of a letter; 7, which is no tile code, of any other byte
abbrev pub tile_in : List Letter → ℕ → ℕ
tile_in [] c = 7
tile_in (l ∷ ls) c = cond (eqb l.letter c) l.tile (tile_in ls c)

unfoldable pub tile_of : ℕ → ℕ
tile_of c = tile_in letters c

-- the first letter of a tile
abbrev pub letter_in : List Letter → ℕ → ℕ
letter_in [] t = 0
letter_in (l ∷ ls) t = cond (eqb l.tile t) l.letter (letter_in ls t)

unfoldable pub letter_of : ℕ → ℕ
letter_of t = letter_in letters t
