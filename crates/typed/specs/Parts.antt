-- Parts: a text seen byte by byte.
use Rattle.std.specs.Prelude.{◌≡◌, cond, Option, Some, None, List, [], ◌∷◌, ◌++◌, ℕ, zero, suc, ◌+◌, ◌*◌, ◌-◌, ◌≤◌, max, eqb, ltb, length, get_or, take, set}
use Rattle.level.specs.Sizes.{tiles_most}
use Rattle.typed.specs.Letters.{tile_of}
use Rattle.typed.specs.Text.{joined, first_line, Rows, longest, board}
use Rattle.typed.specs.declared.line.Line.{Line}
use Rattle.typed.specs.declared.head.Head.{Head}
use Rattle.typed.specs.declared.rows.Seen.{Seen}
use Rattle.typed.specs.declared.rows.Spot.{Spot}

-- ---- the first line

-- with its line feed
abbrev pub line_of : ℕ → List ℕ
line_of par = first_line par ++ 10 ∷ []

-- the first line of a par in a line's bytes
pub record LineIs (par : ℕ) (r : Line) : Type 0 where
  pub size : r.len ≡ length (line_of par)
  pub short : r.len ≤ 9
  pub is : take r.len r.bytes ≡ line_of par

-- the number that at most k digits spell, after the digits of v
abbrev pub spelled : ℕ → ℕ → List ℕ → ℕ
spelled zero v s = v
spelled (suc k) v [] = v
spelled (suc k) v (c ∷ s) = cond (ltb c 48) v (cond (ltb 57 c) v (spelled k (v * 10 + (c - 48)) s))

-- a text starts with a line
abbrev pub Starts : List ℕ → List ℕ → Type 0
Starts line text = take (length line) text ≡ line

-- the par of a text, and where its rows begin
pub record Headed (text : List ℕ) (h : Head) : Type 0 where
  pub small : h.par ≤ 1023
  pub size : h.from ≡ length (line_of h.par)
  pub starts : Starts (line_of h.par) text

-- and none where no first line is right
abbrev pub HeadIs : List ℕ → Option Head → Type 0
HeadIs text (Some h) = Headed text h
HeadIs text None = (par : ℕ) → par ≤ 1023 → Starts (line_of par) text → ⊥

-- ---- rows seen

-- 1 for a byte that is no letter, else 0
abbrev pub foreign : ℕ → ℕ
foreign c = cond (ltb (tile_of c) 7) 0 1

-- the bytes of rows, one after the other: those that are foreign, the rows ended, the letters since, the longest row that ended
abbrev pub seen_next : Seen → ℕ → Seen
seen_next s c =
    cond (eqb c 10) (record { foreign = s.foreign; rows = s.rows + 1; column = 0; longest = max s.longest s.column })
    (record { foreign = s.foreign + foreign c; rows = s.rows; column = s.column + 1; longest = s.longest })

abbrev pub seen_in : Seen → List ℕ → Seen
seen_in s [] = s
seen_in s (c ∷ cs) = seen_in (seen_next s c) cs

-- the bytes are rows
pub record IsRows (body : List ℕ) : Type 0 where
  pub rows : List (List ℕ)
  pub letters : Rows rows
  pub is : body ≡ joined rows

-- of that width and height
pub record Shown (body : List ℕ) (w h : ℕ) : Type 0 where
  pub has : IsRows body
  pub width : w ≡ longest has.rows
  pub height : h ≡ length has.rows

-- what was seen of bytes: rows, or none
pub record SeenAs (body : List ℕ) (r : Seen) : Type 0 where
  pub shown : r.foreign ≡ 0 → r.column ≡ 0 → Shown body r.longest r.rows
  pub none : IsRows body → (r.foreign ≡ 0) × (r.column ≡ 0)

-- ---- rows laid out

-- rows that are not wider than w, and a board that has room for them and is floor
pub record Layable (body : List ℕ) (w : ℕ) (floor : List ℕ) : Type 0 where
  pub has : IsRows body
  pub narrow : longest has.rows ≤ w
  pub not_wider : w ≤ 31
  pub room : w * length has.rows ≤ length floor
  pub few : length floor ≤ tiles_most
  pub is_floor : (p : ℕ) → get_or floor p 0 ≡ 0

-- the tiles of the rows stand in front
pub record LaidOut (body : List ℕ) (w : ℕ) (new : List ℕ) : Type 0 where
  pub laid : (b : IsRows body) → take (w * length b.rows) new ≡ board w b.rows

-- a byte placed: a line feed goes to the next row, a letter puts its tile
pub record PlacedAs (c w : ℕ) (at : Spot) (old new : List ℕ) (r : Spot) : Type 0 where
  pub feed : c ≡ 10 → (new ≡ old) × (r ≡ record { base = at.base + w; column = 0 })
  pub letter : (c ≡ 10 → ⊥) → (new ≡ set old (at.base + at.column) (tile_of c)) × (r ≡ record { base = at.base; column = at.column + 1 })
