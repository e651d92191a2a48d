-- FORMAT 5.1, 5.2: what tiles add, as one number; rows are packed, and summed over a board.
use Rattle.std.specs.Prelude.{◌≡◌, List, [], ◌∷◌, ℕ, zero, suc, ◌+◌, ◌*◌, ◌-◌, ◌/◌, ◌%◌, ◌≤◌, ◌<◌, length}
use Rattle.account.specs.Lists.{sum_of}
use Rattle.level.specs.Record.{bit_at, field_at}
use Rattle.tiles.specs.Part.{tiles_from}
-- a row as one number, and what a tile adds
pub use Rattle.triples.specs.Weights.{packed, weighed}

unfoldable pub weight : List ℕ → ℕ
weight [] = 0
weight (t ∷ ts) = weighed t + weight ts

-- the sum of the tiles of a record's part, however many there are before its filling
pub record PartSummed (part : List ℕ) (r : ℕ) : Type 0 where
  pub sum : (m : ℕ) → 3 * m ≤ 8 * length part → ((p : ℕ) → 3 * m ≤ p → p < 8 * length part → bit_at part p ≡ 0) → r ≡ weight (tiles_from part m)

-- ---- parts

-- what tile t of a part adds
abbrev pub adds_at : List ℕ → ℕ → ℕ
adds_at part t = weighed (field_at part (3 * t) 3)

-- what all its groups of eight tiles add, the last of them perhaps cut short or not there
pub record Counted (part : List ℕ) (r : ℕ) : Type 0 where
  pub all : r ≡ sum_of (8 * (length part / 3 + 1)) (adds_at part)
  pub small : r ≤ 9007199254740992 * (length part / 3 + 1)

-- what its groups from g on add
pub record CountedFrom (part : List ℕ) (g r : ℕ) : Type 0 where
  pub rest : sum_of (8 * g) (adds_at part) + r ≡ sum_of (8 * (length part / 3 + 1)) (adds_at part)
  pub small : r ≤ 9007199254740992 * (length part / 3 + 1 - g)

-- what n times three tiles add, the last three in the lowest nine bits, where a tile adds w
unfoldable pub triples_of : (ℕ → ℕ) → ℕ → ℕ → ℕ
triples_of w zero v = 0
triples_of w (suc n) v = w (v % 512 / 64) + w (v % 512 / 8 % 8) + w (v % 512 % 8) + triples_of w n (v / 512)

-- what n pairs of tiles add, the last pair in the lowest six bits, where a tile adds w
unfoldable pub pairs_of : (ℕ → ℕ) → ℕ → ℕ → ℕ
pairs_of w zero v = 0
pairs_of w (suc n) v = w (v % 64 / 8) + w (v % 64 % 8) + pairs_of w n (v / 64)
