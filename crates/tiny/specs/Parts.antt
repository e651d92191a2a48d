-- Parts: a board stepped, what can no more become legal, and the search for the next.
use Rattle.std.specs.Prelude.{◌≡◌, Bool, true, false, Option, Some, None, List, ◌++◌, ℕ, ◌+◌, ◌≤◌, ◌<◌, length, get_or, take, drop}
use Rattle.level.specs.Sizes.{tiles_most}
use Rattle.level.specs.Tile.{totals}
use Rattle.level.specs.Level.{AllTiles, Playable}
use Rattle.tiles.specs.Sum.{weight}
use Rattle.tiny.specs.Tiny.{digits, number}

-- n tiles that keep the rule
pub record Ruled (n : ℕ) (b : List ℕ) : Type 0 where
  pub long : length b ≡ n
  pub codes : AllTiles 1 b
  pub fair : Playable 1 (totals b)

-- ---- a step

-- the number of the first k tiles is one more, or there is no greater one
pub record OneMore (k : ℕ) (old new : List ℕ) (r : Bool) : Type 0 where
  pub codes : AllTiles 1 new
  pub up : r ≡ true → digits k new ≡ digits k old + 1
  pub top : r ≡ false → (c : List ℕ) → AllTiles 1 c → digits k c ≤ digits k old

-- and the tiles behind them are as they were
pub record Stepped (k : ℕ) (old new : List ℕ) (r : Bool) : Type 0 where
  pub more : OneMore k old new r
  pub rest : (i : ℕ) → k ≤ i → get_or new i 0 ≡ get_or old i 0

-- or floor: it is the least number that has other first tiles
pub record Passed (k : ℕ) (old new : List ℕ) (r : Bool) : Type 0 where
  pub more : OneMore k old new r
  pub floor : (i : ℕ) → k ≤ i → get_or new i 0 ≡ 0

-- ---- what can no more become legal

-- no board keeps the rule of which the first tiles add x, with so many more
pub record Lost (x left : ℕ) : Type 0 where
  pub never : (front back : List ℕ) → x ≡ weight front → AllTiles 1 front → length front ≤ tiles_most → length back ≡ left
      → Playable 1 (totals (front ++ back)) → ⊥

-- no board with the first k tiles of this one keeps it
pub record StuckAt (b : List ℕ) (k : ℕ) : Type 0 where
  pub within : k ≤ length b
  pub never : (c : List ℕ) → Ruled (length b) c → ((i : ℕ) → i < k → get_or c i 0 ≡ get_or b i 0) → ⊥

-- or the board keeps the rule
abbrev pub Stuck : List ℕ → Option ℕ → Type 0
Stuck b (Some k) = StuckAt b k
Stuck b None = Playable 1 (totals b)

-- ---- the search

-- new is later than old, and no board between them keeps the rule
pub record NoneBetween (old new : List ℕ) : Type 0 where
  pub codes : AllTiles 1 new
  pub later : number old < number new
  pub least : (c : List ℕ) → Ruled (length old) c → number old < number c → number new ≤ number c

-- no later board keeps it
abbrev pub Over : List ℕ → Type 0
Over old = (c : List ℕ) → Ruled (length old) c → number old < number c → ⊥

-- what it finds: that new keeps the rule, or that none later does
abbrev pub Seeks : List ℕ → List ℕ → Bool → Type 0
Seeks old new true = NoneBetween old new × Playable 1 (totals new)
Seeks old new false = Over old

-- the next after the tiles `from` put in a buffer, of n tiles
pub record BoardPut (from old new : List ℕ) (n : ℕ) : Type 0 where
  pub size : n ≡ length from
  pub next : Seeks from (take (length from) new) true
  pub past : drop (length from) new ≡ drop (length from) old

-- or none
abbrev pub GoesOn : List ℕ → List ℕ → List ℕ → Option ℕ → Type 0
GoesOn from old new (Some n) = BoardPut from old new n
GoesOn from old new None = Over from × (new ≡ old)
