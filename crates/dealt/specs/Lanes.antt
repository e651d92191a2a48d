-- The lanes of a strip, for the crates above: their remainders, the errata of each, and their check cells. R lanes, over any field.
use Rattle.std.specs.Prelude.{◌≡◌, Option, List, ℕ, ◌+◌, ◌*◌, ◌-◌, ◌/◌, ◌%◌, ◌≤◌, ◌<◌, length, get_or, take}
use Rattle.account.specs.Field.{Ops}
use Rattle.account.specs.Code.{Cells, WordOf}
use Rattle.account.specs.Lanes.{lane}
use Rattle.gf256.specs.Gf256.{gf256}
use Rattle.remainder.specs.Remainder.{unpacked, Remains, LanesRemain}
use Rattle.values.specs.declared.Errata.{Errata}
use Rattle.errata.specs.Errata.{Gathered, SearchedAs}
use Rattle.code.specs.Lane.{lane_most}

module _ (O : Ops) (R : ℕ) where
  -- each lane of the first k columns of x is completed to a clean word by the five columns after them; the other cells are as they were
  pub record ChecksPut (k : ℕ) (x x' : List ℕ) : Type 0 where
    pub long : length x' ≡ length x
    pub words : (j : ℕ) → j < R → WordOf O (lane R j (take (R * k) x)) (lane R j (take (R * (k + 5)) x'))
    pub front : (p : ℕ) → p < R * k → get_or x' p 0 ≡ get_or x p 0
    pub past : (p : ℕ) → R * (k + 5) ≤ p → get_or x' p 0 ≡ get_or x p 0

-- ---- parts

-- r is the remainder of lane j of s
pub record LaneRemains (R j : ℕ) (s : List ℕ) (r : ℕ) : Type 0 where
  pub remains : Remains (lane R j s) r

-- the numbers of R lanes: number j is the remainder of lane j of s
pub record Remaindered (R : ℕ) (s r : List ℕ) : Type 0 where
  pub each : LanesRemain R s r

-- lane l of R, each of n cells
pub record LaneOf (R l n : ℕ) (s : List ℕ) : Type 0 where
  pub inside : l < R
  pub short : n ≤ lane_most
  pub full : length s ≡ R * n

-- cell p of the five columns after k columns, where c has the packed check bytes of each of R lanes
abbrev pub check_cell : ℕ → ℕ → List ℕ → ℕ → ℕ
check_cell R k c p = get_or (unpacked (get_or c (p % R) 0)) ((p - R * k) / R) 0

-- what a search found for every word w of n cells that has the remainder r, where the first f of `erased` are its marked cells
abbrev pub SearchedBy : ℕ → ℕ → List ℕ → ℕ → Option Errata → Type 0
SearchedBy r n erased f x =
    (marks : List ℕ) → length marks ≡ n → Gathered marks erased f → (w : List ℕ) → length w ≡ n → Cells gf256 w → Remains w r
    → SearchedAs marks w x
