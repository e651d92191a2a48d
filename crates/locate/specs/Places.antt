-- What locating wrong cells promises, and what its parts promise each other.
use Rattle.std.specs.Prelude.{◌≡◌, ◌≢◌, Option, Some, None, List, ◌∷◌, [], map, ℕ, suc, ◌+◌, ◌-◌, ◌<◌, length}
use Rattle.std.specs.Int.Bits.{bit_xor}
use Rattle.account.specs.Field.{power}
use Rattle.account.specs.Errata.{Outside, filt}
use Rattle.account.specs.Search.{Zeros, Fits, Splits, Quadratic}
use Rattle.gf256.specs.Gf256.{gf256, times}
use Rattle.gf256.specs.Tables.{place_of}
use Rattle.values.specs.Values.{at}
use Rattle.locate.specs.declared.Pair.{Pair}

-- all five are bytes
abbrev pub Bytes5 : List ℕ → Type 0
Bytes5 s = (m : ℕ) → at s m < 256

-- ---- the filter

pub record Filtered (x : ℕ) (s r : List ℕ) : Type 0 where
  pub sum : (m : ℕ) → m < 4 → at r m ≡ bit_xor (at s (suc m)) (times x (at s m))

-- the cells ps of a word of n filtered out of s
pub record Drained (n : ℕ) (ps s r : List ℕ) : Type 0 where
  pub sum : (m : ℕ) → m + length ps < 5 → at r m ≡ filt gf256 (map (place_of n) ps) (at s) m

-- ---- wrong cells, of a word of n of which the cells ps are marked

-- p is an unmarked cell whose place is x
pub record IsCell (x n : ℕ) (ps : List ℕ) (p : ℕ) : Type 0 where
  pub below : p < n
  pub place : place_of n p ≡ x
  pub unmarked : Outside ps p

-- such a cell, or that there is none
abbrev pub CellAt : ℕ → ℕ → List ℕ → Option ℕ → Type 0
CellAt x n ps (Some p) = IsCell x n ps p
CellAt x n ps None = (p : ℕ) → IsCell x n ps p → ⊥

abbrev pub NoneAlone : List ℕ → ℕ → ℕ → List ℕ → Type 0
NoneAlone t k n ps = (p : ℕ) → p < n → Fits gf256 n ps (at t) k (p ∷ []) → ⊥

-- a cell that fits alone, or that none does
abbrev pub One : List ℕ → ℕ → ℕ → List ℕ → Option ℕ → Type 0
One t k n ps (Some p) = (p < n) × Fits gf256 n ps (at t) k (p ∷ [])
One t k n ps None = NoneAlone t k n ps

-- p and q are two cells that fit together
pub record Couple (t : List ℕ) (k n : ℕ) (ps : List ℕ) (p q : ℕ) : Type 0 where
  pub below_p : p < n
  pub below_q : q < n
  pub apart : p ≢ q
  pub fits : Fits gf256 n ps (at t) k (p ∷ q ∷ [])

abbrev pub NoCouple : List ℕ → ℕ → ℕ → List ℕ → Type 0
NoCouple t k n ps = (p q : ℕ) → p < n → q < p → Fits gf256 n ps (at t) k (p ∷ q ∷ []) → ⊥

-- two cells that fit together, or that no two do
abbrev pub Two : List ℕ → ℕ → ℕ → List ℕ → Option Pair → Type 0
Two t k n ps (Some r) = Couple t k n ps r.p r.q
Two t k n ps None = NoCouple t k n ps

-- the unmarked cells of the places x and y, where those leave the first k sums nothing; or that there are none
abbrev pub Both : ℕ → ℕ → List ℕ → ℕ → ℕ → List ℕ → Option Pair → Type 0
Both x y t k n ps (Some r) = IsCell x n ps r.p × IsCell y n ps r.q × Zeros k (filt gf256 (x ∷ y ∷ []) (at t))
Both x y t k n ps None = (p q : ℕ) → IsCell x n ps p → IsCell y n ps q → Zeros k (filt gf256 (x ∷ y ∷ []) (at t)) → ⊥

abbrev pub Split : ℕ → ℕ → ℕ → Type 0
Split = Splits gf256

abbrev pub Places : List ℕ → ℕ → ℕ → Type 0
Places t = Quadratic gf256 (at t)

-- y is x times the power r of α
pub record Ratio (x y r : ℕ) : Type 0 where
  pub small : r < 255
  pub is : times (power gf256 2 r) x ≡ y

-- each of the sums is the one before times the power i of α
abbrev pub Climbs : List ℕ → ℕ → Type 0
Climbs s i = Zeros 4 (filt gf256 (power gf256 2 i ∷ []) (at s))

-- something is wrong
abbrev pub NotNone : List ℕ → ℕ → Type 0
NotNone t f = Zeros (5 - f) (at t) → ⊥
