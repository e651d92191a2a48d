-- What errata are, which values they have at listed cells, and what the parts of their making promise each other.
use Rattle.std.specs.Prelude.{◌≡◌, List, ◌∷◌, map, ℕ, suc, ◌+◌, ◌<◌, ◌≤◌, length, get_or, take}
use Rattle.std.specs.Int.Bits.{bit_xor}
use Rattle.std.proofs.Math.Seq.{slice}
use Rattle.account.specs.Errata.{Below, Distinct, total, divided, solve, unweighed}
use Rattle.account.specs.Search.{erasures}
use Rattle.gf256.specs.Gf256.{gf256, times}
use Rattle.gf256.specs.Tables.{place_of, inverse_of}
use Rattle.values.specs.declared.Errata.{Errata}

-- the sums that a syndrome holds, counted from 0
abbrev pub at : List ℕ → ℕ → ℕ
at s m = get_or s m 0

-- the first k of five are cells of a word of n, no two alike
pub record Listed (n : ℕ) (cells : List ℕ) (k : ℕ) : Type 0 where
  pub short : n ≤ 255
  pub room : length cells ≡ 5
  pub few : k ≤ 5
  pub below : Below (take k cells) n
  pub distinct : Distinct (take k cells)

-- the first k cells, with the values that give the sums s
pub record Valued (n : ℕ) (cells : List ℕ) (k : ℕ) (s : List ℕ) (e : Errata) : Type 0 where
  pub count : e.count ≡ k
  pub same_cells : e.cells ≡ cells
  pub room : length e.values ≡ 5
  pub values : take k e.values ≡ unweighed gf256 (map (place_of n) (take k cells)) (solve gf256 inverse_of (map (place_of n) (take k cells)) (at s))

-- the first f cells are the marked ones, the last first
pub record Gathered (marks cells : List ℕ) (f : ℕ) : Type 0 where
  pub room : length cells ≡ 5
  pub list : take f cells ≡ erasures marks

abbrev pub cells_of : Errata → List ℕ
cells_of e = take e.count e.cells

abbrev pub values_of : Errata → List ℕ
values_of e = take e.count e.values

-- e is for a word of n: at most five cells of it, no two alike
pub record ErrataFor (n : ℕ) (e : Errata) : Type 0 where
  pub few : e.count ≤ 5
  pub room : length e.cells ≡ 5
  pub values_room : length e.values ≡ 5
  pub below : Below (cells_of e) n
  pub distinct : Distinct (cells_of e)

-- ---- parts

-- x filtered out of the sums s at i .. k - 1, all but the first of them
pub record Sieved (x i k : ℕ) (s r : List ℕ) : Type 0 where
  pub room : length r ≡ 5
  pub sum : (m : ℕ) → i ≤ m → suc m < k → at r (suc m) ≡ bit_xor (at s (suc m)) (times x (at s m))

-- the values at the cells after i, divided, and before them what is left of the first sum
abbrev pub Divided : ℕ → List ℕ → ℕ → ℕ → List ℕ → ℕ → List ℕ → Type 0
Divided n cells i k v s0 r =
    slice i k r ≡ bit_xor s0 (total gf256 (divided gf256 inverse_of (place_of n (get_or cells i 0)) (map (place_of n) (slice (i + 1) k cells)) (slice (i + 1) k v)))
    ∷ divided gf256 inverse_of (place_of n (get_or cells i 0)) (map (place_of n) (slice (i + 1) k cells)) (slice (i + 1) k v)

-- the values at the cells from i on that give the sums s from i on
abbrev pub Solved : ℕ → List ℕ → ℕ → ℕ → List ℕ → List ℕ → Type 0
Solved n cells i k s r = slice i k r ≡ solve gf256 inverse_of (map (place_of n) (slice i k cells)) (λ m. at s (i + m))

abbrev pub Unweighed : ℕ → List ℕ → ℕ → List ℕ → List ℕ → Type 0
Unweighed n cells k u r = take k r ≡ unweighed gf256 (map (place_of n) (take k cells)) (take k u)
