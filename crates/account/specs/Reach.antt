-- FORMAT 3: marks, differences and reach.
use Rattle.std.specs.Prelude.{Bool, true, false, not, ◌≡◌, List, ℕ, zero, suc, ◌+◌, ◌*◌, ◌≤◌, ◌<◌, eqb, length, get_or}
use Rattle.account.specs.Field.{Ops}
use Rattle.account.specs.Code.{Cells, Clean}

abbrev pub one_if : Bool → ℕ
one_if true = 1
one_if false = 0

abbrev pub and : Bool → Bool → Bool
and true b = b
and false b = false

-- how many of 0 .. n - 1 pass
unfoldable pub count_to : (ℕ → Bool) → ℕ → ℕ
count_to f zero = 0
count_to f (suc n) = count_to f n + one_if (f n)

-- FORMAT 3.1: each mark is 0 or 1
abbrev pub GoodMarks : List ℕ → Type 0
GoodMarks marks = (p : ℕ) → p < length marks → get_or marks p 0 ≤ 1

-- FORMAT 3.1: no cell is marked
abbrev pub NoMarks : List ℕ → Type 0
NoMarks marks = (p : ℕ) → get_or marks p 0 ≡ 0

-- FORMAT 3.1: cell p is marked: 0 is read, 1 unreadable
abbrev pub is_marked : List ℕ → ℕ → Bool
is_marked marks p = not (eqb (get_or marks p 0) 0)

-- FORMAT 3.1: or it is read
abbrev pub is_read : List ℕ → ℕ → Bool
is_read marks p = not (is_marked marks p)

-- w and r differ in cell p
abbrev pub differs : List ℕ → List ℕ → ℕ → Bool
differs r w p = not (eqb (get_or w p 0) (get_or r p 0))

-- and the cell is read
abbrev pub differs_at : List ℕ → List ℕ → List ℕ → ℕ → Bool
differs_at marks r w p = and (is_read marks p) (differs r w p)

-- or it is marked
abbrev pub repainted_at : List ℕ → List ℕ → List ℕ → ℕ → Bool
repainted_at marks r w p = and (is_marked marks p) (differs r w p)

-- FORMAT 3.2: f, how many cells are marked
abbrev pub marked : List ℕ → List ℕ → ℕ
marked marks r = count_to (is_marked marks) (length r)

-- FORMAT 3.3: e, how many of the others differ
abbrev pub differing : List ℕ → List ℕ → List ℕ → ℕ
differing marks r w = count_to (differs_at marks r w) (length r)

-- FORMAT 3.11: how many of the marked differ
abbrev pub repainted : List ℕ → List ℕ → List ℕ → ℕ
repainted marks r w = count_to (repainted_at marks r w) (length r)

-- FORMAT 3.4: w is within reach of r: a marked cell counts one, a wrong one two, and five are mended
pub record Reach (marks r w : List ℕ) : Type 0 where
  pub same_length : length w ≡ length r
  pub few : 2 * differing marks r w + marked marks r ≤ 5

-- FORMAT 3.6: r and s are the same but for the bytes under marks
pub record SameRead (marks r s : List ℕ) : Type 0 where
  pub same_length : length r ≡ length s
  pub read : (p : ℕ) → is_marked marks p ≡ false → get_or r p 0 ≡ get_or s p 0

-- FORMAT 3.4: a clean word of the field within reach of r
pub record Reachable (O : Ops) (marks r : List ℕ) : Type 0 where
  pub word : List ℕ
  pub cells : Cells O word
  pub clean : Clean O word
  pub reach : Reach marks r word
