-- FORMAT 3.1, 3.2: marks tallied and listed, and errata counted beside them, for the crates above.
use Rattle.std.specs.Prelude.{◌≡◌, ◌≢◌, Bool, not, List, [], ◌∷◌, Option, Some, None, ℕ, ◌+◌, ◌≤◌, ◌<◌, eqb, length, set}
use Rattle.account.specs.Lanes.{lane}
use Rattle.account.specs.Reach.{count_to, is_marked, is_read, one_if, and, GoodMarks}
use Rattle.values.specs.Values.{Gathered}
use Rattle.marks.specs.declared.Listed.{Listed}
use Rattle.marks.specs.declared.Counts.{Counts}

-- how many marks are set, where each is at most 1; nothing where one is above
abbrev pub Tallied : List ℕ → Option ℕ → Type 0
Tallied marks (Some f) = GoodMarks marks × (f ≡ count_to (is_marked marks) (length marks))
Tallied marks None = GoodMarks marks → ⊥

-- at most five marked cells, all there are, the last first
pub record AllOf (marks : List ℕ) (r : Listed) : Type 0 where
  pub few : r.count ≤ 5
  pub list : Gathered marks r.cells r.count
  pub count : r.count ≡ count_to (is_marked marks) (length marks)

-- the marked cells of lane l of R; nothing where there are more than five
abbrev pub ListedIn : ℕ → ℕ → List ℕ → Option Listed → Type 0
ListedIn R l marks (Some r) = AllOf (lane R l marks) r
ListedIn R l marks None = 5 < count_to (is_marked (lane R l marks)) (length (lane R l marks))

-- ---- parts

-- the marks or-ed together: at most 1 just where each is, and zero only where none is set
pub record AnyOf (marks : List ℕ) (a : ℕ) : Type 0 where
  pub good : a ≤ 1 → GoodMarks marks
  pub bad : GoodMarks marks → a ≤ 1
  pub none : a ≡ 0 → count_to (is_marked marks) (length marks) ≡ 0

-- their sum counts those that are set, where each is at most 1
pub record SumOf (marks : List ℕ) (x : ℕ) : Type 0 where
  pub count : GoodMarks marks → x ≡ count_to (is_marked marks) (length marks)

-- i is put after the first k of p, and counts if its mark is set
pub record Pushed (mark i : ℕ) (p : List ℕ) (k : ℕ) (q : List ℕ) (r : ℕ) : Type 0 where
  pub none : mark ≡ 0 → r ≡ k
  pub some : mark ≢ 0 → r ≡ k + 1
  pub put : q ≡ set p k i

-- how many of the errata change a cell that f takes
abbrev pub counted_of : (ℕ → Bool) → List ℕ → List ℕ → ℕ
counted_of f [] vs = 0
counted_of f (p ∷ ps) [] = 0
counted_of f (p ∷ ps) (v ∷ vs) = one_if (and (f p) (not (eqb v 0))) + counted_of f ps vs

-- the counts c with an erratum more, which adds v at cell p
pub record CountsOne (marks : List ℕ) (p v : ℕ) (c r : Counts) : Type 0 where
  pub mended : r.mended ≡ c.mended + one_if (and (is_read marks p) (not (eqb v 0)))
  pub repainted : r.repainted ≡ c.repainted + one_if (and (is_marked marks p) (not (eqb v 0)))

-- the errata counted: those that change an unmarked cell, and those that change a marked one
pub record CountsAll (marks ps vs : List ℕ) (c : Counts) : Type 0 where
  pub mended : c.mended ≡ counted_of (is_read marks) ps vs
  pub repainted : c.repainted ≡ counted_of (is_marked marks) ps vs
