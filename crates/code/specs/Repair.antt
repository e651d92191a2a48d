-- FORMAT 4: repair of a word.
use Rattle.std.specs.Prelude.{◌≡◌, ◌≢◌, Result, Ok, Err, List, [], ◌∷◌, ◌++◌, ℕ, ◌≤◌, length}
use Rattle.account.specs.Field.{Ops}
use Rattle.account.specs.Code.{Cells, Clean}
use Rattle.account.specs.Reach.{count_to, is_marked, differing, repainted, Reach, GoodMarks, Reachable}
use Rattle.rules.specs.declared.Refusal.{Refusal}
use Rattle.rules.specs.Refusal.{Rule, unless, First, Hold, Within, number_of}
use Rattle.marks.specs.declared.Counts.{Counts}
use Rattle.code.specs.Word.{word_most}

-- FORMAT 4.3, 4.6, 9.43: the numbers of an answer: its refusal, 0 for none; how many unmarked cells were mended, and how many marked ones
-- repainted, both 0 with a refusal
pub record RepairNumbers : Type 0 where
  pub code : ℕ
  pub mended : ℕ
  pub repainted : ℕ

abbrev pub repaired_numbers : Result Counts Refusal → RepairNumbers
repaired_numbers (Ok c) = record { code = 0; mended = c.mended; repainted = c.repainted }
repaired_numbers (Err r) = record { code = number_of r; mended = 0; repainted = 0 }

-- FORMAT 9.1 to 9.3: a word of n bytes with m marks is entered. 1: its length is not 6 to the most; 2: the marks are not as many; 3: a mark is above 1
abbrev pub entering_word : ℕ → ℕ → ℕ → List ℕ → List Rule
entering_word most n m marks = unless 1 (Within 6 most n) ∷ unless 2 (m ≡ n) ∷ unless 3 (GoodMarks marks) ∷ []

-- FORMAT 9.6: and repaired. 6: no clean word is within reach
abbrev pub repairing : Ops → ℕ → ℕ → ℕ → List ℕ → List ℕ → List Rule
repairing O most n m marks r = entering_word most n m marks ++ unless 6 (Reachable O marks r) ∷ []

-- FORMAT 4.1 to 4.3, 4.6, 10.2: the word `old`, said to have n bytes and m marks, becomes `new`, the clean word within reach, and what differs is
-- told. With a refusal it is kept.
pub record Repairs (O : Ops) (most n m : ℕ) (marks old new : List ℕ) (a : Result Counts Refusal) : Type 0 where
  pub code : First (repairing O most n m marks old) (repaired_numbers a).code
  pub cells : (repaired_numbers a).code ≡ 0 → Cells O new
  pub clean : (repaired_numbers a).code ≡ 0 → Clean O new
  pub reach : (repaired_numbers a).code ≡ 0 → Reach marks old new
  pub mended_is : (repaired_numbers a).code ≡ 0 → (repaired_numbers a).mended ≡ differing marks old new
  pub repainted_is : (repaired_numbers a).code ≡ 0 → (repaired_numbers a).repainted ≡ repainted marks old new
  pub kept : (repaired_numbers a).code ≢ 0 → new ≡ old

-- FORMAT 8.5: the repair of a word of at most so many bytes, in place
abbrev pub RepairsAs : Ops → ℕ → List ℕ → List ℕ → List ℕ → Result Counts Refusal → Type 0
RepairsAs O most marks old new a = Repairs O most (length old) (length marks) marks old new a

-- ---- parts

-- refusals 1 to 3 of a word of n, or how many of its cells are marked
abbrev pub WordEntersAs : ℕ → List ℕ → Result ℕ Refusal → Type 0
WordEntersAs n marks (Ok f) = Hold (entering_word word_most n (length marks) marks) × (f ≡ count_to (is_marked marks) (length marks))
WordEntersAs n marks (Err r) = First (entering_word word_most n (length marks) marks) (number_of r)

-- what the search goes on with: a word of n with its marks, f of them set
pub record Searchable (n : ℕ) (marks : List ℕ) (f : ℕ) : Type 0 where
  pub matched : n ≡ length marks
  pub short : length marks ≤ word_most
  pub count : f ≡ count_to (is_marked marks) (length marks)
