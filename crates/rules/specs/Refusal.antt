-- Refusals: rules asked in their order, and the number of the first that does not hold.
use Rattle.std.specs.Prelude.{◌≡◌, ◌⊎◌, List, [], ◌∷◌, ℕ, ◌≤◌, Result, Ok, Err}
use Rattle.rules.specs.declared.Refusal.{Refusal}
use Rattle.rules.specs.declared.Refusal.TheVariants as refusal

-- FORMAT 9.1 to 9.15: the number of a refusal
abbrev pub number_of : Refusal → ℕ
number_of refusal.Length = 1
number_of refusal.MarkCount = 2
number_of refusal.Mark = 3
number_of refusal.Buffer = 4
number_of refusal.Scratch = 5
number_of refusal.OutOfReach = 6
number_of refusal.Fields = 7
number_of refusal.Shape = 8
number_of refusal.TileCode = 9
number_of refusal.Board = 10
number_of refusal.Text = 11
number_of refusal.Rows = 12
number_of refusal.Unequal = 13
number_of refusal.NotTiny = 14
number_of refusal.LaneCount = 15

-- FORMAT 9.42: the code of an answer, 0 where there is a result
abbrev pub code_of : {A : Type 0} → Result A Refusal → ℕ
code_of (Ok a) = 0
code_of (Err r) = number_of r

-- what must hold, and the number of the refusal where it does not
pub record Rule : Type 1 where
  pub number : ℕ
  pub holds : Type 0

abbrev pub unless : ℕ → Type 0 → Rule
unless n P = record { number = n; holds = P }

-- FORMAT 9.41, 9.42: c is the number of the first rule that does not hold, and 0 where all do
abbrev pub First : List Rule → ℕ → Type 0
First [] c = c ≡ 0
First (r ∷ rs) c = ((r.holds → ⊥) × (c ≡ r.number)) ⊎ (r.holds × First rs c)

-- every rule holds
abbrev pub Hold : List Rule → Type 0
Hold [] = Unit {0}
Hold (r ∷ rs) = r.holds × Hold rs

-- ---- rules about a thing that is told of

-- what is asked of a thing, and the number of the refusal
pub record Question (A : Type 0) : Type 1 where
  pub number : ℕ
  pub asks : A → Type 0

-- the same, asked of what a thing gives
abbrev pub about : {A B : Type 0} → (B → A) → List (Question A) → List (Question B)
about f [] = []
about f (q ∷ qs) = record { number = q.number; asks = λ b. q.asks (f b) } ∷ about f qs

-- the questions as rules: `told` turns what is asked into what must hold
abbrev pub asked : {A : Type 0} → ((A → Type 0) → Type 0) → List (Question A) → List Rule
asked told [] = []
asked told (q ∷ qs) = unless q.number (told q.asks) ∷ asked told qs

-- ---- answers

-- FORMAT 9.43: the numbers that an answer brings: its refusal, 0 for none, and its value, 0 with a refusal
pub record Numbers : Type 0 where
  pub code : ℕ
  pub value : ℕ

abbrev pub done : ℕ → Numbers
done v = record { code = 0; value = v }

abbrev pub refused : ℕ → Numbers
refused c = record { code = c; value = 0 }

-- of an answer that is a length
abbrev pub written_numbers : Result ℕ Refusal → Numbers
written_numbers (Ok n) = done n
written_numbers (Err r) = refused (number_of r)

-- a length from a to b
pub record Within (a b n : ℕ) : Type 0 where
  pub from : a ≤ n
  pub to : n ≤ b
