-- FORMAT 16: the legal boards of a tiny size, one after another.
use Rattle.std.specs.Prelude.{◌≡◌, Bool, true, false, List, [], ◌∷◌, ℕ, zero, suc, ◌+◌, ◌*◌, ◌≤◌, ◌<◌, length, get_or, take, drop, Option, Some, None, Result, Ok, Err}
use Rattle.rules.specs.declared.Refusal.{Refusal}
use Rattle.rules.specs.Refusal.{Rule, unless, First, Numbers, number_of, done, refused}
use Rattle.level.specs.Sizes.{tiles_most}
use Rattle.level.specs.Level.{IsLevel, Counted, Coded}
use Rattle.level.specs.Writing.{lent}

-- FORMAT 16.1: a size of at most six tiles
abbrev pub tiny_most : ℕ
tiny_most = 6

pub record Tiny (w h : ℕ) : Type 0 where
  pub wide : 1 ≤ w
  pub high : 1 ≤ h
  pub few : w * h ≤ tiny_most

-- FORMAT 16.2: a legal board of that size: with par 0 it is a level
abbrev pub LegalBoard : ℕ → ℕ → List ℕ → Type 0
LegalBoard w h b = IsLevel (lent 1 w h 0 b)

-- FORMAT 16.3: the first n tiles as one number in base 7, the first of them highest
unfoldable pub digits : ℕ → List ℕ → ℕ
digits zero b = 0
digits (suc n) b = 7 * digits n b + get_or b n 0

abbrev pub number : List ℕ → ℕ
number b = digits (length b) b

-- ---- one after another

-- FORMAT 16.4: where a walk stands: at its start, or at a board that is given
pub data Place : Type 0 where
  start : Place
  after : List ℕ → Place

-- FORMAT 16.4: all are later than the start, and those with a greater number than a given board
abbrev pub Later : Place → List ℕ → Type 0
Later start b = Unit {0}
Later (after g) b = number g < number b

-- FORMAT 16.5: the next board: of the legal ones that are later, the one with the least number
pub record IsNext (w h : ℕ) (p : Place) (b : List ℕ) : Type 0 where
  pub board : LegalBoard w h b
  pub later : Later p b
  pub least : (c : List ℕ) → LegalBoard w h c → Later p c → number b ≤ number c

-- FORMAT 16.5: there is none
abbrev pub NoneLeft : ℕ → ℕ → Place → Type 0
NoneLeft w h p = (c : List ℕ) → LegalBoard w h c → Later p c → ⊥

-- ---- the entry

-- FORMAT 8.28: the start is wished for, or a board is given
abbrev pub place_of : Bool → List ℕ → Place
place_of true g = start
place_of false g = after g

-- FORMAT 8.28: the numbers of an answer: its refusal, and how many tiles the next board has, 0 where none is left
abbrev pub next_numbers : Result (Option ℕ) Refusal → Numbers
next_numbers (Ok (Some n)) = done n
next_numbers (Ok None) = done 0
next_numbers (Err e) = refused (number_of e)

-- FORMAT 9.8, 9.9, 16.6: what is asked of a given board; it need not be legal
abbrev pub giving : ℕ → ℕ → Place → List Rule
giving w h start = []
giving w h (after g) = unless 8 (Counted (lent 1 w h 0 g)) ∷ unless 9 (Coded (lent 1 w h 0 g)) ∷ []

-- FORMAT 9.4, 9.14, 9.40. 4: the tile buffer; 14: the size; 8 and 9 of a given board
abbrev pub stepping : ℕ → ℕ → Place → ℕ → List Rule
stepping w h p room = unless 4 (tiles_most ≤ room) ∷ unless 14 (Tiny w h) ∷ giving w h p

-- FORMAT 8.28, 10.2: the promise. The next board in front of the buffer, what is past it kept; or none is left, or a refusal, and the buffer as
-- it was.
pub record StepsAs (w h : ℕ) (p : Place) (old new : List ℕ) (a : Result (Option ℕ) Refusal) : Type 0 where
  pub code : First (stepping w h p (length old)) (next_numbers a).code
  pub size : 1 ≤ (next_numbers a).value → (next_numbers a).value ≡ w * h
  pub next : 1 ≤ (next_numbers a).value → IsNext w h p (take (w * h) new)
  pub past : 1 ≤ (next_numbers a).value → drop (w * h) new ≡ drop (w * h) old
  pub none : (next_numbers a).code ≡ 0 → (next_numbers a).value ≡ 0 → NoneLeft w h p
  pub kept : (next_numbers a).value ≡ 0 → new ≡ old

-- ---- walks, for the theorems

-- FORMAT 16.8: a call gave board b
pub record Gave (w h : ℕ) (p : Place) (b : List ℕ) : Type 0 where
  pub old : List ℕ
  pub new : List ℕ
  pub answer : Result (Option ℕ) Refusal
  pub promise : StepsAs w h p old new answer
  pub found : 1 ≤ (next_numbers answer).value
  pub front : b ≡ take (w * h) new

-- FORMAT 16.8: a call said that none is left
pub record SaidNone (w h : ℕ) (p : Place) : Type 0 where
  pub old : List ℕ
  pub new : List ℕ
  pub answer : Result (Option ℕ) Refusal
  pub promise : StepsAs w h p old new answer
  pub done : (next_numbers answer).code ≡ 0
  pub none : (next_numbers answer).value ≡ 0

-- FORMAT 16.8: calls from a place on gave these boards, each asked for with the one before it
abbrev pub Walk : ℕ → ℕ → Place → List (List ℕ) → Type 0
Walk w h p [] = Unit {0}
Walk w h p (b ∷ bs) = Gave w h p b × Walk w h (after b) bs

-- and then none was left
abbrev pub WholeWalk : ℕ → ℕ → Place → List (List ℕ) → Type 0
WholeWalk w h p [] = SaidNone w h p
WholeWalk w h p (b ∷ bs) = Gave w h p b × WholeWalk w h (after b) bs

-- FORMAT 16.9: the boards in a list are just those that P holds of, each once, and their numbers rise
pub record AllInOrder (P : List ℕ → Type 0) (bs : List (List ℕ)) : Type 0 where
  pub only : (i : ℕ) → i < length bs → P (get_or bs i [])
  pub meets : (c : List ℕ) → P c → (i : ℕ) × (i < length bs) × (get_or bs i [] ≡ c)
  pub once : (i j : ℕ) → i < length bs → j < length bs → get_or bs i [] ≡ get_or bs j [] → i ≡ j
  pub rising : (i j : ℕ) → i < j → j < length bs → number (get_or bs i []) < number (get_or bs j [])
