-- FORMAT 15: two pictures of a strip, pooled to one.
use Rattle.std.specs.Prelude.{◌≡◌, Bool, true, false, not, List, [], ◌∷◌, ℕ, eqb, length, get_or, Result, Ok, Err}
use Rattle.account.specs.Lists.{list_of}
use Rattle.account.specs.Reach.{count_to, GoodMarks, SameRead}
use Rattle.rules.specs.declared.Refusal.{Refusal}
use Rattle.rules.specs.Refusal.{Rule, unless, First, number_of}
use Rattle.level.specs.Strip.{Legal}
use Rattle.strip.specs.Reading.{WeRead, strip_numbers}
use Rattle.pool.specs.declared.Pooled.{Pooled}

-- FORMAT 15.1: a picture: the cells of a strip, and their marks
pub record Picture : Type 0 where
  pub cells : List ℕ
  pub marks : List ℕ

abbrev pub photo : List ℕ → List ℕ → Picture
photo cells marks = record { cells = cells; marks = marks }

-- ---- a cell in two pictures

-- FORMAT 15.2: its kind
pub data Kind : Type 0 where
  -- unmarked in both, with equal bytes
  agreed : Kind
  -- unmarked in just one
  taken : Kind
  -- unmarked in both, with different bytes
  conflict : Kind
  -- marked in both
  both : Kind

-- by three answers: is it marked in the first, is it marked in the second, are the bytes equal
abbrev pub kind_of : Bool → Bool → Bool → Kind
kind_of false false true = agreed
kind_of false false false = conflict
kind_of false true equal = taken
kind_of true false equal = taken
kind_of true true equal = both

-- FORMAT 15.3: its byte, of x in the first and y in the second; one that is taken goes by whether it is marked in the first
abbrev pub byte_of : Kind → Bool → ℕ → ℕ → ℕ
byte_of agreed marked x y = x
byte_of taken false x y = x
byte_of taken true x y = y
byte_of conflict marked x y = 0
byte_of both marked x y = 0

-- FORMAT 15.3: and its mark
abbrev pub mark_of : Kind → ℕ
mark_of agreed = 0
mark_of taken = 0
mark_of conflict = 1
mark_of both = 1

-- both, by byte x and mark m in the first picture, y and n in the second
abbrev pub kind : ℕ → ℕ → ℕ → ℕ → Kind
kind x m y n = kind_of (not (eqb m 0)) (not (eqb n 0)) (eqb x y)

abbrev pub byte : ℕ → ℕ → ℕ → ℕ → ℕ
byte x m y n = byte_of (kind x m y n) (not (eqb m 0)) x y

-- whether a kind is this one
abbrev pub place_of : Kind → ℕ
place_of agreed = 0
place_of taken = 1
place_of conflict = 2
place_of both = 3

abbrev pub is : Kind → Kind → Bool
is k j = eqb (place_of k) (place_of j)

-- ---- all cells of two pictures

module _ (a b : Picture) where
  abbrev pub kind_at : ℕ → Kind
  kind_at p = kind (get_or a.cells p 0) (get_or a.marks p 0) (get_or b.cells p 0) (get_or b.marks p 0)

  abbrev pub byte_at : ℕ → ℕ
  byte_at p = byte (get_or a.cells p 0) (get_or a.marks p 0) (get_or b.cells p 0) (get_or b.marks p 0)

  -- FORMAT 15.3: the pooled picture
  abbrev pub pooled : Picture
  pooled = photo (list_of (length a.cells) byte_at) (list_of (length a.cells) (λ p. mark_of (kind_at p)))

  -- FORMAT 15.4: how many cells are of a kind
  abbrev pub count_of : Kind → ℕ
  count_of k = count_to (λ p. is k (kind_at p)) (length a.cells)

-- ---- the entry

-- FORMAT 8.27: the numbers of an answer
pub record PoolNumbers : Type 0 where
  pub code : ℕ
  pub agreed : ℕ
  pub taken : ℕ
  pub conflict : ℕ
  pub both : ℕ

-- FORMAT 9.43: with a refusal all are zero but the code
abbrev pub pool_numbers : Result Pooled Refusal → PoolNumbers
pool_numbers (Ok r) = record { code = 0; agreed = r.agreed; taken = r.taken; conflict = r.conflict; both = r.both }
pool_numbers (Err e) = record { code = number_of e; agreed = 0; taken = 0; conflict = 0; both = 0 }

-- the count that is told of a kind
abbrev pub told : PoolNumbers → Kind → ℕ
told n agreed = n.agreed
told n taken = n.taken
told n conflict = n.conflict
told n both = n.both

-- FORMAT 9.1 to 9.4, 9.13, 9.40. 1: each length; 13: that they are equal; 2: as many marks; 3: each 0 or 1; 4: the buffers for cells and for marks
abbrev pub pooling : ℕ → Picture → Picture → ℕ → ℕ → List Rule
pooling R a b room room' =
    unless 1 (Legal R (length a.cells) × Legal R (length b.cells))
    ∷ unless 13 (length b.cells ≡ length a.cells)
    ∷ unless 2 ((length a.marks ≡ length a.cells) × (length b.marks ≡ length b.cells))
    ∷ unless 3 (GoodMarks a.marks × GoodMarks b.marks)
    ∷ unless 4 ((room ≡ length a.cells) × (room' ≡ length a.cells))
    ∷ []

-- FORMAT 8.27, 10.2: the promise. The pooled cells and marks are written over the two buffers, or these are as they were.
pub record PoolsAs (R : ℕ) (a b out out' : Picture) (r : Result Pooled Refusal) : Type 0 where
  pub code : First (pooling R a b (length out.cells) (length out.marks)) (pool_numbers r).code
  pub counts : (pool_numbers r).code ≡ 0 → (k : Kind) → told (pool_numbers r) k ≡ count_of a b k
  pub picture : (pool_numbers r).code ≡ 0 → out' ≡ pooled a b
  pub kept : ((pool_numbers r).code ≡ 0 → ⊥) → out' ≡ out

-- ---- for the theorems

-- FORMAT 15.1: c is what a and b were pooled to
pub record WePooled (R : ℕ) (a b c : Picture) : Type 0 where
  pub out : Picture
  pub answer : Result Pooled Refusal
  pub promise : PoolsAs R a b out c answer
  pub done : (pool_numbers answer).code ≡ 0

-- FORMAT 15.5: the unmarked cells of the picture are those of the strip t
abbrev pub Shows : List ℕ → Picture → Type 0
Shows t a = SameRead a.marks a.cells t

-- FORMAT 15.6: the picture, read by itself, gave a level of a version up to this one
pub record GaveLevel (upto R : ℕ) (a : Picture) : Type 0 where
  pub reading : WeRead upto R a.cells a.marks
  pub done : (strip_numbers reading.answer).code ≡ 0

-- ---- parts

-- all are as long as the cells of the first
pub record AsLong (a b out : Picture) : Type 0 where
  pub marks : length a.marks ≡ length a.cells
  pub second : length b.cells ≡ length a.cells
  pub second_marks : length b.marks ≡ length a.cells
  pub room : length out.cells ≡ length a.cells
  pub room' : length out.marks ≡ length a.cells

-- a and b pooled, and the counts
pub record PoursAs (a b out' : Picture) (r : Pooled) : Type 0 where
  pub picture : out' ≡ pooled a b
  pub counts : (k : Kind) → told (pool_numbers (Ok r)) k ≡ count_of a b k
