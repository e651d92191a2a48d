-- What the search for errata promises, and what its parts promise each other.
use Rattle.std.specs.Prelude.{◌≡◌, Option, Some, None, List, [], ◌++◌, ℕ, ◌+◌, ◌*◌, ◌-◌, ◌≤◌, length, take}
use Rattle.account.specs.Code.{Cells, Clean, syndrome}
use Rattle.account.specs.Reach.{Reach}
use Rattle.account.specs.Errata.{Below, Distinct, Applied}
use Rattle.account.specs.Search.{erasures, Fits}
use Rattle.gf256.specs.Gf256.{gf256}
use Rattle.values.specs.declared.Errata.{Errata}
-- the sums of a syndrome, cells that are listed, and errata at them
pub use Rattle.values.specs.Values.{at, Listed, Valued, Gathered, cells_of, values_of, ErrataFor}
pub use Rattle.locate.specs.Places.{Bytes5, Drained, NoneAlone, NoCouple, Couple, NotNone}
use Rattle.locate.specs.declared.Pair.{Pair}
use Rattle.values.specs.declared.Listing.{Listing}

-- t are the sums that are left when the f marked cells are filtered out. A guess of wrong cells that fits, listed after the marked ones
pub record Guess (n : ℕ) (ps t : List ℕ) (f count : ℕ) (cells : List ℕ) : Type 0 where
  pub wrong : List ℕ
  pub below : Below wrong n
  pub distinct : Distinct wrong
  pub few : 2 * length wrong + f ≤ 5
  pub fits : Fits gf256 n ps (at t) (5 - f - length wrong) wrong
  pub counted : count ≡ f + length wrong
  pub room : length cells ≡ 5
  pub list : take count cells ≡ ps ++ wrong

-- no cell fits alone
abbrev pub NotOne : ℕ → List ℕ → List ℕ → ℕ → Type 0
NotOne n ps t f = NoneAlone t (5 - f - 1) n ps

-- no two cells fit
abbrev pub NotTwo : ℕ → List ℕ → List ℕ → ℕ → Type 0
NotTwo n ps t f = NoCouple t (5 - f - 2) n ps

-- no guess of none, one or two cells fits, where so many may be wrong
pub record NoGuess (n : ℕ) (ps t : List ℕ) (f : ℕ) : Type 0 where
  pub not_none : NotNone t f
  pub not_one : 2 + f ≤ 5 → NotOne n ps t f
  pub not_two : 4 + f ≤ 5 → NotTwo n ps t f

-- the cells that are listed
abbrev pub listed_in : Listing → List ℕ
listed_in m = take m.count m.cells

-- the marked cells m and after them those that are wrong, or that no guess fits
abbrev pub GuessedAs : Listing → List ℕ → Option Listing → Type 0
GuessedAs m t (Some l) = (l.n ≡ m.n) × Guess m.n (listed_in m) t m.count l.count l.cells
GuessedAs m t None = NoGuess m.n (listed_in m) t m.count

-- ---- errata

-- the pair are the wrong cells of a word of n with no marks
abbrev pub CoupleOf : List ℕ → ℕ → Pair → Type 0
CoupleOf s n r = Couple s 3 n [] r.p r.q

-- e corrects r: with it, r becomes a clean word within reach
pub record Corrects (marks r : List ℕ) (e : Errata) : Type 0 where
  pub listed : ErrataFor (length r) e
  pub corrects : (w : List ℕ) → Applied gf256 (cells_of e) (values_of e) r w → Clean gf256 w × Reach marks r w × Cells gf256 w

-- no clean word is within reach of r
abbrev pub Beyond : List ℕ → List ℕ → Type 0
Beyond marks r = (w : List ℕ) → Cells gf256 w → Clean gf256 w → Reach marks r w → ⊥

abbrev pub SearchedAs : List ℕ → List ℕ → Option Errata → Type 0
SearchedAs marks r (Some e) = Corrects marks r e
SearchedAs marks r None = Beyond marks r

-- what is found from a syndrome holds of every word that has it
abbrev pub FoundFor : List ℕ → List ℕ → Option Errata → Type 0
FoundFor s marks o = (r : List ℕ) → length r ≡ length marks → Cells gf256 r → s ≡ syndrome gf256 r → SearchedAs marks r o

-- and, where no cell is marked, for all such marks
abbrev pub FoundUnmarked : List ℕ → ℕ → Option Errata → Type 0
FoundUnmarked s n o = (marks : List ℕ) → length marks ≡ n → erasures marks ≡ [] → FoundFor s marks o

-- and, where the first f of `erased` are the marked cells, for every marks that have these
abbrev pub FoundWith : List ℕ → ℕ → List ℕ → ℕ → Option Errata → Type 0
FoundWith s n erased f o = (marks : List ℕ) → length marks ≡ n → Gathered marks erased f → FoundFor s marks o
