-- FORMAT 14.1: runs of neighbouring cells. A run may end past the last cell; it never goes on at the first.
use Rattle.std.specs.Prelude.{false, ◌≡◌, List, ℕ, ◌+◌, ◌≤◌, ◌<◌, length, get_or}
use Rattle.account.specs.Reach.{is_marked}

-- cell p is one of the n cells from a on
abbrev pub InRun : ℕ → ℕ → ℕ → Type 0
InRun a n p = (a ≤ p) × (p < a + n)

-- FORMAT 14.3, 14.8: s is t, but for what stands in the n cells from a on, which may be anything, and under marks
pub record ChangedIn (marks : List ℕ) (a n : ℕ) (s t : List ℕ) : Type 0 where
  pub same_length : length s ≡ length t
  pub outside : (p : ℕ) → (InRun a n p → ⊥) → is_marked marks p ≡ false → get_or s p 0 ≡ get_or t p 0

-- FORMAT 14.4: no cell is marked but some of the n cells from a on
abbrev pub MarkedIn : ℕ → ℕ → List ℕ → Type 0
MarkedIn a n marks = (p : ℕ) → (InRun a n p → ⊥) → get_or marks p 0 ≡ 0
