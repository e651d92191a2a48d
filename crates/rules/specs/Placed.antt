-- Cells placed in a buffer.
use Rattle.std.specs.Prelude.{◌≡◌, ◌⊎◌, List, ℕ, ◌+◌, ◌-◌, ◌≤◌, ◌<◌, length, get_or}

-- cells from a to b are what v says, the others are as they were
pub record Placed (a b : ℕ) (v : ℕ → ℕ) (x x' : List ℕ) : Type 0 where
  pub long : length x' ≡ length x
  pub inside : (p : ℕ) → a ≤ p → p < b → get_or x' p 0 ≡ v p
  pub outside : (p : ℕ) → (p < a) ⊎ (b ≤ p) → get_or x' p 0 ≡ get_or x p 0

-- the cells from a on are those of t
abbrev pub Laid : ℕ → List ℕ → List ℕ → List ℕ → Type 0
Laid a t = Placed a (a + length t) (λ p. get_or t (p - a) 0)
