-- Parts: a window on a strip, with the cells that are to be put right put in where the window has them.
use Rattle.std.specs.Prelude.{◌≡◌, List, ℕ, ◌+◌, ◌≤◌, ◌<◌, length, get_or}
use Rattle.patches.specs.Patched.{patched}

-- cell p is the r-th after cell a, if the window from cell a on has it; and only then is r below 186
pub record Behind (a p r : ℕ) : Type 0 where
  pub is : r < 186 → a + r ≡ p
  pub only : (q : ℕ) → q < 186 → a + q ≡ p → r ≡ q

-- cell p of the strip is b, if the window w from cell a on has it; all else is as it was
pub record PatchedAt (a p b : ℕ) (w w' : List ℕ) : Type 0 where
  pub long : length w' ≡ length w
  pub here : (q : ℕ) → q < 186 → a + q ≡ p → get_or w' q 0 ≡ b
  pub other : (q : ℕ) → q < 186 → (a + q ≡ p → ⊥) → get_or w' q 0 ≡ get_or w q 0

-- n cells of a strip s are in front of w, from cell a on
abbrev pub Shows : List ℕ → ℕ → ℕ → List ℕ → Type 0
Shows s a n w = (q : ℕ) → q < n → get_or w q 0 ≡ get_or s (a + q) 0

-- a window on a strip, with what is to be put right, is one on the strip put right
pub record WindowPatched (cells bytes : List ℕ) (count a : ℕ) (w w' : List ℕ) : Type 0 where
  pub long : length w' ≡ length w
  pub shows : (s : List ℕ) (n : ℕ) → n ≤ 186 → a + n ≤ length s → Shows s a n w → Shows (patched cells bytes count s) a n w'

-- the n cells of the strip put right from cell a on, up to cell b, or 186 of them
pub record Shown (s cells bytes : List ℕ) (count a b : ℕ) (w : List ℕ) (n : ℕ) : Type 0 where
  pub most : n ≤ 186
  pub before : a + n ≤ b
  pub full : a + n < b → n ≡ 186
  pub shows : Shows (patched cells bytes count s) a n w
