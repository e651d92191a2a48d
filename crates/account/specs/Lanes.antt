-- FORMAT 7.1, for R lanes: cell p is byte p / R of lane p % R.
use Rattle.std.specs.Prelude.{ℕ, ◌+◌, ◌*◌, ◌/◌, List, length, get_or}
use Rattle.account.specs.Lists.{list_of}

-- FORMAT 7.1, 7.13: lane j of the cells s, or of their marks
unfoldable pub lane : ℕ → ℕ → List ℕ → List ℕ
unfolding list_of
lane R j s = list_of (length s / R) (λ i. get_or s (R * i + j) 0)
