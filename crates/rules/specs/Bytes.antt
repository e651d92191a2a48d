-- Bytes: numbers below 256.
use Rattle.std.specs.Prelude.{List, ℕ, ◌<◌, length, get_or}

pub record Bytes (bs : List ℕ) : Type 0 where
  pub cell : (p : ℕ) → p < length bs → get_or bs p 0 < 256
