-- Parts: entering a strip for reading.
use Rattle.std.specs.Prelude.{◌≡◌, List, ℕ, length, Bool, false, Result, Ok}
use Rattle.account.specs.Reach.{count_to, is_marked}
use Rattle.rules.specs.declared.Refusal.{Refusal}
use Rattle.rules.specs.Refusal.{First, code_of}
use Rattle.level.specs.Reading.{entering}

-- what is asked before the picture is looked at, and whether any cell is marked
pub record StripEntersAs (R : ℕ) (s marks : List ℕ) (room scratch : ℕ) (r : Result Bool Refusal) : Type 0 where
  pub first : First (entering R s marks room scratch) (code_of r)
  pub none : r ≡ Ok false → count_to (is_marked marks) (length marks) ≡ 0
