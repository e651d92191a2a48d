-- What a test of two numbers says.
use mathlib.Core.Path.{◌≡◌}
use mathlib.Core.Logic.{⊎_elim}
use Prim.Native.Nat.{ℕ}
use lib.Dec.{eqb}
use Rattle.std.proofs.lemmas.Bool.Decides.{eqb_tells}
use Rattle.rules.specs.Says.{Says}

-- it says what is so just where they are equal
pub says_equal : (P : Type 0) (a b : ℕ) → (a ≡ b → P) → (P → a ≡ b) → Says (eqb a b) P
says_equal P a b to from = ⊎_elim (λ h. rw h.0 (to h.1)) (λ h. rw h.0 (λ p. h.1 (from p))) (eqb_tells a b)
