use lib.ListN.{get_or}
use mathlib.Core.Path.{subst}
use mathlib.Core.List.{List}
use Prim.Native.Nat.{ℕ}
use native.Mathlib.Omega.{arith}
use Rattle.remainder.specs.Remainder.{Checks}
use Rattle.remainder.proofs.LanesOf.{lane_word}
use Rattle.remainder.proofs.checks_of.Goals as goal

pub returns : goal.returns
returns c =
    let d = c.args.«data».now in subst (λ (v : List ℕ). Checks v (get_or c.lane_checks_of.result 0 0)) (lane_word d)
    (c.lane_checks_of.ensures 0 (omega arith))
