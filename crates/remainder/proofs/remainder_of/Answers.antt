use lib.ListN.{get_or}
use mathlib.Core.Path.{subst}
use mathlib.Core.List.{List}
use Prim.Native.Nat.{ℕ}
use native.Mathlib.Omega.{arith}
use Rattle.remainder.specs.Remainder.{Remains}
use Rattle.remainder.proofs.LanesOf.{lane_word}
use Rattle.remainder.proofs.remainder_of.Goals as goal

pub returns : goal.returns
returns c =
    let w = c.args.w.now in subst (λ (v : List ℕ). Remains v (get_or c.remainders.result 0 0)) (lane_word w)
    (c.remainders.ensures 0 (omega arith))
