use Prim.Native.Nat.{◌-◌}
use lib.ListN.{length}
use Rattle.remainder.proofs.LanesOf.{Rows}
use Rattle.remainder.proofs.rows.Given as goal

abbrev pub invariant-loop-q : goal.invariant-loop-q
invariant-loop-q l = Rows l.lanes l.s l.initial.out l.out l.q

abbrev pub decreases-loop-q : goal.decreases-loop-q
decreases-loop-q l = length l.s - l.q
