use Prim.Native.Nat.{◌-◌, min}
use Rattle.remainder.specs.Remainder.{RowTo}
use Rattle.remainder.proofs.row.Given as goal

abbrev pub invariant-loop-j : goal.invariant-loop-j
invariant-loop-j l = RowTo l.lanes l.s l.q 0 l.initial.out l.out (min l.j l.lanes)

abbrev pub decreases-loop-j : goal.decreases-loop-j
decreases-loop-j l = l.lanes - l.j
