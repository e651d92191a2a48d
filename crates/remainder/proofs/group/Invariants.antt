use Prim.Native.Nat.{◌+◌, min}
use Rattle.remainder.specs.Remainder.{RowTo}
use Rattle.remainder.proofs.group.Given as goal

abbrev pub invariant-loop-i : goal.invariant-loop-i
invariant-loop-i l = RowTo l.lanes l.s l.q l.j l.initial.out l.out (min (l.j + l.i) l.lanes)
