use Prim.Native.Nat.{◌+◌, ◌*◌}
use Rattle.rules.specs.Placed.{Placed}
use Rattle.dealt.specs.Lanes.{check_cell}
use Rattle.dealt.proofs.place_checks.Given as goal

abbrev pub invariant-loop-i : goal.invariant-loop-i
invariant-loop-i l = Placed (l.lanes * l.k) (l.lanes * (l.k + l.i)) (check_cell l.lanes l.k l.c) l.initial.x l.x
