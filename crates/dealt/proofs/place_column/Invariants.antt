use mathlib.Core.Path.{◌≡◌}
use Prim.Native.Nat.{◌+◌, ◌*◌}
use Rattle.rules.specs.Placed.{Placed}
use Rattle.dealt.specs.Lanes.{check_cell}
use Rattle.dealt.proofs.place_column.Given as goal

abbrev pub invariant-loop-j : goal.invariant-loop-j
invariant-loop-j l = (l.from ≡ l.lanes * (l.k + l.i)) × Placed l.from (l.from + l.j) (check_cell l.lanes l.k l.c) l.initial.x l.x
