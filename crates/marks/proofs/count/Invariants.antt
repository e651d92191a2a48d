use lib.ListN.{take}
use Rattle.marks.specs.Marks.{CountsAll}
use Rattle.marks.proofs.count.Given as goal

abbrev pub invariant-loop-i : goal.invariant-loop-i
invariant-loop-i l = CountsAll l.marks (take l.i l.e.cells) (take l.i l.e.values) l.c
