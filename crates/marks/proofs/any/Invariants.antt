use Rattle.marks.proofs.Tallying.{Oring}
use Rattle.marks.proofs.any.Given as goal

abbrev pub invariant-loop-mark : goal.invariant-loop-mark
invariant-loop-mark l = Oring l.marks l.x l.mark-index
