use Rattle.marks.proofs.Tallying.{Summing}
use Rattle.marks.proofs.sum.Given as goal

abbrev pub invariant-loop-mark : goal.invariant-loop-mark
invariant-loop-mark l = Summing l.marks l.x l.mark-index
