use Rattle.lanes.proofs.Sofar.{Sofar}
use Rattle.lanes.proofs.mend_each.Given as goal

abbrev pub invariant-loop-l : goal.invariant-loop-l
invariant-loop-l l = Sofar l.lanes l.strip l.marks l.fixes l.sum l.l
