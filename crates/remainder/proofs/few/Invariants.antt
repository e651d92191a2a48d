use Rattle.remainder.proofs.LanesOf.{Few}
use Rattle.remainder.proofs.few.Given as goal

abbrev pub invariant-loop-i : goal.invariant-loop-i
invariant-loop-i l = Few l.lanes l.s l.j l.x l.i
