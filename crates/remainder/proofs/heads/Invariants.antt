use Rattle.remainder.proofs.LanesOf.{HeadTo}
use Rattle.remainder.proofs.heads.Given as goal

abbrev pub invariant-loop-j : goal.invariant-loop-j
invariant-loop-j l = HeadTo l.lanes l.s l.h l.out l.j
