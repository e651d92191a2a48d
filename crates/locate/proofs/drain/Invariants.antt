use Rattle.std.proofs.Common.{take}
use Rattle.locate.specs.Places.{Drained}
use Rattle.locate.proofs.drain.Given as goal

abbrev pub invariant-loop-p : goal.invariant-loop-p
invariant-loop-p l = Drained l.n (take l.p-index l.ps) l.initial.t l.t
