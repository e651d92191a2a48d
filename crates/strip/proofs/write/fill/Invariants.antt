use Rattle.rules.specs.Placed.{Placed}
use Rattle.strip.proofs.write.fill.Given as goal

abbrev pub invariant-loop-p : goal.invariant-loop-p
invariant-loop-p l = Placed l.from l.p (λ q. 0) l.initial.x l.x
