use Rattle.values.proofs.Values.{Unweighing}
use Rattle.values.proofs.unweigh.Given as goal

abbrev pub invariant-loop-j : goal.invariant-loop-j
invariant-loop-j l = Unweighing l.at.n l.at.cells l.at.count l.initial.v l.v l.j
