use Rattle.values.proofs.Values.{Dividing}
use Rattle.values.proofs.divide.Given as goal

abbrev pub invariant-loop-j : goal.invariant-loop-j
invariant-loop-j l = Dividing l.at.n l.at.cells l.at.count l.i l.initial.v l.s0 l.v l.sum l.j
