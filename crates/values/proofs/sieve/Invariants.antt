use Rattle.values.proofs.Values.{Sieving}
use Rattle.values.proofs.sieve.Given as goal

abbrev pub invariant-loop-m : goal.invariant-loop-m
invariant-loop-m l = Sieving l.x l.i l.k l.initial.v l.v l.m
