use Rattle.pool.specs.Pooled.{photo}
use Rattle.pool.proofs.Pouring.{Pouring}
use Rattle.pool.proofs.pour.Given as goal

abbrev pub invariant-loop-i : goal.invariant-loop-i
invariant-loop-i l =
    Pouring (photo l.first l.first_marks) (photo l.second l.second_marks) (photo l.initial.cells l.initial.marks) (photo l.cells l.marks) l.taken l.conflict l.both l.i
