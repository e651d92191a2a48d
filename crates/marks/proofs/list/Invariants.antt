use Rattle.account.specs.Lanes.{lane}
use Rattle.marks.proofs.Listing.{Listing}
use Rattle.marks.proofs.list.Given as goal

abbrev pub invariant-loop-i : goal.invariant-loop-i
invariant-loop-i l = Listing (lane l.lanes l.l l.marks) l.cells l.k l.i
