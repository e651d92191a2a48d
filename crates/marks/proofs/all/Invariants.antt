use Prim.Native.Nat.{◌≤◌}
use Rattle.marks.proofs.Listing.{Listing}
use Rattle.marks.proofs.all.Given as goal

abbrev pub invariant-loop-i : goal.invariant-loop-i
invariant-loop-i l = Listing l.marks l.cells l.k l.i × (l.k ≤ l.f)
