use Rattle.lanes.specs.Fixes.{Noted}
use Rattle.lanes.proofs.fixes.note.Given as goal

abbrev pub invariant-loop-i : goal.invariant-loop-i
invariant-loop-i l = Noted l.lanes l.l l.w l.e l.marks l.initial.fixes l.i l.fixes l.c
