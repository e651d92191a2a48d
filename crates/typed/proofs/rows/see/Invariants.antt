use Rattle.typed.proofs.Seeing.{SeenTo}
use Rattle.typed.proofs.rows.see.Given as goal

abbrev pub invariant-loop-c : goal.invariant-loop-c
invariant-loop-c l = SeenTo l.body l.c-index l.s
