use lib.ListN.{length}
use Rattle.typed.proofs.Laying.{LaidTo}
use Rattle.typed.proofs.rows.put.Given as goal

abbrev pub invariant-loop-c : goal.invariant-loop-c
invariant-loop-c l = LaidTo l.body l.w (length l.initial.board) l.board l.at l.c-index
