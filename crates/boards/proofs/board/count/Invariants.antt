use mathlib.Core.Path.{◌≡◌}
use Rattle.boards.proofs.Codes.{tiles_at, count_of}
use Rattle.boards.proofs.board.count.Given as goal

abbrev pub invariant-loop-i : goal.invariant-loop-i
invariant-loop-i l = l.n ≡ count_of (tiles_at l.tiles l.k) l.i l.c
