use mathlib.Core.Path.{◌≡◌}
use Rattle.boards.proofs.Codes.{tiles_at, left_of, added_by}
use Rattle.boards.proofs.board.block.Given as goal

abbrev pub invariant-loop-c : goal.invariant-loop-c
invariant-loop-c l = (l.x ≡ added_by (tiles_at l.tiles l.k) 64 l.c) × (l.others ≡ left_of (tiles_at l.tiles l.k) 64 l.c)
