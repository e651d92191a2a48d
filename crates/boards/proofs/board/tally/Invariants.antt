use mathlib.Core.Path.{◌≡◌}
use Prim.Native.Nat.{◌+◌, ◌*◌, ◌≤◌}
use lib.ListN.{drop}
use Rattle.tiles.specs.Sum.{weight}
use Rattle.boards.proofs.board.tally.Given as goal

abbrev pub invariant-loop-g : goal.invariant-loop-g
invariant-loop-g l = (l.x ≤ 72057594037927936 * l.g) × (l.x + weight (drop (64 * l.g) l.tiles) ≡ weight l.tiles)
