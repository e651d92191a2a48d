use Rattle.tiles.specs.Sum.{weight}
use lib.ListN.{drop}
use Prim.Native.Nat.{◌+◌, ◌*◌, ◌≤◌}
use mathlib.Core.Path.{◌≡◌}
use Rattle.boards.proofs.board.rest.Given as goal

abbrev pub invariant-loop-t : goal.invariant-loop-t
invariant-loop-t l =
    (l.x ≤ 1125899906842624 * l.t-index) × (l.x + weight (drop l.t-index l.tiles) ≡ weight l.tiles)
