use mathlib.Core.Path.{◌≡◌}
use Prim.Native.Nat.{◌*◌, ◌≤◌}
use lib.ListN.{take}
use Rattle.tiles.specs.Sum.{weight}
use Rattle.tiny.proofs.stuck.Given as goal

abbrev pub invariant-loop-i : goal.invariant-loop-i
invariant-loop-i l = (l.x ≡ weight (take l.i l.board)) × (l.x ≤ 1125899906842624 * l.i)
