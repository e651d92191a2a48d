use mathlib.Core.Path.{◌≡◌}
use Prim.Native.Nat.{◌+◌, ◌*◌}
use lib.ListN.{get_or}
use Rattle.boards.specs.Pack.{joined}
use Rattle.boards.proofs.pack.last.Given as goal

abbrev pub invariant-loop-j : goal.invariant-loop-j
invariant-loop-j l = l.v ≡ joined l.j (λ i. get_or l.tiles (8 * l.g + i) 0)
