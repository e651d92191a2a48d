use mathlib.Core.Path.{◌≡◌}
use Prim.Native.Nat.{◌*◌, ◌≤◌}
use Rattle.account.specs.Lists.{sum_of}
use Rattle.tiles.specs.Sum.{adds_at}
use Rattle.tiles.proofs.count.tally.Given as goal

abbrev pub invariant-loop-k : goal.invariant-loop-k
invariant-loop-k l =
    (l.x ≤ 27021597764222976 * l.k) × (l.x ≡ sum_of (8 * (3 * l.k)) (adds_at l.part))
