use mathlib.Core.Path.{◌≡◌}
use Prim.Native.Nat.{◌+◌, ◌*◌, ◌-◌, ◌≤◌}
use Rattle.account.specs.Lists.{sum_of}
use Rattle.tiles.specs.Sum.{adds_at}
use Rattle.tiles.proofs.count.rest.Given as goal

abbrev pub invariant-loop-h : goal.invariant-loop-h
invariant-loop-h l =
    (l.x ≤ 9007199254740992 * (l.h - l.g)) × (sum_of (8 * l.g) (adds_at l.part) + l.x ≡ sum_of (8 * l.h) (adds_at l.part))
