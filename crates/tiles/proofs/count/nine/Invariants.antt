use mathlib.Core.Path.{◌≡◌}
use Prim.Native.Nat.{◌+◌, ◌*◌, ◌-◌, ◌%◌, ◌≤◌}
use Rattle.tiles.specs.Sum.{weighed, triples_of}
use Rattle.tiles.proofs.count.nine.Given as goal

abbrev pub invariant-loop-n : goal.invariant-loop-n
invariant-loop-n l =
    (l.s ≤ 3377699720527872 * l._n) × (l.s + triples_of weighed (8 - l._n) (l.u * 512 + l.t % 512) ≡ triples_of weighed 8 (l.v * 256 + l.z))
