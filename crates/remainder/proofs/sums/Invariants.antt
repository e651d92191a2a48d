use mathlib.Core.Path.{◌≡◌}
use Prim.Native.Nat.{◌*◌, ◌/◌, ◌%◌, ◌^◌}
use Rattle.reductions.specs.Packed.{SumsOf}
use Rattle.remainder.proofs.sums.Given as goal

abbrev pub invariant-loop-k : goal.invariant-loop-k
invariant-loop-k l = (l.rest ≡ l.initial.rest / 2 ^ (4 * l.k)) × SumsOf (l.initial.rest % 2 ^ (4 * l.k)) l.x
