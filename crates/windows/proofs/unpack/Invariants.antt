use mathlib.Core.Path.{◌≡◌}
use Prim.Native.Nat.{◌-◌}
use lib.ListN.{length}
use Rattle.windows.specs.Windows.{record_in}
use Rattle.windows.proofs.Unpacking.{Unpacking}
use Rattle.windows.proofs.unpack.Given as goal

abbrev pub invariant-loop-t : goal.invariant-loop-t
invariant-loop-t l =
    (length l.scratch ≡ length l.initial.scratch) × Unpacking (record_in l.strip l.fixes l.to) l.m l.initial.tiles l.tiles l.from l.t

abbrev pub decreases-loop-t : goal.decreases-loop-t
decreases-loop-t l = l.m - l.t
