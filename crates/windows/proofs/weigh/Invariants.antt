use mathlib.Core.Path.{◌≡◌}
use Prim.Native.Nat.{◌-◌}
use lib.ListN.{length}
use Rattle.windows.specs.Windows.{record_in}
use Rattle.windows.proofs.Weighing.{Weighing}
use Rattle.windows.proofs.weigh.Given as goal

abbrev pub invariant-loop-from : goal.invariant-loop-from
invariant-loop-from l =
    (length l.scratch ≡ length l.initial.scratch) × Weighing (record_in l.strip l.fixes l.to) l.bits l.from l.sum

abbrev pub decreases-loop-from : goal.decreases-loop-from
decreases-loop-from l = l.to - l.from
