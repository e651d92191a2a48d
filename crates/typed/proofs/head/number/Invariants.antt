use mathlib.Core.Path.{◌≡◌}
use Prim.Native.Nat.{◌-◌, ◌^◌, ◌<◌}
use lib.ListN.{drop}
use Rattle.typed.specs.Parts.{spelled}
use Rattle.typed.proofs.head.number.Given as goal

abbrev pub invariant-loop-i : goal.invariant-loop-i
invariant-loop-i l = (l.n < 10 ^ (l.i - 4)) × (spelled (8 - l.i) l.n (drop l.i l.text) ≡ spelled 4 0 (drop 4 l.text))
