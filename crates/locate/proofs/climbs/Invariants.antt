use mathlib.Core.List.{◌∷◌, []}
use Prim.Native.Nat.{◌<◌}
use Rattle.account.specs.Field.{power}
use Rattle.account.specs.Errata.{filt}
use Rattle.account.specs.Search.{Zeros}
use Rattle.gf256.specs.Gf256.{gf256}
use Rattle.values.specs.Values.{at}
use Rattle.locate.proofs.climbs.Given as goal

abbrev pub invariant-loop-m : goal.invariant-loop-m
invariant-loop-m l = (0 < at l.s l.m) × Zeros l.m (filt gf256 (power gf256 2 l.i ∷ []) (at l.s))
