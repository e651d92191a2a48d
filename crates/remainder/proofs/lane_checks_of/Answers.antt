use Prim.Native.Nat.{◌*◌}
use lib.ListN.{take, replicate}
use mathlib.Core.Path.{refl}
use native.Mathlib.Omega.{arith}
use Rattle.remainder.proofs.LanesOf.{zero_part, fives_whole, lanes_check}
use borrow.Author.Rules.{rules}
use Rattle.remainder.proofs.lane_checks_of.Goals as goal

pub rows-requires : goal.rows-requires
rows-requires c =
    let p = c.requires in
    let r = c.remainders-out in (
      record { some = p.0; few = p.1; long = search rules; small = λ j l. (r.ensures j l).small },
      fives_whole _ _
          (zero_part _ (replicate 80 0) p.1 refl tt).0,
    )

pub returns : goal.returns
returns c =
    let a = c.args in
    let p = c.requires in
    let z = zero_part a.lanes (replicate 80 0) p.1 refl tt in
    lanes_check a.lanes (omega (arith, p.0)) a.«data».now (take (5 * a.lanes) (replicate 80 0))
    c.remainders-out.result c.rows.new.out z.0 z.1 c.remainders-out.ensures
    c.rows.ensures.0
