use Prim.Native.Nat.{◌<◌}
use native.Mathlib.Omega.{arith}
use lib.ListN.{length, length-set}
use Rattle.tiles.proofs.Putting.{left_next, put_next, before_next, past_next}
use Rattle.tiles.proofs.put.put_rest.Goals as goal

pub loop-i-preserved : goal.loop-i-preserved
loop-i-preserved c =
    let a = c.args in
    let l = c.loop-i in
    let room : l.i < length l.out = omega (arith, l.invariant.0, c.requires) in (
      simp length-set l.invariant.0,
      left_next a.out.now l.out a.k l.i a.w l.u l.auto.i room l.invariant.1,
      put_next a.out.now l.out a.k l.i a.w l.u l.auto.i room l.invariant.1 l.invariant.2,
      before_next a.out.now l.out a.k l.i a.w l.u l.auto.i room l.invariant.3,
      past_next a.out.now l.out a.k l.i a.w l.u l.auto.i room l.invariant.4,
    )
