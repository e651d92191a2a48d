use Prim.Native.Nat.{◌+◌, ◌*◌}
use native.Mathlib.Omega.{arith}
use Rattle.remainder.proofs.LanesOf.{few_0, few_more}
use Rattle.remainder.proofs.few.Goals as goal

pub loop-i-init : goal.loop-i-init
loop-i-init c = few_0 c.args.lanes (omega arith) c.args.s.now c.args.j

pub loop-i-preserved : goal.loop-i-preserved
loop-i-preserved c =
    let a = c.args in
    let p = c.requires in
    let l = c.loop-i in
    few_more a.lanes (omega arith) a.s.now a.j l.x l.i c.from.result p.0 (omega arith) (omega arith)
    (omega (arith, c.from.ensures, c.type_inv.s (a.lanes * l.i + a.j))) c.from.ensures l.invariant
