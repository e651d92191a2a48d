use Prim.Native.Nat.{◌+◌, ◌*◌}
use native.Mathlib.Omega.{arith}
use Rattle.remainder.proofs.LanesOf.{stepped}
use Rattle.remainder.proofs.step.Goals as goal

pub returns : goal.returns
returns c =
    let a = c.args in
    let b = c.type_inv.s in
    stepped a.lanes a.s.now a.p a.r c.requires.0
    c.from.result c.from-2.result c.from-3.result c.from-4.result c.from-5.result
    (omega (arith, c.from.ensures, b a.p)) (omega (arith, c.from-2.ensures, b (a.p + a.lanes))) (omega (arith, c.from-3.ensures, b (a.p + 2 * a.lanes)))
    (omega (arith, c.from-4.ensures, b (a.p + 3 * a.lanes))) (omega (arith, c.from-5.ensures, b (a.p + 4 * a.lanes)))
    c.from.ensures c.from-2.ensures c.from-3.ensures c.from-4.ensures c.from-5.ensures
    c.low.result c.low-2.result c.low-3.result c.low-4.result c.low-5.result
    c.at.result c.at-2.result c.at-3.result c.at-4.result c.at-5.result
    c.low.ensures c.low-2.ensures c.low-3.ensures c.low-4.ensures c.low-5.ensures
    c.at.ensures c.at-2.ensures c.at-3.ensures c.at-4.ensures c.at-5.ensures
