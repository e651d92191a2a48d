use native.Mathlib.Omega.{arith}
use Rattle.marks.proofs.Tallying.{sum_starts, sum_goes}
use Rattle.marks.proofs.sum.Goals as goal

pub loop-mark-init : goal.loop-mark-init
loop-mark-init c = sum_starts c.args.marks.now

pub loop-mark-preserved : goal.loop-mark-preserved
loop-mark-preserved c =
    let l = c.loop-mark in
    sum_goes c.args.marks.now l.x c.from-x.result l.mark-index (omega arith) c.from-x.ensures (omega (arith, c.type_inv.marks l.mark-index)) l.invariant
