use native.Mathlib.Omega.{arith}
use Rattle.marks.proofs.Tallying.{or_goes, or_ends}
use Rattle.marks.proofs.any.Goals as goal

pub loop-mark-preserved : goal.loop-mark-preserved
loop-mark-preserved c =
    let l = c.loop-mark in
    or_goes c.args.marks.now l.x l.mark-index (omega arith) l.invariant

pub returns : goal.returns
returns c =
    let l = c.loop-mark in
    or_ends c.args.marks.now l.x l.mark-index (omega arith) l.invariant
