use native.Mathlib.Omega.{arith}
use Rattle.typed.proofs.Seeing.{seen_none, seen_more, seen_all}
use Rattle.typed.proofs.rows.see.Goals as goal

pub loop-c-init : goal.loop-c-init
loop-c-init c = seen_none c.args.body.now

pub step-s-requires : goal.step-s-requires
step-s-requires c =
    let S = c.loop-c.invariant in
    (omega (arith, S.foreign), omega (arith, S.rows), omega (arith, S.column))

pub loop-c-preserved : goal.loop-c-preserved
loop-c-preserved c =
    let l = c.loop-c in
    seen_more c.args.body.now l.c-index l.s c.step-s.result (omega arith) l.invariant c.step-s.ensures

pub returns : goal.returns
returns c =
    let l = c.loop-c in
    seen_all c.args.body.now l.c-index l.s (omega arith) l.invariant
