use native.Mathlib.Omega.{arith}
use Rattle.lanes.proofs.Sofar.{sofar_0, sofar_more, one_few, all_mended}
use Rattle.lanes.proofs.mend_each.Goals as goal

pub loop-l-init : goal.loop-l-init
loop-l-init c =
    let a = c.args in
    sofar_0 a.lanes a.strip.now a.marks.now a.fixes.now c.requires.3.cells_long c.requires.3.bytes_long c.requires.4

pub overflow_add-sum : goal.overflow_add-sum
overflow_add-sum c =
    let a = c.args in
    let p = c.requires.0 in
    let l = c.loop-l in
    omega (
      arith,
      l.invariant.small,
      p.lanes.to,
      one_few a.lanes a.strip.now a.marks.now p l.fixes c.mend_one.new.fixes l.sum l.l (omega arith) l.invariant c.in-Some.c c.in-Some.ensures,
    )

pub overflow_add-sum-in-loop-l : goal.overflow_add-sum-in-loop-l
overflow_add-sum-in-loop-l c =
    let a = c.args in
    let p = c.requires.0 in
    let l = c.loop-l in
    omega (
      arith,
      l.invariant.few,
      p.lanes.to,
      one_few a.lanes a.strip.now a.marks.now p l.fixes c.mend_one.new.fixes l.sum l.l (omega arith) l.invariant c.in-Some.c c.in-Some.ensures,
    )

pub loop-l-preserved : goal.loop-l-preserved
loop-l-preserved c =
    let a = c.args in
    let l = c.loop-l in
    sofar_more a.lanes a.strip.now a.marks.now c.requires.0 l.fixes c.mend_one.new.fixes l.sum l.l (omega arith) l.invariant c.in-Some.c c.in-Some.ensures

pub returns : goal.returns
returns c =
    let a = c.args in
    let l = c.loop-l in
    all_mended a.lanes a.strip.now a.marks.now c.requires.0 l.fixes l.sum l.l (omega arith) l.invariant
