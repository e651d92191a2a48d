use mathlib.Core.Path.{refl}
use native.Mathlib.Omega.{arith}
use Rattle.lanes.proofs.Noting.{noted_more, counts_small, cell_below, cell_small, cell_inside}
use Rattle.lanes.proofs.fixes.note.Goals as goal

pub overflow_mul-q : goal.overflow_mul-q
overflow_mul-q c =
    let a = c.args in
    omega (arith, cell_small a.lanes a.l a.w a.e a.marks.now a.fixes.now c.requires c.loop-i.i (omega arith))

pub overflow_add-q : goal.overflow_add-q
overflow_add-q c =
    let a = c.args in
    omega (arith, cell_small a.lanes a.l a.w a.e a.marks.now a.fixes.now c.requires c.loop-i.i (omega arith))

pub overflow_cast-fixes : goal.overflow_cast-fixes
overflow_cast-fixes c =
    let a = c.args in
    omega (arith, cell_small a.lanes a.l a.w a.e a.marks.now a.fixes.now c.requires c.loop-i.i (omega arith))

pub bounds-w-p : goal.bounds-w-p
bounds-w-p c =
    let a = c.args in
    omega (arith, cell_below a.lanes a.l a.w a.e a.marks.now a.fixes.now c.requires c.loop-i.i (omega arith), c.requires.short)

pub count_one-c-requires : goal.count_one-c-requires
count_one-c-requires c =
    let a = c.args in
    let l = c.loop-i in
    let s = counts_small a.lanes a.l a.w a.e a.marks.now a.fixes.now c.requires l.i (omega arith) l.fixes l.c l.invariant in
    (cell_inside a.lanes a.l a.w a.e a.marks.now a.fixes.now c.requires l.i (omega arith), s.0, s.1)

pub loop-i-preserved : goal.loop-i-preserved
loop-i-preserved c =
    let a = c.args in
    let l = c.loop-i in
    noted_more a.lanes a.l a.w a.e a.marks.now a.fixes.now c.requires l.i (omega arith) l.fixes l.c l.invariant _ refl refl refl
    c.count_one-c.result c.count_one-c.ensures
