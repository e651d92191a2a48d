use Rattle.std.proofs.lemmas.Result.{err_from_is_err_and}
use native.Mathlib.Omega.{arith}
use Rattle.rules.proofs.Tests.{said, denied}
use Rattle.level.specs.Reading.{Shaped}
use Rattle.tiles.proofs.Counting.{counted_summed}
use Rattle.fields.proofs.Judging.{Opens, judged_err, judged_8, judged_ok, area_is, area_few, headed, judged_by_tiles}
use Rattle.record.proofs.read.judge.Goals as goal

pub overflow_mul-f : goal.overflow_mul-f
overflow_mul-f c = omega (arith, area_few c.args.bs.now c.head_of-f.result c.head_of-f.ensures)

pub shaped-requires : goal.shaped-requires
shaped-requires c =
    let f = c.head_of-f in
    let bs = c.args.bs.now in
    (c.requires.1, area_is bs f.result f.ensures, area_few bs f.result f.ensures)

pub returns-then-not-shaped : goal.returns-then-not-shaped
returns-then-not-shaped c =
    let t = c.head_ranged in
    let f = c.head_of-f in
    let a = c.args in
    judged_8 a.upto a.lanes a.bs.now
    (headed a.bs.now f.result f.ensures a.upto (said (Opens a.upto f.result) t.result c.if-not-head_ranged.false t.ensures))
    (denied (Shaped a.lanes a.bs.now) c.shaped.result c.if-not-shaped.true c.shaped.ensures)

pub returns-in_err-sum_code : goal.returns-in_err-sum_code
returns-in_err-sum_code c =
    let t = c.head_ranged in
    let f = c.head_of-f in
    let a = c.args in
    let p = err_from_is_err_and c.from_residual.result c.from_residual.ensures.1 in
    rw (p.1, p.2) (judged_err a.upto a.lanes a.bs.now c.in_err-sum_code.field-0.0
    (judged_by_tiles a.bs.now f.result f.ensures a.upto a.lanes c.tally.result _ c.requires.1.from
    (said (Opens a.upto f.result) t.result c.if-not-head_ranged.false t.ensures)
    (said (Shaped a.lanes a.bs.now) c.shaped.result c.if-not-shaped.false c.shaped.ensures)
    (counted_summed _ c.tally.result c.tally.ensures) c.in_err-sum_code.ensures))

pub returns : goal.returns
returns c =
    let t = c.head_ranged in
    let f = c.head_of-f in
    let a = c.args in
    judged_ok a.bs.now f.result f.ensures a.upto a.lanes
    (judged_by_tiles a.bs.now f.result f.ensures a.upto a.lanes c.tally.result _ c.requires.1.from
    (said (Opens a.upto f.result) t.result c.if-not-head_ranged.false t.ensures)
    (said (Shaped a.lanes a.bs.now) c.shaped.result c.if-not-shaped.false c.shaped.ensures)
    (counted_summed _ c.tally.result c.tally.ensures) c.in_ok-sum_code.ensures)
