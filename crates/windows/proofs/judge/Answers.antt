use Rattle.std.proofs.lemmas.Result.{err_from_is_err_and}
use native.Mathlib.Omega.{arith}
use Rattle.fields.proofs.Judging.{area_few, judged_ok, judged_err}
use Rattle.windows.specs.Windows.{record_in}
use Rattle.windows.proofs.Weighing.{length_record}
use Rattle.windows.proofs.Judging.{not_ranged, not_fitting, not_blank_after, by_tiles}
use Rattle.windows.proofs.judge.Goals as goal

pub returns-then-not-head_ranged : goal.returns-then-not-head_ranged
returns-then-not-head_ranged c =
    let a = c.args in
    let bs = record_in a.strip.now a.fixes.now a.to in
    let e = length_record a.strip.now a.fixes.now a.to c.requires.0.inside in
    not_ranged a.upto a.lanes a.to bs e c.head-f.result c.head-f.ensures c.head_ranged.result c.if-not-head_ranged.true c.head_ranged.ensures

pub overflow_mul-m : goal.overflow_mul-m
overflow_mul-m c =
    omega (arith, area_few (record_in c.args.strip.now c.args.fixes.now c.args.to) c.head-f.result c.head-f.ensures)

pub fits-requires : goal.fits-requires
fits-requires c =
    (c.requires.1, area_few (record_in c.args.strip.now c.args.fixes.now c.args.to) c.head-f.result c.head-f.ensures)

pub overflow_mul-m-2 : goal.overflow_mul-m-2
overflow_mul-m-2 c =
    omega (arith, area_few (record_in c.args.strip.now c.args.fixes.now c.args.to) c.head-f.result c.head-f.ensures)

pub overflow_add-m : goal.overflow_add-m
overflow_add-m c =
    omega (arith, area_few (record_in c.args.strip.now c.args.fixes.now c.args.to) c.head-f.result c.head-f.ensures)

pub returns-then-not-fits : goal.returns-then-not-fits
returns-then-not-fits c =
    let a = c.args in
    let bs = record_in a.strip.now a.fixes.now a.to in
    let e = length_record a.strip.now a.fixes.now a.to c.requires.0.inside in
    not_fitting a.upto a.lanes a.to bs e c.head-f.result c.head-f.ensures c.head_ranged.result c.if-not-head_ranged.false c.head_ranged.ensures
    c.fits.result c.if-not-fits.true c.fits.ensures

pub returns-in_default : goal.returns-in_default
returns-in_default c =
    let a = c.args in
    let bs = record_in a.strip.now a.fixes.now a.to in
    let e = length_record a.strip.now a.fixes.now a.to c.requires.0.inside in
    not_blank_after a.upto a.lanes a.to bs e c.head-f.result c.head-f.ensures c.head_ranged.result c.if-not-head_ranged.false c.head_ranged.ensures
    c.fits.result c.if-not-fits.false c.fits.ensures c.in_default.ensures

pub returns-in_err-sum_code : goal.returns-in_err-sum_code
returns-in_err-sum_code c =
    let a = c.args in
    let bs = record_in a.strip.now a.fixes.now a.to in
    let e = length_record a.strip.now a.fixes.now a.to c.requires.0.inside in
    let p = err_from_is_err_and c.from_residual.result c.from_residual.ensures.1 in
    rw (p.1, p.2) (judged_err a.upto a.lanes bs c.in_err-sum_code.field-0.0 (by_tiles a.upto a.lanes a.to bs e c.head-f.result c.head-f.ensures c.head_ranged.result c.if-not-head_ranged.false
    c.head_ranged.ensures c.fits.result c.if-not-fits.false c.fits.ensures c.in-Some.sum _ c.in-Some.ensures c.requires.1.from c.in_err-sum_code.ensures))

pub returns : goal.returns
returns c =
    let a = c.args in
    let bs = record_in a.strip.now a.fixes.now a.to in
    let e = length_record a.strip.now a.fixes.now a.to c.requires.0.inside in
    judged_ok bs c.head-f.result c.head-f.ensures a.upto a.lanes (by_tiles a.upto a.lanes a.to bs e c.head-f.result c.head-f.ensures c.head_ranged.result c.if-not-head_ranged.false
    c.head_ranged.ensures c.fits.result c.if-not-fits.false c.fits.ensures c.in-Some.sum _ c.in-Some.ensures c.requires.1.from c.in_ok-sum_code.ensures)
