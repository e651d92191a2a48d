use mathlib.Core.Path.{refl}
use Rattle.std.proofs.lemmas.Result.{err_from_is_err_and}
use Rattle.rules.proofs.Tests.{said, denied}
use Rattle.level.specs.Level.{Sized}
use Rattle.text.proofs.Judging.{rows_12, layable, rows_refused, rows_read}
use Rattle.text.proofs.read.judge.Goals as goal

pub returns-then-not-sized : goal.returns-then-not-sized
returns-then-not-sized c =
    let a = c.args in
    rows_12 a.body.now a.f c.requires.0 a.tiles.now (denied (Sized a.f.width a.f.height) c.sized.result c.if-not-sized.true c.sized.ensures)

pub put-requires : goal.put-requires
put-requires c =
    let a = c.args in
    layable a.body.now a.f c.requires.0 (said (Sized a.f.width a.f.height) c.sized.result c.if-not-sized.false c.sized.ensures)

pub returns-in_err-check : goal.returns-in_err-check
returns-in_err-check c =
    let a = c.args in
    let o = c.requires in
    let sized = said (Sized a.f.width a.f.height) c.sized.result c.if-not-sized.false c.sized.ensures in
    let p = err_from_is_err_and c.from_residual.result c.from_residual.ensures.1 in
    rw (p.1, p.2) (rows_refused a.body.now a.f o.0 sized o.2 o.1 _ c.put.ensures _ c.in_err-check.ensures a.tiles.now c.in_err-check.field-0.0 refl)

pub returns : goal.returns
returns c =
    let a = c.args in
    let o = c.requires in
    let sized = said (Sized a.f.width a.f.height) c.sized.result c.if-not-sized.false c.sized.ensures in
    rows_read a.body.now a.f o.0 sized o.2 o.1 _ c.put.ensures _ c.in_ok-check.ensures a.tiles.now _ refl (rw c.copy_from_slice.ensures.after refl)
