use mathlib.Core.Path.{refl}
use lib.ListN.{length}
use native.Mathlib.Omega.{arith}
use Rattle.std.proofs.lemmas.Result.{err_from_is_err_and}
use Rattle.patches.specs.Patched.{patched}
use Rattle.level.proofs.Lengths.{lanes_within, cells_most}
use Rattle.level.proofs.Counts.{legal_some}
use Rattle.strip.proofs.Entering.{entered, ready}
use Rattle.strip.proofs.Reader.{early_as, lane_as, finish_refused, finished_as}
use Rattle.strip.proofs.read.read_upto.Goals as goal

pub returns-in_err-marked : goal.returns-in_err-marked
returns-in_err-marked c =
    let a = c.args in
    let p = err_from_is_err_and c.from_residual.result c.from_residual.ensures.1 in
    rw (p.1, p.2) (early_as a.upto a.lanes a.strip.now a.marks.now a.tiles.now a.scratch.now c.in_err-marked.field-0.0 c.in_err-marked.ensures.first)

pub returns-in-Err : goal.returns-in-Err
returns-in-Err c =
    let a = c.args in
    let h = entered a.lanes a.strip.now a.marks.now (length a.tiles.now) (length a.scratch.now) 0 refl c.in_ok-marked.ensures.first in
    lane_as a.upto a.lanes a.strip.now a.marks.now a.tiles.now a.scratch.now _ h c.in-Err.lane c.in-Err.ensures

pub returns-in_err-f : goal.returns-in_err-f
returns-in_err-f c =
    let a = c.args in
    let h = entered a.lanes a.strip.now a.marks.now (length a.tiles.now) (length a.scratch.now) 0 refl c.in_ok-marked.ensures.first in
    let x = c.mend.new.fixes in
    let r = c.in_err-f.field-0.0 in
    let p = err_from_is_err_and c.from_residual-in_err-f.result c.from_residual-in_err-f.ensures.1 in
    rw (p.1, p.2) (finished_as a.upto a.lanes a.strip.now a.marks.now a.tiles.now a.scratch.now _ h (patched x.cells x.bytes x.count a.strip.now)
    c.in-Ok.ensures.found c.in-Ok.counts.mended c.in-Ok.counts.repainted c.in-Ok.ensures.count c.in-Ok.ensures.repaints c.accept.new.tiles _ (finish_refused a.upto a.lanes _ a.tiles.now c.accept.new.tiles (length a.strip.now) _ _ r c.in_err-f.ensures))

pub finish-requires : goal.finish-requires
finish-requires c =
    let a = c.args in
    let h = entered a.lanes a.strip.now a.marks.now (length a.tiles.now) (length a.scratch.now) 0 refl c.in_ok-marked.ensures.first in
    let r = ready a.lanes a.strip.now a.marks.now (length a.tiles.now) (length a.scratch.now) h in
    let w = lanes_within a.lanes h.0 in (
      omega (arith, w.to, c.in-Ok.ensures.small),
      record {
        from = legal_some a.lanes (omega (arith, w.from)) r.legal;
        to = cells_most a.lanes h.0 (length a.strip.now) r.legal;
      },
    )

pub returns : goal.returns
returns c =
    let a = c.args in
    let h = entered a.lanes a.strip.now a.marks.now (length a.tiles.now) (length a.scratch.now) 0 refl c.in_ok-marked.ensures.first in
    let x = c.mend.new.fixes in
    finished_as a.upto a.lanes a.strip.now a.marks.now a.tiles.now a.scratch.now _ h (patched x.cells x.bytes x.count a.strip.now)
    c.in-Ok.ensures.found c.in-Ok.counts.mended c.in-Ok.counts.repainted c.in-Ok.ensures.count c.in-Ok.ensures.repaints c.accept.new.tiles _ (c.finish.ensures a.upto _ a.tiles.now c.accept.new.tiles c.in_ok-f.ensures)
