use Rattle.text.proofs.Writing.{row_tiles, rows_next}
use native.Mathlib.Omega.{arith}
use Rattle.text.proofs.write.put_rows.Goals as goal

pub loop-y-preserved : goal.loop-y-preserved
loop-y-preserved c =
    let a = c.args in
    let L = c.loop-y in
    rows_next a.w a.text.now a.tiles.now L.text _ a.j L.y (omega (arith, row_tiles a.w a.h L.y (omega arith))) L.invariant c.put_letters.ensures
