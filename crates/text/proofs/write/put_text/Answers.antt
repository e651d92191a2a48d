use mathlib.Core.Path.{ap, subst}
use mathlib.Core.List.{List, ◌++◌}
use Prim.Native.Nat.{ℕ}
use native.Mathlib.Omega.{arith}
use lib.ListN.{length, drop, length-append, length-drop}
use Rattle.level.specs.Level.{AllTiles}
use Rattle.text.proofs.Writing.{rows_fit, line_fits, text_put}
use Rattle.text.proofs.write.put_text.Goals as goal

pub slice_bounds-copy_from_slice-end : goal.slice_bounds-copy_from_slice-end
slice_bounds-copy_from_slice-end c =
    let a = c.args in
    omega (arith, rows_fit a.f a.tiles.now a.text.now c.requires.0 c.requires.1 c.requires.2 _ c.line_of-line.ensures)

pub copy_from_slice-requires : goal.copy_from_slice-requires
copy_from_slice-requires c =
    let a = c.args in
    line_fits a.f a.tiles.now a.text.now c.requires.0 c.requires.1 c.requires.2 _ c.line_of-line.ensures

pub put_rows-requires : goal.put_rows-requires
put_rows-requires c =
    let a = c.args in
    let il = c.requires.0 in
    let n = c.line_of-line.result.len in
    let fit = rows_fit a.f a.tiles.now a.text.now il c.requires.1 c.requires.2 _ c.line_of-line.ensures in (
      subst (λ (v : ℕ). AllTiles v a.tiles.now) c.requires.1 il.codes,
      il.count,
      il.ranged.sized.not_wider,
      il.ranged.sized.not_higher,
      omega (
        arith,
        fit,
        ap length c.copy_from_slice.ensures.after,
        length-append c.copy_from_slice.new.self (drop n a.text.now),
        length-drop n a.text.now,
      ),
    )

pub returns : goal.returns
returns c =
    let a = c.args in
    let line = c.line_of-line.result in
    text_put a.f a.tiles.now a.text.now c.requires.0 c.requires.1 c.requires.2 line c.line_of-line.ensures _ _
    (ap (λ (s : List ℕ). s ++ drop line.len a.text.now) c.copy_from_slice.ensures.after) c.put_rows.ensures
