use Prim.Native.Nat.{◌+◌, ◌*◌}
use native.Mathlib.Omega.{arith}
use Rattle.remainder.proofs.LanesOf.{rows_more, rows_all}
use Rattle.remainder.proofs.rows.Goals as goal

pub loop-q-preserved : goal.loop-q-preserved
loop-q-preserved c =
    let a = c.args in
    let p = c.requires in
    let l = c.loop-q in
    rows_more a.lanes (omega (arith, p.0.some)) a.s.now a.out.now p.0 p.1 l.out l.q l.invariant _ (omega arith)
    (omega (arith, c.row.ensures.1, l.invariant.long)) c.row.ensures.0

pub returns : goal.returns
returns c =
    let a = c.args in
    let p = c.requires in
    let l = c.loop-q in
    (rows_all a.lanes (omega (arith, p.0.some)) a.s.now a.out.now p.0 p.1 l.out l.q l.invariant (omega arith), l.invariant.long)

-- after the last row
pub returns-2 : goal.returns-2
returns-2 c =
    let a = c.args in
    let p = c.requires in
    let l = c.loop-q in (
      rows_all a.lanes (omega (arith, p.0.some)) a.s.now a.out.now p.0 p.1 c.row.new.out (l.q + 5 * a.lanes)
          (rows_more a.lanes (omega (arith, p.0.some)) a.s.now a.out.now p.0 p.1 l.out l.q l.invariant _ (omega arith)
          (omega (arith, c.row.ensures.1, l.invariant.long)) c.row.ensures.0) (omega arith),
      c.row.ensures.1,
    )
