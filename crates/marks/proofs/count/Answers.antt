use Prim.Native.Nat.{◌≤◌}
use native.Mathlib.Omega.{arith}
use lib.ListN.{length, take}
use lib.Seq.{length-take-le}
use Rattle.marks.proofs.Counting.{counts_next, counts_few, erratum_below}
use Rattle.marks.proofs.count.Goals as goal

pub count_one-c-requires : goal.count_one-c-requires
count_one-c-requires c =
    let a = c.args in
    let p = c.requires in
    let l = c.loop-i in
    let f = counts_few a.marks.now (take l.i a.e.cells) (take l.i a.e.values) l.c l.invariant in
    let n : length (take l.i a.e.cells) ≤ 5 = omega (arith, length-take-le l.i a.e.cells (omega (arith, p.few, p.room)), p.few) in
    (erratum_below (length a.marks.now) a.e p l.i (omega arith), omega (arith, f.0), omega (arith, f.1))

pub loop-i-preserved : goal.loop-i-preserved
loop-i-preserved c =
    let a = c.args in
    let p = c.requires in
    let l = c.loop-i in
    counts_next a.marks.now a.e.cells a.e.values l.i l.c c.count_one-c.result (omega (arith, p.few, p.room))
    (omega (arith, p.few, p.values_room)) l.invariant c.count_one-c.ensures
