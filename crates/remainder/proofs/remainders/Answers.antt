use Prim.Native.Nat.{◌/◌, ◌%◌}
use lib.ListN.{length}
use native.Mathlib.Omega.{arith}
use Rattle.remainder.proofs.LanesOf.{rest_whole, lanes_remain}
use Rattle.remainder.proofs.remainders.Goals as goal

pub rows-requires : goal.rows-requires
rows-requires c =
    let a = c.args in
    let p = c.requires in
    let h = c.heads in
    (record { some = p.0; few = p.1; long = h.ensures.1; small = λ j l. (h.ensures.0 j l).small }, rest_whole a.lanes (omega (arith, p.0)) a.s.now)

pub returns : goal.returns
returns c =
    let a = c.args in
    let p = c.requires in
    lanes_remain a.lanes (omega (arith, p.0)) a.s.now c.heads.new.out c.rows.new.out
    (length a.s.now / a.lanes % 5) (λ i. omega (arith, c.type_inv.s i)) (omega arith)
    c.heads.ensures.0 c.rows.ensures.0
