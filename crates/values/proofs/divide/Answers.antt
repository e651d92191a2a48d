use borrow.Author.Rules.{rules}
use lib.Bits.{bit_xor}
use Rattle.gf256.specs.Tables.{inverse_of}
use Rattle.values.proofs.Values.{listed, cell_below, apart_by, divide_goes, divide_ends}
use Rattle.values.proofs.divide.Goals as goal

pub place-y-requires : goal.place-y-requires
place-y-requires c =
    let l = c.args.at.now in
    (cell_below l.n l.cells l.count (listed l (search rules)) c.loop-j.j c.loop-j-test.true, l.short)

pub quotient-u-requires : goal.quotient-u-requires
quotient-u-requires c =
    let l = c.args.at.now in
    apart_by l.n l.cells l.count (listed l (search rules)) c.args.i c.loop-j.j c.place-x.result c.place-y.result
    c.loop-j.invariant.low c.loop-j-test.true c.place-x.ensures c.place-y.ensures

pub loop-j-preserved : goal.loop-j-preserved
loop-j-preserved c =
    let l = c.args.at.now in
    let L = c.loop-j in
    divide_goes l.n l.cells l.count (listed l (search rules)) c.args.i c.args.v.now c.args.s0 L.v L.sum L.j
    c.place-x.result c.place-y.result (inverse_of (bit_xor c.place-y.result c.place-x.result)) c.quotient-u.result
    c.loop-j-test.true L.invariant c.place-x.ensures c.place-y.ensures c.quotient-u.ensures.0 c.quotient-u.ensures.1

pub returns : goal.returns
returns c =
    let l = c.args.at.now in
    let L = c.loop-j in
    divide_ends l.n l.cells l.count (listed l (search rules)) c.args.i c.args.v.now c.args.s0 L.v L.sum L.j c.requires
    c.loop-j-test.false L.invariant
