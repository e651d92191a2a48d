use borrow.Author.Rules.{rules}
use Rattle.values.proofs.Values.{listed, unweigh_goes}
use Rattle.values.proofs.unweigh.Goals as goal

pub loop-j-preserved : goal.loop-j-preserved
loop-j-preserved c =
    let l = c.args.at.now in
    let L = c.loop-j in
    unweigh_goes l.n l.cells l.count (listed l (search rules)) c.args.v.now L.v L.j c.place-x.result
    c.product.result c.product-in-loop-j.result
    c.loop-j-test.true L.invariant c.place-x.ensures c.product.ensures c.product-in-loop-j.ensures
