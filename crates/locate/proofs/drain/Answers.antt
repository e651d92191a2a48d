use Rattle.account.proofs.Cells.{below_at}
use Rattle.locate.proofs.Sums.{drain_goes}
use Rattle.locate.proofs.drain.Goals as goal

pub place-requires : goal.place-requires
place-requires c =
    (below_at c.args.ps.now c.args.n c.loop-p.p-index c.requires.0 c.loop-p-test.true, c.requires.1)

pub loop-p-preserved : goal.loop-p-preserved
loop-p-preserved c =
    let L = c.loop-p in
    drain_goes c.args.n c.args.ps.now c.args.s L.t c.filter-u.result L.p-index c.place.result c.loop-p-test.true L.invariant
    c.place.ensures c.filter-u.ensures
