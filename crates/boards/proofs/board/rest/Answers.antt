use Rattle.boards.proofs.Codes.{weight_next, weight_end}
use Rattle.tiles.proofs.Rows.{weighed_small}
use lib.ListN.{get_or}
use native.Mathlib.Omega.{arith}
use Rattle.boards.proofs.board.rest.Goals as goal

pub loop-t-preserved : goal.loop-t-preserved
loop-t-preserved c =
    let l = c.loop-t in
    let ts = c.args.tiles.now in (
      omega (arith, weighed_small (get_or ts l.t-index 0), c.weigh-x.ensures),
      omega (arith, weight_next ts l.t-index (omega arith), c.weigh-x.ensures, l.invariant.1),
    )

pub returns : goal.returns
returns c =
    let l = c.loop-t in
    (omega (arith, weight_end c.args.tiles.now l.t-index (omega arith), l.invariant.1), omega (arith, l.invariant.0))
