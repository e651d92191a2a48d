use Rattle.tiny.proofs.Search.{passes, fewer_ahead, goes_on}
use Rattle.tiny.proofs.seek.Goals as goal

pub returns-in_default : goal.returns-in_default
returns-in_default c =
    let L = c.loop-board in
    (passes c.args.board.now L.board c.pass.new.board L.k L.invariant c.pass.auto.board c.loop-board-test.ensures, c.in_default.ensures)

pub loop-board-smaller : goal.loop-board-smaller
loop-board-smaller c =
    let L = c.loop-board in
    fewer_ahead c.args.board.now L.board c.pass.new.board L.k L.invariant c.pass.auto.board c.loop-board-test.ensures

pub loop-board-preserved : goal.loop-board-preserved
loop-board-preserved c =
    let L = c.loop-board in
    goes_on c.args.board.now L.board c.pass.new.board L.k L.invariant c.pass.auto.board c.loop-board-test.ensures c.in-Some.n c.in-Some.ensures
