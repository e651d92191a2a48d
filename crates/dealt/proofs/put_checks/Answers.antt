use native.Mathlib.Omega.{arith}
use Rattle.dealt.proofs.CheckCells.{checks_put}
use Rattle.dealt.proofs.put_checks.Goals as goal

pub returns : goal.returns
returns c =
    let a = c.args in
    let q = c.lane_checks_of-c in
    checks_put a.lanes (omega arith) a.k a.x.now c.place_checks.new.x q.result c.requires.2 q.ensures c.place_checks.ensures
