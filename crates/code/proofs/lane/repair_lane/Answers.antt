use Rattle.code.proofs.LaneRepairs.{lane_repaired}
use borrow.Author.Rules.{rules}
use native.Mathlib.Omega.{arith}
use Rattle.code.proofs.lane.repair_lane.Goals as goal

pub returns : goal.returns
returns c =
    let a = c.args in
    let r = c.repair-answer in
    lane_repaired a.lane a.marks (omega arith) (omega arith) r.new.word r.result (omega arith) (search rules) (search rules) r.ensures
