use mathlib.Core.Path.{sym, ◌∙◌}
use native.Mathlib.Omega.{arith}
use Rattle.host.proofs.LaneOf.{export_1, export_2, export_mended, export_refused, refused}
use Rattle.host.proofs.zav_lane_repair.Goals as goal
use Rattle.host.proofs.zav_lane_repair.Goals.{then-is_ok, else-is_ok, then-n-gt-LANE_MOST-via-then-n-gt-LANE_MOST, then-n-gt-LANE_MOST-via-else-n-gt-LANE_MOST+then-n-lt6}

pub returns-then-n-gt-LANE_MOST : goal.returns-then-n-gt-LANE_MOST
returns-then-n-gt-LANE_MOST c =
    let a = c.args in
    elim c.then-n-gt-LANE_MOST.branch [
      | then-n-gt-LANE_MOST-via-then-n-gt-LANE_MOST w ↦
          export_1 a.marks.now a.lane.now c.pack_repaired.result (λ h. omega (arith, h.to, w.if-n-gt-LANE_MOST.true)) c.pack_repaired.ensures
      | then-n-gt-LANE_MOST-via-else-n-gt-LANE_MOST+then-n-lt6 w ↦
          export_1 a.marks.now a.lane.now c.pack_repaired.result (λ h. omega (arith, h.from, w.if-n-lt6.true)) c.pack_repaired.ensures
    ]

pub returns-then-marks-n : goal.returns-then-marks-n
returns-then-marks-n c =
    let a = c.args in
    export_2 a.marks.now a.lane.now c.pack_repaired-then-marks-n.result (omega (arith, c.if-n-lt6.false)) (omega (arith, c.if-n-gt-LANE_MOST.false)) c.if-marks-n.true
    c.pack_repaired-then-marks-n.ensures

pub returns : goal.returns
returns c =
    let a = c.args in
    let l = c.lane_of in
    let m = c.lane_of-2 in
    let x = c.repair_lane-r in
    elim c.if-is_ok.branch [
      | then-is_ok w ↦ export_mended a.marks.now a.lane.now l.result m.result x.result l.ensures.0 l.ensures.1 m.ensures.0 m.ensures.1 x.ensures _ _
          (w.lane-is ∙ w.put_back.ensures) c.pack_repaired-2.ensures
      | else-is_ok w ↦ rw w.lane-is (export_refused a.marks.now a.lane.now l.result m.result x.result l.ensures.0 l.ensures.1 m.ensures.0 m.ensures.1 x.ensures _
          (refused x.result.answer (sym c.is_ok.ensures.value ∙ w.if-is_ok.false)) c.pack_repaired-2.ensures)
    ]
