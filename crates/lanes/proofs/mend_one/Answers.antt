use mathlib.Core.Path.{sym, subst}
use native.Mathlib.Omega.{arith}
use Rattle.marks.specs.Marks.{ListedIn}
use Rattle.dealt.proofs.Searching.{lane_clean}
use Rattle.lanes.specs.Lanes.{OneAs}
use Rattle.lanes.proofs.Repairs.{six_marked, kept_one}
use Rattle.lanes.proofs.mend_one.Goals as goal

pub returns-in_err-listed : goal.returns-in_err-listed
returns-in_err-listed c =
    let a = c.args in
    let p = c.requires.0 in
    subst (OneAs a.lanes a.strip.now a.marks.now a.l a.fixes.now a.fixes.now) (sym c.from_residual.ensures)
    (six_marked a.lanes a.strip.now a.marks.now p.entered a.l p.inside a.fixes.now c.in_err-listed.ensures)

pub returns-then-r-eq0 : goal.returns-then-r-eq0
returns-then-r-eq0 c =
    let a = c.args in
    let p = c.requires.0 in
    kept_one a.lanes a.strip.now a.marks.now p.entered a.l p.inside a.fixes.now c.in_ok-listed.listed
    (subst (ListedIn a.lanes a.l a.marks.now) c.in_ok-listed.was c.marked_in.ensures)
    (lane_clean a.lanes a.l a.strip.now a.r p.remains c.if-r-eq0.true)
    (record { cell = λ j h. omega (arith, c.type_inv.strip j) }) c.requires.2
