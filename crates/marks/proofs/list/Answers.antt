use mathlib.Core.Path.{sym}
use native.Mathlib.Omega.{arith}
use borrow.Author.Rules.{rules}
use Rattle.account.specs.Lanes.{lane}
use Rattle.account.proofs.Lanes.{length_lane}
use Rattle.marks.proofs.Listing.{list_starts, lane_goes, lane_many, list_ends}
use Rattle.marks.proofs.list.Goals as goal

pub loop-i-init : goal.loop-i-init
loop-i-init c =
    let a = c.args in
    list_starts (lane a.lanes a.l a.marks.now) _ _ (search rules)
    (sym (length_lane a.lanes (omega (arith, c.requires.0)) a.l a.marks.now))

pub returns-then-k-gt-MOST : goal.returns-then-k-gt-MOST
returns-then-k-gt-MOST c =
    let L = c.loop-i in
    let u = c.push-k in
    lane_many c.args.lanes c.args.l c.requires.0 c.args.marks.now L.cells L.k L.i (search rules) L.invariant u.new.cells u.result
    u.ensures c.if-k-gt-MOST.true

pub loop-i-preserved : goal.loop-i-preserved
loop-i-preserved c =
    let L = c.loop-i in
    let u = c.push-k in
    lane_goes c.args.lanes c.args.l c.requires.0 c.args.marks.now L.cells L.k L.i (search rules) L.invariant u.new.cells u.result
    u.ensures (search rules)

pub returns : goal.returns
returns c =
    let L = c.loop-i in
    list_ends (lane c.args.lanes c.args.l c.args.marks.now) L.cells L.k L.i (search rules) L.invariant
