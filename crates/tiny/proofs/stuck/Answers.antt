use mathlib.Core.Path.{◌≡◌, ap, ◌∙◌}
use Prim.Native.Nat.{◌+◌, ◌-◌}
use native.Mathlib.Omega.{arith}
use lib.ListN.{length, get_or}
use lib.Seq.{take_all}
use Rattle.tiles.specs.Sum.{weight}
use Rattle.tiles.proofs.Rows.{weighed_small}
use Rattle.tiny.proofs.Given.{is_fair, not_fair}
use Rattle.tiny.proofs.Fronts.{weight_none, weight_front, stuck_front, stuck_whole}
use Rattle.tiny.proofs.stuck.Goals as goal

pub loop-i-init : goal.loop-i-init
loop-i-init c = (weight_none c.args.board.now, omega arith)

pub returns-then-lost : goal.returns-then-lost
returns-then-lost c =
    let b = c.args.board.now in
    let l = c.loop-i in
    stuck_front b c.requires.0 c.requires.2 (l.i + 1) (l.x + c.weigh-x.result) (length b - 1 - l.i) (omega arith)
    (omega (arith, l.invariant.0, weight_front b l.i (omega arith), c.weigh-x.ensures)) (omega arith) (c.lost.ensures c.if-lost.true)

pub loop-i-preserved : goal.loop-i-preserved
loop-i-preserved c =
    let b = c.args.board.now in
    let l = c.loop-i in
    let w = c.weigh-x in (
      omega (arith, l.invariant.0, weight_front b l.i (omega arith), w.ensures),
      omega (arith, l.invariant.1, weighed_small (get_or b l.i 0), w.ensures),
    )

pub returns-in-Ok : goal.returns-in-Ok
returns-in-Ok c =
    let b = c.args.board.now in
    let l = c.loop-i in
    let whole : l.x ≡ weight b = l.invariant.0 ∙ ap weight (take_all l.i b (omega arith)) in
    is_fair b (c.in-Ok.ensures.code_of b (omega (arith, c.requires.2)) whole)

pub returns-in-Err : goal.returns-in-Err
returns-in-Err c =
    let b = c.args.board.now in
    let l = c.loop-i in
    let whole : l.x ≡ weight b = l.invariant.0 ∙ ap weight (take_all l.i b (omega arith)) in
    stuck_whole b c.requires.0 c.requires.2
    (not_fair b c.in-Err.field-0 (c.in-Err.ensures.code_of b (omega (arith, c.requires.2)) whole) c.requires.0)
