use borrow.Author.Rules.{rules}
use native.Mathlib.Omega.{arith}
use Rattle.locate.proofs.Sums.{climb_stops, climb_wrong, climb_more}
use Rattle.locate.proofs.climbs.Goals as goal
use Rattle.locate.proofs.climbs.Goals.{then-s-m-eq0-via-then-s-m-eq0, then-s-m-eq0-via-else-s-m-eq0+then-ratio-i}

pub returns-then-s-m-eq0 : goal.returns-then-s-m-eq0
returns-then-s-m-eq0 c =
    let L = c.loop-m in
    elim c.then-s-m-eq0.branch [
      | then-s-m-eq0-via-then-s-m-eq0 w ↦
          climb_stops c.args.s c.args.i L.m (λ m. search rules) L.invariant.0 c.loop-m-test.true w.if-s-m-eq0.true
      | then-s-m-eq0-via-else-s-m-eq0+then-ratio-i w ↦
          climb_wrong c.args.s c.args.i L.m (λ m. search rules) L.invariant.0 c.loop-m-test.true w.ratio.result c.requires.1 w.ratio.ensures w.if-ratio-i.true
    ]

pub loop-m-preserved : goal.loop-m-preserved
loop-m-preserved c =
    let L = c.loop-m in (
      omega (arith, c.if-s-m-eq0.false),
      climb_more c.args.s c.args.i L.m (λ m. search rules) L.invariant.0 c.loop-m-test.true c.ratio.result c.requires.1 c.ratio.ensures
          c.if-ratio-i.false L.invariant.1,
    )
