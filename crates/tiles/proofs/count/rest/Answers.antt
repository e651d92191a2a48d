use mathlib.Core.Path.{ap, ◌∙◌}
use native.Mathlib.Omega.{arith}
use Rattle.tiles.specs.Sum.{weighed, pairs_of}
use Rattle.tiles.proofs.Counting.{sum_next, ended}
use Rattle.tiles.proofs.count.rest.Goals as goal

pub loop-h-preserved : goal.loop-h-preserved
loop-h-preserved c =
    let l = c.loop-h in
    let part = c.args.part.now in
    let k = c.type_inv.part in
    let e = c.eight-x.ensures.0 ∙ ap (pairs_of weighed 4) c.last.ensures in (
      omega (arith, c.eight-x.ensures.1, l.invariant.0),
      omega (arith, e, sum_next weighed part l.h (λ q. omega (arith, k q)), l.invariant.1),
    )

pub returns : goal.returns
returns c =
    let l = c.loop-h in
    let part = c.args.part.now in
    record {
      rest = omega (arith, l.invariant.1, ended part l.h (omega arith) (omega arith));
      small = omega (arith, l.invariant.0);
    }
