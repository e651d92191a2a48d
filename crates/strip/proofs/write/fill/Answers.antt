use mathlib.Core.Path.{refl}
use native.Mathlib.Omega.{arith}
use Rattle.rules.proofs.Placing.{placed_0, placed_more}
use Rattle.strip.proofs.write.fill.Goals as goal

pub loop-p-init : goal.loop-p-init
loop-p-init c = placed_0 c.args.from (λ q. 0) c.args.x.now

pub loop-p-preserved : goal.loop-p-preserved
loop-p-preserved c =
    let l = c.loop-p in
    let a = c.args in
    placed_more a.from (λ q. 0) a.x.now l.x l.p 0 (omega arith) (omega arith) refl l.invariant
