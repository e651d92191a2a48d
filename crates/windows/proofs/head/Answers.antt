use native.Mathlib.Omega.{arith}
use Rattle.windows.proofs.Weighing.{head_seen}
use Rattle.windows.proofs.head.Goals as goal

pub returns : goal.returns
returns c =
    let a = c.args in
    let p = c.requires in
    let o = c.show in
    head_seen a.strip.now _ a.fixes.now a.to o.result (omega (arith, p.some)) p.inside o.ensures
    c.head_of.result c.head_of.ensures
