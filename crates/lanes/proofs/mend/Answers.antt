use mathlib.Core.Path.{refl}
use native.Mathlib.Omega.{arith}
use Rattle.lanes.proofs.Untouched.{untouched}
use Rattle.lanes.proofs.mend.Goals as goal

pub returns-then-all_clean : goal.returns-then-all_clean
returns-then-all_clean c =
    let a = c.args in
    let p = c.requires in
    let r = c.remainders-r in
    untouched a.lanes a.strip.now a.marks.now p.0 (record { cell = λ j h. omega (arith, c.type_inv.strip j) })
    (p.1.none c.if-not-marked.true) r.result r.ensures c.if-all_clean.ensures _ p.2 p.3 refl
