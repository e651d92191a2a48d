use Rattle.std.proofs.Common.{arith}
use borrow.Author.Tests.{ltb-true, ltb-false}
use Rattle.patches.proofs.Windows.{in_window, elsewhere}
use Rattle.patches.proofs.patch_one.Goals as goal
use Rattle.patches.proofs.patch_one.Goals.{then-inside, else-inside}

pub returns : goal.returns
returns c =
    let a = c.args in
    let q = c.distance-q in
    let o = c.offset-o in
    let v = c.if-inside in
    elim v.branch [
      | then-inside w ↦ in_window a.from a.p a.b q.result o.result v.window a.window.now c.requires.1 q.ensures o.ensures.0 o.ensures.1
          (omega (arith, ltb-true, w.if-inside.true)) w.window-is
      | else-inside w ↦ elsewhere a.from a.p a.b q.result o.result v.window a.window.now c.requires.1 q.ensures o.ensures.0 o.ensures.1
          (λ h. omega (arith, ltb-false, w.if-inside.false)) w.window-is
    ]
