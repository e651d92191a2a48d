use Rattle.patches.proofs.Windows.{window_0, window_more}
use Rattle.patches.proofs.patch.Goals as goal

pub loop-i-init : goal.loop-i-init
loop-i-init c =
    let a = c.args in
    window_0 a.fixes.now.cells a.fixes.now.bytes a.from a.window.now

pub loop-i-preserved : goal.loop-i-preserved
loop-i-preserved c =
    let a = c.args in
    let l = c.loop-i in
    window_more a.fixes.now.cells a.fixes.now.bytes a.from a.window.now l.i c.from.result l.window _ c.from.ensures l.invariant c.patch_one.ensures
