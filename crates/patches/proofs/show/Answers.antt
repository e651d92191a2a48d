use Rattle.patches.proofs.Windows.{window_shown}
use Rattle.patches.proofs.show.Goals as goal

pub returns : goal.returns
returns c = let a = c.args in
    window_shown a.strip.now a.fixes.now.cells a.fixes.now.bytes a.scratch.now _ _ a.fixes.now.count a.from a.to c.min-n.result
    c.min-n.ensures c.requires.0 c.requires.1 c.copy.ensures c.patch.ensures
