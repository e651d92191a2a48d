use Rattle.patches.specs.Window.{WindowPatched}
use Rattle.patches.proofs.patch.Given as goal

abbrev pub invariant-loop-i : goal.invariant-loop-i
invariant-loop-i l = WindowPatched l.fixes.cells l.fixes.bytes l.i l.from l.initial.window l.window
