use native.Mathlib.Omega.{arith}
use Rattle.marks.proofs.Listing.{none_to_come, all_gathered}
use Rattle.marks.proofs.all.Goals as goal
use Rattle.marks.proofs.all.Goals.{else-loop-i-test, then-loop-i-test+then-k-f}

pub returns : goal.returns
returns c =
    let L = c.loop-i in
    let m = c.args.marks.now in
    all_gathered m L.cells L.k L.i c.args.f L.invariant.0 c.requires.0 (elim c.loop-i-test.branch [
      | else-loop-i-test w ↦ none_to_come m L.cells L.k L.i c.args.f L.invariant.0 c.requires.0 (omega arith)
      | then-loop-i-test+then-k-f w ↦ omega (arith, w.if-k-f)
    ])
