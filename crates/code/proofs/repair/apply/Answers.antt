use native.Mathlib.Omega.{arith}
use lib.ListN.{length}
use Rattle.marks.proofs.Counting.{erratum_below}
use Rattle.code.proofs.Applying.{applied_next}
use Rattle.code.proofs.repair.apply.Goals as goal

pub bounds-word-e : goal.bounds-word-e
bounds-word-e c = let a = c.args in
    omega (arith, c.loop-k.invariant.same_length, erratum_below (length a.word.now) a.e c.requires c.loop-k.k (omega arith))

pub bounds-word-e-in-loop-k : goal.bounds-word-e-in-loop-k
bounds-word-e-in-loop-k c = let a = c.args in
    omega (arith, c.loop-k.invariant.same_length, erratum_below (length a.word.now) a.e c.requires c.loop-k.k (omega arith))

pub loop-k-preserved : goal.loop-k-preserved
loop-k-preserved c =
    let a = c.args in
    let l = c.loop-k in
    applied_next (length a.word.now) a.e c.requires l.k (omega arith) a.word.now l.word
    (erratum_below (length a.word.now) a.e c.requires l.k (omega arith)) l.invariant
