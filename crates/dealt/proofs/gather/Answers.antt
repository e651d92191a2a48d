use native.Mathlib.Omega.{arith}
use Rattle.dealt.proofs.Gathering.{gathered}
use Rattle.dealt.proofs.gather.Goals as goal

pub returns : goal.returns
returns c =
    let a = c.args in
    let l = c.loop-k in
    (l.invariant.0, rw l.invariant.0 (gathered a.lanes a.l a.n a.strip.now c.requires.0 l.t.bytes l.k (omega arith) l.invariant.1))
