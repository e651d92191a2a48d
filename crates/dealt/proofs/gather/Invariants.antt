use mathlib.Core.Path.{◌≡◌}
use Rattle.dealt.proofs.Gathering.{Gathering}
use Rattle.dealt.proofs.gather.Given as goal

abbrev pub invariant-loop-k : goal.invariant-loop-k
invariant-loop-k l = (l.t.len ≡ l.n) × Gathering l.lanes l.l l.strip l.t.bytes l.k
