use mathlib.Core.Path.{sym, ◌∙◌}
use Prim.Native.Nat.{◌+◌, ◌*◌, ◌<◌, ◌%◌}
use native.Mathlib.Omega.{arith}
use borrow.Author.Tests.{ltb-true, leb-true}
use Rattle.level.specs.Strip.{Legal}
use Rattle.level.proofs.Lengths.{legal_is, legal_whole}
use Rattle.entry.proofs.Entering.{says_equal}
use Rattle.entry.proofs.legal.Goals as goal
use Rattle.entry.proofs.legal.Goals.{then-lanes-n, else-lanes-n}

pub returns-then-n-lanes : goal.returns-then-n-lanes
returns-then-n-lanes c =
    let a = c.args in
    let some : 0 < a.lanes = omega (arith, c.requires.from) in
    let most : a.n < 6 * a.lanes + 364 =
    elim c.if-lanes-n.branch [
      | then-lanes-n w ↦ ltb-true _ _ (sym w.value-is ∙ c.if-n-lanes.true)
      | else-lanes-n w ↦ absurd (omega (arith, leb-true _ _ (sym w.value-is ∙ c.if-n-lanes.true)))
    ] in
    says_equal (Legal a.lanes a.n) (a.n % a.lanes) 0 (λ e. legal_is a.lanes some a.n e (omega arith) most) (legal_whole a.lanes some a.n)
