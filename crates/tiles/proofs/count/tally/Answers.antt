use mathlib.Core.Path.{◌≡◌, refl, ap, ◌∙◌}
use Prim.Native.Nat.{ℕ, ◌+◌, ◌*◌}
use native.Mathlib.Omega.{arith}
use lib.ListN.{get_or}
use Rattle.account.specs.Lists.{sum_of}
use Rattle.tiles.specs.Sum.{weighed, triples_of}
use Rattle.tiles.specs.Word.{word_at}
use Rattle.tiles.proofs.Counting.{nine_next}
use Rattle.tiles.proofs.count.tally.Goals as goal

none : (f : ℕ → ℕ) → 0 ≡ sum_of 0 f
unfolding sum_of
none f = refl

pub loop-k-init : goal.loop-k-init
loop-k-init c = (omega arith, none _)

pub loop-k-preserved : goal.loop-k-preserved
loop-k-preserved c =
    let l = c.loop-k in
    let part = c.args.part.now in
    let b = c.type_inv.part in
    let e : c.nine-x.result ≡ triples_of weighed 8 (word_at part (9 * l.k) * 256 + get_or part (9 * l.k + 8) 0)
    = c.nine-x.ensures.0 ∙ ap (triples_of weighed 8) (omega arith) in (
      omega (arith, c.nine-x.ensures.1, l.invariant.0),
      omega (arith, e, nine_next weighed part l.k (λ q. omega (arith, b q)), l.invariant.1),
    )
