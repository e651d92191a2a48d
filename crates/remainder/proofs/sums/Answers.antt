use mathlib.Core.Path.{◌≡◌, ap, ◌∙◌, subst}
use Prim.Native.Nat.{ℕ, ◌*◌, ◌/◌, ◌%◌, ◌^◌}
use native.Mathlib.Omega.{arith}
use Rattle.reductions.specs.Packed.{SumsOf}
use Rattle.remainder.proofs.Halves.{sums_start, sums_next, rest_next, sums_end}
use Rattle.remainder.proofs.sums.Goals as goal

pub loop-k-init : goal.loop-k-init
loop-k-init c = (omega arith, sums_start c.args.r)

pub loop-k-preserved : goal.loop-k-preserved
loop-k-preserved c =
    let L = c.loop-k in
    let r = c.args.r in (
      ap (λ (m : ℕ). m / 16) L.invariant.0 ∙ rest_next r L.k,
      sums_next r L.k L.x c.sums_at-x.result L.invariant.1
          (subst (λ (m : ℕ). SumsOf (m % 16 * 2 ^ (4 * L.k)) c.sums_at-x.result) L.invariant.0 c.sums_at-x.ensures.0),
    )

pub returns : goal.returns
returns c =
    let L = c.loop-k in
    let r = c.args.r in
    let e : L.k ≡ 10 = omega arith in
    sums_end r L.x (subst (λ (k : ℕ). SumsOf (r % 2 ^ (4 * k)) L.x) e L.invariant.1)
