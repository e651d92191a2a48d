use mathlib.Core.Path.{◌≡◌, ap}
use Prim.Native.Nat.{ℕ, ◌+◌, ◌*◌}
use native.Mathlib.Omega.{arith}
use lib.ListN.{drop}
use Rattle.tiles.specs.Sum.{weight}
use Rattle.boards.proofs.Codes.{tiles_at, sum_small, weight_run}
use Rattle.boards.proofs.board.tally.Goals as goal

pub overflow_add-x : goal.overflow_add-x
overflow_add-x c =
    let ts = c.args.tiles.now in
    let l = c.loop-g in
    omega (arith, sum_small (tiles_at ts (64 * l.g)) 64, c.block-x.ensures, l.invariant.0)

pub loop-g-preserved : goal.loop-g-preserved
loop-g-preserved c =
    let ts = c.args.tiles.now in
    let l = c.loop-g in
    let e : 64 * l.g + 64 ≡ 64 * (l.g + 1) = omega arith in (
      omega (arith, sum_small (tiles_at ts (64 * l.g)) 64, c.block-x.ensures, l.invariant.0),
      omega (
        arith,
        weight_run ts (64 * l.g) 64 (omega arith),
        ap (λ (k : ℕ). weight (drop k ts)) e,
        c.block-x.ensures,
        l.invariant.1,
      ),
    )
