use mathlib.Core.Path.{◌≡◌, ap, ◌∙◌}
use Prim.Native.Nat.{ℕ, ◌+◌, ◌*◌}
use native.Mathlib.Omega.{arith}
use lib.ListN.{get_or}
use Rattle.boards.proofs.Squeezing.{squeeze, squeezed}
use Rattle.boards.proofs.Packing.{joined_eight}
use Rattle.boards.proofs.pack.full.Goals as goal

pub returns : goal.returns
returns c =
    let ts = c.args.tiles.now in
    let m = c.requires.2 in
    let k = 8 * c.args.g in
    let z : k ≡ k + 0 = omega arith in
    ap squeeze c.word-w.ensures
    ∙ squeezed
    (get_or ts k 0) (get_or ts (k + 1) 0) (get_or ts (k + 2) 0) (get_or ts (k + 3) 0)
    (get_or ts (k + 4) 0) (get_or ts (k + 5) 0) (get_or ts (k + 6) 0) (get_or ts (k + 7) 0)
    (m k) (m (k + 1)) (m (k + 2)) (m (k + 3)) (m (k + 4)) (m (k + 5)) (m (k + 6)) (m (k + 7))
    ∙ omega (arith, joined_eight (λ j. get_or ts (k + j) 0), ap (λ (n : ℕ). get_or ts n 0) z)
