use mathlib.Core.Path.{◌≡◌}
use Prim.Native.Nat.{ℕ, ◌+◌, ◌*◌, ◌≤◌, ◌<◌}
use lib.ListN.{length, get_or}
use Rattle.boards.specs.Pack.{tile_byte}
use Rattle.boards.proofs.pack.pack.Given as goal

abbrev pub invariant-loop-g : goal.invariant-loop-g
invariant-loop-g l =
    (length l.out ≡ length l.initial.out)
    × ((b : ℕ) → b < 3 * l.g → get_or l.out (3 + b) 0 ≡ tile_byte l.tiles b)
    × ((i : ℕ) → i < 3 → get_or l.out i 0 ≡ get_or l.initial.out i 0)
    × ((i : ℕ) → 3 + 3 * l.g ≤ i → get_or l.out i 0 ≡ get_or l.initial.out i 0)
