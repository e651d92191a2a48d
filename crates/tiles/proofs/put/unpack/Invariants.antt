use mathlib.Core.Path.{◌≡◌}
use Prim.Native.Nat.{ℕ, ◌*◌, ◌≤◌, ◌<◌}
use lib.ListN.{length, get_or}
use Rattle.level.specs.Record.{field_at}
use Rattle.tiles.proofs.put.unpack.Given as goal

abbrev pub invariant-loop-g : goal.invariant-loop-g
invariant-loop-g l =
    (length l.tiles ≡ length l.initial.tiles)
    × ((i : ℕ) → i < 8 * l.g → i < l.m → get_or l.tiles i 0 ≡ field_at l.part (3 * i) 3)
    × ((i : ℕ) → 8 * l.g ≤ i → get_or l.tiles i 0 ≡ get_or l.initial.tiles i 0)
