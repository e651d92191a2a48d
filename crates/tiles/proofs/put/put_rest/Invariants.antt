use mathlib.Core.Path.{◌≡◌}
use Prim.Native.Nat.{ℕ, ◌+◌, ◌-◌, ◌≤◌, ◌<◌}
use lib.ListN.{length, get_or}
use Rattle.tiles.specs.Put.{byte_of}
use Rattle.tiles.proofs.put.put_rest.Given as goal

abbrev pub invariant-loop-i : goal.invariant-loop-i
invariant-loop-i l =
    (length l.out ≡ length l.initial.out)
    × ((j : ℕ) → byte_of j l.u ≡ byte_of (l.i - l.k + j) l.w)
    × ((j : ℕ) → l.k + j < l.i → get_or l.out (l.k + j) 0 ≡ byte_of j l.w)
    × ((q : ℕ) → q < l.k → get_or l.out q 0 ≡ get_or l.initial.out q 0)
    × ((q : ℕ) → l.i ≤ q → get_or l.out q 0 ≡ get_or l.initial.out q 0)
