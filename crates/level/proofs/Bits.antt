-- Bits of a run of bytes.
use mathlib.Core.Path.{◌≡◌, ap₂}
use mathlib.Core.List.{List}
use Prim.Native.Nat.{ℕ, ◌+◌, ◌*◌, ◌-◌, ◌/◌, ◌%◌, ◌^◌, ◌<◌}
use native.Mathlib.Omega.{arith}
use lib.ListN.{get_or}
use Rattle.level.specs.Record.{bit_at}

-- bit i of byte q
pub bit_of : (bs : List ℕ) (q i : ℕ) → i < 8 → bit_at bs (8 * q + i) ≡ get_or bs q 0 / 2 ^ (7 - i) % 2
unfolding bit_at
bit_of bs q i h = ap₂ (λ (a b : ℕ). get_or bs a 0 / 2 ^ (7 - b) % 2) (omega arith) (omega arith)
