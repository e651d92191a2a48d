-- The record of a level, as a function: bit by bit.
use mathlib.Core.Bool.{cond}
use Prim.Native.Nat.{ℕ, zero, suc, ◌+◌, ◌*◌, ◌-◌, ◌/◌, ◌%◌, ◌^◌}
use mathlib.Core.List.{List}
use lib.Dec.{ltb}
use lib.ListN.{get_or}
use Rattle.account.specs.Lists.{list_of}
use Rattle.level.specs.Level.{Level}
use Rattle.level.specs.Record.{record_length}

-- digit i of v's n binary digits, the most significant first
abbrev pub digit : ℕ → ℕ → ℕ → ℕ
digit n v i = v / 2 ^ (n - suc i) % 2

-- the number that n digits spell
unfoldable pub spelled : ℕ → (ℕ → ℕ) → ℕ
spelled zero f = 0
spelled (suc n) f = 2 * spelled n f + f n

-- version, width, height, par, tiles; past them zero bits
unfoldable pub record_bit : Level → ℕ → ℕ
record_bit l p =
    cond (ltb p 4) (digit 4 l.version p)
    (cond (ltb p 9) (digit 5 l.width (p - 4))
    (cond (ltb p 14) (digit 5 l.height (p - 9))
    (cond (ltb p 24) (digit 10 l.par (p - 14))
    (digit 3 (get_or l.tiles ((p - 24) / 3) 0) ((p - 24) % 3)))))

unfoldable pub record_byte : Level → ℕ → ℕ
unfolding spelled record_bit
record_byte l q = spelled 8 (λ i. record_bit l (8 * q + i))

unfoldable pub record_of : Level → List ℕ
unfolding list_of record_byte
record_of l = list_of (record_length l.width l.height) (record_byte l)
