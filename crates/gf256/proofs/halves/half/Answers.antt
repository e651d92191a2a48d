use mathlib.Core.Path.{◌≡◌, sym, subst}
use Prim.Native.Nat.{ℕ, ◌<◌}
use native.Mathlib.Omega.{arith}
use lib.Bits.{bit_xor}
use lib.ListN.{get_or}
use Rattle.account.specs.Search.{HalfOf}
use Rattle.gf256.specs.Gf256.{gf256}
use Rattle.gf256.proofs.Rules.{halves_list, halves_right}
use Rattle.gf256.proofs.halves.half.Goals as goal

-- i is the byte, as an index
half_by : (c i : ℕ) → c < 256 → i ≡ c → HalfOf gf256 c (bit_xor (get_or halves_list i 0) c)
half_by c i m e = subst (λ (i : ℕ). HalfOf gf256 c (bit_xor (get_or halves_list i 0) c)) (sym e) (halves_right.half_at c m)

pub returns : goal.returns
returns c = half_by c.args.c c.from.result (omega arith) c.from.ensures
