use mathlib.Core.Path.{◌≡◌, sym, subst}
use Prim.Native.Nat.{ℕ, ◌<◌}
use mathlib.Core.List.{[]}
use native.Mathlib.Omega.{arith}
use lib.ListN.{get_or}
use Rattle.reductions.specs.Packed.{Reduced}
use Rattle.reductions.proofs.Rules.{reduction_at}
use Rattle.reductions.proofs.Tables.{reductions, reductions_tested}
use Rattle.reductions.proofs.at.Goals as goal

-- i is the byte, as an index
at_index : (k a i : ℕ) → k < 5 → a < 256 → i ≡ a → Reduced k a (get_or (get_or reductions k []) i 0)
at_index k a i lk la e = subst (λ (j : ℕ). Reduced k a (get_or (get_or reductions k []) j 0)) (sym e) (reduction_at reductions reductions_tested k a lk la)

pub returns : goal.returns
returns c = at_index c.args.k c.args.a c.from.result c.requires (omega arith) c.from.ensures
