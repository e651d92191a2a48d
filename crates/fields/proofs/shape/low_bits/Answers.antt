use Rattle.fields.proofs.Filling.{shifted}
use mathlib.Core.Path.{ap₂}
use Prim.Native.Nat.{ℕ, ◌%◌}
use Rattle.fields.proofs.shape.low_bits.Goals as goal

pub returns : goal.returns
returns c = ap₂ (λ (x y : ℕ). x % y) c.from.ensures (shifted c.args.k c.requires)
