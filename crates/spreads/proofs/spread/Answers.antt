use native.Mathlib.Omega.{arith}
use Rattle.spreads.proofs.Tables.{spread_at}
use Rattle.spreads.proofs.spread.Goals as goal

pub returns : goal.returns
returns c = spread_at c.args.k c.args.x c.from.result c.requires (omega arith) c.from.ensures
