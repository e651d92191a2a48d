use mathlib.Core.Path.{◌∙◌}
use Rattle.gf256.proofs.Field256.{field256}
use Rattle.gf256.proofs.Lookups.{reduced}
use Rattle.gf256.proofs.forward.Goals as goal

pub returns : goal.returns
returns c = c.power_at.ensures ∙ reduced 2 c.args.k field256.α_around
