use mathlib.Core.Path.{◌∙◌}
use Rattle.gf256.proofs.Lookups.{backward_by}
use Rattle.gf256.proofs.backward.Goals as goal

pub returns : goal.returns
returns c = c.power_at.ensures ∙ backward_by c.args.k
