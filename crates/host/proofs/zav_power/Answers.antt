use mathlib.Core.Path.{ap, ◌∙◌}
use mir.Facts.{to_z-of_z}
use Rattle.account.specs.Code.{alpha_to}
use Rattle.gf256.specs.Gf256.{gf256}
use Rattle.host.proofs.zav_power.Goals as goal

pub returns : goal.returns
returns c = c.power.ensures ∙ ap (alpha_to gf256) (to_z-of_z c.ranges.exponent)
