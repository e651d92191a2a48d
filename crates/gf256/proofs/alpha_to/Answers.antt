use mathlib.Core.Path.{ap, ◌∙◌}
use mir.Facts.{to_z-of_z}
use Rattle.account.specs.Field.{power}
use Rattle.account.specs.Code.{alpha_to}
use Rattle.gf256.specs.Gf256.{gf256}
use Rattle.gf256.proofs.Signs.{negative, positive}
use Rattle.gf256.proofs.alpha_to.Goals as goal

-- to_z-of_z: the exponent is what the machine reads back from its bits
pub returns-then-j-lt0 : goal.returns-then-j-lt0
returns-then-j-lt0 c =
    c.backward.ensures ∙ ap (power gf256 0x8E) c.unsigned_abs-k.ensures.value ∙ negative _ c.if-j-lt0.true
    ∙ ap (alpha_to gf256) (to_z-of_z c.ranges.j)

pub returns-else-j-lt0 : goal.returns-else-j-lt0
returns-else-j-lt0 c =
    c.forward.ensures ∙ ap (power gf256 2) c.unsigned_abs-k.ensures.value ∙ positive _ c.if-j-lt0.false
    ∙ ap (alpha_to gf256) (to_z-of_z c.ranges.j)
