use mathlib.Core.Path.{◌∙◌}
use Rattle.tiles.proofs.Rows.{row_at}
use Rattle.tiles.proofs.tile.weigh.Goals as goal

pub returns : goal.returns
returns c = row_at c.args.t c.from.result (c.from.ensures ∙ c.min.ensures)
