use Rattle.fields.proofs.Tiles.{sum_9, sum_10, sum_0}
use Rattle.fields.proofs.tile.sum_code.Goals as goal

pub returns-then-not-coded : goal.returns-then-not-coded
returns-then-not-coded c = sum_9 _ _ c.if-not-coded.ensures

pub returns-then-not-fair : goal.returns-then-not-fair
returns-then-not-fair c = sum_10 _ _ c.if-not-coded.ensures c.if-not-fair.ensures

pub returns : goal.returns
returns c = sum_0 _ _ c.if-not-coded.ensures c.if-not-fair.ensures
