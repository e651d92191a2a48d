use mathlib.Core.Path.{◌∙◌}
use native.Mathlib.Omega.{arith}
use Rattle.tiles.proofs.Putting.{word_puts}
use Rattle.tiles.proofs.put.put_word.Goals as goal

pub returns : goal.returns
returns c = word_puts c.args.out.now c.args.k _ c.args.w _ c.requires (omega arith) (c.copy_from_slice.ensures.after ∙ c.to_le_bytes.ensures)
