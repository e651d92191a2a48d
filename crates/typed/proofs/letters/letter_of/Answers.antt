use Rattle.typed.proofs.Tiles.{letter_at}
use Rattle.typed.proofs.letters.letter_of.Goals as goal

pub returns : goal.returns
returns c = rw c.from.ensures (letter_at c.args.t c.requires)
