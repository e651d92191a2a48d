use native.Mathlib.Omega.{arith}
use Rattle.typed.proofs.Tiles.{letter_low, keyed}
use Rattle.typed.proofs.letters.tile_of.Goals as goal

pub overflow_add-c : goal.overflow_add-c
overflow_add-c c = omega (arith, letter_low c.args.c c.requires)

pub returns : goal.returns
returns c = rw c.from.ensures (keyed c.args.c c.requires)
