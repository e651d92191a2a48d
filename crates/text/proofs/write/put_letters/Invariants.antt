use Rattle.text.proofs.Writing.{lettered}
use mathlib.Core.Path.{◌≡◌}
use lib.Seq.{sets}
use Rattle.text.proofs.write.put_letters.Given as goal

abbrev pub invariant-loop-x : goal.invariant-loop-x
invariant-loop-x l = l.text ≡ sets l.initial.text l.j (lettered l.tiles l.k l.x)
