use Rattle.typed.specs.Text.{joined, rows_of}
use mathlib.Core.Path.{◌≡◌}
use lib.Seq.{sets}
use Rattle.text.proofs.write.put_rows.Given as goal

abbrev pub invariant-loop-y : goal.invariant-loop-y
invariant-loop-y l = l.text ≡ sets l.initial.text l.j (joined (rows_of l.w l.y l.tiles))
