use mathlib.Core.Path.{subst}
use mathlib.Core.List.{List}
use Prim.Native.Nat.{ℕ}
use Rattle.tiny.specs.Parts.{GoesOn}
use Rattle.tiny.proofs.Answering.{floor_front}
use Rattle.tiny.proofs.first.Goals as goal

pub returns : goal.returns
returns c =
    let a = c.go_on in
    subst (λ (b : List ℕ). GoesOn b c.args.tiles.now a.new.tiles a.result) (floor_front c.args.n c.requires.1) a.ensures
