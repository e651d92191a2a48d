use mathlib.Core.Path.{refl}
use Rattle.tiny.proofs.Carry.{filled_front, filled_floor, passed}
use Rattle.tiny.proofs.pass.Goals as goal

pub returns : goal.returns
returns c =
    let a = c.args in
    let is = c.fill.ensures.after (λ y e. e) in
    passed a.board.now _ a.k c.requires.0 (filled_front a.board.now c.fill.new.self a.k _ _ c.requires.1 refl is)
    (filled_floor a.board.now c.fill.new.self a.k _ _ c.requires.1 refl is) _ _ c.step.ensures
