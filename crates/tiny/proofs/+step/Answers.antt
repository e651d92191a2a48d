use Rattle.std.proofs.Common.{◌-◌, get_or, refl, arith}
use Rattle.tiny.proofs.Carry.{at_none, at_last, at_carry}
use Rattle.tiny.proofs.+step.Goals as goal

pub returns-then-at-eq0 : goal.returns-then-at-eq0
returns-then-at-eq0 t c = at_none c.args.board.now c.args.at c.requires.0 (omega arith)

pub returns-then-t-lt6 : goal.returns-then-t-lt6
returns-then-t-lt6 t c =
    at_last c.args.board.now c.args.at c.requires.0 (λ z. omega (arith, z, c.if-at-eq0.false)) (omega arith)
    (get_or c.args.board.now (c.args.at - 1) 0) refl (omega arith)

pub returns : goal.returns
returns t c =
    let f = c.requires.0 in
    at_carry c.args.board.now c.args.at f (λ z. omega (arith, z, c.if-at-eq0.false)) (omega arith) _ _
    (omega (arith, f (c.args.at - 1) (omega arith), c.if-t-lt6.false)) c.step.ensures
