use Rattle.typed.proofs.Heads.{head_large, head_told, head_not}
use mathlib.Core.Path.{sym}
use Rattle.typed.proofs.head.head_of.Goals as goal

pub returns-then-par-gt1023 : goal.returns-then-par-gt1023
returns-then-par-gt1023 c = head_large c.args.text.now c.number-par.result c.number-par.ensures c.if-par-gt1023.true

pub returns-then-not-starts_with : goal.returns-then-not-starts_with
returns-then-not-starts_with c =
    head_not c.args.text.now c.number-par.result c.number-par.ensures c.line_of-line.result c.line_of-line.ensures
    (sym c.if-not-starts_with.ensures.value)

pub returns : goal.returns
returns c =
    head_told c.args.text.now c.number-par.result c.number-par.ensures c.if-par-gt1023.false c.line_of-line.result c.line_of-line.ensures
    (sym c.if-not-starts_with.ensures.value)
