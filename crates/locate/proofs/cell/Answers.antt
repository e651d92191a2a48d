use mathlib.Core.Path.{sym, ◌∙◌}
use borrow.Author.Rules.{rules}
use Rattle.account.proofs.Locate.{no_cell, far_cell, marked_cell, good_cell}
use Rattle.gf256.specs.Gf256.{gf256}
use Rattle.gf256.proofs.Field256.{field256}
use Rattle.locate.proofs.Choices as choices
use Rattle.locate.proofs.cell.Goals as goal

pub returns-then-x-eq0 : goal.returns-then-x-eq0
returns-then-x-eq0 c =
    let a = c.args in
    choices.no_cell a.x a.n a.ps.now (no_cell gf256 field256 a.n a.ps.now a.x c.if-x-eq0.true)

pub returns-then-n-i : goal.returns-then-n-i
returns-then-n-i c =
    let a = c.args in
    choices.no_cell a.x a.n a.ps.now
    (far_cell gf256 field256 a.n a.ps.now a.x c.log-i.result c.requires c.log-i.ensures.small c.log-i.ensures.is c.if-n-i.true)

pub returns-then-contains : goal.returns-then-contains
returns-then-contains c =
    let a = c.args in
    choices.no_cell a.x a.n a.ps.now
    (marked_cell gf256 field256 a.n a.ps.now a.x c.log-i.result c.requires c.log-i.ensures.small c.log-i.ensures.is c.if-n-i.false
    (choices.not_outside a.ps.now _ (sym c.contains.ensures.value ∙ c.if-contains.true)))

pub returns-else-contains : goal.returns-else-contains
returns-else-contains c =
    let a = c.args in
    choices.some_cell a.x a.n a.ps.now _ (search rules)
    (good_cell gf256 field256 a.n a.ps.now a.x c.log-i.result c.requires c.log-i.ensures.small c.log-i.ensures.is c.if-n-i.false
    (choices.outside a.ps.now _ (sym c.contains.ensures.value ∙ c.if-contains.false)))
