use Rattle.lanes.proofs.Marks.{none_listed_in}
use borrow.Author.Rules.{rules}
use Rattle.lanes.proofs.marked_in.Goals as goal

pub returns-then-not-marked : goal.returns-then-not-marked
returns-then-not-marked c =
    let a = c.args in
    none_listed_in a.lanes a.marks.now a.l c.requires.0 (c.requires.3.none c.if-not-marked.true) _ (search rules)
