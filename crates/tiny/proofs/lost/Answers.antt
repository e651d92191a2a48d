use mathlib.Core.Path.{sym, ◌∙◌}
use borrow.Author.Tests.{ltb-true}
use Rattle.tiny.proofs.Fronts.{two_players, crates_behind, goals_behind}
use Rattle.tiny.proofs.lost.Goals as goal
use Rattle.tiny.proofs.lost.Goals.{then-players-gt1, else-players-gt1}

pub returns-then-goals-most : goal.returns-then-goals-most
returns-then-goals-most c q =
    let a = c.args in
    elim c.if-players-gt1.branch [
      | then-players-gt1 w ↦ two_players a.x a.left w.if-players-gt1.true
      | else-players-gt1 w ↦ crates_behind a.x a.left (ltb-true _ _ (sym w.value-is ∙ q))
    ]

pub returns-else-goals-most : goal.returns-else-goals-most
returns-else-goals-most c q = goals_behind c.args.x c.args.left (ltb-true _ _ q)
