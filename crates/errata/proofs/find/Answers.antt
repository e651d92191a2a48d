use mathlib.Core.Path.{◌∙◌}
use mathlib.Core.List.{[], ◌∷◌}
use Rattle.errata.specs.Errata.{at}
use Rattle.errata.proofs.Guesses.{corrects, five_drained, five_guess, same_five}
use borrow.Author.Rules.{rules}
use Rattle.errata.proofs.find.Goals as goal

pub returns-then-f-eq5 : goal.returns-then-f-eq5
returns-then-f-eq5 c =
    let l = c.args.s in
    let t = at l 0 ∷ at l 1 ∷ at l 2 ∷ at l 3 ∷ at l 4 ∷ [] in
    let e = c.if-f-eq5.true in
    λ marks en G r er cr es.
    corrects marks t t r c.args.n c.args.f c.args.erased c.requires.0
    (five_drained c.args.n c.args.erased t c.args.f c.requires.0 e) en G er cr (same_five l (search rules) ∙ es) c.args.f c.args.erased
    c.valued.result
    (five_guess c.args.n c.args.erased t c.args.f c.requires.0 e) c.valued.ensures
