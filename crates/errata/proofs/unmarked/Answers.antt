use mathlib.Core.Path.{refl, sym, subst}
use borrow.Author.Rules.{rules}
use Rattle.account.specs.Search.{Zeros}
use Rattle.rules.proofs.Tests.{said, denied}
use Rattle.errata.specs.Errata.{at, FoundUnmarked}
use Rattle.errata.proofs.Guesses.{none_wrong, one_wrong, two_wrong, none_valued, one_valued, none_beyond, none_corrects}
use Rattle.errata.proofs.unmarked.Goals as goal

pub returns-then-zeros : goal.returns-then-zeros
returns-then-zeros c =
    let a = c.args in
    none_corrects a.n a.s c.requires 0 _ _
    (none_wrong a.n a.s c.requires (said (Zeros 5 (at a.s)) c.zeros.result c.if-zeros.true c.zeros.ensures))
    (none_valued a.n a.s c.requires _ _ refl)

pub returns-in-Some : goal.returns-in-Some
returns-in-Some c =
    let a = c.args in
    let p = c.in-Some in
    none_corrects a.n a.s c.requires 1 _ _ (one_wrong a.n a.s c.requires p.p p.ensures.0 p.ensures.1)
    (one_valued a.n a.s c.requires p.p (λ m. search rules) p.ensures.1)

pub returns-in_err-pair : goal.returns-in_err-pair
returns-in_err-pair c =
    let a = c.args in
    subst (FoundUnmarked a.s a.n) (sym c.from_residual.ensures)
    (none_beyond a.n a.s c.requires
    (record {
      not_none = denied (Zeros 5 (at a.s)) c.zeros.result c.if-zeros.false c.zeros.ensures;
      not_one = λ h. c.in_default.ensures;
      not_two = λ h. c.in_err-pair.ensures;
    }))

pub returns : goal.returns
returns c =
    let a = c.args in
    let r = c.in_ok-pair.pair in
    let C = c.in_ok-pair.ensures in
    none_corrects a.n a.s c.requires 2 _ _ (two_wrong a.n a.s c.requires r.p r.q C.below_p C.below_q C.apart C.fits) c.couple.ensures
