use mathlib.Core.Path.{refl}
use mathlib.Core.Logic.{inr}
use borrow.Author.Rules.{rules}
use Rattle.std.proofs.lemmas.Result.{err_from_is_err_and}
use Rattle.rules.proofs.Laws.{some_number}
use Rattle.strip.proofs.write.write.Goals as goal

pub returns-in_err-check : goal.returns-in_err-check
returns-in_err-check c =
    let p = err_from_is_err_and c.from_residual.result c.from_residual.ensures.1 in
    let n = some_number c.in_err-check.field-0.0 in
    rw (p.1, p.2) (record { code = inr (c.if-not-named.ensures, inr (search rules, c.in_err-check.ensures)); value = λ z. absurd (n z); strip = λ z. absurd (n z); past = λ z. absurd (n z); kept = λ _. refl })
