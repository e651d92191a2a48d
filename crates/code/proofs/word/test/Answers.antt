use Rattle.std.proofs.Common.{nat_eq, length, arith}
use Rattle.rules.specs.Refusal.{Within}
use Rattle.code.specs.Word.{word_most}
use Rattle.remainder.proofs.Whole.{clean_none, none_is_clean}
use borrow.Author.Tests.{eqb-true, eqb-false}
use Rattle.code.proofs.Writing.{tested}
use Rattle.code.proofs.word.test.Goals as goal

pub returns : goal.returns
returns c =
    let w = c.args.word.now in
    let r = c.remainder_of in
    let h : Within 6 word_most (length w) = record { from = omega arith; to = omega arith } in
    tested w h (nat_eq r.result 0) (λ t. none_is_clean w r.result r.ensures (omega (arith, eqb-true, t)))
    (λ t k. absurd (omega (arith, eqb-false, t, clean_none w r.result r.ensures k)))
