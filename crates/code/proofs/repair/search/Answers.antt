use mathlib.Core.Path.{refl, ◌∙◌}
use native.Mathlib.Omega.{arith}
use Rattle.remainder.specs.Remainder.{unpacked}
use Rattle.remainder.proofs.Whole.{none_is_clean, syndrome_same}
use Rattle.errata.proofs.Guesses.{listed_marks}
use Rattle.code.proofs.Repairing.{as_is, syndrome_bytes}
use borrow.Author.Rules.{rules}
use Rattle.code.proofs.repair.search.Goals as goal

pub returns-then-r-eq0 : goal.returns-then-r-eq0
returns-then-r-eq0 c =
    let w = c.args.word.now in
    as_is c.args.marks.now w c.args.f _ _ c.requires.matched c.requires.count (omega arith)
    (record { cell = λ j l. omega (arith, c.type_inv.word j) })
    (none_is_clean w c.remainder_of-r.result c.remainder_of-r.ensures c.if-r-eq0.true) (search rules) (search rules)

pub find-requires : goal.find-requires
find-requires c =
    let m = c.args.marks.now in
    let y = c.syndrome_of-s in (
      listed_marks m c.all-cells.result c.args.f c.requires.short (omega arith) c.all-cells.ensures,
      syndrome_bytes (unpacked c.remainder_of-r.result) y.result y.ensures,
    )

pub returns : goal.returns
returns c =
    let m = c.args.marks.now in
    let w = c.args.word.now in
    c.find.ensures m refl c.all-cells.ensures w c.requires.matched (record { cell = λ j l. omega (arith, c.type_inv.word j) })
    (c.syndrome_of-s.ensures ∙ syndrome_same w c.remainder_of-r.result c.remainder_of-r.ensures)
