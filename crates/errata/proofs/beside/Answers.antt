use mathlib.Core.Path.{sym, subst}
use Prim.Native.Nat.{ℕ}
use borrow.Author.Rules.{rules}
use Rattle.values.proofs.Values.{listed}
use Rattle.errata.specs.Errata.{SearchedAs, Valued}
use Rattle.errata.proofs.Guesses.{beyond, corrects}
use Rattle.errata.proofs.beside.Goals as goal

pub returns-in_err-all : goal.returns-in_err-all
returns-in_err-all c =
    let m = c.args.marked.now in
    λ marks en G r er cr es.
    subst (SearchedAs marks r) (sym c.from_residual.ensures)
    (beyond marks c.args.s c.drain-t.result r m.n m.count m.cells (listed m (search rules)) c.drain-t.ensures en G er cr es c.in_err-all.ensures)

pub returns : goal.returns
returns c =
    let m = c.args.marked.now in
    let l = c.in_ok-all.all in
    λ marks en G r er cr es.
    corrects marks c.args.s c.drain-t.result r m.n m.count m.cells (listed m (search rules)) c.drain-t.ensures en G er cr es l.count l.cells
    c.valued.result c.in_ok-all.ensures.1
    (subst (λ (n : ℕ). Valued n l.cells l.count c.args.s c.valued.result) c.in_ok-all.ensures.0 c.valued.ensures)
