use mathlib.Core.Path.{refl, sym, subst}
use mathlib.Core.List.{◌∷◌, []}
use native.Mathlib.Omega.{arith}
use Rattle.account.specs.Errata.{filt}
use Rattle.account.specs.Search.{Zeros}
use Rattle.account.proofs.Locate.{first_none, out_of_range, it_fails}
use Rattle.gf256.specs.Gf256.{gf256}
use Rattle.gf256.specs.Tables.{inverse_of}
use Rattle.gf256.proofs.Field256.{field256}
use Rattle.rules.proofs.Tests.{denied}
use Rattle.values.specs.Values.{at}
use Rattle.locate.specs.Places.{One}
use Rattle.locate.proofs.Sums.{filter_one, zeros_from}
use Rattle.locate.proofs.Choices.{cell_of, cell_none}
use Rattle.locate.proofs.one.Goals as goal

pub returns-then-t-eq0 : goal.returns-then-t-eq0
returns-then-t-eq0 c =
    let a = c.args in
    (first_none gf256 field256 (at a.t) a.k a.n a.ps.now c.requires.3 c.if-t-eq0.true).none refl

pub returns-in_err-p : goal.returns-in_err-p
returns-in_err-p c =
    let a = c.args in
    let x = c.quotient-x in
    subst (One a.t a.k a.n a.ps.now) (sym c.from_residual.ensures)
    ((out_of_range gf256 field256 (at a.t) a.k a.n a.ps.now x.result (inverse_of (at a.t 0)) a.n c.requires.1 x.ensures.0 x.ensures.1
    (cell_none x.result a.n a.ps.now c.in_err-p.ensures) (omega arith)).none refl)

pub returns-else-zeros : goal.returns-else-zeros
returns-else-zeros c =
    let a = c.args in
    let x = c.quotient-x in
    let u = c.filter.result in
    let p = c.in_ok-p.p in
    let I = c.in_ok-p.ensures in
    (it_fails gf256 field256 (at a.t) a.k a.n a.ps.now x.result (inverse_of (at a.t 0)) p c.requires.1 x.ensures.0 x.ensures.1
    (cell_of x.result a.n a.ps.now c.requires.0 p I) I.below
    (zeros_from a.k (at u) (filt gf256 (x.result ∷ []) (at a.t)) (λ m l. filter_one x.result a.t u c.filter.ensures m (omega (arith, c.requires.2)))
    (denied (Zeros a.k (at u)) c.zeros.result c.if-zeros.false c.zeros.ensures))).none refl
