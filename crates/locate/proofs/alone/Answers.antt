use borrow.Author.Rules.{rules}
use mathlib.Core.Path.{refl}
use mathlib.Core.List.{[]}
use native.Mathlib.Omega.{arith}
use Rattle.account.proofs.Locate.{first_none, second_none, alone_far, alone_fails}
use Rattle.gf256.specs.Gf256.{gf256}
use Rattle.gf256.proofs.Field256.{field256}
use Rattle.rules.proofs.Tests.{denied}
use Rattle.values.specs.Values.{at}
use Rattle.locate.specs.Places.{Climbs}
use Rattle.locate.proofs.alone.Goals as goal
use Rattle.locate.proofs.alone.Goals.{then-s-eq0-via-then-s-eq0, then-s-eq0-via-else-s-eq0+then-s-eq0-2}

pub returns-then-s-eq0 : goal.returns-then-s-eq0
returns-then-s-eq0 c =
    elim c.then-s-eq0.branch [
      | then-s-eq0-via-then-s-eq0 w ↦
          (first_none gf256 field256 (at c.args.s) 4 c.args.n [] c.requires.1 w.if-s-eq0.true).none refl
      | then-s-eq0-via-else-s-eq0+then-s-eq0-2 w ↦
          (second_none gf256 field256 (at c.args.s) 4 c.args.n c.requires.0 (omega arith) (search rules) w.if-s-eq0.false w.if-s-eq0-2.true).none refl
    ]

pub returns-then-n-e : goal.returns-then-n-e
returns-then-n-e c =
    let i = c.ratio-e in
    (alone_far gf256 field256 (at c.args.s) 4 c.args.n c.requires.0 (omega arith) (search rules) c.if-s-eq0.false
    i.result i.ensures.small i.ensures.is c.if-n-e.true).none refl

pub returns-else-climbs : goal.returns-else-climbs
returns-else-climbs c =
    let i = c.ratio-e in
    (alone_fails gf256 field256 (at c.args.s) 4 c.args.n c.requires.0 (omega arith) (search rules) c.if-s-eq0.false
    i.result i.ensures.small i.ensures.is c.if-n-e.false
    (denied (Climbs c.args.s i.result) c.climbs.result c.if-climbs.false c.climbs.ensures)).none refl
