use native.Mathlib.Omega.{arith}
use Rattle.account.proofs.Locate.{log_less, log_around}
use Rattle.gf256.specs.Gf256.{gf256}
use Rattle.gf256.proofs.Field256.{field256}
use borrow.Author.Rules.{rules}
use Rattle.locate.proofs.ratio.Goals as goal

pub returns-then-a-b : goal.returns-then-a-b
returns-then-a-b c =
    let b = c.log-b in
    let a = c.log-a in
    record {
      small = omega (arith, c.if-a-b.true, b.ensures.small);
      is = log_around gf256 field256 a.result b.result c.args.x c.args.y (omega (arith, b.ensures.small)) a.ensures.is b.ensures.is;
    }

pub returns-else-a-b : goal.returns-else-a-b
returns-else-a-b c =
    let b = c.log-b in
    let a = c.log-a in
    record {
      small = omega (arith, a.ensures.small);
      is = log_less gf256 field256 a.result b.result c.args.x c.args.y (search rules) a.ensures.is b.ensures.is;
    }
