use Rattle.account.proofs.Locate.{splits}
use Rattle.gf256.specs.Gf256.{gf256}
use Rattle.gf256.proofs.Field256.{field256}
use borrow.Author.Rules.{rules}
use Rattle.gf256.specs.Tables.{inverse_of}
use Rattle.locate.proofs.split.Goals as goal

pub returns : goal.returns
returns c =
    splits gf256 field256 c.args.u c.args.v (inverse_of c.args.u) c.quotient.result c.quotient-c.result
    c.half.result c.product.result
    c.half.ensures (search rules) c.quotient-c.ensures.0 c.quotient.ensures.1 c.quotient-c.ensures.1 c.product.ensures
