use Rattle.account.proofs.Laws.{gone}
use Rattle.gf256.specs.Gf256.{gf256}
use Rattle.gf256.proofs.Field256.{field256}
use Rattle.locate.proofs.both.Goals as goal

pub joins-requires : goal.joins-requires
joins-requires c = (c.requires.1, c.requires.2, gone gf256 field256 c.args.x c.args.u, c.requires.3)
