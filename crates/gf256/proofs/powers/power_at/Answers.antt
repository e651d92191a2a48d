use Rattle.gf256.proofs.Lookups.{twice_around}
use Rattle.gf256.proofs.powers.power_at.Goals as goal

pub returns : goal.returns
returns c = twice_around c.args.k c.requires
