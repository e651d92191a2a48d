use Rattle.reductions.proofs.Halves.{half_sums}
use Rattle.reductions.proofs.Tables.{sums, sums_tested}
use Rattle.reductions.proofs.sums_at.Goals as goal

pub returns : goal.returns
returns c = half_sums sums sums_tested c.args.k c.args.h c.requires.0 c.requires.1
