use Rattle.std.proofs.Common.{◌-◌}
use Rattle.values.proofs.+solve.Given as goal

abbrev pub decreases-solve : goal.decreases-solve
decreases-solve l = l.at.now.count - l.i
