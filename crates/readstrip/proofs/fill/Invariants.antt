use Rattle.std.proofs.Common.{length, ◌-◌, ◌≤◌}
use Rattle.readstrip.proofs.fill.Given as goal

-- what was read stands in the buffer
abbrev pub invariant-loop-n : goal.invariant-loop-n
invariant-loop-n g l = l.n ≤ length l.buffer

-- what is left of the buffer
abbrev pub decreases-loop-n : goal.decreases-loop-n
decreases-loop-n g l = length l.buffer - l.n
