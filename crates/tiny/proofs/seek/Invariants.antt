use Prim.Native.Nat.{◌-◌, ◌^◌}
use lib.ListN.{length}
use Rattle.tiny.specs.Tiny.{number}
use Rattle.tiny.proofs.Search.{Ahead}
use Rattle.tiny.proofs.seek.Given as goal

abbrev pub invariant-loop-board : goal.invariant-loop-board
invariant-loop-board l = Ahead l.fn.board l.board l.k

abbrev pub decreases-loop-board : goal.decreases-loop-board
decreases-loop-board l = 7 ^ length l.board - number l.board
