use native.Mathlib.Omega.{arith}
use Rattle.tiles.proofs.Putting.{spread_sum}
use Rattle.tiles.proofs.put.spread.Goals as goal

pub returns : goal.returns
returns c =
    let a = c.args in
    omega (arith, c.spread.ensures, c.spread-2.ensures, c.spread-3.ensures, spread_sum a.x a.y a.z (omega arith) (omega arith) (omega arith))
