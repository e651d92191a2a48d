use native.Mathlib.Omega.{arith}
use Rattle.tiles.proofs.Counting.{two_three_three}
use Rattle.tiles.proofs.count.eight.Goals as goal

pub overflow_add-result : goal.overflow_add-result
overflow_add-result c = let e = two_three_three c.args.v in omega (arith, e.1, c.three.ensures, c.three-2.ensures)

pub overflow_add-result-2 : goal.overflow_add-result-2
overflow_add-result-2 c = let e = two_three_three c.args.v in omega (arith, e.1, c.three.ensures, c.three-2.ensures, c.three-3.ensures)

pub returns : goal.returns
returns c =
    let e = two_three_three c.args.v in
    (omega (arith, e.0, c.three.ensures, c.three-2.ensures, c.three-3.ensures), omega (arith, e.1, c.three.ensures, c.three-2.ensures, c.three-3.ensures))
