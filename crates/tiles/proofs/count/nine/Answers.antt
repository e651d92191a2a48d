use Prim.Native.Nat.{◌+◌, ◌*◌, ◌-◌, ◌/◌, ◌%◌}
use native.Mathlib.Omega.{arith}
use Rattle.tiles.specs.Sum.{weighed}
use Rattle.tiles.proofs.Rows.{weighed_small}
use Rattle.tiles.proofs.Counting.{triples_next, triples_none}
use Rattle.tiles.proofs.count.nine.Goals as goal

pub overflow_add-s : goal.overflow_add-s
overflow_add-s c =
    let t = c.loop-n.t in
    omega (arith, c.three-s.ensures, weighed_small (t % 512 / 64), weighed_small (t % 512 / 8 % 8), weighed_small (t % 512 % 8))

pub loop-n-preserved : goal.loop-n-preserved
loop-n-preserved c =
    let l = c.loop-n in
    let t = l.t in (
      omega (arith, c.three-s.ensures, weighed_small (t % 512 / 64), weighed_small (t % 512 / 8 % 8), weighed_small (t % 512 % 8)),
      omega (arith, c.three-s.ensures, triples_next weighed (8 - l._n) (8 - (l._n + 1)) t l.u (omega arith), l.invariant.1),
    )

pub returns : goal.returns
returns c =
    let l = c.loop-n in
    (omega (arith, triples_none weighed (8 - l._n) (l.u * 512 + l.t % 512) (omega arith), l.invariant.1), omega arith)
