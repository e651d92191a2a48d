use mathlib.Core.Path.{refl}
use Prim.Native.Nat.{◌+◌}
use native.Mathlib.Omega.{arith}
use Rattle.account.specs.Lists.{sum_of}
use Rattle.boards.proofs.Codes.{tiles_at, count_next, few, same_tested}
use Rattle.boards.proofs.board.count.Goals as goal

pub loop-i-init : goal.loop-i-init
unfolding sum_of
loop-i-init c = refl

pub overflow_add-n : goal.overflow_add-n
overflow_add-n c =
    let a = c.args in
    let l = c.loop-i in
    let t = tiles_at a.tiles.now a.k in
    omega (arith, few t (l.i + 1) a.c, count_next t l.i a.c, l.invariant, c.from-n.ensures, same_tested a.c (t l.i))

pub loop-i-preserved : goal.loop-i-preserved
loop-i-preserved c =
    let a = c.args in
    let l = c.loop-i in
    let t = tiles_at a.tiles.now a.k in
    omega (arith, count_next t l.i a.c, l.invariant, c.from-n.ensures, same_tested a.c (t l.i))
