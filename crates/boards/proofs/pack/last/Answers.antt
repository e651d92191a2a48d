use mathlib.Core.Path.{sym}
use Prim.Native.Nat.{◌+◌, ◌*◌}
use native.Mathlib.Omega.{arith}
use lib.ListN.{get_or}
use Rattle.boards.proofs.Packing.{joined_next, joined_none, room}
use Rattle.boards.proofs.pack.last.Goals as goal

pub loop-j-init : goal.loop-j-init
loop-j-init c = let a = c.args in sym (joined_none (λ i. get_or a.tiles.now (8 * a.g + i) 0))

pub overflow_mul-v : goal.overflow_mul-v
overflow_mul-v c =
    let l = c.loop-j in
    let k = 8 * c.args.g in
    omega (arith, l.invariant, room (λ i. get_or c.args.tiles.now (k + i) 0) (λ i. c.requires.1 (k + i)) l.j (omega arith))

pub overflow_add-v : goal.overflow_add-v
overflow_add-v c =
    let l = c.loop-j in
    let k = 8 * c.args.g in
    omega (arith, l.invariant, room (λ i. get_or c.args.tiles.now (k + i) 0) (λ i. c.requires.1 (k + i)) l.j (omega arith))

pub loop-j-preserved : goal.loop-j-preserved
loop-j-preserved c =
    let a = c.args in
    let l = c.loop-j in
    omega (arith, c.from.ensures, c.cell.ensures, l.invariant, joined_next (λ i. get_or a.tiles.now (8 * a.g + i) 0) l.j)
