use native.Mathlib.Omega.{arith}
use lib.ListN.{get_or}
use Rattle.account.proofs.Cells.{one_most}
use Rattle.pool.proofs.Pouring.{pour_starts, pour_goes, pour_ends}
use Rattle.pool.proofs.pour.Goals as goal

pub loop-i-init : goal.loop-i-init
loop-i-init c = pour_starts _ _ _

pub overflow_add-taken : goal.overflow_add-taken
overflow_add-taken c =
    omega (arith, c.one_taken-taken.ensures 0 0, one_most)

pub overflow_add-conflict : goal.overflow_add-conflict
overflow_add-conflict c =
    omega (arith, one_most)

pub overflow_add-both : goal.overflow_add-both
overflow_add-both c =
    omega (arith, c.one_both-b.ensures 0 0, one_most)

pub loop-i-preserved : goal.loop-i-preserved
loop-i-preserved c =
    let L = c.loop-i in
    let x = get_or c.args.first.now L.i 0 in
    let y = get_or c.args.second.now L.i 0 in
    pour_goes _ _ _ c.requires.0 _ _ _ _ _ _ _ _ _ _ c.loop-i-test.true c.byte_of.ensures (c.one_taken-taken.ensures x y) c.one_conflict-c.ensures
    (c.one_both-b.ensures x y) L.invariant

pub returns : goal.returns
returns c =
    let L = c.loop-i in
    rw (c.from.ensures, c.from-2.ensures, c.from-3.ensures, c.from-4.ensures) (pour_ends _ _ _ c.requires.0 _ _ _ _ _ _ c.loop-i-test.false L.invariant)
