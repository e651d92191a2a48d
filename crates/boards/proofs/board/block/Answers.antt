use mathlib.Core.Path.{◌≡◌, sym, ap, ◌∙◌}
use Prim.Native.Nat.{◌+◌}
use native.Mathlib.Omega.{arith}
use Rattle.boards.proofs.Codes.{tiles_at, left_of, added_by, left_next, left_all, added_none, added_small, sum_small, row_next, row_last}
use Rattle.boards.proofs.board.block.Goals as goal

pub loop-c-init : goal.loop-c-init
loop-c-init c =
    let t = tiles_at c.args.tiles.now c.args.k in
    (sym (added_none t 64), sym (left_all t 64))

pub overflow_add-x : goal.overflow_add-x
overflow_add-x c =
    let l = c.loop-c in
    let t = tiles_at c.args.tiles.now c.args.k in
    let e = row_next t 64 l.x c.weigh.result c.from-n.result l.c l.invariant.0 c.weigh.ensures (c.from-n.ensures ∙ c.count.ensures) in
    omega (arith, e, added_small t 64 (l.c + 1))

pub overflow_sub-others : goal.overflow_sub-others
overflow_sub-others c =
    let l = c.loop-c in
    omega (arith, left_next (tiles_at c.args.tiles.now c.args.k) 64 l.c, l.invariant.1, c.from-n.ensures, c.count.ensures)

pub loop-c-preserved : goal.loop-c-preserved
loop-c-preserved c =
    let l = c.loop-c in
    let t = tiles_at c.args.tiles.now c.args.k in
    let e = row_next t 64 l.x c.weigh.result c.from-n.result l.c l.invariant.0 c.weigh.ensures (c.from-n.ensures ∙ c.count.ensures) in
    (e, omega (arith, left_next t 64 l.c, l.invariant.1, c.from-n.ensures, c.count.ensures))

pub overflow_mul-result : goal.overflow_mul-result
overflow_mul-result c =
    let l = c.loop-c in
    let t = tiles_at c.args.tiles.now c.args.k in
    let z : l.c ≡ 8 = omega arith in
    let e = row_last t 64 l.x c.weigh-2.result l.others (l.invariant.0 ∙ ap (added_by t 64) z) c.weigh-2.ensures (l.invariant.1 ∙ ap (left_of t 64) z) in
    omega (arith, e, sum_small t 64)

pub overflow_add-result : goal.overflow_add-result
overflow_add-result c =
    let l = c.loop-c in
    let t = tiles_at c.args.tiles.now c.args.k in
    let z : l.c ≡ 8 = omega arith in
    let e = row_last t 64 l.x c.weigh-2.result l.others (l.invariant.0 ∙ ap (added_by t 64) z) c.weigh-2.ensures (l.invariant.1 ∙ ap (left_of t 64) z) in
    omega (arith, e, sum_small t 64)

pub returns : goal.returns
returns c =
    let l = c.loop-c in
    let t = tiles_at c.args.tiles.now c.args.k in
    let z : l.c ≡ 8 = omega arith in
    row_last t 64 l.x c.weigh-2.result l.others (l.invariant.0 ∙ ap (added_by t 64) z) c.weigh-2.ensures (l.invariant.1 ∙ ap (left_of t 64) z)
