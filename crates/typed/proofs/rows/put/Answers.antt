use native.Mathlib.Omega.{arith}
use lib.ListN.{length}
use Rattle.typed.proofs.Laying.{lettered, fits_board, laid_none, next_free, laid_more, laid_all}
use Rattle.typed.proofs.rows.put.Goals as goal

pub loop-c-init : goal.loop-c-init
loop-c-init c = laid_none c.args.body.now c.args.board.now c.args.w c.requires

pub place-at-requires : goal.place-at-requires
place-at-requires c =
    let a = c.args in
    let l = c.loop-c in
    let L = l.invariant in
    let room = fits_board a.body.now a.board.now a.w c.requires in (
      omega (arith, L.inside, c.requires.not_wider, c.requires.few),
      λ k. (
        lettered a.body.now a.board.now a.w c.requires l.c-index (omega arith) k,
        omega (arith, next_free a.body.now l.board a.w (length a.board.now) l.c-index l.at L room (omega arith) k, L.long),
      ),
    )

pub loop-c-preserved : goal.loop-c-preserved
loop-c-preserved c =
    let a = c.args in
    let l = c.loop-c in
    laid_more a.body.now l.board a.w (length a.board.now) l.c-index l.at l.invariant (fits_board a.body.now a.board.now a.w c.requires)
    (omega arith) _ _ c.place-at.ensures

pub shape_of-board : goal.shape_of-board
shape_of-board c = c.loop-c.invariant.long

pub returns : goal.returns
returns c =
    let l = c.loop-c in
    laid_all c.args.body.now c.args.board.now c.args.w c.requires l.board l.c-index l.at (omega arith) l.invariant
