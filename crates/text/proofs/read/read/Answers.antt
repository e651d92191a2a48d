use mathlib.Core.Path.{refl}
use native.Mathlib.Omega.{arith}
use Rattle.text.proofs.Reading.{headed, not_rows, text_read}
use Rattle.text.proofs.read.read.Goals as goal
use Rattle.text.proofs.read.read.Goals.{then-seen-ne0-via-then-seen-ne0, then-seen-ne0-via-else-seen-ne0+then-seen-ne0-2}

pub returns-then-seen-ne0 : goal.returns-then-seen-ne0
returns-then-seen-ne0 c =
    let a = c.args in
    let s = c.see-seen in
    not_rows a.text.now a.tiles.now c.if-tiles-lt-TILES_MOST.false c.in_ok-head.head (headed _ _ _ c.in_ok-head.ensures.ok_part c.head_of.ensures) s.result s.ensures (λ z.
    elim c.then-seen-ne0.branch [
      | then-seen-ne0-via-then-seen-ne0 w ↦ omega (arith, z.0, w.if-seen-ne0.true)
      | then-seen-ne0-via-else-seen-ne0+then-seen-ne0-2 w ↦ omega (arith, z.1, w.if-seen-ne0-2.true)
    ])

pub judge-requires : goal.judge-requires
judge-requires c =
    (c.see-seen.ensures.shown (omega arith) (omega arith), refl, (headed _ _ _ c.in_ok-head.ensures.ok_part c.head_of.ensures).small, omega arith)

pub returns : goal.returns
returns c =
    let a = c.args in
    text_read a.text.now a.tiles.now c.if-tiles-lt-TILES_MOST.false c.in_ok-head.head (headed _ _ _ c.in_ok-head.ensures.ok_part c.head_of.ensures) _ c.judge.result c.judge.ensures
