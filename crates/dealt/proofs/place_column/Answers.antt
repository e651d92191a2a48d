use mathlib.Core.Path.{refl, sym, ◌∙◌, subst}
use Prim.Native.Nat.{ℕ, ◌+◌, ◌*◌}
use native.Mathlib.Omega.{arith}
use lib.ListN.{set}
use Rattle.rules.specs.Placed.{Placed}
use Rattle.dealt.specs.Lanes.{check_cell}
use Rattle.rules.proofs.Placing.{placed_more}
use Rattle.dealt.proofs.CheckCells.{check_cell_is, column_room}
use Rattle.dealt.proofs.place_column.Goals as goal

pub loop-j-preserved : goal.loop-j-preserved
loop-j-preserved c =
    let a = c.args in
    let l = c.loop-j in (
      refl,
      subst (λ (b : ℕ). Placed (a.lanes * (a.k + a.i)) b (check_cell a.lanes a.k a.c.now) a.x.now
          (set l.x (a.lanes * (a.k + a.i) + l.j) c.check_byte.result)) (omega arith)
          (placed_more (a.lanes * (a.k + a.i)) (check_cell a.lanes a.k a.c.now) a.x.now l.x (a.lanes * (a.k + a.i) + l.j)
          c.check_byte.result (omega arith)
          (omega (arith, column_room a.lanes (omega arith) a.k a.i _ c.requires.2 c.requires.3))
          (c.check_byte.ensures ∙ sym (check_cell_is a.lanes (omega arith) a.k a.i l.j a.c.now (omega arith))) l.invariant.1),
    )
