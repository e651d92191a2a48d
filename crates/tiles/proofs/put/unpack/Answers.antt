use mathlib.Core.Path.{◌≡◌, ap, ◌∙◌}
use Prim.Native.Nat.{ℕ, ◌+◌, ◌*◌, ◌/◌}
use native.Mathlib.Omega.{arith}
use Rattle.tiles.specs.Part.{three_at}
use Rattle.tiles.specs.Put.{spread_of}
use Rattle.tiles.proofs.Putting.{tiles_next, tiles_put}
use Rattle.tiles.proofs.put.unpack.Goals as goal

pub loop-g-preserved : goal.loop-g-preserved
loop-g-preserved c =
    let a = c.args in
    let k = c.type_inv.part in
    let l = c.loop-g in
    let w = c.spread in
    let p = c.put_word in (
      p.auto.out ∙ l.invariant.0,
      λ i h r. tiles_next a.part.now l.tiles p.new.out l.g (8 * l.g + 8) w.result (λ q. omega (arith, k q)) w.ensures p.ensures
          (λ j x y. l.invariant.1 j x (omega arith)) i h (omega arith),
      λ i h. p.ensures.past i (omega arith) ∙ l.invariant.2 i (omega arith),
    )

pub returns-then-n-m : goal.returns-then-n-m
returns-then-n-m c =
    let a = c.args in
    let l = c.loop-g in
    tiles_put a.part.now a.tiles.now l.tiles a.m (omega arith) l.invariant.0 (λ i h. l.invariant.1 i (omega arith) h) (λ i h. l.invariant.2 i (omega arith))

pub returns : goal.returns
returns c =
    let a = c.args in
    let k = c.type_inv.part in
    let l = c.loop-g in
    let w = c.spread-2 in
    let e : w.result ≡ spread_of 4 (three_at a.part.now (a.m / 8)) 0
    = w.ensures ∙ ap (λ (v : ℕ). spread_of 4 v 0) (omega (arith, c.cell.ensures, c.cell-2.ensures, c.cell-3.ensures)) in
    let p = c.put_rest in
    tiles_put a.part.now a.tiles.now p.new.out a.m (omega arith) (p.auto.out ∙ l.invariant.0)
    (λ i h. tiles_next a.part.now l.tiles p.new.out (a.m / 8) a.m w.result (λ q. omega (arith, k q))
    e p.ensures
    (λ j x y. l.invariant.1 j (omega arith) y) i (omega arith) h)
    (λ i h. p.ensures.past i h ∙ l.invariant.2 i (omega arith))
