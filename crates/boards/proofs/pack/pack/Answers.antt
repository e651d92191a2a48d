use mathlib.Core.Path.{ap, ◌∙◌}
use Prim.Native.Nat.{◌+◌, ◌*◌, ◌/◌}
use native.Mathlib.Omega.{arith}
use lib.ListN.{length}
use Rattle.boards.specs.Pack.{turned_of}
use Rattle.boards.proofs.Packing.{joined_small, bytes_next}
use Rattle.boards.proofs.pack.pack.Goals as goal

pub turned-requires : goal.turned-requires
turned-requires c =
    omega (arith, c.full.ensures, joined_small c.args.tiles.now c.loop-g.g c.requires.1)

pub loop-g-preserved : goal.loop-g-preserved
loop-g-preserved c =
    let l = c.loop-g in
    let t = c.full in
    let w = c.turned in
    let p = c.put_rest in (
      p.auto.out ∙ l.invariant.0,
      λ b h. bytes_next c.args.tiles.now l.out p.new.out l.g (6 + 3 * l.g) w.result c.requires.1
          (w.ensures ∙ ap turned_of t.ensures) p.ensures (λ q x y. l.invariant.1 q x) b h (omega arith),
      λ i h. p.ensures.before i (omega arith) ∙ l.invariant.2 i h,
      λ i h. p.ensures.past i (omega arith) ∙ l.invariant.3 i (omega arith),
    )

pub turned-requires-2 : goal.turned-requires-2
turned-requires-2 c =
    omega (arith, c.last.ensures, joined_small c.args.tiles.now (length c.args.tiles.now / 8) c.requires.1)

pub returns : goal.returns
returns c =
    let l = c.loop-g in
    let t = c.last in
    let w = c.turned-2 in
    let p = c.put_rest-2 in
    let n = length c.args.tiles.now / 8 in
    record {
      put = λ b h. bytes_next c.args.tiles.now l.out p.new.out n (3 + (3 * length c.args.tiles.now + 7) / 8) w.result c.requires.1
          (w.ensures ∙ ap turned_of t.ensures) p.ensures (λ q x y. l.invariant.1 q (omega arith)) b (omega arith) (omega arith);
      before = λ i h. p.ensures.before i (omega arith) ∙ l.invariant.2 i h;
      past = λ i h. p.ensures.past i (omega arith) ∙ l.invariant.3 i (omega arith);
    }
