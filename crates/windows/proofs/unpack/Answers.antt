use mathlib.Core.Path.{◌≡◌, refl, ◌∙◌}
use mathlib.Core.Logic.{⊎_elim}
use Prim.Native.Nat.{◌-◌}
use native.Mathlib.Omega.{arith}
use borrow.Author.Rules.{rules}
use borrow.Rule.Slice.PartMut.{post_of}
use lib.ListN.{length, take, drop, length-drop}
use lib.Seq.{length-take-le}
use Rattle.rules.proofs.Numbers.{lt_or_ge}
use Rattle.windows.specs.Windows.{record_in}
use Rattle.windows.proofs.Weighing.{sees}
use Rattle.windows.proofs.Unpacking.{window_holds, unpacking_0, unpacking_more, unpacked_all}
use Rattle.windows.proofs.unpack.Goals as goal

pub loop-t-init : goal.loop-t-init
loop-t-init c =
    let a = c.args in
    (refl, unpacking_0 (record_in a.strip.now a.fixes.now a.to) a.m a.tiles.now)

pub show-n-requires : goal.show-n-requires
show-n-requires c =
    let a = c.args in
    let p = c.requires in
    let l = c.loop-t in
    (omega (arith, l.invariant.1.on (omega arith), p.2), p.0.inside, omega (arith, l.invariant.0, p.0.room))

pub unpack-requires : goal.unpack-requires
unpack-requires c =
    let a = c.args in
    let p = c.requires in
    let l = c.loop-t in
    let o = c.show-n in
    let k = c.min-k in
    let x = o.new.scratch in
    let long : length (take (o.result) x) ≡ o.result = length-take-le (o.result) x (omega (
      arith,
      o.auto.scratch,
      o.ensures.most,
      p.0.room,
      l.invariant.0,
    )) ∙ omega arith in
    let h = window_holds a.to l.from a.m l.t o.result k.result (l.invariant.1.on (omega arith)) p.2 o.ensures.most o.ensures.before
    o.ensures.full (omega arith) (omega (arith, k.ensures)) (omega (arith, k.ensures)) (λ h. omega (arith, k.ensures, h)) in (
      omega (arith, k.ensures),
      omega (arith, long, h.0),
      omega (
        arith,
        k.ensures,
        p.3,
        l.invariant.1.long,
        length-drop l.t l.tiles,
        length-take-le (length l.tiles - l.t) (drop l.t l.tiles) (omega (arith, length-drop l.t l.tiles)),
      ),
    )

pub loop-t-smaller : goal.loop-t-smaller
loop-t-smaller c =
    let l = c.loop-t in
    let k = c.min-k in
    ⊎_elim (λ h. omega (arith, k.ensures, h)) (λ h. omega arith) (lt_or_ge k.result (c.args.m - l.t))

pub loop-t-preserved : goal.loop-t-preserved
loop-t-preserved c =
    let a = c.args in
    let p = c.requires in
    let l = c.loop-t in
    let o = c.show-n in
    let k = c.min-k in
    let u = c.unpack in
    let x = o.new.scratch in
    let bs = record_in a.strip.now a.fixes.now a.to in
    let h = window_holds a.to l.from a.m l.t o.result k.result (l.invariant.1.on (omega arith)) p.2 o.ensures.most o.ensures.before
    o.ensures.full (omega arith) (omega (arith, k.ensures)) (omega (arith, k.ensures)) (λ h. omega (arith, k.ensures, h)) in (
      search rules,
      unpacking_more bs a.m a.tiles.now l.tiles u.new.tiles (post_of l.t (length l.tiles - l.t) l.tiles)
          (take (o.result) x) l.from l.t o.result k.result l.invariant.1 (omega arith)
          (sees a.strip.now x a.fixes.now l.from a.to o.result p.0.inside o.ensures)
          (omega (arith, k.ensures)) h.0 h.1 (omega (arith, l.invariant.1.long, p.3)) u.ensures (search rules),
    )

pub shape_of-tiles : goal.shape_of-tiles
shape_of-tiles c = c.loop-t.invariant.1.long

pub shape_of-scratch : goal.shape_of-scratch
shape_of-scratch c = c.loop-t.invariant.0

pub returns : goal.returns
returns c =
    let a = c.args in
    let l = c.loop-t in
    unpacked_all (record_in a.strip.now a.fixes.now a.to) a.m a.tiles.now l.tiles l.from l.t
    c.requires.3 (omega arith) l.invariant.1
