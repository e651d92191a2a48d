use Rattle.lending.proofs.Writing.{record_put}
use Rattle.boards.specs.Pack.{PackedIn}
use Rattle.fields.specs.Head.{lent_as}
use native.Mathlib.Omega.{arith}
use mathlib.Core.List.{List}
use Prim.Native.Nat.{ℕ}
use mathlib.Core.Path.{◌∙◌, subst}
use Rattle.lending.proofs.put_record.Goals as goal

pub returns : goal.returns
returns c =
    let a = c.args in
    let o = c.requires in
    let r = c.record_length-n in
    let m = c.put_head in
    let p = c.pack in
    record_put (lent_as a.f a.tiles.now) o.0 a.out.now p.new.out r.result r.ensures.0
    (omega (arith, r.ensures.0, o.1)) (subst (λ (mid : List ℕ). PackedIn a.tiles.now mid p.new.out) m.ensures p.ensures)
    r.ensures.1 (p.auto.out ∙ m.auto.out)
