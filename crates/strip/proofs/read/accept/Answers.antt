use mathlib.Core.Path.{sym, subst}
use mathlib.Core.List.{List}
use Prim.Native.Nat.{ℕ, ◌*◌, ◌-◌}
use lib.ListN.{length}
use lib.Seq.{length-take-le}
use native.Mathlib.Omega.{arith}
use Rattle.fields.specs.Judged.{AcceptedAs}
use Rattle.level.proofs.Lengths.{lanes_within}
use Rattle.strip.proofs.Reader.{checks_inside, data_within, data_mended, data_clean}
use Rattle.strip.proofs.read.accept.Goals as goal

pub overflow_mul-to : goal.overflow_mul-to
overflow_mul-to c = omega (arith, checks_inside c.args.lanes _ c.requires.0 c.requires.1)

pub overflow_sub-to : goal.overflow_sub-to
overflow_sub-to c = checks_inside c.args.lanes _ c.requires.0 c.requires.1

pub accept-requires : goal.accept-requires
accept-requires c =
    let a = c.args in
    let d = data_within a.lanes (length a.strip.now) c.requires.0 c.requires.1 in
    let w = lanes_within a.lanes c.requires.0 in
    let long = length-take-le (length a.strip.now - a.lanes * 5) a.strip.now (omega arith) in (
      record { from = omega (arith, long, d.from); to = omega (arith, long, d.to) },
      record { from = omega (arith, w.from); to = w.to },
      c.requires.2,
    )

pub returns-then-fixes-eq0 : goal.returns-then-fixes-eq0
returns-then-fixes-eq0 c =
    let a = c.args in
    let f = a.fixes.now in
    let r = c.accept in
    subst (λ (bs : List ℕ). AcceptedAs a.upto a.lanes bs a.tiles.now r.new.tiles r.result)
    (sym (data_clean a.lanes a.strip.now f.cells f.bytes f.count (omega (arith, c.if-fixes-eq0.true)))) r.ensures

pub accept-requires-2 : goal.accept-requires-2
accept-requires-2 c =
    let a = c.args in
    let d = data_within a.lanes (length a.strip.now) c.requires.0 c.requires.1 in
    let w = lanes_within a.lanes c.requires.0 in (
      record { some = d.from; short = d.to; inside = omega arith; room = omega (arith, c.requires.3) },
      record { from = omega (arith, w.from); to = w.to },
      c.requires.2,
    )

pub returns : goal.returns
returns c =
    let a = c.args in
    let f = a.fixes.now in
    let r = c.accept-2 in
    subst (λ (bs : List ℕ). AcceptedAs a.upto a.lanes bs a.tiles.now r.new.tiles r.result) (sym (data_mended a.lanes a.strip.now f.cells f.bytes f.count)) r.ensures
