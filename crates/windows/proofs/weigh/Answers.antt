use mathlib.Core.Path.{◌≡◌, refl, ◌∙◌}
use native.Mathlib.Omega.{arith}
use borrow.Author.Rules.{rules}
use lib.ListN.{length, take}
use lib.Seq.{length-take-le}
use Rattle.rules.proofs.Tests.{said, denied}
use Rattle.windows.specs.Windows.{record_in, BlankFrom}
use Rattle.windows.proofs.Weighing.{length_record, sees, weighing_0, weighing_more, some_seen, not_blank, weighed_all}
use Rattle.windows.proofs.weigh.Goals as goal

pub loop-from-init : goal.loop-from-init
loop-from-init c =
    let a = c.args in
    let p = c.requires in
    let e = length_record a.strip.now a.fixes.now a.to p.0.inside in
    (refl, weighing_0 (record_in a.strip.now a.fixes.now a.to) a.bits p.1 (omega (arith, e, p.0.some)))

pub returns-then-not-blank : goal.returns-then-not-blank
returns-then-not-blank c =
    let a = c.args in
    let p = c.requires in
    let l = c.loop-from in
    let o = c.show-n in
    let x = o.new.scratch in
    let bs = record_in a.strip.now a.fixes.now a.to in
    let e = length_record a.strip.now a.fixes.now a.to p.0.inside in
    let long : length (take o.result x) ≡ o.result = length-take-le o.result x (omega (arith, o.auto.scratch, o.ensures.most, p.0.room, l.invariant.0)) ∙
    omega arith in
    not_blank bs a.bits l.from l.sum o.result 0 (take o.result x) l.invariant.1 (omega (arith, e))
    (sees a.strip.now x a.fixes.now l.from a.to o.result p.0.inside o.ensures) long
    (λ h. o.ensures.full (omega (arith, e))) c.saturating_sub.result c.saturating_sub.ensures
    (denied (BlankFrom c.saturating_sub.result (take o.result x)) c.blank.result (c.if-not-blank.true)
    c.blank.ensures)

pub loop-from-smaller : goal.loop-from-smaller
loop-from-smaller c =
    let a = c.args in
    let p = c.requires in
    let l = c.loop-from in
    let o = c.show-n in
    let x = o.new.scratch in
    let bs = record_in a.strip.now a.fixes.now a.to in
    let e = length_record a.strip.now a.fixes.now a.to p.0.inside in
    let long : length (take o.result x) ≡ o.result = length-take-le o.result x (omega (arith, o.auto.scratch, o.ensures.most, p.0.room, l.invariant.0)) ∙
    omega arith in
    omega (
      arith,
      e,
      some_seen bs a.bits l.from l.sum o.result 0 (take o.result x) l.invariant.1 (omega (arith, e))
          (sees a.strip.now x a.fixes.now l.from a.to o.result p.0.inside o.ensures) long
          (λ h. o.ensures.full (omega (arith, e))) _ refl,
    )

pub loop-from-preserved : goal.loop-from-preserved
loop-from-preserved c =
    let a = c.args in
    let p = c.requires in
    let l = c.loop-from in
    let o = c.show-n in
    let x = o.new.scratch in
    let bs = record_in a.strip.now a.fixes.now a.to in
    let e = length_record a.strip.now a.fixes.now a.to p.0.inside in
    let long : length (take o.result x) ≡ o.result = length-take-le o.result x (omega (arith, o.auto.scratch, o.ensures.most, p.0.room, l.invariant.0)) ∙
    omega arith in (
      search rules,
      weighing_more bs a.bits l.from l.sum o.result c.tally-sum.result (take o.result x) l.invariant.1 (omega (arith, e))
          (sees a.strip.now x a.fixes.now l.from a.to o.result p.0.inside o.ensures) long
          (λ h. o.ensures.full (omega (arith, e))) c.saturating_sub.result c.saturating_sub.ensures
          (said (BlankFrom c.saturating_sub.result (take o.result x)) c.blank.result (c.if-not-blank.false)
          c.blank.ensures) c.tally-sum.ensures,
    )

pub returns : goal.returns
returns c =
    let a = c.args in
    let p = c.requires in
    let l = c.loop-from in
    let e = length_record a.strip.now a.fixes.now a.to p.0.inside in
    weighed_all (record_in a.strip.now a.fixes.now a.to) a.bits l.from l.sum (omega (arith, e)) l.invariant.1
