use mathlib.Core.Path.{sym, subst}
use native.Mathlib.Omega.{arith}
use Rattle.errata.specs.Errata.{SearchedAs}
use Rattle.account.specs.Lanes.{lane}
use Rattle.lanes.specs.Lanes.{OneAs}
use Rattle.lanes.proofs.Repairs.{few_columns, full, to_search, searched, beyond_reach, to_note, mended_one}
use Rattle.lanes.proofs.repair_one.Goals as goal

pub search-requires : goal.search-requires
search-requires c =
    let a = c.args in
    let p = c.requires.0 in
    let m = c.requires.1 in
    to_search a.lanes a.strip.now a.marks.now p.entered a.l p.inside a.listed.cells a.listed.count m.few m.list

pub returns-in_err-e : goal.returns-in_err-e
returns-in_err-e c =
    let a = c.args in
    let p = c.requires.0 in
    let m = c.requires.1 in
    let x = searched a.lanes a.strip.now a.marks.now p.entered a.l p.inside a.r a.listed.count a.listed.cells c.search.result p.remains m.list
    (record { cell = λ j h. omega (arith, c.type_inv.strip j) }) c.search.ensures in
    subst (OneAs a.lanes a.strip.now a.marks.now a.l a.fixes.now a.fixes.now) (sym c.from_residual.ensures)
    (beyond_reach a.lanes a.strip.now a.marks.now p.entered a.l p.inside
    (subst (SearchedAs (lane a.lanes a.l a.marks.now) (lane a.lanes a.l a.strip.now)) c.in_err-e.was x))

pub note_lane-requires : goal.note_lane-requires
note_lane-requires c =
    let a = c.args in
    let p = c.requires.0 in
    let m = c.requires.1 in
    let x = searched a.lanes a.strip.now a.marks.now p.entered a.l p.inside a.r a.listed.count a.listed.cells c.search.result p.remains m.list
    (record { cell = λ j h. omega (arith, c.type_inv.strip j) }) c.search.ensures in
    let K = subst (SearchedAs (lane a.lanes a.l a.marks.now) (lane a.lanes a.l a.strip.now)) c.in_ok-e.was x in (
      record { inside = p.inside; short = few_columns a.lanes a.strip.now a.marks.now p.entered; full = full a.lanes a.strip.now a.marks.now p.entered },
      p.entered.lanes.to,
      λ w g. to_note a.lanes a.strip.now a.marks.now p.entered a.l p.inside a.fixes.now w g.0 g.1 c.in_ok-e.e K c.requires.2,
    )

pub returns : goal.returns
returns c =
    let a = c.args in
    let p = c.requires.0 in
    let m = c.requires.1 in
    let g = c.note_lane.ensures in
    let x = searched a.lanes a.strip.now a.marks.now p.entered a.l p.inside a.r a.listed.count a.listed.cells c.search.result p.remains m.list
    (record { cell = λ j h. omega (arith, c.type_inv.strip j) }) c.search.ensures in
    let K = subst (SearchedAs (lane a.lanes a.l a.marks.now) (lane a.lanes a.l a.strip.now)) c.in_ok-e.was x in
    mended_one a.lanes a.strip.now a.marks.now p.entered a.l p.inside a.fixes.now g.0 g.1.0 g.1.1 c.in_ok-e.e K c.requires.2
    _ c.note_lane.result g.2
