use mathlib.Core.Path.{refl}
use native.Mathlib.Omega.{arith}
use Rattle.fields.specs.Head.{lent_as}
use Rattle.strip.proofs.Laid.{laid_as, record_fits, strip_fits}
use Rattle.strip.proofs.write.lay.Goals as goal

pub put_record-b-requires : goal.put_record-b-requires
put_record-b-requires c =
    let a = c.args in
    let p = c.requires in
    (p.1, omega (arith, p.2, record_fits (lent_as a.f a.tiles.now) p.1))

pub overflow_sub-k : goal.overflow_sub-k
overflow_sub-k c =
    let a = c.args in
    let r = c.put_record-b in
    let f = strip_fits a.lanes c.requires.0 (lent_as a.f a.tiles.now) c.requires.1 r.result r.ensures.size in
    omega (arith, f.lanes)

pub overflow_add-k : goal.overflow_add-k
overflow_add-k c =
    let a = c.args in
    let r = c.put_record-b in
    let f = strip_fits a.lanes c.requires.0 (lent_as a.f a.tiles.now) c.requires.1 r.result r.ensures.size in
    omega (arith, f.lanes, f.bytes)

pub nonzero_div-k : goal.nonzero_div-k
nonzero_div-k c =
    let a = c.args in
    let r = c.put_record-b in
    let f = strip_fits a.lanes c.requires.0 (lent_as a.f a.tiles.now) c.requires.1 r.result r.ensures.size in
    omega (arith, f.lanes)

pub overflow_mul-lanes : goal.overflow_mul-lanes
overflow_mul-lanes c =
    let a = c.args in
    let r = c.put_record-b in
    let f = strip_fits a.lanes c.requires.0 (lent_as a.f a.tiles.now) c.requires.1 r.result r.ensures.size in
    omega (arith, f.front)

pub fill-requires : goal.fill-requires
fill-requires c =
    let a = c.args in
    let r = c.put_record-b in
    let f = strip_fits a.lanes c.requires.0 (lent_as a.f a.tiles.now) c.requires.1 r.result r.ensures.size in
    (f.holds, omega (arith, f.front, c.requires.2))

pub put_checks-requires : goal.put_checks-requires
put_checks-requires c =
    let a = c.args in
    let r = c.put_record-b in
    let f = strip_fits a.lanes c.requires.0 (lent_as a.f a.tiles.now) c.requires.1 r.result r.ensures.size in
    (f.lanes, omega (arith, f.few), omega (arith, f.cells, c.requires.2))

pub overflow_add-result : goal.overflow_add-result
overflow_add-result c =
    let a = c.args in
    let r = c.put_record-b in
    let f = strip_fits a.lanes c.requires.0 (lent_as a.f a.tiles.now) c.requires.1 r.result r.ensures.size in
    omega (arith, f.few)

pub overflow_mul-result : goal.overflow_mul-result
overflow_mul-result c =
    let a = c.args in
    let r = c.put_record-b in
    let f = strip_fits a.lanes c.requires.0 (lent_as a.f a.tiles.now) c.requires.1 r.result r.ensures.size in
    omega (arith, f.cells)

pub returns : goal.returns
returns c =
    let a = c.args in
    let r = c.put_record-b in
    let f = strip_fits a.lanes c.requires.0 (lent_as a.f a.tiles.now) c.requires.1 r.result r.ensures.size in
    let q = c.fill in
    let k = c.put_checks in
    laid_as a.lanes (omega (arith, f.lanes)) (lent_as a.f a.tiles.now) a.out.now r.new.out
    q.new.x k.new.x r.result _
    r.ensures refl
    q.ensures k.ensures (omega (arith, f.cells, c.requires.2)) (record { cell = λ j h. omega (arith, c.type_inv.out j) })
