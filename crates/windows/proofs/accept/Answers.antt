use mathlib.Core.Path.{sym, ap, ◌∙◌}
use mathlib.Core.List.{List, ◌++◌}
use Prim.Native.Nat.{ℕ, ◌*◌}
use native.Mathlib.Omega.{arith}
use lib.ListN.{drop}
use Rattle.std.proofs.lemmas.Result.{err_from_is_err_and}
use Rattle.tiles.proofs.Part.{length_part, tiles_from_part}
use Rattle.fields.proofs.Accepting.{rejected, room_for, accepted}
use Rattle.windows.specs.Windows.{record_in}
use Rattle.windows.proofs.Weighing.{length_record}
use Rattle.windows.proofs.accept.Goals as goal

pub returns-in_err-judged : goal.returns-in_err-judged
returns-in_err-judged c =
    let a = c.args in
    let p = err_from_is_err_and c.from_residual.result c.from_residual.ensures.1 in
    rw (p.1, p.2) (rejected a.upto a.lanes (record_in a.strip.now a.fixes.now a.to) a.tiles.now c.in_err-judged.field-0.0 c.in_err-judged.ensures)

pub overflow_mul-judged : goal.overflow_mul-judged
overflow_mul-judged c = omega (arith, c.in_ok-judged.ensures.spells.few)

pub unpack-requires : goal.unpack-requires
unpack-requires c =
    let a = c.args in
    let bs = record_in a.strip.now a.fixes.now a.to in
    let J = c.in_ok-judged.ensures in
    let few = J.spells.few in
    let e = length_record a.strip.now a.fixes.now a.to c.requires.0.inside in
    let room = room_for a.upto a.lanes bs a.tiles.now c.in_ok-judged.judged J c.requires.1.from in (
      record { some = c.requires.0.some; short = c.requires.0.short; inside = c.requires.0.inside; room = omega (arith, c.judge.auto.scratch, c.requires.0.room) },
      few,
      omega (arith, room, length_part bs, e, c.requires.0.some),
      omega (arith, few, c.requires.2),
    )

pub returns : goal.returns
returns c =
    let a = c.args in
    let bs = record_in a.strip.now a.fixes.now a.to in
    let f = c.in_ok-judged.judged in
    accepted a.upto a.lanes bs a.tiles.now f c.in_ok-judged.ensures _
    (c.unpack.ensures ∙ ap (λ (ts : List ℕ). ts ++ drop (f.width * f.height) a.tiles.now) (sym (tiles_from_part bs (f.width * f.height))))
