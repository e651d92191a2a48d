use Rattle.std.specs.Prelude.{Ok}
use mathlib.Core.Path.{sym, subst}
use mathlib.Core.Bool.{Bool}
use Prim.Native.Nat.{◌*◌}
use native.Mathlib.Omega.{arith}
use lib.ListN.{replicate}
use Rattle.rules.proofs.Tests.{said}
use Rattle.tiny.specs.Tiny.{Tiny, place_of, start, StepsAs}
use Rattle.tiny.proofs.Answering.{steps, floor_long, floor_first}
use Rattle.tiny.proofs.next.Goals as goal

pub returns-then-start : goal.returns-then-start
returns-then-start c =
    let w = c.args.w in
    let h = c.args.h in
    let t : Tiny w h = said (Tiny w h) c.tiny.result c.if-not-tiny.false c.tiny.ensures in
    let a = c.first in
    subst (λ (b : Bool). StepsAs w h (place_of b c.args.given.now) c.args.tiles.now a.new.tiles (Ok a.result)) (sym c.if-start.true)
    (steps w h t start (replicate (w * h) 0) (floor_long (w * h)) (λ d b l. floor_first w h d b) (λ d b l. tt) c.args.tiles.now a.new.tiles a.result
    (omega arith, (t, tt)) a.auto.tiles a.ensures)
