use Prim.Native.Nat.{◌*◌, ◌<◌}
use native.Mathlib.Nat.{mod-lt, div-le_self}
use native.Mathlib.Omega.{arith}
use Rattle.level.proofs.Nearest.{nearest_down, nearest_up}
use Rattle.strip.proofs.read.wear.Goals as goal

pub overflow_mul-percents-2 : goal.overflow_mul-percents-2
overflow_mul-percents-2 c = let a = c.args in let some : 0 < a.n = omega arith in record { fits = omega (arith, mod-lt (100 * a.mended) some) }

pub overflow_add-percents : goal.overflow_add-percents
overflow_add-percents c = let a = c.args in let some : 0 < a.n = omega arith in record { fits = omega (arith, mod-lt (100 * a.mended) some) }

pub overflow_add-result : goal.overflow_add-result
overflow_add-result c = let a = c.args in record { fits = omega (arith, div-le_self (100 * a.mended) a.n) }

pub returns-then-percents-n : goal.returns-then-percents-n
returns-then-percents-n c = let a = c.args in nearest_up (100 * a.mended) a.n (omega arith) (omega (arith, c.if-percents-n.true))

pub returns : goal.returns
returns c = let a = c.args in nearest_down (100 * a.mended) a.n (omega arith) (omega (arith, c.if-percents-n.false))
