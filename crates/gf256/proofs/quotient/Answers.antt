use mathlib.Core.Path.{sym, ap, ◌∙◌}
use mathlib.Core.Logic.{◌≢◌}
use Prim.Native.Nat.{ℕ, ◌<◌}
use native.Mathlib.Omega.{arith}
use Rattle.account.proofs.Laws.{zero_mul}
use Rattle.gf256.specs.Gf256.{gf256, times}
use Rattle.gf256.specs.Tables.{inverse_of}
use Rattle.gf256.proofs.Field256.{field256, inverse_right}
use Rattle.gf256.proofs.Lookups.{quotient_by}
use Rattle.gf256.proofs.quotient.Goals as goal

some : (b : ℕ) → 0 < b → b ≢ 0
some b h e = omega arith

pub returns-then-a-eq0 : goal.returns-then-a-eq0
returns-then-a-eq0 c =
    let b = c.args.b in (
      inverse_right b (omega arith) (some b c.requires),
      sym (zero_mul gf256 field256 (inverse_of b)) ∙ ap (λ (x : ℕ). times x (inverse_of b)) (sym c.if-a-eq0.true),
    )

pub returns : goal.returns
returns c =
    let b = c.args.b in
    let nb = some b c.requires in (
      inverse_right b (omega arith) nb,
      c.power_at.ensures ∙ quotient_by c.args.a b c.log.result c.log-2.result (omega arith) nb c.log.ensures c.log-2.ensures,
    )
