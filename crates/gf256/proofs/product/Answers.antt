use mathlib.Core.Path.{sym, ap, ◌∙◌}
use mathlib.Core.Logic.{⊎_elim}
use Prim.Native.Nat.{ℕ}
use Rattle.account.proofs.Laws.{zero_mul, mul_zero}
use Rattle.gf256.specs.Gf256.{gf256, times}
use Rattle.gf256.proofs.Field256.{field256}
use Rattle.gf256.proofs.Lookups.{product_by}
use Rattle.gf256.proofs.product.Goals as goal

pub returns-then-a-eq0 : goal.returns-then-a-eq0
returns-then-a-eq0 c =
    ⊎_elim (λ z. sym (zero_mul gf256 field256 c.args.b) ∙ ap (λ (x : ℕ). times x c.args.b) (sym z))
    (λ z. sym (mul_zero gf256 field256 c.args.a) ∙ ap (times c.args.a) (sym z.1)) c.then-a-eq0.either

pub returns : goal.returns
returns c = c.power_at.ensures ∙ product_by c.args.a c.args.b c.log.result c.log-2.result c.log.ensures c.log-2.ensures
