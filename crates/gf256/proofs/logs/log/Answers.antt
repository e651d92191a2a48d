use mathlib.Core.Path.{◌≡◌, sym, subst}
use Prim.Native.Nat.{ℕ, zero, suc, ◌-◌, ◌<◌}
use native.Mathlib.Omega.{arith}
use lib.ListN.{get_or}
use Rattle.gf256.specs.Gf256.{IsLog}
use Rattle.gf256.proofs.Rules.{logs_list, logs_right}
use Rattle.gf256.proofs.logs.log.Goals as goal

-- i is the byte, as an index
log_by : (x i : ℕ) → 0 < x → x < 256 → i ≡ x → IsLog x (get_or logs_list (i - 1) 0)
log_by zero i z m e = absurd (omega arith)
log_by (suc a) i z m e =
    let s : i - 1 ≡ a = omega arith in subst (λ (k : ℕ). IsLog (suc a) (get_or logs_list k 0)) (sym s) (logs_right.log_at a (omega arith))

pub returns : goal.returns
returns c =
    subst (IsLog c.args.x) (sym c.from-2.ensures) (log_by c.args.x c.from.result c.requires (omega arith) c.from.ensures)
