use mathlib.Core.Path.{◌≡◌, refl, sym, ap, ◌∙◌}
use mathlib.Core.Logic.{⊎_elim}
use Prim.Native.Nat.{ℕ, ◌+◌, ◌*◌, ◌-◌}
use native.Mathlib.Omega.{arith}
use lib.ListN.{drop}
use Rattle.typed.specs.Parts.{spelled}
use Rattle.typed.proofs.Heads.{stops_low, stops_high, goes_on, small, grows}
use Rattle.typed.proofs.head.number.Goals as goal

pub loop-i-init : goal.loop-i-init
loop-i-init c = (omega arith, refl)

pub returns-then-c-lt48 : goal.returns-then-c-lt48
returns-then-c-lt48 c =
    let l = c.loop-i in
    let text = c.args.text.now in
    sym (⊎_elim (λ h. stops_low text l.i l.n (omega (arith, h))) (λ h. stops_high text l.i l.n (omega (arith, h))) c.then-c-lt48.either)
    ∙ l.invariant.1

pub overflow_mul-n : goal.overflow_mul-n
overflow_mul-n c = let l = c.loop-i in omega (arith, small l.i l.n (omega arith) l.invariant.0)

pub overflow_add-n : goal.overflow_add-n
overflow_add-n c = let l = c.loop-i in omega (arith, small l.i l.n (omega arith) l.invariant.0)

pub loop-i-preserved : goal.loop-i-preserved
loop-i-preserved c =
    let l = c.loop-i in
    let text = c.args.text.now in
    let e = c.from.ensures ∙ ap (λ (k : ℕ). k - 48) c.cell-c.ensures in (
      grows l.i l.n c.from.result (omega arith) (omega arith) l.invariant.0,
      ap (λ (d : ℕ). spelled (8 - (l.i + 1)) (l.n * 10 + d) (drop (l.i + 1) text)) e
          ∙ sym (goes_on text l.i l.n (omega arith) (omega arith) (omega arith))
          ∙ l.invariant.1,
    )

pub returns : goal.returns
returns c =
    let l = c.loop-i in
    let e : 8 - l.i ≡ 0 = omega arith in
    sym (ap (λ (k : ℕ). spelled k l.n (drop l.i c.args.text.now)) e) ∙ l.invariant.1
