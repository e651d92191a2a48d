use Rattle.text.proofs.Writing.{lettered, letters_next, letters_end}
use mathlib.Core.Path.{◌≡◌, ap, ap₂, ◌∙◌}
use mathlib.Core.List.{List}
use Prim.Native.Nat.{ℕ, ◌+◌}
use native.Mathlib.Omega.{arith}
use lib.ListN.{set}
use lib.Seq.{sets}
use Rattle.text.proofs.write.put_letters.Goals as goal

pub loop-x-preserved : goal.loop-x-preserved
loop-x-preserved c =
    let L = c.loop-x in
    let a = c.args in
    ap₂ (λ (t : List ℕ) (v : ℕ). set t (a.j + L.x) v) L.invariant c.letter_of.ensures
    ∙ letters_next a.tiles.now a.k a.text.now a.j L.x (omega arith)

pub returns : goal.returns
returns c =
    let L = c.loop-x in
    let a = c.args in
    let e : L.x ≡ a.w = omega arith in
    ap (λ (t : List ℕ). set t (a.j + a.w) 10) (L.invariant ∙ ap (λ (n : ℕ). sets a.text.now a.j (lettered a.tiles.now a.k n)) e)
    ∙ letters_end a.tiles.now a.k a.text.now a.j a.w (omega arith)
