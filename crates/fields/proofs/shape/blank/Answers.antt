use Rattle.std.proofs.lemmas.Bool.{ne_eqb}
use Rattle.fields.proofs.Filling.{first_set, rest_is}
use mathlib.Core.Path.{sym, ◌∙◌}
use native.Mathlib.Omega.{arith}
use Rattle.fields.proofs.shape.blank.Goals as goal

pub returns-then-low_bits-eq0 : goal.returns-then-low_bits-eq0
returns-then-low_bits-eq0 c =
    let a = c.args in
    let k = c.type_inv.bs in
    rest_is a.bs.now a.from (λ q. omega (arith, k q)) (omega arith) c.zeros.result
    (sym c.low_bits.ensures ∙ omega arith) c.zeros.ensures

pub returns-else-low_bits-eq0 : goal.returns-else-low_bits-eq0
returns-else-low_bits-eq0 c =
    let a = c.args in
    rw (ne_eqb c.low_bits.result 0 c.if-low_bits-eq0.false) (first_set a.bs.now a.from c.if-bs-at.false (λ z. c.if-low_bits-eq0.false (c.low_bits.ensures ∙ z)))
