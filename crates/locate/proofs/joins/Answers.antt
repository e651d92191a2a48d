use borrow.Author.Rules.{rules}
use mathlib.Core.Path.{ap₂, sym, ◌∙◌}
use native.Mathlib.Omega.{arith}
use lib.Bits.{bit_xor}
use Rattle.account.proofs.Locate.{not_product, does_join, not_fourth}
use Rattle.gf256.specs.Gf256.{gf256}
use Rattle.gf256.proofs.Field256.{field256}
use Rattle.values.specs.Values.{at}
use Rattle.locate.proofs.Choices.{says_less, says_equal, says_not_equal}
use Rattle.locate.proofs.joins.Goals as goal

pub returns-else-product-v : goal.returns-else-product-v
returns-else-product-v c =
    let a = c.args in
    says_not_equal _ c.product.result a.v c.if-product-v.false
    (not_product gf256 field256 (at a.t) a.k a.u a.v a.x a.y c.requires.3 c.requires.0 c.requires.1 c.requires.2 (omega arith)
    (search rules) (search rules) (λ e. c.if-product-v.false (c.product.ensures ∙ e)))

pub returns-then-k-lt3 : goal.returns-then-k-lt3
returns-then-k-lt3 c =
    let a = c.args in
    says_less _ a.k 3 c.if-k-lt3.true
    (does_join gf256 field256 (at a.t) a.k a.u a.v a.x a.y c.requires.3 c.requires.0 c.requires.1 c.requires.2
    (sym c.product.ensures ∙ c.if-product-v.true) (λ h. absurd (omega (arith, c.if-k-lt3.true))))

pub returns-else-k-lt3 : goal.returns-else-k-lt3
returns-else-k-lt3 c =
    let a = c.args in
    let is = ap₂ bit_xor c.product-else-k-lt3.ensures c.product-else-k-lt3-2.ensures in
    says_equal _ (at a.t 4) _
    (λ e. does_join gf256 field256 (at a.t) a.k a.u a.v a.x a.y c.requires.3 c.requires.0 c.requires.1 c.requires.2
    (sym c.product.ensures ∙ c.if-product-v.true) (λ h. e ∙ is))
    (λ n. not_fourth gf256 field256 (at a.t) a.k a.u a.v a.x a.y c.requires.3 c.requires.0 c.requires.1 c.requires.2
    (sym c.product.ensures ∙ c.if-product-v.true) c.if-k-lt3.false (λ e. n (e ∙ sym is)))
