use borrow.Author.Rules.{rules}
use mathlib.Core.Path.{refl, sym, ap, ap₂, ◌∙◌}
use Prim.Native.Nat.{ℕ}
use native.Mathlib.Omega.{arith}
use lib.Bits.{bit_xor}
use Rattle.account.proofs.Locate.{quadratic, det_some, sum_some, proposed, found}
use Rattle.gf256.specs.Gf256.{gf256, times}
use Rattle.gf256.specs.Tables.{inverse_of}
use Rattle.gf256.proofs.Field256.{field256}
use Rattle.values.specs.Values.{at}
use Rattle.locate.proofs.Choices.{p_or, q_or, joined, couple}
use Rattle.locate.proofs.two.Goals as goal

pub returns-then-det-eq0 : goal.returns-then-det-eq0
returns-then-det-eq0 c =
    let a = c.args in
    λ p q lp lq f. det_some gf256 field256 (at a.t) a.k a.n a.ps.now c.requires.0 c.requires.1 (search rules) c.requires.3 p q lp lq f
    (sym (ap₂ bit_xor c.product.ensures c.product-2.ensures) ∙ c.if-det-eq0.true)

pub returns-then-u-eq0 : goal.returns-then-u-eq0
returns-then-u-eq0 c =
    let a = c.args in
    let i = inverse_of (bit_xor c.product.result c.product-2.result) in
    λ p q lp lq f. sum_some gf256 field256 (at a.t) a.k a.n a.ps.now c.requires.0 c.requires.1 (search rules) c.requires.3 p q lp lq f
    (bit_xor c.product.result c.product-2.result) i (ap₂ bit_xor c.product.ensures c.product-2.ensures) c.quotient-u.ensures.0
    c.quotient-u.result (c.quotient-u.ensures.1
    ∙ ap (λ (z : ℕ). times z i) (ap₂ bit_xor c.product-3.ensures c.product-4.ensures)) c.if-u-eq0.true

pub both-requires : goal.both-requires
both-requires c =
    let i = inverse_of (bit_xor c.product.result c.product-2.result) in (
      c.requires.0,
      c.requires.1,
      c.requires.2,
      quadratic gf256 field256 (at c.args.t) (bit_xor c.product.result c.product-2.result) i c.quotient-u.result c.quotient-v.result
          (search rules) (search rules) (ap₂ bit_xor c.product.ensures c.product-2.ensures) c.quotient-u.ensures.0
          (c.quotient-u.ensures.1 ∙ ap (λ (z : ℕ). times z i) (ap₂ bit_xor c.product-3.ensures c.product-4.ensures))
          (c.quotient-v.ensures.1 ∙ ap (λ (z : ℕ). times z i) (ap₂ bit_xor c.product-5.ensures c.product-6.ensures)),
    )

pub returns : goal.returns
returns c =
    let t = at c.args.t in
    let k = c.args.k in
    let n = c.args.n in
    let ps = c.args.ps.now in
    let i = inverse_of (bit_xor c.product.result c.product-2.result) in
    let u = c.quotient-u.result in
    let v = c.quotient-v.result in
    let x = c.split.result in
    let a = p_or n c.both.result in
    let b = q_or n c.both.result in
    let J = joined c.args.t k n ps x (bit_xor x u) c.both.result c.both.ensures in
    couple c.args.t k n ps x (bit_xor x u) c.both.result c.both.ensures
    (found gf256 field256 t k n ps c.requires.0 c.requires.1 (search rules) c.requires.3 x (bit_xor x u) u a b refl c.if-u-eq0.false (omega arith) J
    (λ e p q lp lq f. proposed gf256 field256 t k n ps c.requires.0 c.requires.1 (search rules) c.requires.3 p q lp lq f
    (bit_xor c.product.result c.product-2.result) i (ap₂ bit_xor c.product.ensures c.product-2.ensures) c.quotient-u.ensures.0
    u v x (bit_xor x u) a b
    (c.quotient-u.ensures.1 ∙ ap (λ (z : ℕ). times z i) (ap₂ bit_xor c.product-3.ensures c.product-4.ensures))
    (c.quotient-v.ensures.1 ∙ ap (λ (z : ℕ). times z i) (ap₂ bit_xor c.product-5.ensures c.product-6.ensures))
    c.split.ensures refl J e))
