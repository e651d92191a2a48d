use mathlib.Core.Path.{ap, ap₂, sym, ◌∙◌, subst}
use Prim.Native.Nat.{ℕ, ◌<◌}
use lib.Bits.{bit_xor}
use borrow.Author.Rules.{rules}
use Rattle.gf256.specs.Gf256.{times}
use Rattle.gf256.specs.Tables.{inverse_of}
use Rattle.errata.specs.Errata.{at}
use Rattle.errata.proofs.Guesses.{pair_apart, pair_valued}
use Rattle.errata.proofs.couple.Goals as goal

pub quotient-v-requires : goal.quotient-v-requires
quotient-v-requires c =
    subst (λ (a : ℕ). 0 < a) (sym (ap₂ bit_xor c.place-x.ensures c.place-y.ensures))
    (pair_apart c.args.n c.args.s c.requires.0 c.args.pair.p c.args.pair.q c.requires.1)

pub returns : goal.returns
returns c =
    let y = c.place-y in
    let x = c.place-x in
    let i = inverse_of (bit_xor x.result y.result) in
    pair_valued c.args.n c.args.s c.requires.0 c.args.pair.p c.args.pair.q c.quotient-v.result i (λ m. search rules) c.requires.1
    (ap₂ (λ (a b : ℕ). times (bit_xor a b) i) (sym x.ensures) (sym y.ensures) ∙ c.quotient-v.ensures.0)
    (c.quotient-v.ensures.1
    ∙ ap (λ (a : ℕ). times (bit_xor (at c.args.s 3) a) i) (c.product.ensures ∙ ap (λ (b : ℕ). times b (at c.args.s 2)) y.ensures))
