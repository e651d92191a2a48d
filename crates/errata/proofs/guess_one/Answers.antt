use mathlib.Core.Path.{◌≡◌, refl, subst}
use mathlib.Core.List.{List, ◌∷◌, []}
use Prim.Native.Nat.{ℕ, ◌+◌, ◌-◌, ◌<◌, ◌≤◌}
use native.Mathlib.Omega.{arith}
use borrow.Author.Rules.{rules}
use lib.ListN.{length, set}
use Rattle.account.specs.Search.{Fits}
use Rattle.gf256.specs.Gf256.{gf256}
use Rattle.values.specs.declared.Listing.{Listing}
use Rattle.values.proofs.Values.{listed}
use Rattle.errata.specs.Errata.{at, Guess, listed_in}
use Rattle.errata.proofs.Guesses.{guess1, listed_guess}
use Rattle.errata.proofs.guess_one.Goals as goal

one_more : (m : Listing) (t : List ℕ) (p : ℕ) → length m.cells ≡ 5 → m.count ≤ 3 → p < m.n → Fits gf256 m.n (listed_in m) (at t) (4 - m.count) (p ∷ [])
    → Guess m.n (listed_in m) t m.count (m.count + 1) (set m.cells m.count p)
one_more m t p e h l fit =
    let k : 4 - m.count ≡ 5 - m.count - 1 = omega arith in
    guess1 m.n m.cells m.count (listed m e) t p (omega arith) l (subst (λ (k : ℕ). Fits gf256 m.n (listed_in m) (at t) k (p ∷ [])) k fit)

pub invariant_of-result : goal.invariant_of-result
invariant_of-result c =
    let m = c.args.marked.now in
    let p = c.in-Some in
    let N = listed_guess m.n m.cells c.args.t m.count _ _ (listed m (search rules))
    (one_more m c.args.t p.p (search rules) c.requires.0 p.ensures.0 p.ensures.1) in
    record { short = N.short; few = N.few; below = N.below; distinct = N.distinct }

pub returns-in-Some : goal.returns-in-Some
returns-in-Some c =
    let p = c.in-Some in
    (refl, one_more c.args.marked.now c.args.t p.p (search rules) c.requires.0 p.ensures.0 p.ensures.1)
