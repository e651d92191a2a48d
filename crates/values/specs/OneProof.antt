-- That cells are below n, or differ, has one proof at most, as a ghost field asks.
use Rattle.std.specs.Prelude.{ℕ, List, [], ◌∷◌}
use Rattle.std.specs.Coded.{×_prop, →_prop, Unit-prop, le_prop}
use Rattle.account.specs.Errata.{Below, Outside, Distinct}

pub Below-prop : (ps : List ℕ) (n : ℕ) → IsProp (Below ps n)
Below-prop [] n = Unit-prop
Below-prop (p ∷ ps) n = ×_prop le_prop (Below-prop ps n)

Outside-prop : (ps : List ℕ) (i : ℕ) → IsProp (Outside ps i)
Outside-prop [] i = Unit-prop
Outside-prop (p ∷ ps) i = ×_prop (→_prop (λ a b. absurd a)) (Outside-prop ps i)

pub Distinct-prop : (ps : List ℕ) → IsProp (Distinct ps)
Distinct-prop [] = Unit-prop
Distinct-prop (p ∷ ps) = ×_prop (Outside-prop ps p) (Distinct-prop ps)
