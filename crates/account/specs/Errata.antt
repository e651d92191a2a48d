-- What the parts of the search promise each other: errata, that is cells with what to add at each.
use Rattle.std.specs.Prelude.{◌≡◌, ◌≢◌, List, [], ◌∷◌, ℕ, suc, ◌-◌, ◌<◌, length, get_or}
use Rattle.std.proofs.Math.Decide.{ℕ_discrete}
use Rattle.account.specs.Field.{Ops, power}

-- ---- lists of cells

-- i is none of the cells ps
abbrev pub Outside : List ℕ → ℕ → Type 0
Outside [] i = Unit {0}
Outside (p ∷ ps) i = (i ≢ p) × Outside ps i

-- each of the cells ps is below n
abbrev pub Below : List ℕ → ℕ → Type 0
Below [] n = Unit {0}
Below (p ∷ ps) n = (p < n) × Below ps n

-- no cell twice
abbrev pub Distinct : List ℕ → Type 0
Distinct [] = Unit {0}
Distinct (p ∷ ps) = Outside ps p × Distinct ps

-- the place of cell p of n
abbrev pub place : Ops → ℕ → ℕ → ℕ
place O n p = power O O.α (n - suc p)

-- ---- the filter

-- the sums s, with the places xs filtered out
abbrev pub filt : Ops → List ℕ → (ℕ → ℕ) → ℕ → ℕ
filt O [] s = s
filt O (x ∷ xs) s = filt O xs (λ m. O.◌⊕◌ (s (suc m)) (O.◌⊗◌ x (s m)))

-- ---- values

-- the sum of a list
abbrev pub total : Ops → List ℕ → ℕ
total O [] = 0
total O (v ∷ vs) = O.◌⊕◌ v (total O vs)

-- inv gives the inverse of an element
module _ (O : Ops) (inv : ℕ → ℕ) where
  open O use {◌⊕◌, ◌⊗◌}

  infixl 60 ◌⊕◌
  infixl 70 ◌⊗◌
  -- each value of us, which stand at the places ys, divided by what its place and x differ by
  abbrev pub divided : ℕ → List ℕ → List ℕ → List ℕ
  divided x [] us = []
  divided x (y ∷ ys) [] = []
  divided x (y ∷ ys) (u ∷ us) = (u ⊗ inv (y ⊕ x)) ∷ divided x ys us

  -- the values at the places xs that give the sums s
  abbrev pub solve : List ℕ → (ℕ → ℕ) → List ℕ
  solve [] s = []
  solve (x ∷ xs) s =
      let us = divided x xs (solve xs (λ m. s (suc m) ⊕ (x ⊗ s m))) in
      (s 0 ⊕ total O us) ∷ us

-- each value times the square of its place: what the weights of S_-2 take off
abbrev pub unweighed : Ops → List ℕ → List ℕ → List ℕ
unweighed O [] us = []
unweighed O (x ∷ xs) [] = []
unweighed O (x ∷ xs) (u ∷ us) = O.◌⊗◌ (O.◌⊗◌ u x) x ∷ unweighed O xs us

-- ---- errata added to a word

abbrev pub at_or : {i p : ℕ} → Dec (i ≡ p) → ℕ → ℕ
at_or (yes e) a = a
at_or (no ne) a = 0

-- a at cell p, and nothing elsewhere
unfoldable pub only : ℕ → ℕ → ℕ → ℕ
only p a i = at_or (ℕ_discrete i p) a

-- the errata with cells ps and values vs, as a word
abbrev pub added : Ops → List ℕ → List ℕ → ℕ → ℕ
added O [] vs i = 0
added O (p ∷ ps) [] i = 0
added O (p ∷ ps) (v ∷ vs) i = O.◌⊕◌ (only p v i) (added O ps vs i)

-- w is r with the errata of cells ps and values vs
pub record Applied (O : Ops) (ps vs r w : List ℕ) : Type 0 where
  pub same_length : length w ≡ length r
  pub cell : (p : ℕ) → p < length r → get_or w p 0 ≡ O.◌⊕◌ (get_or r p 0) (added O ps vs p)
