-- What the parts of the search promise each other: guesses of wrong cells. t are the sums that are left.
use Rattle.std.specs.Prelude.{◌≡◌, ◌≢◌, ◌⊎◌, Bool, true, false, List, [], ◌∷◌, map, ℕ, zero, suc, ◌<◌, ◌≤◌, length}
use Rattle.account.specs.Field.{Ops, In}
use Rattle.account.specs.Reach.{is_marked}
use Rattle.account.specs.Errata.{Outside, place, filt}

-- ---- marked cells

abbrev pub add_if : Bool → ℕ → List ℕ → List ℕ
add_if true i ps = i ∷ ps
add_if false i ps = ps

-- the cells below n at which f passes, the highest first
abbrev pub places : (ℕ → Bool) → ℕ → List ℕ
places f zero = []
places f (suc n) = add_if (f n) n (places f n)

-- the marked cells, the last first
abbrev pub erasures : List ℕ → List ℕ
erasures marks = places (is_marked marks) (length marks)

-- none of the cells bs is one of ps
abbrev pub Free : List ℕ → List ℕ → Type 0
Free ps [] = Unit {0}
Free ps (b ∷ bs) = Outside ps b × Free ps bs

-- ---- guesses
-- in a word of n cells, of which those in ps are marked

-- the first k of t are nothing
abbrev pub Zeros : ℕ → (ℕ → ℕ) → Type 0
Zeros k t = (m : ℕ) → m < k → t m ≡ 0

module _ (O : Ops) where
  open O use {◌⊕◌, ◌⊗◌}

  infixl 60 ◌⊕◌
  infixl 70 ◌⊗◌
  -- the guess bs fits: with its cells filtered out the first k of t are nothing
  pub record Fits (n : ℕ) (ps : List ℕ) (t : ℕ → ℕ) (k : ℕ) (bs : List ℕ) : Type 0 where
    pub free : Free ps bs
    pub none : Zeros k (filt O (map (place O n) bs) t)

  -- r is the unmarked cell whose place is x, or n where there is none
  pub record CellOf (x n : ℕ) (ps : List ℕ) (r : ℕ) : Type 0 where
    pub within : r ≤ n
    pub right : r < n → (place O n r ≡ x) × Outside ps r
    pub all : (p : ℕ) → p < n → place O n p ≡ x → Outside ps p → r ≡ p

  -- r is a cell that fits alone, or n where none does
  pub record Found1 (t : ℕ → ℕ) (k n : ℕ) (ps : List ℕ) (r : ℕ) : Type 0 where
    pub within : r ≤ n
    pub fits : r < n → Fits n ps t k (r ∷ [])
    pub none : r ≡ n → (p : ℕ) → p < n → Fits n ps t k (p ∷ []) → ⊥

  -- p and q fit together, or p is n where no two do
  pub record Found2 (t : ℕ → ℕ) (k n : ℕ) (ps : List ℕ) (p q : ℕ) : Type 0 where
    pub within : p ≤ n
    pub apart : p < n → (q < n) × (p ≢ q)
    pub fits : p < n → Fits n ps t k (p ∷ q ∷ [])
    pub none : p ≡ n → (a b : ℕ) → a < n → b < a → Fits n ps t k (a ∷ b ∷ []) → ⊥

  -- the unmarked cells of the places x and y, where those leave the first k sums nothing; or p is n
  pub record Joined (x y : ℕ) (t : ℕ → ℕ) (k n : ℕ) (ps : List ℕ) (p q : ℕ) : Type 0 where
    pub within : p ≤ n
    pub at_p : p < n → (place O n p ≡ x) × Outside ps p
    pub at_q : p < n → (q < n) × (place O n q ≡ y) × Outside ps q
    pub zeros : p < n → Zeros k (filt O (x ∷ y ∷ []) t)
    pub none : p ≡ n → (a b : ℕ) → a < n → b < n
        → place O n a ≡ x → place O n b ≡ y → Outside ps a → Outside ps b
        → Zeros k (filt O (x ∷ y ∷ []) t) → ⊥

  -- x is one of any two elements whose sum is u and whose product is v
  abbrev pub Splits : ℕ → ℕ → ℕ → Type 0
  Splits u v x = (a b : ℕ) → In O a → In O b → a ⊕ b ≡ u → a ⊗ b ≡ v → (x ≡ a) ⊎ (x ≡ b)

  -- u and v, where the sums are those of two cells, are the sum and the product of their places
  pub record Quadratic (t : ℕ → ℕ) (u v : ℕ) : Type 0 where
    pub some : t 0 ≡ 0 → t 1 ≡ 0 → ⊥
    pub second : t 2 ≡ (u ⊗ t 1) ⊕ (v ⊗ t 0)
    pub third : t 3 ≡ (u ⊗ t 2) ⊕ (v ⊗ t 1)

  -- z is one of the two with z z + z = c, wherever there are any
  abbrev pub HalfOf : ℕ → ℕ → Type 0
  HalfOf c z = (a : ℕ) → In O a → (a ⊗ a) ⊕ a ≡ c → (z ≡ a) ⊎ (z ≡ a ⊕ 1)
