-- FORMAT 2.8, 2.9: the generator of the code, and its multiples. A word is a polynomial: its first cell has the highest power.
use Rattle.std.specs.Prelude.{◌≡◌, List, [], ◌∷◌, ◌++◌, ℕ, ◌-◌, ℤ, pos, negsuc, length, replicate}
use Rattle.account.specs.Field.{Ops}
use Rattle.account.specs.Code.{alpha_to, Cells}

-- n cells of nothing
abbrev pub zeros : ℕ → List ℕ
zeros n = replicate n 0

module _ (O : Ops) where
  open O use {◌⊕◌, ◌⊗◌}

  infixl 60 ◌⊕◌
  infixl 70 ◌⊗◌
  -- the sum of two words of one length, cell by cell
  unfoldable pub plus : List ℕ → List ℕ → List ℕ
  plus [] v = []
  plus (a ∷ u) [] = []
  plus (a ∷ u) (b ∷ v) = (a ⊕ b) ∷ plus u v

  -- b times each cell
  unfoldable pub scale : ℕ → List ℕ → List ℕ
  scale b [] = []
  scale b (a ∷ u) = (b ⊗ a) ∷ scale b u

  -- the product of two polynomials, as it is done by hand: a row for each cell of the second
  unfoldable pub times : List ℕ → List ℕ → List ℕ
  times g [] = zeros (length g - 1)
  times g (b ∷ q) = plus (scale b g ++ zeros (length q)) (0 ∷ times g q)

  -- t + α^j
  abbrev pub factor : ℤ → List ℕ
  factor j = 1 ∷ alpha_to O j ∷ []

  -- FORMAT 2.8: the product of the t + α^j, for j from -2 to 2
  unfoldable pub generator : List ℕ
  generator = times (factor (negsuc 1)) (times (factor (negsuc 0)) (times (factor (pos 0)) (times (factor (pos 1)) (factor (pos 2)))))

  -- FORMAT 2.9: w is a multiple of the generator
  pub record Multiple (w : List ℕ) : Type 0 where
    pub quotient : List ℕ
    pub cells : Cells O quotient
    pub product : w ≡ times generator quotient
