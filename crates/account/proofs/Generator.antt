-- A word is clean exactly where it is a multiple of the generator.
use mathlib.Core.Path.{◌≡◌, refl, sym, ap, ap₂, ◌∙◌, subst}
use mathlib.Core.List.{List, [], ◌∷◌, ◌++◌}
use Prim.Native.Nat.{ℕ, zero, suc, ◌+◌, ◌-◌, ◌≤◌, ◌<◌}
use native.Mathlib.Nat.{suc-sub-suc, sub-zero}
use native.Mathlib.Omega.{arith}
use lib.IntN.{ℤ, pos, negsuc}
use lib.Signed.{◌≤ℤ◌}
use lib.ListN.{length, length-append, length-replicate, get_or, drop}
use Rattle.account.specs.Field.{Ops, In, IsField, power, sum_to}
use Rattle.account.specs.Code.{alpha_to, Cells, Clean}
use Rattle.account.specs.Generator.{zeros, plus, scale, times, factor, generator, Multiple}
use Rattle.account.proofs.Laws as laws
use Rattle.account.proofs.Laws.{ring}
use Rattle.account.proofs.Powers as powers
use Rattle.account.proofs.Sums as sums
use Rattle.account.proofs.Words as words
use Rattle.account.proofs.Words.{value, five}
use Rattle.account.proofs.Decode as decode

module _ (O : Ops) (F : IsField O) where
  open O use {◌⊕◌, ◌⊗◌, α, α⁻¹, order}

  infixl 60 ◌⊕◌
  infixl 70 ◌⊗◌
  -- a row of the product: b times g, shifted by n powers
  abbrev row : ℕ → List ℕ → ℕ → List ℕ
  row b g n = scale O b g ++ zeros n

  -- lengths
  length_plus : (u v : List ℕ) → length u ≡ length v → length (plus O u v) ≡ length u
  unfolding plus
  length_plus [] v e = refl
  length_plus (a ∷ u) [] e = absurd (omega arith)
  length_plus (a ∷ u) (b ∷ v) e = ap suc (length_plus u v (omega arith))

  length_scale : (b : ℕ) (u : List ℕ) → length (scale O b u) ≡ length u
  unfolding scale
  length_scale b [] = refl
  length_scale b (a ∷ u) = ap suc (length_scale b u)

  length_shift : (u : List ℕ) (n : ℕ) → length (u ++ zeros n) ≡ length u + n
  length_shift u n = simp (length-append, length-replicate)

  length_row : (b : ℕ) (g : List ℕ) (n : ℕ) → length (row b g n) ≡ length g + n
  length_row b g n = simp (length_shift, length_scale)

  length_times : (g q : List ℕ) → 0 < length g → suc (length (times O g q)) ≡ length g + length q
  unfolding times
  length_times g [] h = ap suc (length-replicate (length g - 1) 0) ∙ omega arith
  length_times g (b ∷ q) h =
      ap suc (length_plus (row b g (length q)) (0 ∷ times O g q) (length_row b g (length q) ∙ sym (length_times g q h)))
      ∙ omega (arith, length_row b g (length q))

  -- a sum, taken apart at its first term
  sum_first : (n : ℕ) (f : ℕ → ℕ) → sum_to O (suc n) f ≡ f 0 ⊕ sum_to O n (λ i. f (suc i))
  unfolding sum_to
  sum_first zero f = F.add_comm 0 (f 0)
  sum_first (suc n) f = ap (λ (y : ℕ). y ⊕ f (suc n)) (sum_first n f) ∙ F.add_assoc (f 0) (sum_to O n (λ i. f (suc i))) (f (suc n))

  -- values: the first cell has the highest power
  pub value_cons : (x b : ℕ) (q : List ℕ) → value O x (b ∷ q) ≡ (b ⊗ power O x (length q)) ⊕ value O x q
  unfolding value
  value_cons x b q =
      sum_first (length q) (λ p. get_or (b ∷ q) p 0 ⊗ power O x (suc (length q) - suc p))
      ∙ ap₂ (λ (y z : ℕ). y ⊕ z) (ap (λ (k : ℕ). b ⊗ power O x k) (suc-sub-suc (length q) 0 ∙ sub-zero (length q)))
      (sums.sum_cong O F (length q) (λ p. get_or q p 0 ⊗ power O x (suc (length q) - suc (suc p))) (λ p. get_or q p 0 ⊗ power O x (length q - suc p))
      (λ p l. ap (λ (k : ℕ). get_or q p 0 ⊗ power O x k) (suc-sub-suc (length q) (suc p))))

  value_zero : (x : ℕ) (u : List ℕ) → value O x (0 ∷ u) ≡ value O x u
  value_zero x u = simp (value_cons, laws.zero_mul O F, laws.zero_add O F)

  value_zeros : (x n : ℕ) → value O x (zeros n) ≡ 0
  value_zeros x zero = words.value_none O F x
  value_zeros x (suc n) = value_zero x (zeros n) ∙ value_zeros x n

  value_plus : (x : ℕ) (u v : List ℕ) → length u ≡ length v → value O x (plus O u v) ≡ value O x u ⊕ value O x v
  unfolding plus
  value_plus x [] [] e = simp (words.value_none O F, F.add_zero)
  value_plus x [] (b ∷ v) e = absurd (omega arith)
  value_plus x (a ∷ u) [] e = absurd (omega arith)
  value_plus x (a ∷ u) (b ∷ v) e =
      let f : length u ≡ length v = omega arith in
      simp (value_cons, length_plus u v f, f, value_plus x u v f, ring)

  value_scale : (x b : ℕ) (u : List ℕ) → value O x (scale O b u) ≡ b ⊗ value O x u
  unfolding scale
  value_scale x b [] = simp (words.value_none O F, laws.mul_zero O F)
  value_scale x b (a ∷ u) = simp (value_cons, length_scale b u, value_scale x b u, F.mul_add, F.mul_assoc)

  value_shift : (x : ℕ) (u : List ℕ) (n : ℕ) → value O x (u ++ zeros n) ≡ value O x u ⊗ power O x n
  value_shift x [] n = simp (value_zeros, words.value_none O F, laws.zero_mul O F)
  value_shift x (a ∷ u) n =
      simp (value_cons, length_shift u n, value_shift x u n, powers.pow_add O F, laws.add_mul O F, F.mul_assoc)

  value_row : (x b : ℕ) (g : List ℕ) (n : ℕ) → value O x (row b g n) ≡ (b ⊗ value O x g) ⊗ power O x n
  value_row x b g n = simp (value_shift, value_scale)

  one_row : (b v p s : ℕ) → ((b ⊗ v) ⊗ p) ⊕ (v ⊗ s) ≡ v ⊗ ((b ⊗ p) ⊕ s)
  one_row b v p s = simp ring

  -- the value of a product is the product of the values
  value_times : (x : ℕ) (g q : List ℕ) → 0 < length g → value O x (times O g q) ≡ value O x g ⊗ value O x q
  unfolding times
  value_times x g [] h = simp (value_zeros, words.value_none O F, laws.mul_zero O F)
  value_times x g (b ∷ q) h =
      value_plus x (row b g (length q)) (0 ∷ times O g q) (length_row b g (length q) ∙ sym (length_times g q h))
      ∙ ap₂ (λ (y z : ℕ). y ⊕ z) (value_row x b g (length q)) (value_zero x (times O g q) ∙ value_times x g q h)
      ∙ one_row b (value O x g) (power O x (length q)) (value O x q) ∙ ap (λ (y : ℕ). value O x g ⊗ y) (sym (value_cons x b q))

  -- t + α^j is nothing at α^j
  alpha_in : (j : ℤ) → In O (alpha_to O j)
  unfolding alpha_to
  alpha_in (pos m) = powers.pow_in O F α m
  alpha_in (negsuc m) = powers.pow_in O F α⁻¹ (suc m)

  value_factor : (j : ℤ) → value O (alpha_to O j) (factor O j) ≡ 0
  unfolding power
  value_factor j = simp (value_cons, words.value_none O F, F.add_zero) (simp (F.mul_comm 1, F.mul_one, alpha_in j, F.add_self))

  -- the generator: monic, of six cells, and nothing at the five powers of α
  generator_long : length (generator O) ≡ 6
  unfolding generator times plus scale
  generator_long = refl

  multiple_long : (q : List ℕ) → length (times O (generator O) q) ≡ length q + 5
  multiple_long q = omega (arith, length_times (generator O) q (omega (arith, generator_long)), generator_long)

  generator_monic : generator O ≡ 1 ∷ drop 1 (generator O)
  unfolding generator times plus scale
  generator_monic = ap (λ (y : ℕ). y ∷ drop 1 (generator O)) (simp (F.mul_one 1 F.in_one, F.add_zero))

  -- by its factors
  value_generator : (x : ℕ) → value O x (generator O)
      ≡ value O x (factor O (negsuc 1))
      ⊗ (value O x (factor O (negsuc 0)) ⊗ (value O x (factor O (pos 0)) ⊗ (value O x (factor O (pos 1)) ⊗ value O x (factor O (pos 2)))))
  unfolding generator
  value_generator x = let h : 0 < 2 = omega arith in simp value_times

  generator_root : (j : ℤ) → negsuc 1 ≤ℤ j → j ≤ℤ pos 2 → value O (alpha_to O j) (generator O) ≡ 0
  generator_root =
      five (λ j. value O (alpha_to O j) (generator O) ≡ 0)
      (simp (value_generator, value_factor, laws.zero_mul O F))
      (simp (value_generator, value_factor, laws.zero_mul O F, laws.mul_zero O F))
      (simp (value_generator, value_factor, laws.zero_mul O F, laws.mul_zero O F))
      (simp (value_generator, value_factor, laws.zero_mul O F, laws.mul_zero O F))
      (simp (value_generator, value_factor, laws.mul_zero O F))

  -- a multiple of the generator is clean
  pub multiple_is_clean : (w : List ℕ) → Multiple O w → Clean O w
  multiple_is_clean w m j l h =
      words.sum_value O F j w ∙ ap (value O (alpha_to O j)) m.product
      ∙ value_times (alpha_to O j) (generator O) m.quotient (omega (arith, generator_long))
      ∙ ap (λ (y : ℕ). y ⊗ value O (alpha_to O j) m.quotient) (generator_root j l h) ∙ laws.zero_mul O F (value O (alpha_to O j) m.quotient)

  -- cells in the field
  cells_cons : (a : ℕ) (u : List ℕ) → In O a → Cells O u → Cells O (a ∷ u)
  cells_cons a u h k = record { cell = at }
    where
      at : (p : ℕ) → p < suc (length u) → In O (get_or (a ∷ u) p 0)
      at zero l = h
      at (suc p) l = k.cell p (omega arith)

  cells_tail : (a : ℕ) (u : List ℕ) → Cells O (a ∷ u) → Cells O u
  cells_tail a u h = record { cell = λ p l. h.cell (suc p) (omega arith) }

  cells_plus : (u v : List ℕ) → Cells O u → Cells O v → Cells O (plus O u v)
  unfolding plus
  cells_plus [] v h k = h
  cells_plus (a ∷ u) [] h k = k
  cells_plus (a ∷ u) (b ∷ v) h k =
      cells_cons (a ⊕ b) (plus O u v) (F.in_add a b (h.cell 0 (omega arith)) (k.cell 0 (omega arith)))
      (cells_plus u v (cells_tail a u h) (cells_tail b v k))

  cells_zeros : (n : ℕ) → Cells O (zeros n)
  cells_zeros zero = record { cell = λ p l. absurd (omega arith) }
  cells_zeros (suc n) = cells_cons 0 (zeros n) F.in_zero (cells_zeros n)

  cells_row : (b : ℕ) (g : List ℕ) (n : ℕ) → Cells O (row b g n)
  unfolding scale
  cells_row b [] n = cells_zeros n
  cells_row b (a ∷ g) n = cells_cons (b ⊗ a) (row b g n) (F.in_mul b a) (cells_row b g n)

  -- a word that is added twice goes
  plus_gone : (u v : List ℕ) → length u ≡ length v → plus O u (plus O u v) ≡ v
  unfolding plus
  plus_gone [] [] e = refl
  plus_gone [] (b ∷ v) e = absurd (omega arith)
  plus_gone (a ∷ u) [] e = absurd (omega arith)
  plus_gone (a ∷ u) (b ∷ v) e = ap₂ (λ (y : ℕ) (l : List ℕ). y ∷ l) (laws.gone O F a b) (plus_gone u v (omega arith))

  -- a clean word of five cells is nothing
  clean_five : 5 ≤ order → (w : List ℕ) → length w ≡ 5 → Cells O w → Clean O w → w ≡ zeros 5
  clean_five short w e i k =
      decode.same O F 5 short (0 ∷ 1 ∷ 2 ∷ 3 ∷ 4 ∷ []) w (zeros 5) e refl (omega arith) (omega arith) i (cells_zeros 5) k
      (λ j l h. words.sum_value O F j (zeros 5) ∙ value_zeros (alpha_to O j) 5) (λ p l o. absurd (omega arith))

  -- one step of the division: the generator, times the first cell and shifted, takes that cell off the word
  module _ (m : ℕ) (rec : (w : List ℕ) → length w ≡ m + 5 → Cells O w → Clean O w → Multiple O w)
      (c : ℕ) (u : List ℕ) (long : length u ≡ m + 5) (i : Cells O (c ∷ u)) (k : Clean O (c ∷ u)) where
    abbrev first : List ℕ
    first = row c (generator O) m

    abbrev rest : List ℕ
    rest = plus O (row c (drop 1 (generator O)) m) u

    first_in : In O c
    first_in = i.cell 0 (omega arith)

    first_long : length first ≡ suc (length u)
    first_long = omega (arith, length_row c (generator O) m, generator_long)

    taken : plus O first (c ∷ u) ≡ 0 ∷ rest
    unfolding plus scale
    taken =
        ap (λ (g : List ℕ). plus O (row c g m) (c ∷ u)) generator_monic
        ∙ ap (λ (y : ℕ). y ∷ rest) (ap (λ (y : ℕ). y ⊕ c) (F.mul_one c first_in) ∙ F.add_self c)

    rest_long : length rest ≡ m + 5
    rest_long = omega (arith, ap length taken, length_plus first (c ∷ u) first_long, first_long)

    rest_cells : Cells O rest
    rest_cells = cells_tail 0 rest (subst (Cells O) taken (cells_plus first (c ∷ u) (cells_row c (generator O) m) i))

    rest_clean : Clean O rest
    rest_clean j l h =
        words.sum_value O F j rest ∙ sym (value_zero x rest) ∙ ap (value O x) (sym taken) ∙ value_plus x first (c ∷ u) first_long
        ∙ ap₂ (λ (y z : ℕ). y ⊕ z)
        (value_row x c (generator O) m ∙ simp (generator_root j l h, laws.mul_zero O F, laws.zero_mul O F))
        (sym (words.sum_value O F j (c ∷ u)) ∙ k j l h)
        ∙ F.add_zero 0
      where
        x : ℕ
        x = alpha_to O j

    step : Multiple O (c ∷ u)
    unfolding times
    step =
        let r : Multiple O rest = rec rest rest_long rest_cells rest_clean in
        let size : length r.quotient ≡ m = omega (arith, ap length r.product, multiple_long r.quotient, rest_long) in
        record {
          quotient = c ∷ r.quotient;
          cells = cells_cons c r.quotient first_in r.cells;
          product =
              sym (plus_gone first (c ∷ u) first_long)
              ∙ ap₂ (λ (n : ℕ) (l : List ℕ). plus O (row c (generator O) n) l) (sym size) (taken ∙ ap (λ (l : List ℕ). 0 ∷ l) r.product);
        }

  -- the division, cell by cell: a clean word leaves no remainder
  divide : 5 ≤ order → (m : ℕ) (w : List ℕ) → length w ≡ m + 5 → Cells O w → Clean O w → Multiple O w
  unfolding times
  divide short zero w e i k = record {
    quotient = [];
    cells = cells_zeros 0;
    product = clean_five short w (omega arith) i k ∙ ap (λ (n : ℕ). zeros (n - 1)) (sym generator_long);
  }
  divide short (suc m) [] e i k = absurd (omega arith)
  divide short (suc m) (c ∷ u) e i k = step m (divide short m) c u (omega arith) i k

  -- a clean word is a multiple of the generator
  pub clean_is_multiple : (w : List ℕ) → Cells O w → 5 ≤ length w → length w ≤ order → Clean O w → Multiple O w
  clean_is_multiple w i l h = divide (omega arith) (length w - 5) w (omega arith) i
