-- The filter at x sends the moments T to T_(m+1) ⊕ x T_m: the cell that stands at x goes, and each other cell is multiplied by
-- what its place and x differ by. So a word that is nothing outside k cells, and whose first k moments are nothing, is nothing.
use mathlib.Core.Path.{◌≡◌, refl, sym, ap, ap₂, ◌∙◌, fun_ext}
use mathlib.Core.Logic.{◌≢◌}
use mathlib.Core.List.{List, [], ◌∷◌, ◌++◌, map}
use Prim.Native.Nat.{ℕ, suc, ◌+◌, ◌-◌, ◌≤◌, ◌<◌}
use native.Mathlib.Omega.{arith}
use native.Mathlib.Decide.{ℕ_discrete}
use lib.ListN.{length}
use Rattle.account.specs.Field.{Ops, In, IsField, power}
use Rattle.account.specs.Errata.{Outside, Below, place, filt}
use Rattle.account.proofs.Laws as laws
use Rattle.account.proofs.Laws.{ring}
use Rattle.account.proofs.Powers as powers
use Rattle.account.proofs.Sums as sums
use Rattle.account.proofs.Sums.{moment}

-- what that multiplies the cell at y by
abbrev pub weight : Ops → List ℕ → ℕ → ℕ
weight O [] y = 1
weight O (x ∷ xs) y = O.◌⊗◌ (O.◌⊕◌ y x) (weight O xs y)

-- filt looks at the first m + length xs moments only
pub filt_near : (O : Ops) (xs : List ℕ) (s t : ℕ → ℕ) (N : ℕ) → ((m : ℕ) → m < N → s m ≡ t m) → (m : ℕ) → m + length xs < N → filt O xs s m ≡ filt O xs t m
filt_near O [] s t N h m l = h m (omega arith)
filt_near O (x ∷ xs) s t N h m l =
    filt_near O xs (λ k. O.◌⊕◌ (s (suc k)) (O.◌⊗◌ x (s k))) (λ k. O.◌⊕◌ (t (suc k)) (O.◌⊗◌ x (t k))) (N - 1)
    (λ k j. ap₂ (λ (a b : ℕ). O.◌⊕◌ a (O.◌⊗◌ x b)) (h (suc k) (omega arith)) (h k (omega arith))) m (omega arith)

pub filt_append : (O : Ops) (xs ys : List ℕ) (s : ℕ → ℕ) (m : ℕ) → filt O (xs ++ ys) s m ≡ filt O ys (filt O xs s) m
filt_append O [] ys s m = refl
filt_append O (x ∷ xs) ys s m = filt_append O xs ys (λ k. O.◌⊕◌ (s (suc k)) (O.◌⊗◌ x (s k))) m

pub length_map : (f : ℕ → ℕ) (ps : List ℕ) → length (map f ps) ≡ length ps
length_map f [] = refl
length_map f (p ∷ ps) = ap suc (length_map f ps)

pub map_append : (f : ℕ → ℕ) (ps qs : List ℕ) → map f (ps ++ qs) ≡ map f ps ++ map f qs
map_append f [] qs = refl
map_append f (p ∷ ps) qs = ap (λ (l : List ℕ). f p ∷ l) (map_append f ps qs)

module _ (O : Ops) (F : IsField O) where
  open O use {◌⊕◌, ◌⊗◌, order}

  infixl 60 ◌⊕◌
  infixl 70 ◌⊗◌
  pub filt_in : (xs : List ℕ) (s : ℕ → ℕ) → ((m : ℕ) → In O (s m)) → (m : ℕ) → In O (filt O xs s m)
  filt_in [] s h m = h m
  filt_in (x ∷ xs) s h m =
      filt_in xs (λ k. s (suc k) ⊕ (x ⊗ s k)) (λ k. F.in_add (s (suc k)) (x ⊗ s k) (h (suc k)) (F.in_mul x (s k))) m

  -- a word of n cells, at their places
  module _ (n : ℕ) where
    abbrev X : ℕ → ℕ
    X = place O n

    abbrev pub M : (ℕ → ℕ) → ℕ → ℕ
    M = moment O X n

    at_cell : (a x y q : ℕ) → (a ⊗ (q ⊗ y)) ⊕ (x ⊗ (a ⊗ q)) ≡ (a ⊗ (y ⊕ x)) ⊗ q
    at_cell a x y q = simp ring

    pub filter_step : (x : ℕ) (v : ℕ → ℕ) (m : ℕ) → M v (suc m) ⊕ (x ⊗ M v m) ≡ M (λ i. v i ⊗ (X i ⊕ x)) m
    unfolding moment power
    filter_step x v m =
        ap (λ (y : ℕ). M v (suc m) ⊕ y) (sym (sums.sum_mul O F n x (λ i. v i ⊗ power O (X i) m)))
        ∙ sym (sums.sum_add O F n (λ i. v i ⊗ (power O (X i) m ⊗ X i)) (λ i. x ⊗ (v i ⊗ power O (X i) m)))
        ∙ sums.sum_cong O F n (λ i. (v i ⊗ (power O (X i) m ⊗ X i)) ⊕ (x ⊗ (v i ⊗ power O (X i) m))) (λ i. (v i ⊗ (X i ⊕ x)) ⊗ power O (X i) m)
        (λ i l. at_cell (v i) x (X i) (power O (X i) m))

    pub filt_moment : (xs : List ℕ) (v : ℕ → ℕ) → ((i : ℕ) → i < n → In O (v i)) → (m : ℕ) → filt O xs (M v) m ≡ M (λ i. v i ⊗ weight O xs (X i)) m
    filt_moment [] v vi m = sums.moment_cong O F X n v (λ i. v i ⊗ 1) m (λ i l. sym (F.mul_one (v i) (vi i l)))
    filt_moment (x ∷ xs) v vi m =
        ap (λ (u : ℕ → ℕ). filt O xs u m) (fun_ext (filter_step x v))
        ∙ filt_moment xs (λ i. v i ⊗ (X i ⊕ x)) (λ i l. F.in_mul (v i) (X i ⊕ x)) m
        ∙ sums.moment_cong O F X n (λ i. (v i ⊗ (X i ⊕ x)) ⊗ weight O xs (X i)) (λ i. v i ⊗ ((X i ⊕ x) ⊗ weight O xs (X i))) m
        (λ i l. F.mul_assoc (v i) (X i ⊕ x) (weight O xs (X i)))

    -- a cell that is filtered out, or was nothing, is nothing
    filtered_out : (ps : List ℕ) (a i : ℕ) → (Outside ps i → a ≡ 0) → a ⊗ weight O (map X ps) (X i) ≡ 0
    filtered_out [] a i h = ap (λ (x : ℕ). x ⊗ 1) (h tt) ∙ laws.zero_mul O F 1
    filtered_out (p ∷ ps) a i h = go (ℕ_discrete i p) (filtered_out ps a i)
      where
        go : Dec (i ≡ p) → ((Outside ps i → a ≡ 0) → a ⊗ weight O (map X ps) (X i) ≡ 0) → a ⊗ ((X i ⊕ X p) ⊗ weight O (map X ps) (X i)) ≡ 0
        go (yes e) rec =
            ap (λ (x : ℕ). a ⊗ (x ⊗ weight O (map X ps) (X i))) (ap (λ (j : ℕ). X j ⊕ X p) e ∙ F.add_self (X p))
            ∙ ap (λ (x : ℕ). a ⊗ x) (laws.zero_mul O F (weight O (map X ps) (X i))) ∙ laws.mul_zero O F a
        go (no ne) rec =
            laws.mul_left O F a (X i ⊕ X p) (weight O (map X ps) (X i))
            ∙ ap (λ (x : ℕ). (X i ⊕ X p) ⊗ x) (rec (λ o. h (ne, o))) ∙ laws.mul_zero O F (X i ⊕ X p)

    -- with all of the word's cells filtered out nothing is left
    pub filt_none : (ps : List ℕ) (v : ℕ → ℕ) → ((i : ℕ) → i < n → In O (v i)) → ((i : ℕ) → i < n → Outside ps i → v i ≡ 0) → (m : ℕ)
        → filt O (map X ps) (M v) m ≡ 0
    filt_none ps v vi z m =
        filt_moment (map X ps) v vi m
        ∙ sums.moment_zero O F X n (λ i. v i ⊗ weight O (map X ps) (X i)) m (λ i l. filtered_out ps (v i) i (z i l))

    -- at distinct places the weight is something
    module _ (short : n ≤ order) where
      pub apart_some : (i p : ℕ) → i < n → p < n → i ≢ p → X i ⊕ X p ≢ 0
      apart_some i p l k ne e = powers.place_apart O F n short i p l k ne (laws.add_eq O F (X i) (X p) e)

      -- what the filter at p leaves is nothing where v was, and at p
      filtered_off : (p : ℕ) (v : ℕ → ℕ) (j : ℕ) → (j ≢ p → v j ≡ 0) → v j ⊗ (X j ⊕ X p) ≡ 0
      filtered_off p v j z = go (ℕ_discrete j p)
        where
          go : Dec (j ≡ p) → v j ⊗ (X j ⊕ X p) ≡ 0
          go (yes e) = ap (λ (x : ℕ). v j ⊗ x) (ap (λ (q : ℕ). X q ⊕ X p) e ∙ F.add_self (X p)) ∙ laws.mul_zero O F (v j)
          go (no ne) = ap (λ (x : ℕ). x ⊗ (X j ⊕ X p)) (z ne) ∙ laws.zero_mul O F (X j ⊕ X p)

      -- and where the filter at p leaves nothing, and the first moment is nothing, all is
      unfiltered : (p : ℕ) (v : ℕ → ℕ) → p < n → ((i : ℕ) → i < n → In O (v i)) → M v 0 ≡ 0
          → ((i : ℕ) → i < n → v i ⊗ (X i ⊕ X p) ≡ 0) → (i : ℕ) → i < n → v i ≡ 0
      unfiltered p v lp vi s f i l = go (ℕ_discrete i p)
        where
          others : (j : ℕ) → j < n → j ≢ p → v j ≡ 0
          others j k ne =
              laws.mul_cancel O F (X j ⊕ X p) (v j) (F.in_add (X j) (X p) (powers.place_in O F n j) (powers.place_in O F n p)) (vi j k)
              (apart_some j p k lp ne) (f j k)

          go : Dec (i ≡ p) → v i ≡ 0
          go (yes e) = ap v e ∙ sym (sums.moment_at O F X n p v lp (vi p lp) others) ∙ s
          go (no ne) = others i l ne

      -- the distance argument: a word that is nothing outside ps, and whose first moments are nothing, is nothing
      pub nothing : (ps : List ℕ) (v : ℕ → ℕ) → Below ps n → ((i : ℕ) → i < n → In O (v i))
          → ((i : ℕ) → i < n → Outside ps i → v i ≡ 0) → ((m : ℕ) → m < length ps → M v m ≡ 0) → (i : ℕ) → i < n → v i ≡ 0
      nothing [] v b vi z s i l = z i l tt
      nothing (p ∷ ps) v b vi z s i l =
          unfiltered p v b.0 vi (s 0 (omega arith))
          (nothing ps (λ j. v j ⊗ (X j ⊕ X p)) b.1 (λ j k. F.in_mul (v j) (X j ⊕ X p)) (λ j k o. filtered_off p v j (λ ne. z j k (ne, o)))
          (λ m k. sym (filter_step (X p) v m) ∙ ap₂ (λ (a c : ℕ). a ⊕ (X p ⊗ c)) (s (suc m) (omega arith)) (s m (omega arith))
          ∙ laws.zero_add O F (X p ⊗ 0) ∙ laws.mul_zero O F (X p)))
          i l
