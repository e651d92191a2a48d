-- One wrong cell from a ratio, two from a quadratic. t are the sums that are left.
use mathlib.Core.Path.{◌≡◌, refl, sym, ap, ap₂, ◌∙◌, subst}
use mathlib.Core.Logic.{◌≢◌, inl, inr, ⊎_elim}
use mathlib.Core.List.{List, [], ◌∷◌}
use Prim.Native.Nat.{ℕ, zero, suc, ◌+◌, ◌-◌, ◌≤◌, ◌<◌}
use native.Mathlib.Omega.{arith}
use native.Mathlib.Decide.{ℕ_discrete}
use Rattle.account.specs.Field.{Ops, In, IsField, power}
use Rattle.account.specs.Errata.{Outside, place, filt}
use Rattle.account.specs.Search.{Zeros, Fits, CellOf, Found1, Found2, Joined, Splits, Quadratic, HalfOf}
use Rattle.account.proofs.Laws as laws
use Rattle.account.proofs.Laws.{ring}
use Rattle.account.proofs.Powers as powers

module _ (O : Ops) (F : IsField O) where
  open O use {◌⊕◌, ◌⊗◌, α, order}

  infixl 60 ◌⊕◌
  infixl 70 ◌⊗◌
  -- ---- the cell of a place

  pub no_cell : (n : ℕ) (ps : List ℕ) (x : ℕ) → x ≡ 0 → CellOf O x n ps n
  no_cell n ps x e = record {
    within = omega arith;
    right = λ l. absurd (omega arith);
    all = λ p l q u. absurd (powers.pow_some O F (n - suc p) (q ∙ e));
  }

  one_power : (i j : ℕ) → i < order → j < order → power O α i ≡ power O α j → i ≡ j
  one_power i j hi hj e = go (ℕ_discrete i j)
    where
      go : Dec (i ≡ j) → i ≡ j
      go (yes q) = q
      go (no ne) = absurd (powers.pow_apart O F i j hi hj ne e)

  -- x is the i-th power
  module _ (n : ℕ) (ps : List ℕ) (x i : ℕ) (short : n ≤ order) (small : i < order) (is : power O α i ≡ x) where
    its : (p : ℕ) → p < n → place O n p ≡ x → n - suc p ≡ i
    its p l q = one_power (n - suc p) i (omega arith) small (q ∙ sym is)

    pub far_cell : n ≤ i → CellOf O x n ps n
    far_cell h = record {
      within = omega arith;
      right = λ l. absurd (omega arith);
      all = λ p l q u. absurd (omega (arith, its p l q));
    }

    pub marked_cell : i < n → (Outside ps (n - (i + 1)) → ⊥) → CellOf O x n ps n
    marked_cell h m = record {
      within = omega arith;
      right = λ l. absurd (omega arith);
      all = λ p l q u. absurd (m (subst (Outside ps) (there p l q) u));
    }
      where
        there : (p : ℕ) → p < n → place O n p ≡ x → p ≡ n - (i + 1)
        there p l q = omega (arith, its p l q)

    pub good_cell : i < n → Outside ps (n - (i + 1)) → CellOf O x n ps (n - (i + 1))
    good_cell h m = record {
      within = omega arith;
      right = λ l. (ap (power O α) back ∙ is, m);
      all = λ p l q u. omega (arith, its p l q);
    }
      where
        back : n - suc (n - (i + 1)) ≡ i
        back = omega arith

  -- ---- one cell

  -- where the first is nothing, and each is a multiple of the one before, all are nothing
  all_none : (s : ℕ → ℕ) (x k : ℕ) → s 0 ≡ 0 → ((m : ℕ) → m < k → s (suc m) ⊕ (x ⊗ s m) ≡ 0) → (m : ℕ) → m < suc k → s m ≡ 0
  all_none s x k e h zero l = e
  all_none s x k e h (suc m) l =
      laws.add_eq O F (s (suc m)) (x ⊗ s m) (h m (omega arith)) ∙ ap (λ (y : ℕ). x ⊗ y) (all_none s x k e h m (omega arith)) ∙ laws.mul_zero O F x

  pub first_none : (t : ℕ → ℕ) (k n : ℕ) (ps : List ℕ) → (Zeros (suc k) t → ⊥) → t 0 ≡ 0 → Found1 O t k n ps n
  first_none t k n ps z e = record {
    within = omega arith;
    fits = λ l. absurd (omega arith);
    none = λ q p l f. z (all_none t (place O n p) k e f.none);
  }

  -- the ratio is the place
  module _ (t : ℕ → ℕ) (k n : ℕ) (ps : List ℕ) (x i r : ℕ) (hk : 1 ≤ k) (ei : t 0 ⊗ i ≡ 1) (ex : x ≡ t 1 ⊗ i) (C : CellOf O x n ps r) where
    abbrev at : ℕ → ℕ
    at = place O n

    ratio : (p : ℕ) → Fits O n ps t k (p ∷ []) → at p ≡ x
    ratio p f =
        sym (ex
        ∙ ap (λ (y : ℕ). y ⊗ i) (laws.add_eq O F (t 1) (at p ⊗ t 0) (f.none 0 (omega arith)))
        ∙ F.mul_assoc (at p) (t 0) i ∙ ap (λ (y : ℕ). at p ⊗ y) ei ∙ F.mul_one (at p) (powers.place_in O F n p))

    pub out_of_range : n ≤ r → Found1 O t k n ps n
    out_of_range h = record {
      within = omega arith;
      fits = λ l. absurd (omega arith);
      none = λ q p l f. absurd (omega (arith, C.all p l (ratio p f) f.free.0));
    }

    module _ (hr : r < n) where
      pub it_fits : Zeros k (filt O (x ∷ []) t) → Found1 O t k n ps r
      it_fits z = record {
        within = omega arith;
        fits = λ l. record {
          free = ((C.right hr).1, tt);
          none = λ m j. ap (λ (y : ℕ). t (suc m) ⊕ (y ⊗ t m)) (C.right hr).0 ∙ z m j;
        };
        none = λ q. absurd (omega arith);
      }

      pub it_fails : (Zeros k (filt O (x ∷ []) t) → ⊥) → Found1 O t k n ps n
      it_fails z = record {
        within = omega arith;
        fits = λ l. absurd (omega arith);
        none = λ q p l f. z (λ m j. ap (λ (y : ℕ). t (suc m) ⊕ (y ⊗ t m)) (sym (ratio p f)) ∙ f.none m j);
      }

  -- ---- one cell of a word with no marks, by logarithms

  -- from x to y by the difference of their logarithms
  pub log_less : (a b x y : ℕ) → b ≤ a → power O α a ≡ y → power O α b ≡ x → power O α (a - b) ⊗ x ≡ y
  log_less a b x y h ey ex =
      ap (λ (z : ℕ). power O α (a - b) ⊗ z) (sym ex) ∙ sym (powers.pow_add O F α (a - b) b) ∙ ap (power O α) back ∙ ey
    where
      back : a - b + b ≡ a
      back = omega arith

  pub log_around : (a b x y : ℕ) → b ≤ order → power O α a ≡ y → power O α b ≡ x → power O α (a + order - b) ⊗ x ≡ y
  log_around a b x y h ey ex =
      log_less (a + order) b x y (omega arith)
      (powers.pow_add O F α a order ∙ ap (λ (z : ℕ). power O α a ⊗ z) F.α_around ∙ F.mul_one (power O α a) (powers.pow_in O F α a) ∙ ey) ex

  -- only one power goes from one element to another
  pub same_ratio : (i j x y : ℕ) → i < order → j < order → In O x → x ≢ 0 → power O α i ⊗ x ≡ y → power O α j ⊗ x ≡ y → i ≡ j
  same_ratio i j x y hi hj hx nx ei ej =
      one_power i j hi hj
      (laws.add_eq O F (power O α i) (power O α j)
      (laws.mul_cancel O F x (power O α i ⊕ power O α j) hx (F.in_add (power O α i) (power O α j) (powers.pow_in O F α i) (powers.pow_in O F α j)) nx
      (laws.add_mul O F (power O α i) (power O α j) x ∙ ap₂ (λ (a b : ℕ). a ⊕ b) ei ej ∙ F.add_self y)))

  -- a sum is the one before times a power, just where the filter at that power leaves nothing
  pub climbs : (s : ℕ → ℕ) (i m : ℕ) → power O α i ⊗ s m ≡ s (suc m) → filt O (power O α i ∷ []) s m ≡ 0
  climbs s i m e = ap (λ (z : ℕ). s (suc m) ⊕ z) e ∙ F.add_self (s (suc m))

  pub climbed : (s : ℕ → ℕ) (i m : ℕ) → filt O (power O α i ∷ []) s m ≡ 0 → power O α i ⊗ s m ≡ s (suc m)
  climbed s i m z = sym (laws.add_eq O F (s (suc m)) (power O α i ⊗ s m) z)

  -- no power takes something to nothing
  pub no_climb : (s : ℕ → ℕ) (i m : ℕ) → In O (s m) → s m ≢ 0 → s (suc m) ≡ 0 → filt O (power O α i ∷ []) s m ≡ 0 → ⊥
  no_climb s i m hs ns e z =
      ns (laws.mul_cancel O F (power O α i) (s m) (powers.pow_in O F α i) hs (powers.pow_some O F i)
      (F.mul_comm (s m) (power O α i) ∙ climbed s i m z ∙ e))

  module _ (s : ℕ → ℕ) (k n : ℕ) (short : n ≤ order) (hk : 1 ≤ k) (s0_in : In O (s 0)) (s0_some : s 0 ≢ 0) where
    pub second_none : s 1 ≡ 0 → Found1 O s k n [] n
    second_none e = record {
      within = omega arith;
      fits = λ l. absurd (omega arith);
      none = λ q p l f. no_climb s (n - suc p) 0 s0_in s0_some e (f.none 0 (omega arith));
    }

    -- the i-th power goes from the first sum to the second
    module _ (i : ℕ) (small : i < order) (is : power O α i ⊗ s 0 ≡ s 1) where
      ei : s 0 ⊗ F.inv (s 0) ≡ 1
      ei = F.mul_inv (s 0) s0_in s0_some

      ex : power O α i ≡ s 1 ⊗ F.inv (s 0)
      ex =
          sym (ap (λ (y : ℕ). y ⊗ F.inv (s 0)) (sym is) ∙ F.mul_assoc (power O α i) (s 0) (F.inv (s 0))
          ∙ ap (λ (y : ℕ). power O α i ⊗ y) ei ∙ F.mul_one (power O α i) (powers.pow_in O F α i))

      pub alone_far : n ≤ i → Found1 O s k n [] n
      alone_far h = out_of_range s k n [] (power O α i) (F.inv (s 0)) n hk ei ex (far_cell n [] (power O α i) i short small refl h) (omega arith)

      module _ (h : i < n) where
        C : CellOf O (power O α i) n [] (n - (i + 1))
        C = good_cell n [] (power O α i) i short small refl h tt

        pub alone_fits : Zeros k (filt O (power O α i ∷ []) s) → Found1 O s k n [] (n - (i + 1))
        alone_fits z = it_fits s k n [] (power O α i) (F.inv (s 0)) (n - (i + 1)) hk ei ex C (omega arith) z

        pub alone_fails : (Zeros k (filt O (power O α i ∷ []) s) → ⊥) → Found1 O s k n [] n
        alone_fails z = it_fails s k n [] (power O α i) (F.inv (s 0)) (n - (i + 1)) hk ei ex C (omega arith) z

  -- ---- identities of a commutative ring whose sum is its own inverse

  term : (a b c X Y : ℕ) → ((c ⊕ (X ⊗ b)) ⊕ (Y ⊗ (b ⊕ (X ⊗ a)))) ⊕ (((X ⊕ Y) ⊗ b) ⊕ ((X ⊗ Y) ⊗ a)) ≡ c
  term a b c X Y = simp ring

  swapped : (a b c X Y : ℕ) → (c ⊕ (X ⊗ b)) ⊕ (Y ⊗ (b ⊕ (X ⊗ a))) ≡ (c ⊕ (Y ⊗ b)) ⊕ (X ⊗ (b ⊕ (Y ⊗ a)))
  swapped a b c X Y = simp ring

  det_is : (a b X Y : ℕ) → (b ⊗ b) ⊕ (a ⊗ (((X ⊕ Y) ⊗ b) ⊕ ((X ⊗ Y) ⊗ a))) ≡ (b ⊕ (X ⊗ a)) ⊗ (b ⊕ (Y ⊗ a))
  det_is a b X Y = simp ring

  sum_is : (a b u v : ℕ) → (b ⊗ ((u ⊗ b) ⊕ (v ⊗ a))) ⊕ (a ⊗ ((u ⊗ ((u ⊗ b) ⊕ (v ⊗ a))) ⊕ (v ⊗ b))) ≡ u ⊗ ((b ⊗ b) ⊕ (a ⊗ ((u ⊗ b) ⊕ (v ⊗ a))))
  sum_is a b u v = simp ring

  product_is : (a b u v : ℕ)
      → (((u ⊗ b) ⊕ (v ⊗ a)) ⊗ ((u ⊗ b) ⊕ (v ⊗ a))) ⊕ (b ⊗ ((u ⊗ ((u ⊗ b) ⊕ (v ⊗ a))) ⊕ (v ⊗ b))) ≡ v ⊗ ((b ⊗ b) ⊕ (a ⊗ ((u ⊗ b) ⊕ (v ⊗ a))))
  product_is a b u v = simp ring

  square_is : (X Y j : ℕ) → ((X ⊗ j) ⊗ (X ⊗ j)) ⊕ ((X ⊗ j) ⊗ ((X ⊕ Y) ⊗ j)) ≡ ((X ⊗ Y) ⊗ j) ⊗ j
  square_is X Y j = simp ring

  -- ---- the quadratic of two places

  cramer_2 : (a b c d i : ℕ) → ((((b ⊗ c) ⊕ (a ⊗ d)) ⊗ i) ⊗ b) ⊕ ((((c ⊗ c) ⊕ (b ⊗ d)) ⊗ i) ⊗ a) ≡ c ⊗ (((b ⊗ b) ⊕ (a ⊗ c)) ⊗ i)
  cramer_2 a b c d i = simp ring

  cramer_3 : (a b c d i : ℕ) → ((((b ⊗ c) ⊕ (a ⊗ d)) ⊗ i) ⊗ c) ⊕ ((((c ⊗ c) ⊕ (b ⊗ d)) ⊗ i) ⊗ b) ≡ d ⊗ (((b ⊗ b) ⊕ (a ⊗ c)) ⊗ i)
  cramer_3 a b c d i = simp ring

  -- d is the determinant and i its inverse
  pub quadratic : (t : ℕ → ℕ) (d i u v : ℕ) → In O (t 2) → In O (t 3) → d ≡ (t 1 ⊗ t 1) ⊕ (t 0 ⊗ t 2) → d ⊗ i ≡ 1
      → u ≡ ((t 1 ⊗ t 2) ⊕ (t 0 ⊗ t 3)) ⊗ i → v ≡ ((t 2 ⊗ t 2) ⊕ (t 1 ⊗ t 3)) ⊗ i → Quadratic O t u v
  quadratic t d i u v h2 h3 ed ei eu ev = record {
    some = λ z0 z1. powers.one_some O F (sym one ∙ ap₂ (λ (a b : ℕ). ((b ⊗ b) ⊕ (a ⊗ t 2)) ⊗ i) z0 z1
        ∙ ap (λ (c : ℕ). c ⊗ i) (ap₂ (λ (a b : ℕ). a ⊕ b) (laws.zero_mul O F 0) (laws.zero_mul O F (t 2)) ∙ F.add_zero 0) ∙ laws.zero_mul O F i);
    second =
        sym (ap₂ (λ (a b : ℕ). (a ⊗ t 1) ⊕ (b ⊗ t 0)) eu ev ∙ cramer_2 (t 0) (t 1) (t 2) (t 3) i ∙ ap (λ (c : ℕ). t 2 ⊗ c) one ∙ F.mul_one (t 2) h2);
    third =
        sym (ap₂ (λ (a b : ℕ). (a ⊗ t 2) ⊕ (b ⊗ t 1)) eu ev ∙ cramer_3 (t 0) (t 1) (t 2) (t 3) i ∙ ap (λ (c : ℕ). t 3 ⊗ c) one ∙ F.mul_one (t 3) h3);
  }
    where
      one : ((t 1 ⊗ t 1) ⊕ (t 0 ⊗ t 2)) ⊗ i ≡ 1
      one = ap (λ (c : ℕ). c ⊗ i) (sym ed) ∙ ei

  -- the filter at x and y leaves nothing of a sum just where it follows from the two before
  follows : (a b c X Y : ℕ) → (c ⊕ (X ⊗ b)) ⊕ (Y ⊗ (b ⊕ (X ⊗ a))) ≡ 0 → c ≡ ((X ⊕ Y) ⊗ b) ⊕ ((X ⊗ Y) ⊗ a)
  follows a b c X Y z =
      sym (term a b c X Y) ∙ ap (λ (w : ℕ). w ⊕ (((X ⊕ Y) ⊗ b) ⊕ ((X ⊗ Y) ⊗ a))) z ∙ laws.zero_add O F (((X ⊕ Y) ⊗ b) ⊕ ((X ⊗ Y) ⊗ a))

  followed : (a b c X Y : ℕ) → c ≡ ((X ⊕ Y) ⊗ b) ⊕ ((X ⊗ Y) ⊗ a) → (c ⊕ (X ⊗ b)) ⊕ (Y ⊗ (b ⊕ (X ⊗ a))) ≡ 0
  followed a b c X Y e =
      sym (laws.gone O F E L) ∙ ap (λ (w : ℕ). E ⊕ w) (F.add_comm E L ∙ term a b c X Y ∙ e) ∙ F.add_self E
    where
      E : ℕ
      E = ((X ⊕ Y) ⊗ b) ⊕ ((X ⊗ Y) ⊗ a)

      L : ℕ
      L = (c ⊕ (X ⊗ b)) ⊕ (Y ⊗ (b ⊕ (X ⊗ a)))

  module _ (t : ℕ → ℕ) (k u v x y : ℕ) (Q : Quadratic O t u v) (hk : 2 ≤ k) (most : k ≤ 3) (eu : x ⊕ y ≡ u) where
    -- the product of the places is not v
    pub not_product : In O v → In O (t 0) → In O (t 1) → (x ⊗ y ≡ v → ⊥) → Zeros k (filt O (x ∷ y ∷ []) t) → ⊥
    not_product hv h0 h1 n z =
        Q.some (none (t 0) (t 1) (t 2) h0 (z 0 (omega arith)) Q.second) (none (t 1) (t 2) (t 3) h1 (z 1 (omega arith)) Q.third)
      where
        none : (a b c : ℕ) → In O a → (c ⊕ (x ⊗ b)) ⊕ (y ⊗ (b ⊕ (x ⊗ a))) ≡ 0 → c ≡ (u ⊗ b) ⊕ (v ⊗ a) → a ≡ 0
        none a b c ha zz e =
            laws.mul_cancel O F ((x ⊗ y) ⊕ v) a (F.in_add (x ⊗ y) v (F.in_mul x y) hv) ha (λ q. n (laws.add_eq O F (x ⊗ y) v q))
            (F.mul_comm a ((x ⊗ y) ⊕ v) ∙ laws.add_mul O F (x ⊗ y) v a ∙ ap (λ (w : ℕ). w ⊕ (v ⊗ a)) alike ∙ F.add_self (v ⊗ a))
          where
            alike : (x ⊗ y) ⊗ a ≡ v ⊗ a
            alike =
                sym (laws.gone O F (u ⊗ b) ((x ⊗ y) ⊗ a))
                ∙ ap (λ (w : ℕ). (u ⊗ b) ⊕ w) (sym (follows a b c x y zz ∙ ap (λ (w : ℕ). (w ⊗ b) ⊕ ((x ⊗ y) ⊗ a)) eu) ∙ e)
                ∙ laws.gone O F (u ⊗ b) (v ⊗ a)

    module _ (ev : x ⊗ y ≡ v) where
      last : (a b c : ℕ) → c ≡ (u ⊗ b) ⊕ (v ⊗ a) → (c ⊕ (x ⊗ b)) ⊕ (y ⊗ (b ⊕ (x ⊗ a))) ≡ 0
      last a b c e = followed a b c x y (e ∙ ap₂ (λ (p q : ℕ). (p ⊗ b) ⊕ (q ⊗ a)) (sym eu) (sym ev))

      pub does_join : (3 ≤ k → t 4 ≡ (u ⊗ t 3) ⊕ (v ⊗ t 2)) → Zeros k (filt O (x ∷ y ∷ []) t)
      does_join e zero l = last (t 0) (t 1) (t 2) Q.second
      does_join e (suc zero) l = last (t 1) (t 2) (t 3) Q.third
      does_join e (suc (suc zero)) l = last (t 2) (t 3) (t 4) (e (omega arith))
      does_join e (suc (suc (suc m))) l = absurd (omega arith)

      pub not_fourth : 3 ≤ k → (t 4 ≡ (u ⊗ t 3) ⊕ (v ⊗ t 2) → ⊥) → Zeros k (filt O (x ∷ y ∷ []) t) → ⊥
      not_fourth h n z =
          n (follows (t 2) (t 3) (t 4) x y (z 2 (omega arith)) ∙ ap₂ (λ (p q : ℕ). (p ⊗ t 3) ⊕ (q ⊗ t 2)) eu ev)

  -- ---- the values of two cells, from the two middle sums

  shared : (a b X Y : ℕ) → (a ⊗ (X ⊕ Y)) ⊕ (b ⊕ (X ⊗ a)) ≡ b ⊕ (Y ⊗ a)
  shared a b X Y = simp ring

  squared : (a j X : ℕ) → ((a ⊗ j) ⊗ X) ⊗ X ≡ (X ⊗ (X ⊗ a)) ⊗ j
  squared a j X = simp ring

  -- what is left of a sum, once the other cell's part is taken
  part : (X Y j a b : ℕ) → (X ⊕ Y) ⊗ j ≡ 1 → In O a → a ⊕ ((b ⊕ (X ⊗ a)) ⊗ j) ≡ (b ⊕ (Y ⊗ a)) ⊗ j
  part X Y j a b ej ha =
      ap (λ (c : ℕ). c ⊕ ((b ⊕ (X ⊗ a)) ⊗ j)) (sym (F.mul_assoc a (X ⊕ Y) j ∙ ap (λ (c : ℕ). a ⊗ c) ej ∙ F.mul_one a ha))
      ∙ sym (laws.add_mul O F (a ⊗ (X ⊕ Y)) (b ⊕ (X ⊗ a)) j) ∙ ap (λ (c : ℕ). c ⊗ j) (shared a b X Y)

  module _ (s : ℕ → ℕ) (X Y j : ℕ) (ej : (X ⊕ Y) ⊗ j ≡ 1) (si : (m : ℕ) → In O (s m)) (z : Zeros 3 (filt O (X ∷ Y ∷ []) s)) where
    left_x : (m : ℕ) → m < 3 → s (suc (suc m)) ⊕ (Y ⊗ s (suc m)) ≡ X ⊗ (s (suc m) ⊕ (Y ⊗ s m))
    left_x m l =
        laws.add_eq O F (s (suc (suc m)) ⊕ (Y ⊗ s (suc m))) (X ⊗ (s (suc m) ⊕ (Y ⊗ s m)))
        (sym (swapped (s m) (s (suc m)) (s (suc (suc m))) X Y) ∙ z m l)

    left_y : (m : ℕ) → m < 3 → s (suc (suc m)) ⊕ (X ⊗ s (suc m)) ≡ Y ⊗ (s (suc m) ⊕ (X ⊗ s m))
    left_y m l = laws.add_eq O F (s (suc (suc m)) ⊕ (X ⊗ s (suc m))) (Y ⊗ (s (suc m) ⊕ (X ⊗ s m))) (z m l)

    pub pair_first : ((s 0 ⊕ ((s 1 ⊕ (X ⊗ s 0)) ⊗ j)) ⊗ X) ⊗ X ≡ (s 3 ⊕ (Y ⊗ s 2)) ⊗ j
    pair_first =
        ap (λ (c : ℕ). (c ⊗ X) ⊗ X) (part X Y j (s 0) (s 1) ej (si 0)) ∙ squared (s 1 ⊕ (Y ⊗ s 0)) j X
        ∙ ap (λ (c : ℕ). c ⊗ j) (sym (left_x 1 (omega arith) ∙ ap (λ (c : ℕ). X ⊗ c) (left_x 0 (omega arith))))

    pub pair_second : (((s 1 ⊕ (X ⊗ s 0)) ⊗ j) ⊗ Y) ⊗ Y ≡ s 2 ⊕ ((s 3 ⊕ (Y ⊗ s 2)) ⊗ j)
    pair_second =
        squared (s 1 ⊕ (X ⊗ s 0)) j Y ∙ ap (λ (c : ℕ). c ⊗ j) (sym (left_y 1 (omega arith) ∙ ap (λ (c : ℕ). Y ⊗ c) (left_y 0 (omega arith))))
        ∙ sym (part Y X j (s 2) (s 3) (ap (λ (c : ℕ). c ⊗ j) (F.add_comm Y X) ∙ ej) (si 2))

  -- ---- a place from the sum and the product of two

  pub splits : (u v j i1 i2 h x : ℕ) → HalfOf O i2 h → In O u → u ⊗ j ≡ 1 → i1 ≡ v ⊗ j → i2 ≡ i1 ⊗ j → x ≡ u ⊗ h → Splits O u v x
  splits u v j i1 i2 h x H hu ej e1 e2 ex a b ha hb es ep = ⊎_elim (λ q. inl (first q)) (λ q. inr (second q)) (H z (F.in_mul a j) here)
    where
      z : ℕ
      z = a ⊗ j

      here : (z ⊗ z) ⊕ z ≡ i2
      here =
          ap (λ (y : ℕ). (z ⊗ z) ⊕ y) (sym (F.mul_one z (F.in_mul a j)) ∙ ap (λ (y : ℕ). z ⊗ y) (sym ej ∙ ap (λ (y : ℕ). y ⊗ j) (sym es)))
          ∙ square_is a b j
          ∙ ap (λ (y : ℕ). (y ⊗ j) ⊗ j) ep
          ∙ sym (e2 ∙ ap (λ (y : ℕ). y ⊗ j) e1)

      times_z : u ⊗ z ≡ a
      times_z = laws.mul_left O F u a j ∙ ap (λ (y : ℕ). a ⊗ y) ej ∙ F.mul_one a ha

      first : h ≡ z → x ≡ a
      first q = ex ∙ ap (λ (y : ℕ). u ⊗ y) q ∙ times_z

      second : h ≡ z ⊕ 1 → x ≡ b
      second q =
          ex ∙ ap (λ (y : ℕ). u ⊗ y) q ∙ F.mul_add u z 1
          ∙ ap₂ (λ (y w : ℕ). y ⊕ w) times_z (F.mul_one u hu ∙ sym es) ∙ laws.gone O F a b

  -- ---- two cells

  module _ (x y : ℕ) (t : ℕ → ℕ) (k n : ℕ) (ps : List ℕ) where
    apart : ((a b : ℕ) → a < n → b < n → place O n a ≡ x → place O n b ≡ y
        → Outside ps a → Outside ps b → Zeros k (filt O (x ∷ y ∷ []) t) → ⊥) → Joined O x y t k n ps n n
    apart h = record {
      within = omega arith;
      at_p = λ l. absurd (omega arith);
      at_q = λ l. absurd (omega arith);
      zeros = λ l. absurd (omega arith);
      none = λ e. h;
    }

    pub not_first : (r : ℕ) → CellOf O x n ps r → n ≤ r → Joined O x y t k n ps n n
    not_first r C h = apart (λ a b la lb ea eb ma mb z. absurd (omega (arith, C.all a la ea ma)))

    pub not_second : (r : ℕ) → CellOf O y n ps r → n ≤ r → Joined O x y t k n ps n n
    not_second r C h = apart (λ a b la lb ea eb ma mb z. absurd (omega (arith, C.all b lb eb mb)))

    pub do_fit : (r s : ℕ) → CellOf O x n ps r → CellOf O y n ps s → r < n → s < n → Zeros k (filt O (x ∷ y ∷ []) t) → Joined O x y t k n ps r s
    do_fit r s C D lr ls z = record {
      within = omega arith;
      at_p = λ l. C.right lr;
      at_q = λ l. (ls, (D.right ls).0, (D.right ls).1);
      zeros = λ l. z;
      none = λ e. absurd (omega arith);
    }

    pub do_not_fit : (Zeros k (filt O (x ∷ y ∷ []) t) → ⊥) → Joined O x y t k n ps n n
    do_not_fit h = apart (λ a b la lb ea eb ma mb z. h z)

  -- no cell fits alone
  module _ (t : ℕ → ℕ) (k n : ℕ) (ps : List ℕ) (short : n ≤ order) (hk : 2 ≤ k)
      (t1_in : In O (t 1)) (no_one : (p : ℕ) → p < n → Fits O n ps t (suc k) (p ∷ []) → ⊥) where
    abbrev det : ℕ
    det = (t 1 ⊗ t 1) ⊕ (t 0 ⊗ t 2)

    module _ (p q : ℕ) (lp : p < n) (lq : q < p) (f : Fits O n ps t k (p ∷ q ∷ [])) where
      abbrev X : ℕ
      X = place O n p

      abbrev Y : ℕ
      Y = place O n q

      X_in : In O X
      X_in = powers.place_in O F n p

      Y_in : In O Y
      Y_in = powers.place_in O F n q

      unlike : X ⊕ Y ≢ 0
      unlike e = powers.place_apart O F n short p q lp (omega arith) (omega arith) (laws.add_eq O F X Y e)

      next : (m : ℕ) → m < k → t (suc (suc m)) ≡ ((X ⊕ Y) ⊗ t (suc m)) ⊕ ((X ⊗ Y) ⊗ t m)
      next m l = follows (t m) (t (suc m)) (t (suc (suc m))) X Y (f.none m l)

      t2_is : t 2 ≡ ((X ⊕ Y) ⊗ t 1) ⊕ ((X ⊗ Y) ⊗ t 0)
      t2_is = next 0 (omega arith)

      t3_is : t 3 ≡ ((X ⊕ Y) ⊗ t 2) ⊕ ((X ⊗ Y) ⊗ t 1)
      t3_is = next 1 (omega arith)

      factors : det ≡ (t 1 ⊕ (X ⊗ t 0)) ⊗ (t 1 ⊕ (Y ⊗ t 0))
      factors = ap (λ (z : ℕ). (t 1 ⊗ t 1) ⊕ (t 0 ⊗ z)) t2_is ∙ det_is (t 0) (t 1) X Y

      pub det_some : det ≢ 0
      det_some e = go (ℕ_discrete (t 1 ⊕ (Y ⊗ t 0)) 0)
        where
          go : Dec (t 1 ⊕ (Y ⊗ t 0) ≡ 0) → ⊥
          go (yes z) =
              no_one q (omega arith) (record {
                free = (f.free.1.0, tt);
                none = all_none (λ m. t (suc m) ⊕ (Y ⊗ t m)) X k z (λ m l. sym (swapped (t m) (t (suc m)) (t (suc (suc m))) X Y) ∙ f.none m l);
              })
          go (no c) =
              no_one p lp (record {
                free = (f.free.0, tt);
                none = all_none (λ m. t (suc m) ⊕ (X ⊗ t m)) Y k
                    (laws.mul_cancel O F (t 1 ⊕ (Y ⊗ t 0)) (t 1 ⊕ (X ⊗ t 0)) (F.in_add (t 1) (Y ⊗ t 0) t1_in (F.in_mul Y (t 0)))
                    (F.in_add (t 1) (X ⊗ t 0) t1_in (F.in_mul X (t 0))) c (sym factors ∙ e))
                    f.none;
              })

      -- i is the determinant's inverse
      module _ (d i : ℕ) (ed : d ≡ det) (ei : d ⊗ i ≡ 1) where
        scaled : (s w : ℕ) → In O w → s ≡ w ⊗ det → s ⊗ i ≡ w
        scaled s w hw e = ap (λ (z : ℕ). z ⊗ i) (e ∙ ap (λ (z : ℕ). w ⊗ z) (sym ed)) ∙ F.mul_assoc w d i ∙ ap (λ (z : ℕ). w ⊗ z) ei ∙ F.mul_one w hw

        u_is : ((t 1 ⊗ t 2) ⊕ (t 0 ⊗ t 3)) ⊗ i ≡ X ⊕ Y
        u_is = scaled ((t 1 ⊗ t 2) ⊕ (t 0 ⊗ t 3)) (X ⊕ Y) (F.in_add X Y X_in Y_in)
            (ap₂ (λ (y z : ℕ). (t 1 ⊗ y) ⊕ (t 0 ⊗ z)) t2_is (t3_is ∙ ap (λ (y : ℕ). ((X ⊕ Y) ⊗ y) ⊕ ((X ⊗ Y) ⊗ t 1)) t2_is)
            ∙ sum_is (t 0) (t 1) (X ⊕ Y) (X ⊗ Y) ∙ ap (λ (z : ℕ). (X ⊕ Y) ⊗ ((t 1 ⊗ t 1) ⊕ (t 0 ⊗ z))) (sym t2_is))

        v_is : ((t 2 ⊗ t 2) ⊕ (t 1 ⊗ t 3)) ⊗ i ≡ X ⊗ Y
        v_is = scaled ((t 2 ⊗ t 2) ⊕ (t 1 ⊗ t 3)) (X ⊗ Y) (F.in_mul X Y)
            (ap₂ (λ (y z : ℕ). (y ⊗ y) ⊕ (t 1 ⊗ z)) t2_is (t3_is ∙ ap (λ (y : ℕ). ((X ⊕ Y) ⊗ y) ⊕ ((X ⊗ Y) ⊗ t 1)) t2_is)
            ∙ product_is (t 0) (t 1) (X ⊕ Y) (X ⊗ Y) ∙ ap (λ (z : ℕ). (X ⊗ Y) ⊗ ((t 1 ⊗ t 1) ⊕ (t 0 ⊗ z))) (sym t2_is))

        pub sum_some : (u : ℕ) → u ≡ ((t 1 ⊗ t 2) ⊕ (t 0 ⊗ t 3)) ⊗ i → u ≢ 0
        sum_some u eu e = unlike (sym (eu ∙ u_is) ∙ e)

        -- the pair is proposed, in one order or the other
        pub proposed : (u v x y a b : ℕ) → u ≡ ((t 1 ⊗ t 2) ⊕ (t 0 ⊗ t 3)) ⊗ i → v ≡ ((t 2 ⊗ t 2) ⊕ (t 1 ⊗ t 3)) ⊗ i
            → Splits O u v x → y ≡ x ⊕ u → Joined O x y t k n ps a b → a ≡ n → ⊥
        proposed u v x y a b eu ev S ey J e =
            ⊎_elim
            (λ g. J.none e p q lp (omega arith) (sym g) (sym (ey ∙ ap₂ (λ (c w : ℕ). c ⊕ w) g (eu ∙ u_is) ∙ laws.gone O F X Y)) f.free.0
            f.free.1.0
            (λ m l. ap₂ (λ (c w : ℕ). filt O (c ∷ w ∷ []) t m) g (ey ∙ ap₂ (λ (c w : ℕ). c ⊕ w) g (eu ∙ u_is) ∙ laws.gone O F X Y) ∙ f.none m l))
            (λ g. J.none e q p (omega arith) lp (sym g) (sym (ey ∙ ap₂ (λ (c w : ℕ). c ⊕ w) g (eu ∙ u_is) ∙ back)) f.free.1.0 f.free.0
            (λ m l. ap₂ (λ (c w : ℕ). filt O (c ∷ w ∷ []) t m) g (ey ∙ ap₂ (λ (c w : ℕ). c ⊕ w) g (eu ∙ u_is) ∙ back)
            ∙ swapped (t m) (t (suc m)) (t (suc (suc m))) Y X ∙ f.none m l))
            (S X Y X_in Y_in (sym (eu ∙ u_is)) (sym (ev ∙ v_is)))
          where
            back : Y ⊕ (X ⊕ Y) ≡ X
            back = ap (λ (z : ℕ). Y ⊕ z) (F.add_comm X Y) ∙ laws.gone O F Y X

    pub nowhere : ((p q : ℕ) → p < n → q < p → Fits O n ps t k (p ∷ q ∷ []) → ⊥) → Found2 O t k n ps n n
    nowhere h = record {
      within = omega arith;
      apart = λ l. absurd (omega arith);
      fits = λ l. absurd (omega arith);
      none = λ e. h;
    }

    pub found : (x y u a b : ℕ) → y ≡ x ⊕ u → u ≢ 0 → In O u → Joined O x y t k n ps a b
        → (a ≡ n → (p q : ℕ) → p < n → q < p → Fits O n ps t k (p ∷ q ∷ []) → ⊥) → Found2 O t k n ps a b
    found x y u a b ey nu ui J h = record {
      within = J.within;
      apart = λ l. ((J.at_q l).0, λ e. nu (same l e));
      fits = λ l. record {
        free = ((J.at_p l).1, ((J.at_q l).2, tt));
        none = λ m j. ap₂ (λ (c w : ℕ). filt O (c ∷ w ∷ []) t m) (J.at_p l).0 (J.at_q l).1 ∙ J.zeros l m j;
      };
      none = h;
    }
      where
        same : a < n → a ≡ b → u ≡ 0
        same l e =
            sym (laws.gone O F x u)
            ∙ ap (λ (z : ℕ). x ⊕ z) (sym ey ∙ sym (J.at_q l).1 ∙ ap (place O n) (sym e) ∙ (J.at_p l).0)
            ∙ F.add_self x
