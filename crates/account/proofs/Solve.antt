-- What to add at given cells so that a word gets given moments: the filter, run down the cells and back up.
use mathlib.Core.Path.{◌≡◌, refl, sym, ap, ap₂, ◌∙◌, subst}
use mathlib.Core.Logic.{◌≢◌}
use mathlib.Core.List.{List, [], ◌∷◌, map}
use Prim.Native.Nat.{ℕ, zero, suc, ◌+◌, ◌-◌, ◌≤◌, ◌<◌}
use native.Mathlib.Omega.{arith}
use native.Mathlib.Decide.{ℕ_discrete}
use lib.ListN.{length}
use Rattle.account.specs.Field.{Ops, In, IsField}
use Rattle.account.specs.Errata.{Outside, Below, Distinct, place, filt, total, divided, solve, unweighed, at_or, only, added}
use Rattle.account.proofs.Laws as laws
use Rattle.account.proofs.Powers as powers
use Rattle.account.proofs.Sums as sums
use Rattle.account.proofs.Sums.{moment}
use Rattle.account.proofs.Filter as filter

pub only_here : (p a : ℕ) → only p a p ≡ a
unfolding only
only_here p a = go (ℕ_discrete p p)
  where
    go : (d : Dec (p ≡ p)) → at_or d a ≡ a
    go (yes e) = refl
    go (no ne) = absurd (ne refl)

pub only_off : (p a i : ℕ) → i ≢ p → only p a i ≡ 0
unfolding only
only_off p a i h = go (ℕ_discrete i p)
  where
    go : (d : Dec (i ≡ p)) → at_or d a ≡ 0
    go (yes e) = absurd (h e)
    go (no ne) = refl

-- what holds of a word with a at p, and nothing elsewhere, by cases
only_by : (P : ℕ → ℕ → Type 0) (p a : ℕ) → P p a → ((i : ℕ) → i ≢ p → P i 0) → (i : ℕ) → P i (only p a i)
only_by P p a h o i = go (ℕ_discrete i p)
  where
    go : Dec (i ≡ p) → P i (only p a i)
    go (yes e) = subst (λ (j : ℕ). P j (only p a j)) (sym e) (subst (P p) (sym (only_here p a)) h)
    go (no ne) = subst (P i) (sym (only_off p a i ne)) (o i ne)

module _ (O : Ops) (F : IsField O) where
  open O use {◌⊕◌, ◌⊗◌, order}

  infixl 60 ◌⊕◌
  infixl 70 ◌⊗◌
  abbrev div : ℕ → List ℕ → List ℕ → List ℕ
  div = divided O F.inv

  abbrev sol : List ℕ → (ℕ → ℕ) → List ℕ
  sol = solve O F.inv

  pub only_in : (p a i : ℕ) → In O a → In O (only p a i)
  only_in p a i h = only_by (λ j b. In O b) p a h (λ j n. F.in_zero) i

  -- all are elements of the field
  abbrev pub AllIn : List ℕ → Type 0
  AllIn [] = Unit {0}
  AllIn (v ∷ vs) = In O v × AllIn vs

  pub added_in : (ps vs : List ℕ) (i : ℕ) → AllIn vs → In O (added O ps vs i)
  added_in [] vs i h = F.in_zero
  added_in (p ∷ ps) [] i h = F.in_zero
  added_in (p ∷ ps) (v ∷ vs) i h = F.in_add (only p v i) (added O ps vs i) (only_in p v i h.0) (added_in ps vs i h.1)

  -- nothing is added outside the cells
  pub added_off : (ps vs : List ℕ) (i : ℕ) → Outside ps i → added O ps vs i ≡ 0
  added_off [] vs i o = refl
  added_off (p ∷ ps) [] i o = refl
  added_off (p ∷ ps) (v ∷ vs) i o = ap₂ (λ (x y : ℕ). x ⊕ y) (only_off p v i o.0) (added_off ps vs i o.1) ∙ F.add_zero 0

  total_in : (vs : List ℕ) → AllIn vs → In O (total O vs)
  total_in [] h = F.in_zero
  total_in (v ∷ vs) h = F.in_add v (total O vs) h.0 (total_in vs h.1)

  divided_in : (x : ℕ) (ys us : List ℕ) → AllIn (div x ys us)
  divided_in x [] us = tt
  divided_in x (y ∷ ys) [] = tt
  divided_in x (y ∷ ys) (u ∷ us) = (F.in_mul u (F.inv (y ⊕ x)), divided_in x ys us)

  length_divided : (x : ℕ) (ys us : List ℕ) → length us ≡ length ys → length (div x ys us) ≡ length ys
  length_divided x [] us e = refl
  length_divided x (y ∷ ys) [] e = absurd (omega arith)
  length_divided x (y ∷ ys) (u ∷ us) e = ap suc (length_divided x ys us (omega arith))

  pub length_solve : (xs : List ℕ) (s : ℕ → ℕ) → length (sol xs s) ≡ length xs
  length_solve [] s = refl
  length_solve (x ∷ xs) s =
      ap suc (length_divided x xs (sol xs (λ m. s (suc m) ⊕ (x ⊗ s m))) (length_solve xs (λ m. s (suc m) ⊕ (x ⊗ s m))))

  pub solve_in : (xs : List ℕ) (s : ℕ → ℕ) → In O (s 0) → AllIn (sol xs s)
  solve_in [] s h = tt
  solve_in (x ∷ xs) s h =
      let us = div x xs (sol xs (λ m. s (suc m) ⊕ (x ⊗ s m))) in (
        F.in_add (s 0) (total O us) h (total_in us (divided_in x xs (sol xs (λ m. s (suc m) ⊕ (x ⊗ s m))))),
        divided_in x xs (sol xs (λ m. s (suc m) ⊕ (x ⊗ s m))),
      )

  -- solve looks at as many sums as there are places
  pub solve_near : (inv : ℕ → ℕ) (xs : List ℕ) (s t : ℕ → ℕ) → ((m : ℕ) → m < length xs → s m ≡ t m) → solve O inv xs s ≡ solve O inv xs t
  solve_near inv [] s t h = refl
  solve_near inv (x ∷ xs) s t h =
      ap₂ (λ (a : ℕ) (vs : List ℕ). (a ⊕ total O (divided O inv x xs vs)) ∷ divided O inv x xs vs) (h 0 (omega arith))
      (solve_near inv xs (λ m. s (suc m) ⊕ (x ⊗ s m)) (λ m. t (suc m) ⊕ (x ⊗ t m))
      (λ m l. ap₂ (λ (a b : ℕ). a ⊕ (x ⊗ b)) (h (suc m) (omega arith)) (h m (omega arith))))

  pub unweighed_in : (xs us : List ℕ) → AllIn (unweighed O xs us)
  unweighed_in [] us = tt
  unweighed_in (x ∷ xs) [] = tt
  unweighed_in (x ∷ xs) (u ∷ us) = (F.in_mul (u ⊗ x) x, unweighed_in xs us)

  -- moments that agree at first, and whose filtered moments agree, agree
  agree : (x : ℕ) (s t : ℕ → ℕ) (N : ℕ) → s 0 ≡ t 0 → ((m : ℕ) → suc m < N → s (suc m) ⊕ (x ⊗ s m) ≡ t (suc m) ⊕ (x ⊗ t m))
      → (m : ℕ) → m < N → s m ≡ t m
  agree x s t N e h zero l = e
  agree x s t N e h (suc m) l =
      drop_right (s (suc m)) (t (suc m)) (x ⊗ s m) (h m l ∙ ap (λ (y : ℕ). t (suc m) ⊕ (x ⊗ y)) (sym (agree x s t N e h m (omega arith))))
    where
      drop_right : (a b c : ℕ) → a ⊕ c ≡ b ⊕ c → a ≡ b
      drop_right a b c q =
          laws.add_eq O F a b
          (sym (F.add_zero (a ⊕ b)) ∙ ap (λ (y : ℕ). (a ⊕ b) ⊕ y) (sym (F.add_self c)) ∙ laws.add_swap O F a b c c
          ∙ ap (λ (y : ℕ). y ⊕ (b ⊕ c)) q ∙ F.add_self (b ⊕ c))

  module _ (n : ℕ) (short : n ≤ order) where
    abbrev X : ℕ → ℕ
    X = place O n

    abbrev M : (ℕ → ℕ) → ℕ → ℕ
    M = moment O X n

    moment_total : (ps vs : List ℕ) → length vs ≡ length ps → Below ps n → AllIn vs → M (added O ps vs) 0 ≡ total O vs
    moment_total [] [] e b h = sums.moment_zero O F X n (λ i. 0) 0 (λ i l. refl)
    moment_total [] (v ∷ vs) e b h = absurd (omega arith)
    moment_total (p ∷ ps) [] e b h = absurd (omega arith)
    moment_total (p ∷ ps) (v ∷ vs) e b h =
        sums.moment_add O F X n (only p v) (added O ps vs) 0
        ∙ ap₂ (λ (x y : ℕ). x ⊕ y)
        (sums.moment_at O F X n p (only p v) b.0 (only_in p v p h.0) (λ i l ne. only_off p v i ne) ∙ only_here p v)
        (moment_total ps vs (omega arith) b.1 h.1)

    -- the filter at p undoes the division
    undone : (p : ℕ) → p < n → (ps vs : List ℕ) → length vs ≡ length ps → Below ps n → Outside ps p → AllIn vs → (i : ℕ) → i < n
        → added O ps (div (X p) (map X ps) vs) i ⊗ (X i ⊕ X p) ≡ added O ps vs i
    undone p lp [] vs e b o h i l = laws.zero_mul O F (X i ⊕ X p)
    undone p lp (q ∷ ps) [] e b o h i l = absurd (omega arith)
    undone p lp (q ∷ ps) (v ∷ vs) e b o h i l =
        laws.add_mul O F (only q (v ⊗ F.inv (X q ⊕ X p)) i) (added O ps (div (X p) (map X ps) vs) i) (X i ⊕ X p)
        ∙ ap₂ (λ (x y : ℕ). x ⊕ y) (here (ℕ_discrete i q)) (undone p lp ps vs (omega arith) b.1 o.1 h.1 i l)
      where
        here : Dec (i ≡ q) → only q (v ⊗ F.inv (X q ⊕ X p)) i ⊗ (X i ⊕ X p) ≡ only q v i
        here (yes g) =
            subst (λ (j : ℕ). only q (v ⊗ F.inv (X q ⊕ X p)) j ⊗ (X j ⊕ X p) ≡ only q v j) (sym g)
            (ap (λ (x : ℕ). x ⊗ (X q ⊕ X p)) (only_here q (v ⊗ F.inv (X q ⊕ X p)))
            ∙ F.mul_assoc v (F.inv (X q ⊕ X p)) (X q ⊕ X p)
            ∙ ap (λ (x : ℕ). v ⊗ x)
            (F.mul_comm (F.inv (X q ⊕ X p)) (X q ⊕ X p)
            ∙ F.mul_inv (X q ⊕ X p) (F.in_add (X q) (X p) (powers.place_in O F n q) (powers.place_in O F n p))
            (filter.apart_some O F n short q p b.0 lp (λ g2. o.0 (sym g2))))
            ∙ F.mul_one v h.0 ∙ sym (only_here q v))
        here (no ne) =
            ap (λ (x : ℕ). x ⊗ (X i ⊕ X p)) (only_off q (v ⊗ F.inv (X q ⊕ X p)) i ne) ∙ laws.zero_mul O F (X i ⊕ X p)
            ∙ sym (only_off q v i ne)

    -- the filter at p takes what stands there
    only_gone : (p a i : ℕ) → only p a i ⊗ (X i ⊕ X p) ≡ 0
    only_gone p a i =
        only_by (λ j b. b ⊗ (X j ⊕ X p) ≡ 0) p a (ap (λ (x : ℕ). a ⊗ x) (F.add_self (X p)) ∙ laws.mul_zero O F a)
        (λ j ne. laws.zero_mul O F (X j ⊕ X p)) i

    -- one cell more: vs gives the filtered moments at ps
    module _ (p : ℕ) (ps : List ℕ) (s : ℕ → ℕ) (N : ℕ) (vs : List ℕ) (si : In O (s 0)) (b : Below (p ∷ ps) n) (d : Distinct (p ∷ ps))
        (lv : length vs ≡ length ps) (vi : AllIn vs)
        (rec : (m : ℕ) → m < N - 1 → M (added O ps vs) m ≡ s (suc m) ⊕ (X p ⊗ s m)) where
      abbrev us : List ℕ
      us = div (X p) (map X ps) vs

      abbrev y : ℕ
      y = s 0 ⊕ total O us

      abbrev t : ℕ → ℕ
      t = added O (p ∷ ps) (y ∷ us)

      us_long : length us ≡ length ps
      us_long = length_divided (X p) (map X ps) vs (lv ∙ sym (filter.length_map X ps)) ∙ filter.length_map X ps

      y_in : In O y
      y_in = F.in_add (s 0) (total O us) si (total_in us (divided_in (X p) (map X ps) vs))

      first : M t 0 ≡ s 0
      first =
          moment_total (p ∷ ps) (y ∷ us) (ap suc us_long) b (y_in, divided_in (X p) (map X ps) vs)
          ∙ F.add_assoc (s 0) (total O us) (total O us) ∙ ap (λ (x : ℕ). s 0 ⊕ x) (F.add_self (total O us)) ∙ F.add_zero (s 0)

      back : (i : ℕ) → i < n → t i ⊗ (X i ⊕ X p) ≡ added O ps vs i
      back i l =
          laws.add_mul O F (only p y i) (added O ps us i) (X i ⊕ X p)
          ∙ ap₂ (λ (x z : ℕ). x ⊕ z) (only_gone p y i) (undone p b.0 ps vs lv b.1 d.0 vi i l) ∙ laws.zero_add O F (added O ps vs i)

      pub solved_step : (m : ℕ) → m < N → M t m ≡ s m
      solved_step =
          agree (X p) (M t) s N first
          (λ k j. filter.filter_step O F n (X p) t k ∙ sums.moment_cong O F X n (λ i. t i ⊗ (X i ⊕ X p)) (added O ps vs) k back ∙ rec k (omega arith))

    -- where the moments s, with the cells ps filtered out, are nothing, the values that sol gives have these moments
    pub solved : (ps : List ℕ) (s : ℕ → ℕ) (N : ℕ) → ((m : ℕ) → In O (s m)) → Below ps n → Distinct ps
        → ((m : ℕ) → m + length ps < N → filt O (map X ps) s m ≡ 0) → (m : ℕ) → m < N → M (added O ps (sol (map X ps) s)) m ≡ s m
    solved [] s N si b d z = λ m l. sums.moment_zero O F X n (λ i. 0) m (λ i k. refl) ∙ sym (z m (omega arith))
    solved (p ∷ ps) s N si b d z =
        solved_step p ps s N (sol (map X ps) (λ m. s (suc m) ⊕ (X p ⊗ s m))) (si 0) b d
        (length_solve (map X ps) (λ m. s (suc m) ⊕ (X p ⊗ s m)) ∙ filter.length_map X ps)
        (solve_in (map X ps) (λ m. s (suc m) ⊕ (X p ⊗ s m)) (F.in_add (s 1) (X p ⊗ s 0) (si 1) (F.in_mul (X p) (s 0))))
        (solved ps (λ m. s (suc m) ⊕ (X p ⊗ s m)) (N - 1) (λ m. F.in_add (s (suc m)) (X p ⊗ s m) (si (suc m)) (F.in_mul (X p) (s m))) b.1 d.1
        (λ m l. z m (omega arith)))
