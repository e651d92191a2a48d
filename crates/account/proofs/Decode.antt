-- What a decoder goes by. r is the word that was read. The cells ps hold all that is wrong with it exactly where its sums, with
-- ps filtered out, are nothing; and then the solved values make it clean.
use mathlib.Core.Path.{◌≡◌, refl, sym, ap, ap₂, ◌∙◌, subst, fun_ext}
use mathlib.Core.Logic.{◌≢◌}
use mathlib.Core.List.{List, [], ◌∷◌, map}
use Prim.Native.Nat.{ℕ, suc, ◌+◌, ◌*◌, ◌-◌, ◌≤◌, ◌<◌}
use native.Mathlib.Omega.{arith}
use native.Mathlib.Decide.{ℕ_discrete}
use lib.ListN.{length, get_or}
use lib.Seq.{ext_get_or}
use Rattle.account.specs.Field.{Ops, In, IsField}
use Rattle.account.specs.Code.{Cells, Clean}
use Rattle.account.specs.Errata.{Outside, Below, Distinct, place, filt, solve, unweighed, added, only, Applied}
use Rattle.account.proofs.Laws as laws
use Rattle.account.proofs.Powers as powers
use Rattle.account.proofs.Sums as sums
use Rattle.account.proofs.Sums.{moment}
use Rattle.account.proofs.Filter as filter
use Rattle.account.proofs.Solve as solving
use Rattle.account.proofs.Solve.{only_here, only_off}
use Rattle.account.proofs.Words as words
use Rattle.account.proofs.Words.{sums_of}

-- w is clean, and is r outside ps
pub record Fixes (O : Ops) (r ps w : List ℕ) : Type 0 where
  pub same_length : length w ≡ length r
  pub cells : Cells O w
  pub clean : Clean O w
  pub rest : (p : ℕ) → p < length r → Outside ps p → get_or w p 0 ≡ get_or r p 0

module _ (O : Ops) (F : IsField O) where
  open O use {◌⊕◌, ◌⊗◌, order}

  infixl 60 ◌⊕◌
  infixl 70 ◌⊗◌
  -- the values to add at the cells ps of r
  abbrev pub values : List ℕ → List ℕ → List ℕ
  values ps r = unweighed O (map (place O (length r)) ps) (solve O F.inv (map (place O (length r)) ps) (sums_of O r))

  pub values_in : (ps r : List ℕ) → solving.AllIn O F (values ps r)
  values_in ps r =
      solving.unweighed_in O F (map (place O (length r)) ps) (solve O F.inv (map (place O (length r)) ps) (sums_of O r))

  module _ (n : ℕ) where
    abbrev X : ℕ → ℕ
    X = place O n

    abbrev W : ℕ → ℕ
    W = powers.weigh O F n

    abbrev M : (ℕ → ℕ) → ℕ → ℕ
    M = moment O X n

    -- two words' difference, as the sums see it
    d : List ℕ → List ℕ → ℕ → ℕ
    d r w p = (get_or r p 0 ⊕ get_or w p 0) ⊗ W p

    d_in : (r w : List ℕ) (p : ℕ) → p < n → In O (d r w p)
    unfolding d
    d_in r w p l = F.in_mul (get_or r p 0 ⊕ get_or w p 0) (W p)

    d_sums : (r w : List ℕ) → length r ≡ n → length w ≡ n → (m : ℕ) → M (d r w) m ≡ sums_of O r m ⊕ sums_of O w m
    unfolding d
    d_sums r w er ew m =
        ap (λ (f : ℕ → ℕ). M f m) (fun_ext (λ p. laws.add_mul O F (get_or r p 0) (get_or w p 0) (W p)))
        ∙ sums.moment_add O F X n (λ p. get_or r p 0 ⊗ W p) (λ p. get_or w p 0 ⊗ W p) m
        ∙ sym (ap₂ (λ (x y : ℕ). x ⊕ y) (words.sums_moment O F n r er m) (words.sums_moment O F n w ew m))

    d_off : (r w : List ℕ) (p : ℕ) → get_or w p 0 ≡ get_or r p 0 → d r w p ≡ 0
    unfolding d
    d_off r w p e =
        ap (λ (x : ℕ). (get_or r p 0 ⊕ x) ⊗ W p) e ∙ ap (λ (x : ℕ). x ⊗ W p) (F.add_self (get_or r p 0)) ∙ laws.zero_mul O F (W p)

    -- the weights are something
    W_some : (p : ℕ) → W p ≢ 0
    W_some p = powers.back_some O F (2 * (n - suc p))

    -- complete: where some clean word is r outside ps, the filtered sums are nothing
    pub complete : (r ps w : List ℕ) → length r ≡ n → Fixes O r ps w → (m : ℕ) → m + length ps < 5 → filt O (map X ps) (sums_of O r) m ≡ 0
    complete r ps w en f m l =
        filter.filt_near O (map X ps) (sums_of O r) (M (d r w)) 5
        (λ k j. sym (d_sums r w en (f.same_length ∙ en) k ∙ ap (λ (x : ℕ). sums_of O r k ⊕ x) (words.clean_sums O w f.clean k j)
        ∙ F.add_zero (sums_of O r k)))
        m (rw (filter.length_map X ps) l)
        ∙ filter.filt_none O F n ps (d r w) (d_in r w) (λ p k o. d_off r w p (f.rest p (subst (λ (x : ℕ). p < x) (sym en) k) o)) m

    -- two clean words that agree outside five cells are one word
    pub same : n ≤ order → (ps v w : List ℕ) → length v ≡ n → length w ≡ n → Below ps n → length ps ≤ 5 → Cells O v → Cells O w → Clean O v → Clean O w
        → ((p : ℕ) → p < n → Outside ps p → get_or v p 0 ≡ get_or w p 0) → v ≡ w
    unfolding d
    same short ps v w ev ew b few iv iw cv cw eq =
        ext_get_or 0 v w (ev ∙ sym ew)
        (λ p l.
        laws.add_eq O F (get_or v p 0) (get_or w p 0)
        (laws.mul_cancel O F (W p) (get_or v p 0 ⊕ get_or w p 0) (powers.pow_in O F _ _)
        (F.in_add (get_or v p 0) (get_or w p 0) (iv.cell p l) (iw.cell p (omega arith))) (W_some p)
        (filter.nothing O F n short ps (d v w) b (d_in v w) (λ i k o. d_off v w i (sym (eq i k o)))
        (λ m k. d_sums v w ev ew m ∙ ap₂ (λ (x y : ℕ). x ⊕ y) (words.clean_sums O v cv m (omega arith)) (words.clean_sums O w cw m (omega arith))
        ∙ F.add_zero 0)
        p (omega arith))))

    -- the weights take the squares of the places off again
    reweighed : (ps us : List ℕ) (i : ℕ) → solving.AllIn O F us → added O ps (unweighed O (map X ps) us) i ⊗ W i ≡ added O ps us i
    reweighed [] us i h = laws.zero_mul O F (W i)
    reweighed (p ∷ ps) [] i h = laws.zero_mul O F (W i)
    reweighed (p ∷ ps) (u ∷ us) i h =
        laws.add_mul O F (only p ((u ⊗ X p) ⊗ X p) i) (added O ps (unweighed O (map X ps) us) i) (W i)
        ∙ ap₂ (λ (x y : ℕ). x ⊕ y) (here (ℕ_discrete i p)) (reweighed ps us i h.1)
      where
        here : Dec (i ≡ p) → only p ((u ⊗ X p) ⊗ X p) i ⊗ W i ≡ only p u i
        here (yes e) =
            subst (λ (j : ℕ). only p ((u ⊗ X p) ⊗ X p) j ⊗ W j ≡ only p u j) (sym e)
            (ap (λ (x : ℕ). x ⊗ W p) (only_here p ((u ⊗ X p) ⊗ X p) ∙ F.mul_assoc u (X p) (X p))
            ∙ F.mul_assoc u (X p ⊗ X p) (W p)
            ∙ ap (λ (x : ℕ). u ⊗ x) (F.mul_comm (X p ⊗ X p) (W p) ∙ powers.weigh_back O F n p)
            ∙ F.mul_one u h.0 ∙ sym (only_here p u))
        here (no ne) = ap (λ (x : ℕ). x ⊗ W i) (only_off p ((u ⊗ X p) ⊗ X p) i ne) ∙ laws.zero_mul O F (W i) ∙ sym (only_off p u i ne)

  -- sound: where the filtered sums are nothing, the solved values make r clean
  module _ (r ps : List ℕ) (short : length r ≤ order) (b : Below ps (length r)) (di : Distinct ps)
      (z : (m : ℕ) → m + length ps < 5 → filt O (map (place O (length r)) ps) (sums_of O r) m ≡ 0) where
    abbrev Xr : ℕ → ℕ
    Xr = place O (length r)

    us : List ℕ
    us = solve O F.inv (map Xr ps) (sums_of O r)

    us_in : solving.AllIn O F us
    unfolding us
    us_in = solving.solve_in O F (map Xr ps) (sums_of O r) (words.sums_in O F (length r) r refl 0)

    pub sound : (w : List ℕ) → Applied O ps (values ps r) r w → Clean O w
    unfolding us
    sound w a = words.sums_clean O w at
      where
        n : ℕ
        n = length r

        cells : (p : ℕ) → p < length r → get_or w p 0 ⊗ powers.weigh O F (length r) p ≡ (get_or r p 0 ⊗ powers.weigh O F (length r) p) ⊕ added O ps us p
        cells p l =
            ap (λ (x : ℕ). x ⊗ powers.weigh O F (length r) p) (a.cell p l)
            ∙ laws.add_mul O F (get_or r p 0) (added O ps (values ps r) p) (powers.weigh O F (length r) p)
            ∙ ap (λ (x : ℕ). (get_or r p 0 ⊗ powers.weigh O F (length r) p) ⊕ x) (reweighed (length r) ps us p us_in)

        at : (m : ℕ) → m < 5 → sums_of O w m ≡ 0
        at m l =
            words.sums_moment O F (length r) w a.same_length m
            ∙ sums.moment_cong O F Xr (length r) (λ p. get_or w p 0 ⊗ powers.weigh O F (length r) p)
            (λ p. (get_or r p 0 ⊗ powers.weigh O F (length r) p) ⊕ added O ps us p) m cells
            ∙ sums.moment_add O F Xr (length r) (λ p. get_or r p 0 ⊗ powers.weigh O F (length r) p) (added O ps us) m
            ∙ ap₂ (λ (x y : ℕ). x ⊕ y) (sym (words.sums_moment O F (length r) r refl m))
            (solving.solved O F (length r) short ps (sums_of O r) 5 (words.sums_in O F (length r) r refl) b di z m l)
            ∙ F.add_self (sums_of O r m)
