-- Counts over the lanes: a sum over lanes is a count over cells; what is mended and repainted is little.
use mathlib.Core.Path.{◌≡◌, refl, sym, ap, ap₂, ◌∙◌}
use mathlib.Core.Bool.{Bool, not}
use mathlib.Core.Logic.{◌⊎◌, inl, inr, ⊎_elim}
use mathlib.Core.List.{List}
use Prim.Native.Nat.{ℕ, zero, suc, ◌+◌, ◌*◌, ◌-◌, ◌/◌, ◌≤◌, ◌<◌}
use native.Mathlib.Nat.{mul-suc, mul-zero, mul-le-mul_left, div-add-mod, mod-lt, eq-zero-or-pos}
use native.Mathlib.Omega.{arith}
use lib.Dec.{eqb}
use lib.ListN.{length, get_or}
use Rattle.account.specs.Lists.{sum_of}
use Rattle.account.specs.Lanes.{lane}
use Rattle.account.specs.Reach.{one_if, and, count_to, is_marked, differs_at, differing, repainted, Reach}
use Rattle.account.proofs.Cells.{count_cong}
use Rattle.account.proofs.Theorems.{repainted_marked}
use Rattle.account.proofs.Lanes.{length_lane, get_d_lane, columns_of}
use Rattle.rules.proofs.Numbers.{lt_or_ge, all_or_one}
use Rattle.level.specs.Strip.{columns, Legal, StripReach, wrong_in, marked_in, mended_of, repainted_in, repainted_of, IsWear}
use Rattle.level.proofs.Nearest.{nearest_most}

sum_none : (R : ℕ) → sum_of R (λ j. 0) ≡ 0
unfolding sum_of
sum_none zero = refl
sum_none (suc R) = omega (arith, sum_none R)

sum_add : (R : ℕ) (f g : ℕ → ℕ) → sum_of R (λ j. f j + g j) ≡ sum_of R f + sum_of R g
unfolding sum_of
sum_add zero f g = refl
sum_add (suc R) f g = omega (arith, sum_add R f g)

pub sum_cong : (R : ℕ) (f g : ℕ → ℕ) → ((j : ℕ) → j < R → f j ≡ g j) → sum_of R f ≡ sum_of R g
unfolding sum_of
sum_cong zero f g h = refl
sum_cong (suc R) f g h = ap₂ (λ (x y : ℕ). x + y) (sum_cong R f g (λ j l. h j (omega arith))) (h R (omega arith))

sum_most : (R b : ℕ) (f : ℕ → ℕ) → ((j : ℕ) → j < R → f j ≤ b) → sum_of R f ≤ b * R
unfolding sum_of
sum_most zero b f h = omega (arith, mul-zero b)
sum_most (suc R) b f h = omega (arith, mul-suc b R, sum_most R b f (λ j l. h j (omega arith)), h R (omega arith))

-- where none is above one more than b, none is above b, or one is that
pub most_or_one : (R b : ℕ) (f : ℕ → ℕ) → ((j : ℕ) → j < R → f j ≤ suc b) → ((j : ℕ) → j < R → f j ≤ b) ⊎ ((j : ℕ) × (j < R) × (f j ≡ suc b))
most_or_one R b f h =
    all_or_one R (λ j. f j ≤ b) (λ j. f j ≡ suc b) (λ j l. ⊎_elim (λ y. inr (omega (arith, h j l))) (λ y. inl y) (lt_or_ge b (f j)))

-- n cells after the first a
count_more : (f : ℕ → Bool) (a n : ℕ) → count_to f (a + n) ≡ count_to f a + sum_of n (λ j. one_if (f (a + j)))
unfolding count_to sum_of
count_more f a zero = let z : a + 0 ≡ a = omega arith in rw z (omega arith)
count_more f a (suc n) = let z : a + suc n ≡ suc (a + n) = omega arith in rw z (omega (arith, count_more f a n))

-- cells counted lane by lane
pub count_lanes : (f : ℕ → Bool) (R m : ℕ) → count_to f (R * m) ≡ sum_of R (λ j. count_to (λ i. f (R * i + j)) m)
unfolding count_to
count_lanes f R zero = rw (mul-zero R) (sym (sum_none R))
count_lanes f R (suc m) =
    rw (mul-suc R m) (count_more f (R * m) R)
    ∙ ap (λ (x : ℕ). x + sum_of R (λ j. one_if (f (R * m + j)))) (count_lanes f R m)
    ∙ sym (sum_add R (λ j. count_to (λ i. f (R * i + j)) m) (λ j. one_if (f (R * m + j))))

-- a strip of legal length has six cells or more in each lane
pub legal_long : (R : ℕ) → 0 < R → {N : ℕ} → Legal R N → R * 6 ≤ N
legal_long R some legal = rw legal.cells (mul-le-mul_left R (omega (arith, legal.from, one_column)))
  where
    one_column : 1 ≤ columns R 4
    one_column =
        ⊎_elim (λ z. absurd (omega (arith, div-add-mod (4 + (R - 1)) R, mod-lt (4 + (R - 1)) some, ap (λ (q : ℕ). R * q) z, mul-zero R))) (λ p. p)
        (eq-zero-or-pos (columns R 4))

pub legal_some : (R : ℕ) → 0 < R → {N : ℕ} → Legal R N → 0 < N
legal_some R some legal = omega (arith, some, legal_long R some legal)

module _ (R : ℕ) (some : 0 < R) (marks s t : List ℕ) where
  -- a lane within reach
  module _ (j : ℕ) (h : Reach (lane R j marks) (lane R j s) (lane R j t)) where
    near : 2 * wrong_in R marks s t j + count_to (is_marked (lane R j marks)) (length s / R) ≤ 5
    near = rw (length_lane R some j s) at h.few

    pub wrong_few : wrong_in R marks s t j ≤ 2
    wrong_few = omega (arith, near)

    pub repainted_few : repainted_in R marks s t j ≤ 5
    repainted_few = omega (arith, near, rw (length_lane R some j s) at (repainted_marked (lane R j marks) (lane R j s) (lane R j t)))

  pub mended_most : StripReach R marks s t → mended_of R marks s t ≤ 2 * R
  unfolding mended_of
  mended_most h = sum_most R 2 (wrong_in R marks s t) (λ j l. wrong_few j (h.each j l))

  pub repainted_most : StripReach R marks s t → repainted_of R marks s t ≤ 5 * R
  unfolding repainted_of
  repainted_most h = sum_most R 5 (repainted_in R marks s t) (λ j l. repainted_few j (h.each j l))

  pub wear_most : (w : ℕ) → Legal R (length s) → StripReach R marks s t → IsWear (mended_of R marks s t) (length s) w → w ≤ 33
  wear_most w legal h = nearest_most (100 * mended_of R marks s t) (length s) (legal_some R some legal) 33 w small
    where
      small : 2 * (100 * mended_of R marks s t) < 2 * (length s * 33) + length s
      small = omega (arith, mended_most h, legal_long R some legal, some)

  -- what is counted in a lane, of each cell by its mark and its bytes, is counted of the strip's cells
  lane_count : (D : ℕ → ℕ → ℕ → Bool) → length marks ≡ length s → length t ≡ length s → (j : ℕ)
      → count_to (λ i. D (get_or (lane R j marks) i 0) (get_or (lane R j s) i 0) (get_or (lane R j t) i 0)) (length s / R)
      ≡ count_to (λ i. D (get_or marks (R * i + j) 0) (get_or s (R * i + j) 0) (get_or t (R * i + j) 0)) (length s / R)
  lane_count D em et j =
      count_cong (λ i. D (get_or (lane R j marks) i 0) (get_or (lane R j s) i 0) (get_or (lane R j t) i 0))
      (λ i. D (get_or marks (R * i + j) 0) (get_or s (R * i + j) 0) (get_or t (R * i + j) 0)) (length s / R)
      (λ i l. rw (at marks em i l, at s refl i l, at t et i l) refl)
    where
      at : (u : List ℕ) → length u ≡ length s → (i : ℕ) → i < length s / R → get_or (lane R j u) i 0 ≡ get_or u (R * i + j) 0
      at u e i l = get_d_lane R some j u i (rw e l)

  -- and over all lanes, of the strip
  over_lanes : (D : ℕ → ℕ → ℕ → Bool) (m : ℕ) → length s ≡ R * m → length marks ≡ length s → length t ≡ length s
      → sum_of R (λ j. count_to (λ i. D (get_or (lane R j marks) i 0) (get_or (lane R j s) i 0) (get_or (lane R j t) i 0)) (length s / R))
      ≡ count_to (λ p. D (get_or marks p 0) (get_or s p 0) (get_or t p 0)) (length s)
  over_lanes D m full em et =
      sum_cong R (λ j. count_to (λ i. D (get_or (lane R j marks) i 0) (get_or (lane R j s) i 0) (get_or (lane R j t) i 0)) (length s / R))
      (λ j. count_to (λ i. whole (R * i + j)) m) (λ j h. lane_count D em et j ∙ ap (count_to (λ i. whole (R * i + j))) (columns_of R some s m full))
      ∙ sym (count_lanes whole R m) ∙ ap (count_to whole) (sym full)
    where
      whole : ℕ → Bool
      whole p = D (get_or marks p 0) (get_or s p 0) (get_or t p 0)

  pub mended_differing : (m : ℕ) → length s ≡ R * m → length marks ≡ length s → length t ≡ length s → mended_of R marks s t ≡ differing marks s t
  unfolding mended_of
  mended_differing = over_lanes (λ x y z. and (not (not (eqb x 0))) (not (eqb z y)))

  pub repainted_differing : (m : ℕ) → length s ≡ R * m → length marks ≡ length s → length t ≡ length s → repainted_of R marks s t ≡ repainted marks s t
  unfolding repainted_of
  repainted_differing = over_lanes (λ x y z. and (not (eqb x 0)) (not (eqb z y)))

  -- the wrong cells of a lane, as cells of the strip
  pub wrong_cells : length marks ≡ length s → length t ≡ length s → (j : ℕ)
      → wrong_in R marks s t j ≡ count_to (λ i. differs_at marks s t (R * i + j)) (length s / R)
  wrong_cells = lane_count (λ x y z. and (not (not (eqb x 0))) (not (eqb z y)))

-- and the marked ones
pub marked_cells : (R : ℕ) → 0 < R → (marks : List ℕ) (j : ℕ) → marked_in R marks j ≡ count_to (λ i. is_marked marks (R * i + j)) (length marks / R)
marked_cells R some marks = lane_count R some marks marks marks (λ x y z. not (eqb x 0)) refl refl
