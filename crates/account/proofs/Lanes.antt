-- Lanes and cells: cell p is byte p div R of lane p mod R.
use mathlib.Core.Path.{◌≡◌, refl, sym, ap, ◌∙◌}
use Prim.Native.Nat.{ℕ, zero, suc, ◌+◌, ◌*◌, ◌/◌, ◌%◌, ◌≤◌, ◌<◌}
use native.Mathlib.Nat.{div-add-mod, mod-lt, mul-div-le, mul-le-mul_left, mul-suc, mul-add-mod_self_left, mod-eq_of_lt, mul-div_right, mul-add-div, div-eq_of_lt, div-lt_iff_lt-mul, mul_comm}
use native.Mathlib.Omega.{arith}
use mathlib.Core.List.{List, [], ◌∷◌}
use lib.ListN.{length, get_or}
use lib.Seq.{ext_get_or}
use Rattle.account.specs.Code.{Cells}
use Rattle.account.proofs.Lists.{length_list_of, get_d_list_of}
use Rattle.account.specs.Field.{Ops}
use Rattle.account.specs.Lanes.{lane}

-- past the end there is nothing
pub get_d_past : (l : List ℕ) (i : ℕ) → length l ≤ i → get_or l i 0 ≡ 0
get_d_past [] i h = refl
get_d_past (x ∷ l) zero h = absurd (omega arith)
get_d_past (x ∷ l) (suc i) h = get_d_past l i (omega arith)

module _ (R : ℕ) (some : 0 < R) where
  pub length_lane : (j : ℕ) (s : List ℕ) → length (lane R j s) ≡ length s / R
  unfolding lane
  length_lane j s = length_list_of (length s / R) (λ i. get_or s (R * i + j) 0)

  pub get_d_lane : (j : ℕ) (s : List ℕ) (i : ℕ) → i < length s / R → get_or (lane R j s) i 0 ≡ get_or s (R * i + j) 0
  unfolding lane
  get_d_lane j s i h = get_d_list_of (length s / R) (λ n. get_or s (R * n + j) 0) i h

  pub cell_below : (N i j : ℕ) → j < R → i < N / R → R * i + j < N
  cell_below N i j hj hi = omega (arith, mul-div-le N R, mul-le-mul_left R hi, mul-suc R i)

  -- cell i of lane j is cell R i + j
  pub place_of : (i j : ℕ) → j < R → (R * i + j) / R ≡ i
  place_of i j h = mul-add-div some i j ∙ ap (λ (x : ℕ). i + x) (div-eq_of_lt h) ∙ omega arith

  pub lane_of : (i j : ℕ) → j < R → (R * i + j) % R ≡ j
  lane_of i j h = mul-add-mod_self_left R i j ∙ mod-eq_of_lt h

  pub cell_of : (i j : ℕ) → j < R → (k : ℕ) → i < k → R * i + j < R * k
  cell_of i j h k l = omega (arith, mul-le-mul_left R l, mul-suc R i)

  pub bytes_lane : (O : Ops) (j : ℕ) (s : List ℕ) → j < R → Cells O s → Cells O (lane R j s)
  bytes_lane O j s h b = record {
    cell = λ i l.
        let k : i < length s / R = omega (arith, length_lane j s) in
        rw (get_d_lane j s i k) (b.cell (R * i + j) (cell_below (length s) i j h k));
  }

  -- where the length is R columns
  module _ (s : List ℕ) (m : ℕ) (full : length s ≡ R * m) where
    pub columns_of : length s / R ≡ m
    columns_of = ap (λ (n : ℕ). n / R) full ∙ mul-div_right m some

    pub cell : (p : ℕ) → p < length s → get_or (lane R (p % R) s) (p / R) 0 ≡ get_or s p 0
    cell p h =
        get_d_lane (p % R) s (p / R) (rw columns_of ((div-lt_iff_lt-mul some).1 (omega (arith, full, mul_comm R m))))
        ∙ ap (λ (q : ℕ). get_or s q 0) (div-add-mod p R)

  -- strips with the same lanes are the same
  pub ext_lanes : (s t : List ℕ) (m : ℕ) → length s ≡ R * m → length t ≡ length s → ((j : ℕ) → j < R → lane R j s ≡ lane R j t) → s ≡ t
  ext_lanes s t m e f same =
      ext_get_or 0 s t (sym f) (λ p h.
      sym (cell s m e p h) ∙ ap (λ (l : List ℕ). get_or l (p / R) 0) (same (p % R) (mod-lt p some)) ∙ cell t m (f ∙ e) p (omega arith))
