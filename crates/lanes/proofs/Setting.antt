-- A cell of a strip set: its lane gets it, the others are as they were.
use mathlib.Core.Path.{◌≡◌, sym, ap, ◌∙◌}
use mathlib.Core.List.{List}
use Prim.Native.Nat.{ℕ, ◌+◌, ◌*◌, ◌/◌, ◌<◌}
use native.Mathlib.Decide.{ℕ_discrete}
use native.Mathlib.Omega.{arith}
use lib.ListN.{length, get_or, set, length-set}
use lib.Seq.{ext_get_or, get_or-set_same, get_or-set_other}
use Rattle.account.specs.Lanes.{lane}
use Rattle.account.proofs.Lanes.{length_lane, get_d_lane, cell_below, place_of}

module _ (R : ℕ) (some : 0 < R) (t : List ℕ) (l c b : ℕ) (hl : l < R) (hc : c < length t / R) where
  abbrev t' : List ℕ
  t' = set t (R * c + l) b

  same_columns : length t' / R ≡ length t / R
  same_columns = ap (λ (n : ℕ). n / R) (length-set t (R * c + l) b)

  pub lane_set : lane R l t' ≡ set (lane R l t) c b
  lane_set = ext_get_or 0 (lane R l t') (set (lane R l t) c b)
      (length_lane R some l t' ∙ same_columns ∙ sym (length-set (lane R l t) c b ∙ length_lane R some l t))
      (λ i h. at i (omega (arith, length_lane R some l t', same_columns)) (ℕ_discrete i c))
    where
      at : (i : ℕ) → i < length t / R → Dec (i ≡ c) → get_or (lane R l t') i 0 ≡ get_or (set (lane R l t) c b) i 0
      at i h (yes e) =
          get_d_lane R some l t' i (omega (arith, same_columns)) ∙ ap (λ (n : ℕ). get_or t' (R * n + l) 0) e
          ∙ get_or-set_same t (R * c + l) b 0 (cell_below R some (length t) c l hl hc)
          ∙ sym (ap (λ (n : ℕ). get_or (set (lane R l t) c b) n 0) e ∙ get_or-set_same (lane R l t) c b 0 (omega (arith, length_lane R some l t)))
      at i h (no n) =
          get_d_lane R some l t' i (omega (arith, same_columns))
          ∙ get_or-set_other t (R * c + l) (R * i + l) b 0 (λ q. n (sym (place_of R some i l hl) ∙ ap (λ (x : ℕ). x / R) q ∙ place_of R some c l hl))
          ∙ sym (get_or-set_other (lane R l t) c i b 0 n ∙ get_d_lane R some l t i h)

  pub lane_set_other : (j : ℕ) → j < R → (j ≡ l → ⊥) → lane R j t' ≡ lane R j t
  lane_set_other j hj n = ext_get_or 0 (lane R j t') (lane R j t) (length_lane R some j t' ∙ same_columns ∙ sym (length_lane R some j t)) (λ i h.
      let k : i < length t / R = omega (arith, length_lane R some j t', same_columns) in
      get_d_lane R some j t' i (omega (arith, same_columns))
      ∙ get_or-set_other t (R * c + l) (R * i + j) b 0 (λ q. n (apart i q))
      ∙ sym (get_d_lane R some j t i k))
    where
      apart : (i : ℕ) → R * i + j ≡ R * c + l → j ≡ l
      apart i q =
          let e : i ≡ c = sym (place_of R some i j hj) ∙ ap (λ (x : ℕ). x / R) q ∙ place_of R some c l hl in
          omega (arith, q, ap (λ (x : ℕ). R * x) e)
