-- The check cells of the lanes.
use mathlib.Core.Path.{◌≡◌, sym, ap, ap₂, ◌∙◌, subst}
use mathlib.Core.Logic.{◌⊎◌, inl, inr}
use mathlib.Core.List.{List, ◌++◌}
use Prim.Native.Nat.{ℕ, ◌+◌, ◌*◌, ◌-◌, ◌/◌, ◌≤◌, ◌<◌}
use native.Mathlib.Nat.{mul-add, mul-one, mul-le-mul_left}
use native.Mathlib.Omega.{arith}
use lib.ListN.{length, get_or, take, length-append, get_or-append}
use lib.Seq.{ext_get_or, get_or-take, get_or-append-add, length-take-le}
use Rattle.account.specs.Lanes.{lane}
use Rattle.account.proofs.Lanes.{length_lane, get_d_lane, lane_of, place_of, cell_of, columns_of}
use Rattle.gf256.specs.Gf256.{gf256}
use Rattle.remainder.specs.Remainder.{unpacked, LanesCheck}
use Rattle.rules.specs.Placed.{Placed}
use Rattle.rules.proofs.Numbers.{lt_or_ge}
use Rattle.dealt.specs.Lanes.{ChecksPut, check_cell}
use Rattle.code.proofs.Writing.{word_of}

-- the check cells of R lanes
module _ (R : ℕ) (some : 0 < R) where
  -- check byte i of lane j is cell j of the i-th column after k
  pub check_cell_is : (k i j : ℕ) (c : List ℕ) → j < R → check_cell R k c (R * (k + i) + j) ≡ get_or (unpacked (get_or c j 0)) i 0
  check_cell_is k i j c h =
      ap₂ (λ (y z : ℕ). get_or (unpacked (get_or c y 0)) z 0) (lane_of R some (k + i) j h)
      (ap (λ (n : ℕ). n / R) behind ∙ place_of R some i j h)
    where
      behind : R * (k + i) + j - R * k ≡ R * i + j
      behind = omega (arith, mul-add R k i)

  -- the i-th column after k ends before the last does
  pub column_room : (k i n : ℕ) → i < 5 → R * (k + 5) ≤ n → R * (k + i) + R ≤ n
  column_room k i n h room =
      let l : k + i + 1 ≤ k + 5 = omega arith in
      omega (arith, mul-le-mul_left R l, mul-add R (k + i) 1, mul-one R)

  -- k columns of data, and five of check bytes after them
  module _ (k : ℕ) (x x' c : List ℕ) (room : R * (k + 5) ≤ length x) (checks : LanesCheck R (take (R * k) x) c)
      (put : Placed (R * k) (R * (k + 5)) (check_cell R k c) x x') where
    front : length (take (R * (k + 5)) x') ≡ R * (k + 5)
    front = length-take-le (R * (k + 5)) x' (omega (arith, put.long))

    data_front : length (take (R * k) x) ≡ R * k
    data_front = length-take-le (R * k) x (omega (arith, mul-add R k 5))

    columns : length (take (R * (k + 5)) x') / R ≡ k + 5
    columns = columns_of R some (take (R * (k + 5)) x') (k + 5) front

    data_columns : length (take (R * k) x) / R ≡ k
    data_columns = columns_of R some (take (R * k) x) k data_front

    module _ (j : ℕ) (hj : j < R) where
      short : length (lane R j (take (R * k) x)) ≡ k
      short = length_lane R some j (take (R * k) x) ∙ data_columns

      both : length (lane R j (take (R * k) x) ++ unpacked (get_or c j 0)) ≡ k + 5
      both = simp length-append (omega (arith, short))

      -- a data cell, or check byte d
      data_cell : (i : ℕ) → i < k → get_or x' (R * i + j) 0 ≡ get_or (lane R j (take (R * k) x) ++ unpacked (get_or c j 0)) i 0
      data_cell i l =
          let b = cell_of R some i j hj k l in
          put.outside (R * i + j) (inl b)
          ∙ sym (get_or-append (lane R j (take (R * k) x)) (unpacked (get_or c j 0)) 0 i (omega (arith, short))
          ∙ get_d_lane R some j (take (R * k) x) i (omega (arith, data_columns)) ∙ get_or-take (R * k) x (R * i + j) 0 b)

      byte_cell : (d : ℕ) → d < 5 → get_or x' (R * (k + d) + j) 0 ≡ get_or (lane R j (take (R * k) x) ++ unpacked (get_or c j 0)) (k + d) 0
      byte_cell d l =
          put.inside (R * (k + d) + j) (omega (arith, mul-add R k d)) (cell_of R some (k + d) j hj (k + 5) (omega arith))
          ∙ check_cell_is k d j c hj
          ∙ sym (ap (λ (n : ℕ). get_or (lane R j (take (R * k) x) ++ unpacked (get_or c j 0)) (n + d) 0) (sym short)
          ∙ get_or-append-add (lane R j (take (R * k) x)) (unpacked (get_or c j 0)) d 0)

      each : (i : ℕ) → i < k + 5 → (i < k) ⊎ (k ≤ i) → get_or x' (R * i + j) 0 ≡ get_or (lane R j (take (R * k) x) ++ unpacked (get_or c j 0)) i 0
      each i m (inl a) = data_cell i a
      each i m (inr a) =
          let e : k + (i - k) ≡ i = omega arith in
          subst (λ (n : ℕ). get_or x' (R * n + j) 0 ≡ get_or (lane R j (take (R * k) x) ++ unpacked (get_or c j 0)) n 0) e (byte_cell (i - k) (omega arith))

      lane_is : lane R j (take (R * (k + 5)) x') ≡ lane R j (take (R * k) x) ++ unpacked (get_or c j 0)
      lane_is =
          ext_get_or 0 (lane R j (take (R * (k + 5)) x')) (lane R j (take (R * k) x) ++ unpacked (get_or c j 0)) (long ∙ sym both) (λ i h.
          let m : i < k + 5 = omega (arith, long) in
          get_d_lane R some j (take (R * (k + 5)) x') i (omega (arith, columns))
          ∙ get_or-take (R * (k + 5)) x' (R * i + j) 0 (cell_of R some i j hj (k + 5) m) ∙ each i m (lt_or_ge i k))
        where
          long : length (lane R j (take (R * (k + 5)) x')) ≡ k + 5
          long = length_lane R some j (take (R * (k + 5)) x') ∙ columns

    pub checks_put : ChecksPut gf256 R k x x'
    checks_put = record {
      long = put.long;
      words = λ j h. word_of (lane R j (take (R * k) x)) (lane R j (take (R * (k + 5)) x')) (get_or c j 0) (checks j h) (lane_is j h);
      front = λ p h. put.outside p (inl h);
      past = λ p h. put.outside p (inr h);
    }
