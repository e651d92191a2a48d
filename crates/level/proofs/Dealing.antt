-- Cells dealt to lanes, over the field and the lane count: what is dealt can be had, is one, and gives its cells back.
use mathlib.Core.Path.{◌≡◌, sym, ap, ap₂, ◌∙◌, subst}
use Prim.Native.Nat.{ℕ, ◌+◌, ◌*◌, ◌-◌, ◌/◌, ◌%◌, ◌≤◌, ◌<◌}
use native.Mathlib.Nat.{div-add-mod, mod-lt, mul-add, mul_comm, div-lt_iff_lt-mul, le-div_iff_mul-le, div-mul-le_self}
use native.Mathlib.Omega.{arith}
use mathlib.Core.List.{List}
use mathlib.Core.Logic.{◌⊎◌, inl, inr, ⊎_elim}
use lib.ListN.{length, get_or, take}
use lib.Seq.{ext_get_or, get_or-take, length-take-le}
use Rattle.account.specs.Field.{Ops, IsField}
use Rattle.account.specs.Code.{Cells, Clean, WordOf}
use Rattle.account.specs.Lists.{list_of}
use Rattle.account.specs.Lanes.{lane}
use Rattle.account.proofs.Lists.{length_list_of, get_d_list_of}
use Rattle.account.proofs.Lanes.{length_lane, get_d_lane, bytes_lane, place_of, lane_of, cell_of, cell, ext_lanes, get_d_past, columns_of}
use Rattle.account.proofs.Theorems.{one_with_data, some_with_data}
use Rattle.rules.proofs.Numbers.{lt_or_ge}
use Rattle.level.specs.Strip.{columns, Dealt}

-- cells have their place within their columns
pub within : (R : ℕ) → 0 < R → (n : ℕ) → n ≤ R * columns R n
within R some n = omega (arith, div-add-mod (n + (R - 1)) R, mod-lt (n + (R - 1)) some)

-- more cells have as many columns or more
pub columns_more : (R : ℕ) → 0 < R → (m n : ℕ) → m ≤ n → columns R m ≤ columns R n
columns_more R some m n h = (le-div_iff_mul-le some).1 (omega (arith, div-mul-le_self (m + (R - 1)) R))

-- two lanes or more are short enough to travel by value
pub lanes_short : (R : ℕ) → 2 ≤ R → columns R 364 + 5 ≤ 187
lanes_short R two = omega (arith, (div-lt_iff_lt-mul {k = R} (omega arith)).1 fits)
  where
    fits : 364 + (R - 1) < 183 * R
    fits = omega arith

module _ (O : Ops) (F : IsField O) (R : ℕ) (some : 0 < R) where
  open O use {order}

  -- the first cells are those that were dealt, and zeros after them
  pub laid_out : (cs t : List ℕ) → Dealt O R cs t → (q : ℕ) → q < R * columns R (length cs) → get_or cs q 0 ≡ get_or t q 0
  laid_out cs t D q h =
      sym (D.laid q h) ∙ cell R some t (columns R (length cs) + 5) D.size q (omega (arith, D.size, mul-add R (columns R (length cs)) 5))

  -- what gives one strip are the same cells, but for zeros
  pub same_cells : (cs ds t : List ℕ) → Dealt O R cs t → Dealt O R ds t → (q : ℕ) → get_or cs q 0 ≡ get_or ds q 0
  same_cells cs ds t C D q = go (lt_or_ge q (R * columns R (length cs)))
    where
      wide : columns R (length cs) ≡ columns R (length ds)
      wide =
          let p : columns R (length cs) + 5 ≡ columns R (length ds) + 5 = sym (columns_of R some t _ C.size) ∙ columns_of R some t _ D.size in
          omega arith

      go : (q < R * columns R (length cs)) ⊎ (R * columns R (length cs) ≤ q) → get_or cs q 0 ≡ get_or ds q 0
      go (inl h) = laid_out cs t C q h ∙ sym (laid_out ds t D q (rw (← wide) h))
      go (inr h) =
          get_d_past cs q (omega (arith, within R some (length cs)))
          ∙ sym (get_d_past ds q (omega (arith, within R some (length ds), ap (λ (k : ℕ). R * k) wide)))

  -- clean words with the same data in front are the same
  same_checks : (v w : List ℕ) (k : ℕ) → length v ≡ k + 5 → length w ≡ k + 5 → k + 5 ≤ order → ((i : ℕ) → i < k → get_or v i 0 ≡ get_or w i 0)
      → Cells O v → Cells O w → Clean O v → Clean O w → v ≡ w
  same_checks v w k lv lw short same bv bw cv cw =
      one_with_data O F (take k v) v w (omega (arith, long)) bv bw (record { size = omega (arith, long); front = ap (λ (n : ℕ). take n v) long; clean = cv })
      (record { size = omega (arith, long); front = ap (λ (n : ℕ). take n w) long ∙ sym data_same; clean = cw })
    where
      long : length (take k v) ≡ k
      long = length-take-le k v (omega arith)

      data_same : take k v ≡ take k w
      data_same =
          ext_get_or 0 (take k v) (take k w) (long ∙ sym (length-take-le k w (omega arith)))
          (λ i h. let l : i < k = omega (arith, long) in get_or-take k v i 0 l ∙ same i l ∙ sym (get_or-take k w i 0 l))

  -- cells are dealt in one way
  pub one_dealt : (cs s t : List ℕ) → columns R (length cs) + 5 ≤ order → Dealt O R cs s → Dealt O R cs t → s ≡ t
  one_dealt cs s t short A B = ext_lanes R some s t (k + 5) A.size (B.size ∙ sym A.size) (λ j h.
      same_checks (lane R j s) (lane R j t) k (size j s A.size) (size j t B.size) short
      (λ i l. data_of s A j i h l ∙ sym (data_of t B j i h l))
      (bytes_lane R some O j s h A.cells) (bytes_lane R some O j t h B.cells) (A.clean j h) (B.clean j h))
    where
      k : ℕ
      k = columns R (length cs)

      size : (j : ℕ) (u : List ℕ) → length u ≡ R * (columns R (length cs) + 5) → length (lane R j u) ≡ columns R (length cs) + 5
      size j u e = length_lane R some j u ∙ columns_of R some u (columns R (length cs) + 5) e

      data_of : (u : List ℕ) → Dealt O R cs u → (j i : ℕ) → j < R → i < columns R (length cs) → get_or (lane R j u) i 0 ≡ get_or cs (R * i + j) 0
      data_of u D j i hj hi =
          ap₂ (λ (x y : ℕ). get_or (lane R x u) y 0) (sym (lane_of R some i j hj)) (sym (place_of R some i j hj))
          ∙ D.laid (R * i + j) (cell_of R some i j hj (columns R (length cs)) hi)

  -- and can be dealt
  module _ (cs : List ℕ) (short : columns R (length cs) + 5 ≤ order) (by : Cells O cs) where
    abbrev k : ℕ
    k = columns R (length cs)

    -- the data of lane j, with its zeros
    abbrev data' : ℕ → List ℕ
    data' j = list_of (columns R (length cs)) (λ i. get_or cs (R * i + j) 0)

    data_long : (j : ℕ) → length (data' j) ≡ columns R (length cs)
    data_long j = length_list_of (columns R (length cs)) (λ i. get_or cs (R * i + j) 0)

    in_field : (q : ℕ) → get_or cs q 0 < O.size
    in_field q = ⊎_elim (λ h. by.cell q h) (λ h. let z = F.in_zero in rw (get_d_past cs q h) z) (lt_or_ge q (length cs))

    data_cells : (j : ℕ) → Cells O (data' j)
    data_cells j = record {
      cell = λ i h.
          let l : i < columns R (length cs) = omega (arith, data_long j) in
          rw (get_d_list_of (columns R (length cs)) (λ n. get_or cs (R * n + j) 0) i l) (in_field (R * i + j));
    }

    words : (j : ℕ) → (w : List ℕ) × WordOf O (data' j) w × Cells O w
    words j = some_with_data O F (data' j) (omega (arith, data_long j)) (data_cells j)

    abbrev word : ℕ → List ℕ
    word j = (words j).0

    word_long : (j : ℕ) → length (word j) ≡ columns R (length cs) + 5
    word_long j = (words j).1.size ∙ ap (λ (n : ℕ). n + 5) (data_long j)

    word_data : (j i : ℕ) → i < columns R (length cs) → get_or (word j) i 0 ≡ get_or cs (R * i + j) 0
    word_data j i h =
        sym (get_or-take (length (data' j)) (word j) i 0 (omega (arith, data_long j)))
        ∙ ap (λ (x : List ℕ). get_or x i 0) (words j).1.front ∙ get_d_list_of (columns R (length cs)) (λ n. get_or cs (R * n + j) 0) i h

    abbrev at : ℕ → ℕ
    at p = get_or (word (p % R)) (p / R) 0

    abbrev dealt_cells : List ℕ
    dealt_cells = list_of (R * (columns R (length cs) + 5)) at

    long : length dealt_cells ≡ R * (columns R (length cs) + 5)
    long = length_list_of (R * (columns R (length cs) + 5)) at

    place_below : (p : ℕ) → p < R * (columns R (length cs) + 5) → p / R < columns R (length cs) + 5
    place_below p h = (div-lt_iff_lt-mul some).1 (omega (arith, mul_comm R (columns R (length cs) + 5)))

    lane_is : (j : ℕ) → j < R → lane R j dealt_cells ≡ word j
    lane_is j hj =
        ext_get_or 0 (lane R j dealt_cells) (word j) (size ∙ sym (word_long j)) (λ i h.
        let l : i < columns R (length cs) + 5 = omega (arith, size) in
        get_d_lane R some j dealt_cells i (rw (columns_of R some dealt_cells (columns R (length cs) + 5) long) l)
        ∙ get_d_list_of (R * (columns R (length cs) + 5)) at (R * i + j) (cell_of R some i j hj (columns R (length cs) + 5) l)
        ∙ ap₂ (λ (x y : ℕ). get_or (word x) y 0) (lane_of R some i j hj) (place_of R some i j hj))
      where
        size : length (lane R j dealt_cells) ≡ columns R (length cs) + 5
        size = length_lane R some j dealt_cells ∙ columns_of R some dealt_cells (columns R (length cs) + 5) long

    deal : Dealt O R cs dealt_cells
    deal = record {
      cells = record {
        cell = λ p h.
            let l : p < R * (columns R (length cs) + 5) = omega (arith, long) in
            rw (get_d_list_of (R * (columns R (length cs) + 5)) at p l) ((words (p % R)).2.cell (p / R) (rw (word_long (p % R)) (place_below p l)));
      };
      size = long;
      clean = λ j h. subst (Clean O) (sym (lane_is j h)) (words j).1.clean;
      laid = λ q h.
          ap (λ (x : List ℕ). get_or x (q / R) 0) (lane_is (q % R) (mod-lt q some))
          ∙ word_data (q % R) (q / R) ((div-lt_iff_lt-mul some).1 (omega (arith, mul_comm R (columns R (length cs)))))
          ∙ ap (λ (n : ℕ). get_or cs n 0) (div-add-mod q R);
    }

    pub some_dealt : (s : List ℕ) × Dealt O R cs s
    some_dealt = (dealt_cells, deal)
