-- Lanes of one list of cells at once: each is a word of its own.
use mathlib.Core.Path.{◌≡◌, refl, sym, ap, ◌∙◌, subst}
use mathlib.Core.List.{List, [], ◌∷◌, ◌++◌, append_assoc}
use mathlib.Core.Logic.{⊎_elim}
use mathlib.Core.Bool.{Bool, true}
use Prim.Native.Nat.{ℕ, zero, suc, ◌+◌, ◌*◌, ◌-◌, ◌/◌, ◌%◌, ◌<◌, ◌≤◌}
use native.Mathlib.Nat.{mul-add, mul-suc, mul-zero, mul-one, mul_comm, mul_assoc, mul-le-mul_left, mul-div-le, div-add-mod, mul-mod_right, mod_self}
use native.Mathlib.Numerals.{add-one}
use native.Mathlib.Omega.{arith}
use lib.Bits.{bit_xor}
use lib.Dec.{T, eqb, eqb→eq}
use lib.ListN.{length, get_or, take, drop, take-append-drop, length-drop}
use lib.Seq.{ext_get_or, get_or-take, get_or-drop, length-take-le, take-suc, take_all}
use Rattle.rules.proofs.Numbers.{lt_or_ge}
use Rattle.account.specs.Lanes.{lane}
use Rattle.account.proofs.Test.{both, both_left, both_right}
use Rattle.account.proofs.Lanes.{length_lane, get_d_lane, get_d_past, columns_of}
use Rattle.remainder.specs.Remainder.{packed_end, Reduced, Moved, Remains, LanesTo, LanesRemain, LanesCheck, Room, five_at, RowMoved, RowsMoved}
use Rattle.remainder.proofs.Kernel.{AllBytes, moved1, moved5}
use Rattle.remainder.proofs.Whole.{begins, goes_on, moved_none, moved_more, checked}

-- one element more, and five
take_one : (w : List ℕ) (k : ℕ) → k < length w → take (k + 1) w ≡ take k w ++ get_or w k 0 ∷ []
take_one w k l = ap (λ (i : ℕ). take i w) (add-one k) ∙ take-suc w k 0 l

take_five : (w : List ℕ) (k : ℕ) → k + 4 < length w
    → take (k + 5) w ≡ take k w ++ get_or w k 0 ∷ get_or w (k + 1) 0 ∷ get_or w (k + 2) 0 ∷ get_or w (k + 3) 0 ∷ get_or w (k + 4) 0 ∷ []
take_five w k l =
    on 4 ∙ take_one w (k + 4) (omega arith)
    ∙ ap (λ (v : List ℕ). v ++ get_or w (k + 4) 0 ∷ []) (on 3 ∙ take_one w (k + 3) (omega arith)
    ∙ ap (λ (v : List ℕ). v ++ get_or w (k + 3) 0 ∷ []) (on 2 ∙ take_one w (k + 2) (omega arith)
    ∙ ap (λ (v : List ℕ). v ++ get_or w (k + 2) 0 ∷ []) (on 1 ∙ take_one w (k + 1) (omega arith)
    ∙ ap (λ (v : List ℕ). v ++ get_or w (k + 1) 0 ∷ []) (take_one w k (omega arith)))))
    ∙ simp append_assoc
  where
    on : (i : ℕ) → take (k + suc i) w ≡ take (k + i + 1) w
    on i = let z : k + suc i ≡ k + i + 1 = omega arith in ap (λ (n : ℕ). take n w) z

-- five bytes that were read
five_same : (R : ℕ) (s : List ℕ) (p a b c d e : ℕ) → a ≡ get_or s p 0 → b ≡ get_or s (p + R) 0 → c ≡ get_or s (p + 2 * R) 0 → d ≡ get_or s (p + 3 * R) 0
    → e ≡ get_or s (p + 4 * R) 0
    → a ∷ b ∷ c ∷ d ∷ e ∷ [] ≡ five_at R s p
five_same R s p a b c d e ea eb ec ed ee = rw (ea, eb, ec, ed, ee)

-- a step, from the bytes read and the bytes z0 .. z4 of r, reduced
pub stepped : (R : ℕ) (s : List ℕ) (p r : ℕ) → r < packed_end → (a b c d e : ℕ) → a < 256 → b < 256 → c < 256 → d < 256 → e < 256
    → a ≡ get_or s p 0 → b ≡ get_or s (p + R) 0 → c ≡ get_or s (p + 2 * R) 0 → d ≡ get_or s (p + 3 * R) 0 → e ≡ get_or s (p + 4 * R) 0
    → (z0 z1 z2 z3 z4 x0 x1 x2 x3 x4 : ℕ) → z0 ≡ r % 256 → z1 ≡ r / 256 % 256 → z2 ≡ r / 65536 % 256 → z3 ≡ r / 16777216 % 256 → z4 ≡ r / 4294967296 % 256
    → Reduced 0 z0 x0 → Reduced 1 z1 x1 → Reduced 2 z2 x2 → Reduced 3 z3 x3 → Reduced 4 z4 x4
    → Moved r (five_at R s p) (bit_xor (a * 4294967296 + b * 16777216 + c * 65536 + d * 256 + e) (bit_xor (bit_xor (bit_xor x0 x1) (bit_xor x2 x3)) x4))
stepped R s p r h a b c d e ha hb hc hd he ea eb ec ed ee z0 z1 z2 z3 z4 x0 x1 x2 x3 x4 e0 e1 e2 e3 e4 X0 X1 X2 X3 X4 =
    subst (λ (v : List ℕ). Moved r v (bit_xor (a * 4294967296 + b * 16777216 + c * 65536 + d * 256 + e) (bit_xor (bit_xor (bit_xor x0 x1) (bit_xor x2 x3)) x4)))
    (five_same R s p a b c d e ea eb ec ed ee)
    (moved5 r h a b c d e x0 x1 x2 x3 x4 ha hb hc hd he
    (subst (λ (z : ℕ). Reduced 0 z x0) e0 X0) (subst (λ (z : ℕ). Reduced 1 z x1) e1 X1) (subst (λ (z : ℕ). Reduced 2 z x2) e2 X2)
    (subst (λ (z : ℕ). Reduced 3 z x3) e3 X3) (subst (λ (z : ℕ). Reduced 4 z x4) e4 X4))

module _ (R : ℕ) where
  -- the first h cells of the lanes below j
  pub record HeadTo (s : List ℕ) (h : ℕ) (x : List ℕ) (j : ℕ) : Type 0 where
    pub long : length x ≡ 16
    pub done : (i : ℕ) → i < j → Remains (take h (lane R i s)) (get_or x i 0)

  -- after m rows of five cells of each lane
  pub record Rows (s o x : List ℕ) (q : ℕ) : Type 0 where
    pub m : ℕ
    pub at : q ≡ 5 * R * m
    pub inside : q ≤ length s
    pub long : length x ≡ 16
    pub moved : (j : ℕ) → j < R → Moved (get_or o j 0) (take (5 * m) (lane R j s)) (get_or x j 0)

  -- after i cells of lane j
  pub record Few (s : List ℕ) (j x i : ℕ) : Type 0 where
    pub small : i ≤ 4 → x < 4294967296
    pub smaller : i ≤ 3 → x < 16777216
    pub smallest : i ≤ 2 → x < 65536
    pub one : i ≤ 1 → x < 256
    pub none : i ≤ 0 → x < 1
    pub remains : Remains (take i (lane R j s)) x

module _ (R : ℕ) (some : 0 < R) where
  -- the cell k columns on
  on : (i j k : ℕ) → R * i + j + k * R ≡ R * (i + k) + j
  on i j k = omega (arith, mul-add R i k, mul_comm R k)

  -- five cells of a lane, by their places
  five_cells : (s : List ℕ) (i j : ℕ) → j < R → i + 4 < length s / R
      → five_at R s (R * i + j) ≡ get_or (lane R j s) i 0 ∷ get_or (lane R j s) (i + 1) 0 ∷ get_or (lane R j s) (i + 2) 0 ∷ get_or (lane R j s) (i + 3) 0 ∷ get_or
      (lane R j s) (i + 4) 0 ∷ []
  five_cells s i j hj h = rw (at0, at1, at 2 (omega arith), at 3 (omega arith), at 4 (omega arith)) refl
    where
      at : (k : ℕ) → i + k < length s / R → get_or s (R * i + j + k * R) 0 ≡ get_or (lane R j s) (i + k) 0
      at k l = ap (λ (p : ℕ). get_or s p 0) (on i j k) ∙ sym (get_d_lane R some j s (i + k) l)

      at0 : get_or s (R * i + j) 0 ≡ get_or (lane R j s) i 0
      at0 = sym (get_d_lane R some j s i (omega arith))

      at1 : get_or s (R * i + j + R) 0 ≡ get_or (lane R j s) (i + 1) 0
      at1 = let z : R * i + j + R ≡ R * i + j + 1 * R = omega arith in ap (λ (p : ℕ). get_or s p 0) z ∙ at 1 (omega arith)

  -- ---- rows

  module _ (s o : List ℕ) (room : Room R o) (whole : length s % (5 * R) ≡ 0) where
    all : length s ≡ 5 * R * (length s / (5 * R))
    all = omega (arith, div-add-mod (length s) (5 * R), whole)

    five : (k : ℕ) → 5 * R * k ≡ R * (5 * k)
    five k = ap (λ (x : ℕ). x * k) (mul_comm 5 R) ∙ mul_assoc R 5 k

    lane_long : (j : ℕ) → length (lane R j s) ≡ 5 * (length s / (5 * R))
    lane_long j = length_lane R some j s ∙ columns_of R some s (5 * (length s / (5 * R))) (all ∙ five (length s / (5 * R)))

    pub rows_0 : Rows R s o o 0
    rows_0 = record {
      m = 0;
      at = sym (mul-zero (5 * R));
      inside = omega arith;
      long = room.long;
      moved = λ j h. moved_none (get_or o j 0) (room.small j h);
    }

    module _ (x : List ℕ) (q : ℕ) (W : Rows R s o x q) where
      below : q < length s → W.m < length s / (5 * R)
      below h =
          ⊎_elim (λ l. l) (λ l. absurd (omega (arith, W.at, all, mul-le-mul_left (5 * R) l))) (lt_or_ge W.m (length s / (5 * R)))

      pub row_fits : q < length s → q + 5 * R ≤ length s
      row_fits h = omega (arith, W.at, all, mul-le-mul_left (5 * R) (below h), mul-suc (5 * R) W.m)

      pub rows_more : (x' : List ℕ) → q < length s → length x' ≡ length x → RowMoved R s q x x' → Rows R s o x' (q + 5 * R)
      rows_more x' h long N = record {
        m = W.m + 1;
        at = omega (arith, W.at, mul-add (5 * R) W.m 1, mul-one (5 * R));
        inside = row_fits h;
        long = long ∙ W.long;
        moved = λ j hj.
            let i : ℕ = 5 * W.m in
            let l : 5 * W.m + 4 < length s / R = omega (arith, below h, columns_of R some s (5 * (length s / (5 * R))) (all ∙ five (length s / (5 * R)))) in
            let z : 5 * (W.m + 1) ≡ 5 * W.m + 5 = omega arith in
            subst (λ (v : List ℕ). Moved (get_or o j 0) v (get_or x' j 0))
            (sym (ap (λ (n : ℕ). take n (lane R j s)) z ∙ take_five (lane R j s) (5 * W.m) (omega (arith, length_lane R some j s))))
            (moved_more (get_or o j 0) (get_or x j 0) (get_or x' j 0) (take (5 * W.m) (lane R j s)) _ (W.moved j hj)
            (subst (λ (v : List ℕ). Moved (get_or x j 0) v (get_or x' j 0))
            (ap (λ (p : ℕ). five_at R s (p + j)) (W.at ∙ five W.m) ∙ five_cells s (5 * W.m) j hj l) (N j hj)));
      }

      pub rows_all : length s ≤ q → RowsMoved R s o x
      rows_all h j hj =
          subst (λ (v : List ℕ). Moved (get_or o j 0) v (get_or x j 0)) (take_all (5 * W.m) (lane R j s) (omega (arith, lane_long j, done))) (W.moved j hj)
        where
          done : length s / (5 * R) ≤ W.m
          done =
              ⊎_elim (λ l. absurd (omega (arith, W.at, W.inside, h, all, mul-le-mul_left (5 * R) l, mul-suc (5 * R) W.m, some))) (λ l. l)
              (lt_or_ge W.m (length s / (5 * R)))

  -- ---- the first cells

  pub few_0 : (s : List ℕ) (j : ℕ) → Few R s j 0 0
  few_0 s j = record {
    small = λ _. omega arith;
    smaller = λ _. omega arith;
    smallest = λ _. omega arith;
    one = λ _. omega arith;
    none = λ _. omega arith;
    remains = begins;
  }

  pub few_more : (s : List ℕ) (j x i b : ℕ) → j < R → i < length s / R → i < 4 → b < 256 → b ≡ get_or s (R * i + j) 0 → Few R s j x i
      → Few R s j (x * 256 + b) (i + 1)
  few_more s j x i b hj hi h4 hb e W = record {
    small = λ l. omega (arith, W.smaller (omega arith), hb);
    smaller = λ l. omega (arith, W.smallest (omega arith), hb);
    smallest = λ l. omega (arith, W.one (omega arith), hb);
    one = λ l. omega (arith, W.none (omega arith), hb);
    none = λ l. absurd (omega arith);
    remains =
        subst (λ (v : List ℕ). Remains v (x * 256 + b)) (sym (take_one (lane R j s) i (omega (arith, length_lane R some j s))))
        (goes_on (take i (lane R j s)) (get_or (lane R j s) i 0 ∷ []) x (x * 256 + b) (omega (arith, byte), tt) W.remains
        (subst (λ (c : ℕ). Moved x (c ∷ []) (x * 256 + b)) (sym byte) (moved1 x W.remains.small b hb (W.small (omega arith)))));
  }
    where
      byte : get_or (lane R j s) i 0 ≡ b
      byte = get_d_lane R some j s i hi ∙ sym e

  -- ---- a lane, its first cells and the others

  lane_rest : (s : List ℕ) (h j : ℕ) → j < R → h ≤ length s / R
      → lane R j (take (R * (length s / R) - R * h) (drop (R * h) s)) ≡ drop h (lane R j s)
  lane_rest s h j hj l =
      ext_get_or 0 (lane R j part) (drop h (lane R j s)) (wide ∙ sym (length-drop h (lane R j s) ∙ ap (λ (n : ℕ). n - h) (length_lane R some j s))) (λ i k.
      let a : i < length s / R - h = omega (arith, wide) in
      get_d_lane R some j part i (omega (arith, part_wide))
      ∙ get_or-take (R * (length s / R) - R * h) (drop (R * h) s) (R * i + j) 0 (inside i a)
      ∙ get_or-drop (R * h) s (R * i + j) 0 ∙ ap (λ (n : ℕ). get_or s n 0) (moved i)
      ∙ sym (get_or-drop h (lane R j s) i 0 ∙ get_d_lane R some j s (h + i) (omega arith)))
    where
      part : List ℕ
      part = take (R * (length s / R) - R * h) (drop (R * h) s)

      cut : R * (length s / R) ≡ R * h + R * (length s / R - h)
      cut = let z : length s / R ≡ h + (length s / R - h) = omega arith in ap (λ (n : ℕ). R * n) z ∙ mul-add R h (length s / R - h)

      part_long : length (take (R * (length s / R) - R * h) (drop (R * h) s)) ≡ R * (length s / R - h)
      part_long =
          length-take-le (R * (length s / R) - R * h) (drop (R * h) s) (omega (arith, length-drop (R * h) s, mul-div-le (length s) R)) ∙ omega (arith, cut)

      part_wide : length (take (R * (length s / R) - R * h) (drop (R * h) s)) / R ≡ length s / R - h
      part_wide = columns_of R some (take (R * (length s / R) - R * h) (drop (R * h) s)) (length s / R - h) part_long

      wide : length (lane R j (take (R * (length s / R) - R * h) (drop (R * h) s))) ≡ length s / R - h
      wide = length_lane R some j (take (R * (length s / R) - R * h) (drop (R * h) s)) ∙ part_wide

      inside : (i : ℕ) → i < length s / R - h → R * i + j < R * (length s / R) - R * h
      inside i a = omega (arith, cut, mul-le-mul_left R a, mul-suc R i)

      moved : (i : ℕ) → R * h + (R * i + j) ≡ R * (h + i) + j
      moved i = omega (arith, mul-add R h i)

  pub lanes_remain : (s o x : List ℕ) (h : ℕ) → ((p : ℕ) → get_or s p 0 < 256) → h ≤ length s / R → LanesTo R h s o
      → RowsMoved R (take (R * (length s / R) - R * h) (drop (R * h) s)) o x → LanesRemain R s x
  lanes_remain s o x h by l H M j hj =
      subst (λ (v : List ℕ). Remains v (get_or x j 0)) (take-append-drop h (lane R j s))
      (goes_on (take h (lane R j s)) (drop h (lane R j s)) (get_or o j 0) (get_or x j 0) (bytes (drop h (lane R j s)) in_lane) (H j hj)
      (subst (λ (v : List ℕ). Moved (get_or o j 0) v (get_or x j 0)) (lane_rest s h j hj l) (M j hj)))
    where
      in_lane : (p : ℕ) → get_or (drop h (lane R j s)) p 0 < 256
      in_lane p = rw (get_or-drop h (lane R j s) p 0) (⊎_elim (λ k. rw (get_d_lane R some j s (h + p) k) (by (R * (h + p) + j)))
          (λ k. rw (get_d_past (lane R j s) (h + p) (omega (arith, length_lane R some j s))) (omega arith)) (lt_or_ge (h + p) (length s / R)))

      bytes : (v : List ℕ) → ((p : ℕ) → get_or v p 0 < 256) → AllBytes v
      bytes [] f = tt
      bytes (b ∷ v) f = (f 0, bytes v (λ p. f (suc p)))

  -- ---- zeros after the data

  pub lanes_check : (d z o x : List ℕ) → length z ≡ 5 * R → ((p : ℕ) → get_or z p 0 ≡ 0) → LanesRemain R d o → RowsMoved R z o x → LanesCheck R d x
  lanes_check d z o x long none H M j hj =
      checked (lane R j d) (get_or o j 0) (get_or x j 0) (H j hj) (subst (λ (v : List ℕ). Moved (get_or o j 0) v (get_or x j 0)) zero_lane (M j hj))
    where
      five_long : length (lane R j z) ≡ 5
      five_long = length_lane R some j z ∙ columns_of R some z 5 (long ∙ mul_comm 5 R)

      zero_lane : lane R j z ≡ 0 ∷ 0 ∷ 0 ∷ 0 ∷ 0 ∷ []
      zero_lane =
          ext_get_or 0 (lane R j z) (0 ∷ 0 ∷ 0 ∷ 0 ∷ 0 ∷ []) five_long (λ i h.
          get_d_lane R some j z i (omega (arith, five_long, length_lane R some j z)) ∙ none (R * i + j) ∙ sym (zeros i))
        where
          zeros : (i : ℕ) → ◌≡◌ {A = ℕ} (get_or (0 ∷ 0 ∷ 0 ∷ 0 ∷ 0 ∷ []) i 0) 0
          zeros zero = refl
          zeros (suc zero) = refl
          zeros (suc (suc zero)) = refl
          zeros (suc (suc (suc zero))) = refl
          zeros (suc (suc (suc (suc zero)))) = refl
          zeros (suc (suc (suc (suc (suc i))))) = refl

-- ---- zeros

abbrev pub all_zero : List ℕ → Bool
all_zero [] = true
all_zero (b ∷ l) = both (eqb b 0) (all_zero l)

pub zero_at : (l : List ℕ) → T (all_zero l) → (i : ℕ) → get_or l i 0 ≡ 0
zero_at [] t i = refl
zero_at (b ∷ l) t zero = eqb→eq b 0 (both_left (eqb b 0) (all_zero l) t)
zero_at (b ∷ l) t (suc i) = zero_at l (both_right (eqb b 0) (all_zero l) t) i

pub zero_room : (R : ℕ) (l : List ℕ) → 1 ≤ R → R ≤ 16 → length l ≡ 16 → T (all_zero l) → Room R l
zero_room R l a b e t = record { some = a; few = b; long = e; small = λ j h. omega (arith, zero_at l t j) }

-- ---- what the whole asks

module _ (R : ℕ) (some : 0 < R) (s : List ℕ) where
  pub all_inside : R * (length s / R) ≤ length s
  all_inside = mul-div-le (length s) R

  pub rest_whole : length (take (R * (length s / R) - R * (length s / R % 5)) (drop (R * (length s / R % 5)) s)) % (5 * R) ≡ 0
  rest_whole =
      ap (λ (k : ℕ). k % (5 * R)) (length-take-le (R * (length s / R) - R * (length s / R % 5)) (drop (R * (length s / R % 5)) s)
      (omega (arith, length-drop (R * (length s / R % 5)) s, all_inside)) ∙ cut)
      ∙ mul-mod_right (5 * R) (length s / R / 5)
    where
      fives : length s / R ≡ length s / R % 5 + 5 * (length s / R / 5)
      fives = omega arith

      cut : R * (length s / R) - R * (length s / R % 5) ≡ 5 * R * (length s / R / 5)
      cut =
          omega (
            arith,
            ap (λ (k : ℕ). R * k) fives,
            mul-add R (length s / R % 5) (5 * (length s / R / 5)),
            mul_assoc R 5 (length s / R / 5),
            ap
                (λ (k : ℕ). k * (length s / R / 5)) (mul_comm R 5),
          )

-- the first cells of eighty zeros
pub zero_part : (R : ℕ) (l : List ℕ) → R ≤ 16 → length l ≡ 80 → T (all_zero l)
    → (length (take (5 * R) l) ≡ 5 * R) × ((p : ℕ) → get_or (take (5 * R) l) p 0 ≡ 0)
zero_part R l h e t = (
  long,
  λ p. ⊎_elim (λ k. get_or-take (5 * R) l p 0 k ∙ zero_at l t p) (λ k. get_d_past (take (5 * R) l) p (omega (arith, long)))
      (lt_or_ge p (5 * R)),
)
  where
    long : length (take (5 * R) l) ≡ 5 * R
    long = length-take-le (5 * R) l (omega arith) ∙ omega arith

pub fives_whole : (R k : ℕ) → k ≡ 5 * R → k % (5 * R) ≡ 0
fives_whole R k e = ap (λ (x : ℕ). x % (5 * R)) e ∙ mod_self (5 * R)

-- one lane is the word
pub lane_word : (w : List ℕ) → lane 1 0 w ≡ w
lane_word w =
    ext_get_or 0 (lane 1 0 w) w (length_lane 1 (omega arith) 0 w ∙ omega arith) (λ i h.
    get_d_lane 1 (omega arith) 0 w i (omega (arith, length_lane 1 (omega arith) 0 w)) ∙ ap (λ (n : ℕ). get_or w n 0) (same i))
  where
    same : (i : ℕ) → 1 * i + 0 ≡ i
    same i = omega arith
