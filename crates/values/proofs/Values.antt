-- The values at listed cells, by loops and by recursion.
use mathlib.Core.Path.{◌≡◌, refl, sym, ap, ap₂, ◌∙◌, subst}
use mathlib.Core.Logic.{◌≢◌}
use mathlib.Core.List.{List, [], ◌∷◌, ◌++◌, map, append_assoc, append-nil}
use Prim.Native.Nat.{ℕ, zero, suc, ◌+◌, ◌-◌, ◌<◌, ◌≤◌}
use native.Mathlib.Numerals.{add-one}
use native.Mathlib.Omega.{arith}
use lib.Bits.{bit_xor}
use lib.ListN.{length, get_or, take, drop, set, length-set}
use lib.Seq.{slice, slice_empty, slice-cons, length-slice, take-suc-set, take-set-lt, drop-set-lt, drop-append-le, get_or-set_same, length-take-le, get_or-take}
use Rattle.account.specs.Errata.{Outside, Distinct, total, divided, solve, unweighed}
use Rattle.account.proofs.Cells.{below_at}
use Rattle.account.proofs.Powers as powers
use Rattle.account.proofs.Filter as filter
use Rattle.account.proofs.Solve.{solve_near}
use Rattle.gf256.specs.Gf256.{gf256, times}
use Rattle.gf256.specs.Tables.{place_of, inverse_of}
use Rattle.gf256.proofs.Field256.{field256}
use Rattle.gf256.proofs.Lookups.{same_quotient}
use Rattle.rules.proofs.Laws.{either}
use Rattle.values.specs.declared.Listing.{Listing}
use Rattle.values.specs.Values.{at, Sieved, Listed, Divided, Solved}

abbrev div : ℕ → List ℕ → List ℕ → List ℕ
div = divided gf256 inverse_of

positive : (a : ℕ) → a ≢ 0 → 0 < a
positive zero ne = absurd (ne refl)
positive (suc a) ne = omega arith

pub cell_below : (n : ℕ) (cells : List ℕ) (k : ℕ) → Listed n cells k → (i : ℕ) → i < k → get_or cells i 0 < n
cell_below n cells k L i h =
    subst (λ (x : ℕ). x < n) (get_or-take k cells i 0 h)
    (below_at (take k cells) n i L.below (omega (arith, length-take-le k cells (omega (arith, L.few, L.room)))))

-- what a listing says of its cells
pub listed : (l : Listing) → length l.cells ≡ 5 → Listed l.n l.cells l.count
listed l e = record { short = l.short; room = e; few = l.few; below = l.below; distinct = l.distinct }

-- ---- parts of a list that is written to

-- behind the cell that is set
after : (j k : ℕ) (l : List ℕ) (v : ℕ) → j < k → slice (j + 1) k (set l j v) ≡ slice (j + 1) k l
after j k l v h = ap (drop (j + 1)) (take-set-lt k l j v h) ∙ drop-set-lt (j + 1) (take k l) j v (omega arith)

-- up to it
up_to : (i j : ℕ) (l : List ℕ) (v : ℕ) → i ≤ j → j < length l → slice i (j + 1) (set l j v) ≡ slice i j l ++ v ∷ []
up_to i j l v h lt =
    ap (λ (m : ℕ). slice i m (set l j v)) (add-one j) ∙ ap (drop i) (take-suc-set l j v lt)
    ∙ drop-append-le i (take j l) (v ∷ []) (omega (arith, length-take-le j l (omega arith)))

-- from it on
pub from : (i k : ℕ) (l : List ℕ) → i < k → k ≤ length l → slice i k l ≡ get_or l i 0 ∷ slice (i + 1) k l
from i k l h e = slice-cons i k l 0 h e ∙ ap (λ (m : ℕ). get_or l i 0 ∷ slice m k l) (sym (add-one i))

set_from : (i k : ℕ) (l : List ℕ) (v : ℕ) → i < k → k ≤ length l → slice i k (set l i v) ≡ v ∷ slice (i + 1) k l
set_from i k l v h e =
    from i k (set l i v) h (omega (arith, length-set l i v))
    ∙ ap₂ (λ (x : ℕ) (xs : List ℕ). x ∷ xs) (get_or-set_same l i v 0 (omega arith)) (after i k l v h)

-- ---- a place filtered out, from the last sum on

-- the sums from m on are filtered
pub record Sieving (x i k : ℕ) (s r : List ℕ) (m : ℕ) : Type 0 where
  pub low : i < m
  pub high : m ≤ k
  pub room : length r ≡ 5
  pub same : (p : ℕ) → p < m → at r p ≡ at s p
  pub done : (p : ℕ) → m ≤ suc p → suc p < k → at r (suc p) ≡ bit_xor (at s (suc p)) (times x (at s p))

-- ---- two listed cells

-- a later cell's place differs from an earlier one's
distinct_at : (l : List ℕ) (i j : ℕ) → Distinct l → i < j → j < length l → get_or l i 0 ≢ get_or l j 0
distinct_at [] i j d h k = absurd (omega arith)
distinct_at (p ∷ l) zero zero d h k = absurd (omega arith)
distinct_at (p ∷ l) zero (suc j) d h k = outside_at l j p d.0 (omega arith)
  where
    outside_at : (qs : List ℕ) (m i : ℕ) → Outside qs i → m < length qs → i ≢ get_or qs m 0
    outside_at [] m i o k = absurd (omega arith)
    outside_at (q ∷ qs) zero i o k = o.0
    outside_at (q ∷ qs) (suc m) i o k = outside_at qs m i o.1 (omega arith)
distinct_at (p ∷ l) (suc i) zero d h k = absurd (omega arith)
distinct_at (p ∷ l) (suc i) (suc j) d h k = distinct_at l i j d.1 (omega arith) (omega arith)

-- the place of the i-th listed cell, and of the cells j .. k - 1
abbrev P : ℕ → List ℕ → ℕ → ℕ
P n cells i = place_of n (get_or cells i 0)

abbrev ys : ℕ → List ℕ → ℕ → ℕ → List ℕ
ys n cells k j = map (place_of n) (slice j k cells)

abbrev unw : List ℕ → List ℕ → List ℕ
unw = unweighed gf256

-- the cells before j are divided
pub record Dividing (n : ℕ) (cells : List ℕ) (k i : ℕ) (v : List ℕ) (s0 : ℕ) (r : List ℕ) (sum j : ℕ) : Type 0 where
  pub low : i < j
  pub high : j ≤ k
  pub room : length r ≡ 5
  pub list : slice (i + 1) j r ++ div (P n cells i) (ys n cells k j) (slice j k r) ≡ div (P n cells i) (ys n cells k (i + 1)) (slice (i + 1) k v)
  pub rest : bit_xor sum (total gf256 (div (P n cells i) (ys n cells k j) (slice j k r)))
      ≡ bit_xor s0 (total gf256 (div (P n cells i) (ys n cells k (i + 1)) (slice (i + 1) k v)))

-- the cells before j have their weights off
pub record Unweighing (n : ℕ) (cells : List ℕ) (k : ℕ) (u r : List ℕ) (j : ℕ) : Type 0 where
  pub high : j ≤ k
  pub room : length r ≡ 5
  pub list : slice 0 j r ++ unw (ys n cells k j) (slice j k r) ≡ unw (ys n cells k 0) (slice 0 k u)

module _ (n : ℕ) (cells : List ℕ) (k : ℕ) (L : Listed n cells k) where
  P_in : (i : ℕ) → P n cells i < 256
  P_in i = powers.pow_in gf256 field256 2 (n - suc (get_or cells i 0))

  apart : (i j : ℕ) → i < j → j < k → bit_xor (P n cells j) (P n cells i) ≢ 0
  apart i j h l =
      filter.apart_some gf256 field256 n L.short (get_or cells j 0) (get_or cells i 0) (cell_below n cells k L j l) (cell_below n cells k L i (omega arith))
      (λ e. distinct_at (take k cells) i j L.distinct h (omega (arith, length-take-le k cells (omega (arith, L.few, L.room))))
      (get_or-take k cells i 0 (omega arith) ∙ sym e ∙ sym (get_or-take k cells j 0 l)))

  pub apart_by : (i j x y : ℕ) → i < j → j < k → x ≡ P n cells i → y ≡ P n cells j → 0 < bit_xor y x
  apart_by i j x y h l ex ey = positive (bit_xor y x) (λ e. apart i j h l (ap₂ bit_xor (sym ey) (sym ex) ∙ e))

  -- ---- dividing

  ys_cons : (j : ℕ) → j < k → ys n cells k j ≡ P n cells j ∷ ys n cells k (j + 1)
  ys_cons j h = ap (map (place_of n)) (from j k cells h (omega (arith, L.few, L.room)))

  pub divide_goes : (i : ℕ) (v : List ℕ) (s0 : ℕ) (r : List ℕ) (sum j x y iv u : ℕ) → j < k → Dividing n cells k i v s0 r sum j → x ≡ P n cells i
      → y ≡ P n cells j
      → times (bit_xor y x) iv ≡ 1 → u ≡ times (get_or r j 0) iv → Dividing n cells k i v s0 (set r j u) (bit_xor sum u) (j + 1)
  divide_goes i v s0 r sum j x y iv u l D ex ey ei eu = record {
    low = omega (arith, D.low);
    high = omega arith;
    room = length-set r j u ∙ D.room;
    list =
        ap₂ (λ (a b : List ℕ). a ++ div (P n cells i) (ys n cells k (j + 1)) b)
        (up_to (i + 1) j r u (omega (arith, D.low)) (omega (arith, D.room, L.few))) (after j k r u l)
        ∙ append_assoc (slice (i + 1) j r) (u ∷ []) rest ∙ ap (λ (b : List ℕ). slice (i + 1) j r ++ b) (sym here) ∙ D.list;
    rest =
        ap (λ (b : List ℕ). bit_xor (bit_xor sum u) (total gf256 (div (P n cells i) (ys n cells k (j + 1)) b))) (after j k r u l)
        ∙ field256.add_assoc sum u (total gf256 rest) ∙ ap (λ (b : List ℕ). bit_xor sum (total gf256 b)) (sym here) ∙ D.rest;
  }
    where
      rest : List ℕ
      rest = div (P n cells i) (ys n cells k (j + 1)) (slice (j + 1) k r)

      quotient : u ≡ times (get_or r j 0) (inverse_of (bit_xor (P n cells j) (P n cells i)))
      quotient =
          eu ∙ same_quotient (get_or r j 0) (bit_xor (P n cells j) (P n cells i)) iv (field256.in_add (P n cells j) (P n cells i) (P_in j) (P_in i))
          (apart i j D.low l)
          (ap₂ (λ (a b : ℕ). times (bit_xor a b) iv) (sym ey) (sym ex) ∙ ei)

      here : div (P n cells i) (ys n cells k j) (slice j k r) ≡ u ∷ rest
      here =
          ap₂ (div (P n cells i)) (ys_cons j l) (from j k r l (omega (arith, D.room, L.few)))
          ∙ ap (λ (a : ℕ). a ∷ rest) (sym quotient)

  pub divide_ends : (i : ℕ) (v : List ℕ) (s0 : ℕ) (r : List ℕ) (sum j : ℕ) → i < k → k ≤ j → Dividing n cells k i v s0 r sum j
      → Divided n cells i k v s0 (set r i sum)
  divide_ends i v s0 r sum j h g D =
      set_from i k r sum h (omega (arith, D.room, L.few))
      ∙ ap₂ (λ (a : ℕ) (b : List ℕ). a ∷ b)
      (sym (field256.add_zero sum) ∙ ap (λ (b : List ℕ). bit_xor sum (total gf256 b)) (sym none) ∙ D.rest)
      (sym (append-nil (slice (i + 1) k r)) ∙ ap₂ (λ (m : ℕ) (b : List ℕ). slice (i + 1) m r ++ b) same (sym none) ∙ D.list)
    where
      same : k ≡ j
      same = omega (arith, D.high)

      empty : slice j k cells ≡ []
      empty = ap (λ (m : ℕ). slice m k cells) (sym same) ∙ slice_empty k cells

      none : div (P n cells i) (ys n cells k j) (slice j k r) ≡ []
      none = ap (λ (l : List ℕ). div (P n cells i) (map (place_of n) l) (slice j k r)) empty

  -- ---- solving

  pub solve_none : (i : ℕ) (s r : List ℕ) → k ≤ i → i ≤ k → Solved n cells i k s r
  solve_none i s r h g = none r ∙ sym (ap (λ (l : List ℕ). solve gf256 inverse_of (map (place_of n) l) (λ m. at s (i + m))) (none cells))
    where
      same : i ≡ k
      same = omega arith

      none : (l : List ℕ) → slice i k l ≡ []
      none l = ap (λ (m : ℕ). slice m k l) same ∙ slice_empty k l

  -- at most one
  pub solve_last : (i : ℕ) (s : List ℕ) → k ≤ i + 1 → i ≤ k → length s ≡ 5 → Solved n cells i k s s
  solve_last i s h g e = either (Solved n cells i k s s) (k - i) (λ z. solve_none i s s (omega (arith, z)) g) (λ z. one (omega (arith, positive (k - i) z)))
    where
      first : i ≡ i + 0
      first = omega arith

      none : k ≡ i + 1 → (l : List ℕ) → slice (i + 1) k l ≡ []
      none q l = ap (λ (m : ℕ). slice m k l) (sym q) ∙ slice_empty k l

      one : k ≡ i + 1 → Solved n cells i k s s
      one q =
          from i k s (omega arith) (omega (arith, L.few))
          ∙ ap₂ (λ (a : ℕ) (vs : List ℕ). a ∷ vs) (ap (at s) first ∙ sym (field256.add_zero (at s (i + 0)))) (none q s)
          ∙ sym (ap (λ (l : List ℕ). solve gf256 inverse_of l (λ m. at s (i + m)))
          (ys_cons i (omega arith) ∙ ap (λ (l : List ℕ). P n cells i ∷ map (place_of n) l) (none q cells)))

  pub solve_step : (i x : ℕ) (s t v r : List ℕ) → i < k → x ≡ P n cells i → Sieved x i k s t → Solved n cells (i + 1) k t v → Divided n cells i k v (at s i) r
      → Solved n cells i k s r
  solve_step i x s t v r h ex f S D =
      D ∙ ap₂ (λ (a : ℕ) (vs : List ℕ). bit_xor a (total gf256 (div (P n cells i) (ys n cells k (i + 1)) vs)) ∷ div (P n cells i) (ys n cells k (i + 1)) vs)
      (ap (at s) first) inner
      ∙ ap (λ (xs : List ℕ). solve gf256 inverse_of xs (λ m. at s (i + m))) (sym (ys_cons i h))
    where
      first : i ≡ i + 0
      first = omega arith

      before : (m : ℕ) → i + 1 + m ≡ suc (i + m)
      before m = omega arith

      behind : (m : ℕ) → suc (i + m) ≡ i + suc m
      behind m = omega arith

      inner : slice (i + 1) k v ≡ solve gf256 inverse_of (ys n cells k (i + 1)) (λ m. bit_xor (at s (i + suc m)) (times (P n cells i) (at s (i + m))))
      inner =
          S ∙ solve_near gf256 field256 inverse_of (ys n cells k (i + 1)) (λ m. at t (i + 1 + m))
          (λ m. bit_xor (at s (i + suc m)) (times (P n cells i) (at s (i + m))))
          (λ m l. ap (at t) (before m) ∙ f.sum (i + m) (omega arith) (omega (
            arith,
            l,
            filter.length_map (place_of n) (slice (i + 1) k cells),
            length-slice (i + 1) k cells (omega (arith, L.few, L.room)),
          ))
          ∙ ap₂ (λ (a z : ℕ). bit_xor (at s a) (times z (at s (i + m)))) (behind m) ex)

  -- ---- the weights taken off

  pub unweigh_goes : (u r : List ℕ) (j x q w : ℕ) → j < k → Unweighing n cells k u r j → x ≡ P n cells j → q ≡ times x x → w ≡ times (get_or r j 0) q
      → Unweighing n cells k u (set r j w) (j + 1)
  unweigh_goes u r j x q w l U ex eq ew = record {
    high = omega arith;
    room = length-set r j w ∙ U.room;
    list =
        ap₂ (λ (a b : List ℕ). a ++ unw (ys n cells k (j + 1)) b) (up_to 0 j r w (omega arith) (omega (arith, U.room, L.few))) (after j k r w l)
        ∙ append_assoc (slice 0 j r) (w ∷ []) rest ∙ ap (λ (b : List ℕ). slice 0 j r ++ b) (sym here) ∙ U.list;
  }
    where
      rest : List ℕ
      rest = unw (ys n cells k (j + 1)) (slice (j + 1) k r)

      here : unw (ys n cells k j) (slice j k r) ≡ w ∷ rest
      here =
          ap₂ unw (ys_cons j l) (from j k r l (omega (arith, U.room, L.few)))
          ∙ ap (λ (a : ℕ). a ∷ rest)
          (sym (ew ∙ ap (times (get_or r j 0)) (eq ∙ ap₂ times ex ex) ∙ sym (field256.mul_assoc (get_or r j 0) (P n cells j) (P n cells j))))
