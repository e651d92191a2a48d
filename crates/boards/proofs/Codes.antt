-- The tiles of a board, counted by their codes.
use mathlib.Core.Path.{◌≡◌, refl, sym, ap, ap₂, ◌∙◌}
use mathlib.Core.Bool.{cond}
use mathlib.Core.Logic.{◌⊎◌, inl, inr}
use mathlib.Core.List.{List}
use Prim.Native.Nat.{ℕ, zero, suc, ◌+◌, ◌*◌, ◌≤◌, ◌<◌}
use native.Mathlib.Nat.{mul-add}
use native.Mathlib.Numerals.{add-one}
use native.Mathlib.Omega.{arith}
use mir.Val.{bool_byte}
use lib.Dec.{ltb, eqb}
use native.Mathlib.Decide.{ℕ_discrete}
use lib.ListN.{length, get_or, drop}
use lib.Seq.{drop-cons, drop-length}
use borrow.Author.Tests.{lt-ltb, le-ltb, eq-eqb, ne_eqb}
use Rattle.rules.proofs.Numbers.{lt_or_ge}
use Rattle.account.specs.Lists.{sum_of}
use Rattle.tiles.specs.Sum.{weighed, weight}
use Rattle.boards.specs.Codes.{same}
use Rattle.tiles.proofs.Rows.{weighed_small}

-- ---- a tile and a code

-- 1 if the tile has code c or a later one
abbrev since : ℕ → ℕ → ℕ
since c t = cond (ltb t c) 0 1

-- what it adds if it has an earlier code
abbrev below : ℕ → ℕ → ℕ
below c t = cond (ltb t c) (weighed t) 0

record Step (c t : ℕ) : Type 0 where
  others : since c t ≡ same c t + since (c + 1) t
  adds : below (c + 1) t ≡ below c t + weighed c * same c t
  few : same c t ≤ 1

step : (c t : ℕ) → Step c t
step c t = go (lt_or_ge t c) (lt_or_ge c t)
  where
    go : (t < c) ⊎ (c ≤ t) → (c < t) ⊎ (t ≤ c) → Step c t
    go (inl a) b = record {
      others = rw (lt-ltb t c a, lt-ltb t (c + 1) (omega arith)) refl;
      adds = rw (lt-ltb t c a, lt-ltb t (c + 1) (omega arith)) (omega arith);
      few = rw (lt-ltb t c a) (omega arith);
    }
    go (inr a) (inl b) = record {
      others = rw (le-ltb t c a, le-ltb t (c + 1) (omega arith), lt-ltb c t b) refl;
      adds = rw (le-ltb t c a, le-ltb t (c + 1) (omega arith), lt-ltb c t b) (omega arith);
      few = rw (le-ltb t c a, lt-ltb c t b) (omega arith);
    }
    go (inr a) (inr b) = let e : t ≡ c = omega arith in record {
      others = rw (le-ltb t c a, lt-ltb t (c + 1) (omega arith), le-ltb c t b) refl;
      adds = rw (le-ltb t c a, lt-ltb t (c + 1) (omega arith), le-ltb c t b) (omega (arith, ap weighed e));
      few = rw (le-ltb t c a, le-ltb c t b) (omega arith);
    }

last : (t : ℕ) → below 8 t + 1125899906842624 * since 8 t ≡ weighed t
last t = go (lt_or_ge t 8)
  where
    go : (t < 8) ⊎ (8 ≤ t) → below 8 t + 1125899906842624 * since 8 t ≡ weighed t
    go (inl h) = rw (lt-ltb t 8 h) (omega arith)
    go (inr h) = let k : 7 ≤ t = omega arith in rw (le-ltb t 7 k, le-ltb t 8 h) (omega arith)

below_small : (c t : ℕ) → below c t ≤ 1125899906842624
below_small c t = go (lt_or_ge t c)
  where
    go : (t < c) ⊎ (c ≤ t) → below c t ≤ 1125899906842624
    go (inl h) = rw (lt-ltb t c h) (weighed_small t)
    go (inr h) = rw (le-ltb t c h) (omega arith)

-- a test for it
pub same_tested : (c t : ℕ) → bool_byte (eqb t c) ≡ same c t
same_tested c t = go (ℕ_discrete t c)
  where
    go : Dec (t ≡ c) → bool_byte (eqb t c) ≡ same c t
    go (yes e) = rw (eq-eqb t c e, le-ltb t c (omega arith), le-ltb c t (omega arith))
    go (no n) = rw (ne_eqb t c n) (other (lt_or_ge t c) (lt_or_ge c t))
      where
        other : (t < c) ⊎ (c ≤ t) → (c < t) ⊎ (t ≤ c) → 0 ≡ same c t
        other (inl a) b = rw (lt-ltb t c a)
        other (inr a) (inl b) = rw (le-ltb t c a, lt-ltb c t b)
        other (inr a) (inr b) = absurd (n (omega arith))

-- ---- many tiles and a code

-- the tiles from k on
abbrev pub tiles_at : List ℕ → ℕ → ℕ → ℕ
tiles_at tiles k j = get_or tiles (k + j) 0

-- how many have code c, how many a later one or none, and what those before add
module _ (t : ℕ → ℕ) where
  abbrev pub count_of : ℕ → ℕ → ℕ
  count_of n c = sum_of n (λ i. same c (t i))

  abbrev pub left_of : ℕ → ℕ → ℕ
  left_of n c = sum_of n (λ i. since c (t i))

  abbrev pub added_by : ℕ → ℕ → ℕ
  added_by n c = sum_of n (λ i. below c (t i))

  pub count_next : (n c : ℕ) → count_of (n + 1) c ≡ count_of n c + same c (t n)
  unfolding sum_of
  count_next n c = rw add-one refl

  pub few : (n c : ℕ) → count_of n c ≤ n
  unfolding sum_of
  few zero c = omega arith
  few (suc n) c = omega (arith, few n c, (step c (t n)).few)

  pub left_next : (n c : ℕ) → left_of n c ≡ count_of n c + left_of n (c + 1)
  unfolding sum_of
  left_next zero c = refl
  left_next (suc n) c = omega (arith, left_next n c, (step c (t n)).others)

  added_next : (n c : ℕ) → added_by n (c + 1) ≡ added_by n c + weighed c * count_of n c
  unfolding sum_of
  added_next zero c = omega arith
  added_next (suc n) c = omega (arith, added_next n c, (step c (t n)).adds, mul-add (weighed c) (count_of n c) (same c (t n)))

  pub left_all : (n : ℕ) → left_of n 0 ≡ n
  unfolding sum_of
  left_all zero = refl
  left_all (suc n) = rw (le-ltb (t n) 0 (omega arith)) (omega (arith, left_all n))

  pub added_none : (n : ℕ) → added_by n 0 ≡ 0
  unfolding sum_of
  added_none zero = refl
  added_none (suc n) = rw (le-ltb (t n) 0 (omega arith)) (omega (arith, added_none n))

  added_all : (n : ℕ) → added_by n 8 + 1125899906842624 * left_of n 8 ≡ sum_of n (λ i. weighed (t i))
  unfolding sum_of
  added_all zero = refl
  added_all (suc n) = omega (arith, added_all n, last (t n))

  pub added_small : (n c : ℕ) → added_by n c ≤ 1125899906842624 * n
  unfolding sum_of
  added_small zero c = omega arith
  added_small (suc n) c = omega (arith, added_small n c, below_small c (t n))

  pub sum_small : (n : ℕ) → sum_of n (λ i. weighed (t i)) ≤ 1125899906842624 * n
  unfolding sum_of
  sum_small zero = omega arith
  sum_small (suc n) = omega (arith, sum_small n, weighed_small (t n))

  -- one code more, and what has none
  module _ (n x y m : ℕ) where
    pub row_next : (c : ℕ) → x ≡ added_by n c → y ≡ weighed c → m ≡ count_of n c → x + y * m ≡ added_by n (c + 1)
    row_next c ex ey em = ap₂ (λ (a b : ℕ). a + b) ex (ap₂ (λ (a b : ℕ). a * b) ey em) ∙ sym (added_next n c)

    pub row_last : x ≡ added_by n 8 → y ≡ weighed 8 → m ≡ left_of n 8 → x + y * m ≡ sum_of n (λ i. weighed (t i))
    row_last ex ey em = ap₂ (λ (a b : ℕ). a + b) ex (ap₂ (λ (a b : ℕ). a * b) ey em) ∙ added_all n

-- ---- the tiles of a board

-- one more, none, and a run
pub weight_next : (ts : List ℕ) (i : ℕ) → i < length ts → weight (drop i ts) ≡ weighed (get_or ts i 0) + weight (drop (i + 1) ts)
unfolding weight
weight_next ts i h = rw (add-one, drop-cons ts i 0) refl

pub weight_end : (ts : List ℕ) (i : ℕ) → i ≡ length ts → weight (drop i ts) ≡ 0
unfolding weight
weight_end ts i h = rw (h, drop-length) refl

pub weight_run : (ts : List ℕ) (k n : ℕ) → k + n ≤ length ts → weight (drop k ts) ≡ sum_of n (λ i. weighed (get_or ts (k + i) 0)) + weight (drop (k + n) ts)
unfolding sum_of
weight_run ts k zero h = let e : k ≡ k + 0 = omega arith in omega (arith, ap (λ (j : ℕ). weight (drop j ts)) e)
weight_run ts k (suc n) h =
    let e : k + n + 1 ≡ k + suc n = omega arith in
    omega (arith, weight_run ts k n (omega arith), weight_next ts (k + n) (omega arith), ap (λ (j : ℕ). weight (drop j ts)) e)
