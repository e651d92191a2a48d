-- How often a run of neighbouring cells meets a lane, over the number of lanes.
use mathlib.Core.Path.{◌≡◌, refl, sym, ap, subst}
use mathlib.Core.Logic.{◌≢◌}
use mathlib.Core.List.{List}
use mathlib.Core.Bool.{Bool, true, false, not}
use Prim.Native.Nat.{ℕ, zero, suc, ◌+◌, ◌*◌, ◌-◌, ◌/◌, ◌%◌, ◌≤◌, ◌<◌}
use native.Mathlib.Nat.{div-add-mod, mod-lt, mul-le-mul_left, lt_of_mul-lt-mul_left, mul-suc, mul-add}
use native.Mathlib.Decide.{dec_lt}
use native.Mathlib.Omega.{arith}
use lib.Dec.{T, eqb}
use lib.ListN.{length, get_or}
use Rattle.account.specs.Reach.{one_if, and, count_to, NoMarks, is_marked, differs, differs_at, differing, repainted}
use Rattle.account.specs.Runs.{InRun, ChangedIn, MarkedIn}
use Rattle.account.proofs.Cells.{count_cong, count_both, same_at, not_differs}

-- ---- counting in a run

-- what passes nowhere but in a run, of the first k cells
counted_most : (f : ℕ → Bool) (a n k : ℕ) → ((i : ℕ) → i < k → (InRun a n i → ⊥) → T (not (f i))) → (count_to f k ≤ n) × (count_to f k ≤ k - a)
unfolding count_to
counted_most f a n zero h = (omega arith, omega arith)
counted_most f a n (suc k) h = go (f k) (dec_lt k a) (dec_lt k (a + n)) (h k (omega arith)) (counted_most f a n k (λ i l. h i (omega arith)))
  where
    go : (b : Bool) → Dec (k < a) → Dec (k < a + n) → ((InRun a n k → ⊥) → T (not b)) → (count_to f k ≤ n) × (count_to f k ≤ k - a)
        → (count_to f k + one_if b ≤ n) × (count_to f k + one_if b ≤ suc k - a)
    go false x y r rec = (omega (arith, rec), omega (arith, rec))
    go true (yes p) y r rec = absurd (r (λ u. omega (arith, u)))
    go true (no p) (no q) r rec = absurd (r (λ u. omega (arith, u)))
    go true (no p) (yes q) r rec = (omega (arith, rec), omega (arith, rec))

-- passes no more often than the run is long
pub count_run : (f : ℕ → Bool) (a n k : ℕ) → ((i : ℕ) → i < k → (InRun a n i → ⊥) → T (not (f i))) → count_to f k ≤ n
count_run f a n k h = (counted_most f a n k h).0

-- what passes in all of a run, of the first k cells, which may end in it
counted_least : (f : ℕ → Bool) (a n k : ℕ) → ((i : ℕ) → i < k → InRun a n i → T (f i)) → (k ≤ a + n → k - a ≤ count_to f k) × (a + n ≤ k → n ≤ count_to f k)
unfolding count_to
counted_least f a n zero h = ((λ l. omega arith), (λ l. omega arith))
counted_least f a n (suc k) h = go (f k) (h k (omega arith)) (dec_lt k a) (dec_lt k (a + n)) (counted_least f a n k (λ i l. h i (omega arith)))
  where
    go : (b : Bool) → (InRun a n k → T b) → Dec (k < a) → Dec (k < a + n) → (k ≤ a + n → k - a ≤ count_to f k) × (a + n ≤ k → n ≤ count_to f k)
        → (suc k ≤ a + n → suc k - a ≤ count_to f k + one_if b) × (a + n ≤ suc k → n ≤ count_to f k + one_if b)
    go b r x (no q) rec = ((λ l. absurd (q l)), (λ l. omega (arith, rec.1 (omega arith))))
    go b r (yes p) (yes q) rec = ((λ l. omega arith), (λ l. omega arith))
    go true r (no p) (yes q) rec = ((λ l. omega (arith, rec.0 (omega arith))), (λ l. omega (arith, rec.0 (omega arith))))
    go false r (no p) (yes q) rec = absurd (r (omega arith, q))

-- passes as often as the run is long, or more often
pub run_count : (f : ℕ → Bool) (a n k : ℕ) → a + n ≤ k → ((i : ℕ) → i < k → InRun a n i → T (f i)) → n ≤ count_to f k
run_count f a n k l h = (counted_least f a n k h).1 l

-- ---- a run and the lanes: cell i of lane j is cell R i + j

module _ (R : ℕ) (some : 0 < R) (f : ℕ → Bool) (a n c : ℕ) where
  -- FORMAT 14.2: a run of c times R neighbouring cells, or fewer, meets each lane at most c times: so often, at the most, does a test pass in a lane
  -- that passes nowhere but in the run.
  pub run_meets : n ≤ R * c → ((p : ℕ) → (InRun a n p → ⊥) → T (not (f p))) → (j k : ℕ) → j < R → count_to (λ i. f (R * i + j)) k ≤ c
  run_meets few only j k hj = count_run (λ i. f (R * i + j)) first c k (λ i l o. only (R * i + j) (λ r. o (met i r)))
    where
      -- the first cell of the lane that is not before the run
      first : ℕ
      first = (a + (R - 1 - j)) / R

      near : (a ≤ R * first + j) × (R * first + j < a + R)
      near = (omega (arith, div-add-mod (a + (R - 1 - j)) R, mod-lt (a + (R - 1 - j)) some), omega (arith, div-add-mod (a + (R - 1 - j)) R))

      met : (i : ℕ) → InRun a n (R * i + j) → InRun first c i
      met i (from, to) = (
        let e : first < suc i = lt_of_mul-lt-mul_left R (omega (arith, near, mul-suc R i)) in
            omega arith,
        lt_of_mul-lt-mul_left R (omega (arith, near, mul-add R first c)),
      )

  -- A longer run meets the lane of its first cell more often, in lanes of k cells that do not end in it.
  pub run_meets_more : R * c < n → ((p : ℕ) → InRun a n p → T (f p)) → (k : ℕ) → a + n ≤ R * k → c < count_to (λ i. f (R * i + a % R)) k
  run_meets_more many all k ends =
      run_count (λ i. f (R * i + a % R)) (a / R) (suc c) k long (λ i l r. all (R * i + a % R) (omega (arith, here, mul-le-mul_left R r.0), last i r))
    where
      here : R * (a / R) + a % R ≡ a
      here = div-add-mod a R

      long : a / R + suc c ≤ k
      long = let e : a / R + c < k = lt_of_mul-lt-mul_left R (omega (arith, here, mul-add R (a / R) c)) in omega arith

      last : (i : ℕ) → InRun (a / R) (suc c) i → R * i + a % R < a + n
      last i r = let e : i ≤ a / R + c = omega (arith, r) in omega (arith, here, mul-le-mul_left R e, mul-add R (a / R) c)

-- ---- changed and marked cells

-- outside the run no cell is wrong, so no more are than the run has
module _ (marks : List ℕ) (a n : ℕ) (s t : List ℕ) (changed : ChangedIn marks a n s t) where
  pub right_outside : (p : ℕ) → (InRun a n p → ⊥) → T (not (differs_at marks s t p))
  right_outside p out = go (is_marked marks p) (changed.outside p out)
    where
      go : (m : Bool) → (m ≡ false → get_or s p 0 ≡ get_or t p 0) → T (not (and (not m) (differs s t p)))
      go true e = tt
      go false e = not_differs (λ j. true) s t p (sym (e refl))

  pub differing_in_run : differing marks s t ≤ n
  differing_in_run = count_run (differs_at marks s t) a n (length s) (λ p l. right_outside p)

-- none is marked, so no more are repainted
module _ (marks : List ℕ) (a n : ℕ) (only : MarkedIn a n marks) where
  pub unmarked_outside : (p : ℕ) → (InRun a n p → ⊥) → T (not (is_marked marks p))
  unmarked_outside p out = subst (λ (m : ℕ). T (not (not (eqb m 0)))) (sym (only p out)) tt

  pub repainted_in_run : (s t : List ℕ) → repainted marks s t ≤ n
  repainted_in_run s t =
      omega (arith, count_both (is_marked marks) (differs s t) (length s), count_run (is_marked marks) a n (length s) (λ p l. unmarked_outside p))

-- an unmarked cell is wrong where it differs
pub unmarked_wrong : (marks s t : List ℕ) (p : ℕ) → get_or marks p 0 ≡ 0 → get_or s p 0 ≢ get_or t p 0 → T (differs_at marks s t p)
unmarked_wrong marks s t p unmarked ne =
    go (differs_at marks s t p) (λ same. ne (sym (same_at marks s t p (subst (λ (m : ℕ). T (not (not (eqb m 0)))) (sym unmarked) tt) same)))
  where
    go : (b : Bool) → (T (not b) → ⊥) → T b
    go true n = tt
    go false n = absurd (n tt)

-- and where nothing is marked, all that differ are
pub unmarked_differing : (marks s t : List ℕ) → NoMarks marks → differing marks s t ≡ count_to (differs s t) (length s)
unmarked_differing marks s t none = count_cong (differs_at marks s t) (differs s t) (length s) (λ p l.
    ap (λ (m : ℕ). and (not (not (eqb m 0))) (differs s t p)) (none p))
