-- A test that antt computes at each number below n.
use mathlib.Core.Bool.{Bool, true, false}
use mathlib.Core.Path.{◌≡◌, subst, sym}
use mathlib.Core.Logic.{◌⊎◌, inl, inr}
use Prim.Native.Nat.{ℕ, zero, suc, ◌<◌}
use native.Mathlib.Decide.{ℕ_discrete}
use native.Mathlib.Omega.{arith}
use lib.Dec.{T}

abbrev pub both : Bool → Bool → Bool
both true b = b
both false b = false

pub both_left : (a b : Bool) → T (both a b) → T a
both_left true b t = tt
both_left false b t = t

pub both_right : (a b : Bool) → T (both a b) → T b
both_right true b t = t
both_right false b t = absurd t

abbrev pub or : Bool → Bool → Bool
or true b = true
or false b = b

pub or_one : (a b : Bool) → T (or a b) → T a ⊎ T b
or_one true b t = inl tt
or_one false b t = inr t

-- f passes at 0 .. n - 1
abbrev pub upto : (ℕ → Bool) → ℕ → Bool
upto f zero = true
upto f (suc n) = both (f n) (upto f n)

pub upto_at : (f : ℕ → Bool) (n : ℕ) → T (upto f n) → (k : ℕ) → k < n → T (f k)
upto_at f zero t k h = absurd (omega arith)
upto_at f (suc n) t k h = go (ℕ_discrete k n) (upto_at f n (both_right (f n) (upto f n) t) k)
  where
    go : Dec (k ≡ n) → (k < n → T (f k)) → T (f k)
    go (yes e) rec = subst (λ (m : ℕ). T (f m)) (sym e) (both_left (f n) (upto f n) t)
    go (no ne) rec = rec (omega arith)

-- x, step x, step (step x), .. pass, n of them
abbrev pub walk : (ℕ → Bool) → (ℕ → ℕ) → ℕ → ℕ → Bool
walk f step zero x = true
walk f step (suc n) x = both (f x) (walk f step n (step x))

abbrev pub repeated : (ℕ → ℕ) → ℕ → ℕ → ℕ
repeated step zero x = x
repeated step (suc k) x = repeated step k (step x)

pub walk_at : (f : ℕ → Bool) (step : ℕ → ℕ) (n x : ℕ) → T (walk f step n x) → (k : ℕ) → k < n → T (f (repeated step k x))
walk_at f step zero x t k h = absurd (omega arith)
walk_at f step (suc n) x t zero h = both_left (f x) (walk f step n (step x)) t
walk_at f step (suc n) x t (suc k) h = walk_at f step n (step x) (both_right (f x) (walk f step n (step x)) t) k (omega arith)
