-- Numbers below a bound: below it or not, and what is so of all of them or not of one.
use mathlib.Core.Path.{sym, subst}
use mathlib.Core.Logic.{◌⊎◌, inl, inr, ⊎_elim}
use Prim.Native.Nat.{ℕ, zero, suc, ◌-◌, ◌≤◌, ◌<◌}
use native.Mathlib.Nat.{eq-zero-or-pos, eq-or-lt_of_le}
use native.Mathlib.Omega.{arith}

pub lt_or_ge : (q n : ℕ) → (q < n) ⊎ (n ≤ q)
lt_or_ge q n = ⊎_elim (λ e. inr (omega arith)) (λ h. inl (omega arith)) (eq-zero-or-pos (n - q))

-- where each is the one or the other, all are the one, or some is the other
pub all_or_one : (n : ℕ) (P Q : ℕ → Type 0) → ((j : ℕ) → j < n → P j ⊎ Q j) → ((j : ℕ) → j < n → P j) ⊎ ((j : ℕ) × (j < n) × Q j)
all_or_one zero P Q f = inl (λ j h. absurd (omega arith))
all_or_one (suc n) P Q f = go (all_or_one n P Q (λ j h. f j (omega arith))) (f n (omega arith))
  where
    go : ((j : ℕ) → j < n → P j) ⊎ ((j : ℕ) × (j < n) × Q j) → P n ⊎ Q n → ((j : ℕ) → j < suc n → P j) ⊎ ((j : ℕ) × (j < suc n) × Q j)
    go (inl a) (inl p) = inl (λ j h. ⊎_elim (λ e. subst P (sym e) p) (λ l. a j l) (eq-or-lt_of_le {n = j} {m = n} (omega arith)))
    go (inl a) (inr q) = inr (n, omega arith, q)
    go (inr x) _ = inr (x.0, omega (arith, x.1), x.2)
