-- A crate off its goal is a tile of code 2; a board without one is refused with 10.
use mathlib.Core.Path.{◌≡◌, refl}
use mathlib.Core.Logic.{◌⊎◌, inl, inr, ◌≢◌}
use mathlib.Core.List.{List, [], ◌∷◌}
use Prim.Native.Nat.{ℕ, zero, suc, ◌≤◌, ◌<◌}
use native.Mathlib.Omega.{arith}
use lib.ListN.{length, get_or}
use Rattle.rules.proofs.Numbers.{lt_or_ge}
use Rattle.rules.specs.Refusal.{First, asked}
use Rattle.level.specs.Tile.{adds, totals}
use Rattle.level.specs.Level.{Level, Counted, Coded, Fair, Taken, lending}

-- no other tile adds one
off_two : (t : ℕ) → 1 ≤ (adds t).off → t ≡ 2
off_two zero h = absurd (omega arith)
off_two (suc zero) h = absurd (omega arith)
off_two (suc (suc zero)) h = refl
off_two (suc (suc (suc zero))) h = absurd (omega arith)
off_two (suc (suc (suc (suc zero)))) h = absurd (omega arith)
off_two (suc (suc (suc (suc (suc zero))))) h = absurd (omega arith)
off_two (suc (suc (suc (suc (suc (suc zero)))))) h = absurd (omega arith)
off_two (suc (suc (suc (suc (suc (suc (suc t))))))) h = absurd (omega arith)

-- FORMAT 5.13: where the counts say that a crate is off its goal, there is a tile of code 2
pub some_two : (ts : List ℕ) → 1 ≤ (totals ts).off → (i : ℕ) × (i < length ts) × (get_or ts i 0 ≡ 2)
unfolding totals
some_two [] h = absurd (omega arith)
some_two (t ∷ ts) h = go (lt_or_ge (adds t).off 1) (some_two ts)
  where
    go : ((adds t).off < 1) ⊎ (1 ≤ (adds t).off) → (1 ≤ (totals ts).off → (i : ℕ) × (i < length ts) × (get_or ts i 0 ≡ 2))
        → (i : ℕ) × (i < suc (length ts)) × (get_or (t ∷ ts) i 0 ≡ 2)
    go (inl k) later = let r = later (omega arith) in (suc r.0, omega (arith, r.1), r.2)
    go (inr k) later = (0, omega arith, off_two t k)

-- and the other way
pub two_off : (ts : List ℕ) (i : ℕ) → i < length ts → get_or ts i 0 ≡ 2 → 1 ≤ (totals ts).off
unfolding totals
two_off [] i h e = absurd (omega arith)
two_off (t ∷ ts) zero h e = rw e (omega arith)
two_off (t ∷ ts) (suc i) h e = omega (arith, two_off ts i (omega arith) e)

-- a finished board breaks the rule
pub finished_unfair : (l : Level) → ((i : ℕ) → i < length l.tiles → get_or l.tiles i 0 ≢ 2) → Fair l → ⊥
finished_unfair l none f = let x = some_two l.tiles f.unfinished in none x.0 x.1 x.2

-- FORMAT 5.13, 9.10: and where nothing comes before it, 10 is its refusal
pub finished_refused : (upto : ℕ) (l : Level) → Taken upto l → Counted l → Coded l → ((i : ℕ) → i < length l.tiles → get_or l.tiles i 0 ≢ 2)
    → First (asked (λ ask. ask l) (lending upto)) 10
finished_refused upto l ra co cd none = inr (ra, inr (co, inr (cd, inl (finished_unfair l none, refl))))
