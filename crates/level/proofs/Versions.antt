-- What the versions allow, and readers that take different ones.
use mathlib.Core.Path.{◌≡◌, refl}
use mathlib.Core.Logic.{◌⊎◌, inl, inr, ◌≢◌}
use mathlib.Core.List.{List}
use Prim.Native.Nat.{ℕ, ◌≤◌, ◌<◌}
use native.Mathlib.Omega.{arith}
use borrow.Author.Tests.{lt-ltb, le-ltb}
use Rattle.rules.proofs.Numbers.{lt_or_ge}
use Rattle.rules.specs.Refusal.{asked, about}
use Rattle.rules.proofs.Laws.{Alike, asked_alike}
use Rattle.level.specs.Level.{Level, Known, code_most, Taken, boarding}
use Rattle.level.specs.Reading.{level_of, Shaped, judging}

-- versions 1 and 2 are known
pub first_known : Known 1
first_known = record { from = omega arith; to = omega arith }

pub second_known : Known 2
second_known = record { from = omega arith; to = omega arith }

-- the greatest tile code
pub code_early : (v : ℕ) → v < 2 → code_most v ≡ 6
code_early v h = rw (lt-ltb v 2 h) refl

pub code_late : (v : ℕ) → 2 ≤ v → code_most v ≡ 7
code_late v h = rw (le-ltb v 2 h) refl

-- it is one of three bits
pub code_most_is : (v : ℕ) → code_most v ≤ 7
code_most_is v = go (lt_or_ge v 2)
  where
    go : (v < 2) ⊎ (2 ≤ v) → code_most v ≤ 7
    go (inl h) = omega (arith, code_early v h)
    go (inr h) = omega (arith, code_late v h)

-- ---- two readers, of versions up to m and up to n

-- both take the version, or neither
abbrev pub TakeAlike : ℕ → ℕ → ℕ → Type 0
TakeAlike m n v = (v ≤ m → v ≤ n) × (v ≤ n → v ≤ m)

-- all versions but the second, where one takes two and the other one
pub but_two : (v : ℕ) → v ≢ 2 → TakeAlike 2 1 v
but_two v other = ((λ h. omega arith), (λ h. omega arith))

pub taken_alike : (m n : ℕ) (l : Level) → TakeAlike m n l.version → Taken m l → Taken n l
taken_alike m n l takes t = record { ranged = t.ranged; not_newer = takes.0 t.not_newer }

-- they judge alike what they are told of, if the version is judged alike
pub judging_alike : (m n R : ℕ) (t u : (List ℕ → Type 0) → Type 0) → ((ask : List ℕ → Type 0) → t ask → u ask) → ((ask : List ℕ → Type 0) → u ask → t ask)
    → (t (λ bs. Taken m (level_of bs)) → u (λ bs. Taken n (level_of bs))) → (u (λ bs. Taken n (level_of bs)) → t (λ bs. Taken m (level_of bs)))
    → Alike (asked t (judging m R)) (asked u (judging n R))
judging_alike m n R t u there back there-7 back-7 = (
  refl,
  there-7,
  back-7,
  λ _. (refl, there (Shaped R), back (Shaped R), λ _. asked_alike t u (about level_of boarding) there back),
)
