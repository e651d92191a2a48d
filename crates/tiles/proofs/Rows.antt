-- Rows packed.
use mathlib.Core.Path.{◌≡◌, refl, sym, ap, ◌∙◌}
use mathlib.Core.Logic.{◌⊎◌, inl, inr}
use mathlib.Core.List.{List, [], ◌∷◌}
use Prim.Native.Nat.{ℕ, zero, suc, ◌≤◌, ◌<◌, min}
use native.Mathlib.Omega.{arith}
use lib.ListN.{get_or}
use borrow.Author.Tests.{lt-ltb, le-ltb}
use Rattle.level.specs.Tile.{adds}
use Rattle.rules.proofs.Numbers.{lt_or_ge}
use Rattle.tiles.specs.Sum.{packed, weighed}

-- rows are small, and a crate off its goal is a crate
pub adds_small : (t : ℕ) → ((adds t).player ≤ 1) × ((adds t).crate' ≤ 1) × ((adds t).goal ≤ 1) × ((adds t).off ≤ (adds t).crate')
adds_small zero = (omega arith, omega arith, omega arith, omega arith)
adds_small (suc zero) = (omega arith, omega arith, omega arith, omega arith)
adds_small (suc (suc zero)) = (omega arith, omega arith, omega arith, omega arith)
adds_small (suc (suc (suc zero))) = (omega arith, omega arith, omega arith, omega arith)
adds_small (suc (suc (suc (suc zero)))) = (omega arith, omega arith, omega arith, omega arith)
adds_small (suc (suc (suc (suc (suc zero))))) = (omega arith, omega arith, omega arith, omega arith)
adds_small (suc (suc (suc (suc (suc (suc zero)))))) = (omega arith, omega arith, omega arith, omega arith)
adds_small (suc (suc (suc (suc (suc (suc (suc c))))))) = (omega arith, omega arith, omega arith, omega arith)

-- what is no tile code adds nothing
pub adds_none : (t : ℕ) → 7 ≤ t → ((adds t).player ≡ 0) × ((adds t).crate' ≡ 0) × ((adds t).goal ≡ 0) × ((adds t).off ≡ 0)
adds_none zero h = absurd (omega arith)
adds_none (suc zero) h = absurd (omega arith)
adds_none (suc (suc zero)) h = absurd (omega arith)
adds_none (suc (suc (suc zero))) h = absurd (omega arith)
adds_none (suc (suc (suc (suc zero)))) h = absurd (omega arith)
adds_none (suc (suc (suc (suc (suc zero))))) h = absurd (omega arith)
adds_none (suc (suc (suc (suc (suc (suc zero)))))) h = absurd (omega arith)
adds_none (suc (suc (suc (suc (suc (suc (suc c))))))) h = (refl, refl, refl, refl)

pub weighed_in : (t : ℕ) → t < 7 → weighed t ≡ packed (adds t)
weighed_in t h = rw (lt-ltb t 7 h)

pub weighed_pit : (t : ℕ) → 7 ≤ t → t < 8 → weighed t ≡ 1099511627776
weighed_pit t h k = rw (le-ltb t 7 h, lt-ltb t 8 k)

pub weighed_out : (t : ℕ) → 8 ≤ t → weighed t ≡ 1125899906842624
weighed_out t h = let k : 7 ≤ t = omega arith in rw (le-ltb t 7 k, le-ltb t 8 h)

pub weighed_small : (t : ℕ) → weighed t ≤ 1125899906842624
weighed_small t = go (lt_or_ge t 7) (lt_or_ge t 8)
  where
    go : (t < 7) ⊎ (7 ≤ t) → (t < 8) ⊎ (8 ≤ t) → weighed t ≤ 1125899906842624
    go (inl h) k = omega (arith, weighed_in t h, adds_small t)
    go (inr h) (inl k) = omega (arith, weighed_pit t h k)
    go (inr h) (inr k) = omega (arith, weighed_out t k)

-- the rows packed, one by one
abbrev pub rows : List ℕ
rows = 0 ∷ 0 ∷ 1073742848 ∷ 1048576 ∷ 1049600 ∷ 1 ∷ 1048577 ∷ 1099511627776 ∷ 1125899906842624 ∷ []

pub row_at : (t k : ℕ) → k ≡ min t 8 → get_or rows k 0 ≡ weighed t
row_at zero k e = ap (λ (i : ℕ). get_or rows i 0) e
row_at (suc zero) k e = ap (λ (i : ℕ). get_or rows i 0) e
row_at (suc (suc zero)) k e = ap (λ (i : ℕ). get_or rows i 0) e
row_at (suc (suc (suc zero))) k e = ap (λ (i : ℕ). get_or rows i 0) e
row_at (suc (suc (suc (suc zero)))) k e = ap (λ (i : ℕ). get_or rows i 0) e
row_at (suc (suc (suc (suc (suc zero))))) k e = ap (λ (i : ℕ). get_or rows i 0) e
row_at (suc (suc (suc (suc (suc (suc zero)))))) k e = ap (λ (i : ℕ). get_or rows i 0) e
row_at (suc (suc (suc (suc (suc (suc (suc zero))))))) k e = ap (λ (i : ℕ). get_or rows i 0) e
row_at (suc (suc (suc (suc (suc (suc (suc (suc t)))))))) k e =
    let z : k ≡ 8 = omega arith in
    ap (λ (i : ℕ). get_or rows i 0) z ∙ sym (weighed_out (suc (suc (suc (suc (suc (suc (suc (suc t)))))))) (omega arith))
