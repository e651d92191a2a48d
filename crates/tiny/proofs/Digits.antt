-- Tiles as the digits of a number in base 7.
use mathlib.Core.Path.{◌≡◌, refl, sym, ap₂, subst}
use mathlib.Core.Logic.{◌⊎◌, inl, inr}
use mathlib.Core.List.{List}
use Prim.Native.Nat.{ℕ, zero, suc, ◌+◌, ◌*◌, ◌^◌, ◌≤◌, ◌<◌}
use native.Mathlib.Nat.{eq-or-lt_of_le, pow-suc}
use native.Mathlib.Omega.{arith}
use lib.ListN.{length, get_or}
use lib.Seq.{ext_get_or}
use Rattle.rules.proofs.Numbers.{lt_or_ge}
use Rattle.level.specs.Level.{AllTiles}
use Rattle.lending.proofs.Writing.{codes_all}
use Rattle.tiny.specs.Tiny.{digits, number}

-- the same tiles, the same number
pub same_digits : (n : ℕ) (a b : List ℕ) → ((i : ℕ) → i < n → get_or a i 0 ≡ get_or b i 0) → digits n a ≡ digits n b
unfolding digits
same_digits zero a b f = refl
same_digits (suc n) a b f = ap₂ (λ (x y : ℕ). 7 * x + y) (same_digits n a b (λ i h. f i (omega arith))) (f n (omega arith))

-- the same number, the same tiles
pub same_tiles : (n : ℕ) (a b : List ℕ) → AllTiles 1 a → AllTiles 1 b → digits n a ≡ digits n b → (i : ℕ) → i < n → get_or a i 0 ≡ get_or b i 0
unfolding digits
same_tiles zero a b s t e i h = absurd (omega arith)
same_tiles (suc n) a b s t e i h =
    go (same_tiles n a b s t (omega (arith, e, codes_all 1 a s n, codes_all 1 b t n)) i) (eq-or-lt_of_le {n = i} {m = n} (omega arith))
  where
    go : (i < n → get_or a i 0 ≡ get_or b i 0) → (i ≡ n) ⊎ (i < n) → get_or a i 0 ≡ get_or b i 0
    go f (inl q) = subst (λ (j : ℕ). get_or a j 0 ≡ get_or b j 0) (sym q) (omega (arith, e, codes_all 1 a s n, codes_all 1 b t n))
    go f (inr q) = f q

-- boards of one size are told apart by their numbers
pub same_board : (a b : List ℕ) → AllTiles 1 a → AllTiles 1 b → length a ≡ length b → number a ≡ number b → a ≡ b
same_board a b s t l e =
    ext_get_or 0 a b l (same_tiles (length a) a b s t (subst (λ (n : ℕ). digits (length a) a ≡ digits n b) (sym l) e))

-- n digits are below 7 to the n
pub digits_below : (n : ℕ) (a : List ℕ) → AllTiles 1 a → digits n a < 7 ^ n
unfolding digits
digits_below zero a s = omega arith
digits_below (suc n) a s = omega (arith, digits_below n a s, codes_all 1 a s n, pow-suc 7 n)

-- ---- by the first tiles

-- the greater first tiles make the greater number
pub front_less : (n k : ℕ) (a b : List ℕ) → AllTiles 1 a → k ≤ n → digits k a < digits k b → digits n a < digits n b
unfolding digits
front_less zero k a b s h l = let e : k ≡ 0 = omega arith in subst (λ (j : ℕ). digits j a < digits j b) e l
front_less (suc n) k a b s h l = go (λ g. front_less n k a b s g l) (eq-or-lt_of_le h)
  where
    go : (k ≤ n → digits n a < digits n b) → (k ≡ suc n) ⊎ (k < suc n) → digits (suc n) a < digits (suc n) b
    go f (inl e) = subst (λ (j : ℕ). digits j a < digits j b) e l
    go f (inr g) = omega (arith, f (omega arith), codes_all 1 a s n)

-- the greater number has first tiles that are not less
pub front_kept : (n k : ℕ) (a b : List ℕ) → AllTiles 1 b → k ≤ n → digits n a ≤ digits n b → digits k a ≤ digits k b
front_kept n k a b t h l = go (lt_or_ge (digits k b) (digits k a))
  where
    go : (digits k b < digits k a) ⊎ (digits k a ≤ digits k b) → digits k a ≤ digits k b
    go (inl g) = absurd (omega (arith, front_less n k b a t h g))
    go (inr g) = g

-- first tiles that are not greater, and floor behind them, make a number that is not greater
pub floor_least : (n k : ℕ) (a b : List ℕ) → ((i : ℕ) → k ≤ i → get_or a i 0 ≡ 0) → k ≤ n → digits k a ≤ digits k b → digits n a ≤ digits n b
unfolding digits
floor_least zero k a b z h l = let e : k ≡ 0 = omega arith in subst (λ (j : ℕ). digits j a ≤ digits j b) e l
floor_least (suc n) k a b z h l = go (λ g. floor_least n k a b z g l) (eq-or-lt_of_le h)
  where
    go : (k ≤ n → digits n a ≤ digits n b) → (k ≡ suc n) ⊎ (k < suc n) → digits (suc n) a ≤ digits (suc n) b
    go f (inl e) = subst (λ (j : ℕ). digits j a ≤ digits j b) e l
    go f (inr g) = omega (arith, f (omega arith), z n (omega arith))
