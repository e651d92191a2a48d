-- Letters and tiles.
use mathlib.Core.Path.{◌≡◌, refl, sym, ap, subst}
use mathlib.Core.Logic.{⊎_elim}
use mathlib.Core.Bool.{Bool, false, cond, ◌||◌}
use lib.Dec.{eqb}
use Rattle.rules.specs.Says.{Says}
use mathlib.Core.List.{List, [], ◌∷◌}
use Prim.Native.Nat.{ℕ, zero, suc, ◌+◌, ◌/◌, ◌%◌, ◌≤◌}
use native.Mathlib.Decide.{ℕ_discrete}
use native.Mathlib.Omega.{arith}
use borrow.Author.Tests.{lt-ltb, le-ltb, eq-eqb, ne_eqb}
use lib.ListN.{get_or}
use Rattle.rules.proofs.Numbers.{lt_or_ge}
use Rattle.typed.specs.Letters.{Letter, letters, tile_in, tile_of, letter_of}
use Rattle.typed.specs.Parts.{foreign}

-- P of each letter of a list
abbrev All : List Letter → (ℕ → Type 0) → Type 0
All [] P = Unit {0}
All (l ∷ ls) P = P l.letter × All ls P

-- ---- bytes that are no letters

-- a byte is one of the letters of a list
abbrev pub among : List Letter → ℕ → Bool
among [] c = false
among (l ∷ ls) c = eqb l.letter c || among ls c

-- which have tile codes
abbrev Coded : List Letter → Type 0
Coded [] = Unit {0}
Coded (l ∷ ls) = (l.tile ≤ 6) × Coded ls

among_in : (ls : List Letter) → Coded ls → (c : ℕ) → Says (among ls c) (tile_in ls c ≤ 6)
among_in [] t c = λ h. omega arith
among_in (l ∷ ls) (t, ts) c = go (ℕ_discrete l.letter c) (among_in ls ts c)
  where
    go : Dec (l.letter ≡ c) → Says (among ls c) (tile_in ls c ≤ 6) → Says (among (l ∷ ls) c) (tile_in (l ∷ ls) c ≤ 6)
    go (yes e) s = rw (eq-eqb l.letter c e) t
    go (no n) s = rw (ne_eqb l.letter c n) s

pub among_letters : (c : ℕ) (r : Bool) → r ≡ among letters c → Says r (tile_of c ≤ 6)
unfolding tile_of
among_letters c r e =
    subst (λ (b : Bool). Says b (tile_of c ≤ 6)) (sym e)
    (among_in letters (omega arith, (omega arith, (omega arith, (omega arith, (omega arith, (omega arith, (omega arith, (omega arith, tt)))))))) c)

-- beside N, the byte is none of the letters
abbrev None : List Letter → Type 0 → ℕ → Type 0
None [] N c = N
None (l ∷ ls) N c = None ls (N × (c ≡ l.letter → ⊥)) c

beside : (ls : List Letter) (N : Type 0) (c : ℕ) → None ls N c → N
beside [] N c n = n
beside (l ∷ ls) N c n = (beside ls (N × (c ≡ l.letter → ⊥)) c n).0

none_in : (ls : List Letter) (N : Type 0) (c : ℕ) → None ls N c → tile_in ls c ≡ 7
none_in [] N c n = refl
none_in (l ∷ ls) N c n =
    rw (ne_eqb l.letter c (λ e. (beside ls (N × (c ≡ l.letter → ⊥)) c n).1 (sym e))) (none_in ls (N × (c ≡ l.letter → ⊥)) c n)

-- such a byte has tile 7
pub no_letter : (c : ℕ) → None letters (Unit {0}) c → 7 ≡ tile_of c
unfolding tile_of
no_letter c n = sym (none_in letters (Unit {0}) c n)

-- a line feed is none
feed_none : tile_of 10 ≡ 7
unfolding tile_of
feed_none = refl

pub no_feed : (c : ℕ) → tile_of c ≤ 6 → c ≡ 10 → ⊥
no_feed c h e = omega (arith, ap tile_of e, feed_none, h)

-- ---- the letter of a tile

-- a tile's letter stands for that tile
pub letter_tile : (t : ℕ) → t ≤ 6 → tile_of (letter_of t) ≡ t
unfolding tile_of letter_of
letter_tile zero h = refl
letter_tile (suc zero) h = refl
letter_tile (suc (suc zero)) h = refl
letter_tile (suc (suc (suc zero))) h = refl
letter_tile (suc (suc (suc (suc zero)))) h = refl
letter_tile (suc (suc (suc (suc (suc zero))))) h = refl
letter_tile (suc (suc (suc (suc (suc (suc zero)))))) h = refl
letter_tile (suc (suc (suc (suc (suc (suc (suc t))))))) h = absurd (omega arith)

-- by the letters in a row
pub letter_at : (t : ℕ) → t ≤ 6 → get_or (45 ∷ 35 ∷ 36 ∷ 46 ∷ 42 ∷ 64 ∷ 43 ∷ []) t 0 ≡ letter_of t
unfolding letter_of
letter_at zero h = refl
letter_at (suc zero) h = refl
letter_at (suc (suc zero)) h = refl
letter_at (suc (suc (suc zero))) h = refl
letter_at (suc (suc (suc (suc zero)))) h = refl
letter_at (suc (suc (suc (suc (suc zero))))) h = refl
letter_at (suc (suc (suc (suc (suc (suc zero)))))) h = refl
letter_at (suc (suc (suc (suc (suc (suc (suc t))))))) h = absurd (omega arith)

-- ---- one letter after the other

-- what holds of each letter holds of every byte with a tile
letters_all : (ls : List Letter) (P : ℕ → Type 0) → All ls P → (c : ℕ) → tile_in ls c ≤ 6 → P c
letters_all [] P a c h = absurd (omega (arith, h))
letters_all (l ∷ ls) P (p, a) c h = go (ℕ_discrete l.letter c) (λ k. letters_all ls P a c k)
  where
    go : Dec (l.letter ≡ c) → (tile_in ls c ≤ 6 → P c) → P c
    go (yes e) more = subst P e p
    go (no n) more = more (subst (λ (b : Bool). cond b l.tile (tile_in ls c) ≤ 6) (ne_eqb l.letter c n) h)

each_letter : (P : ℕ → Type 0) → All letters P → (c : ℕ) → tile_of c ≤ 6 → P c
unfolding tile_of
each_letter P a c h = letters_all letters P a c h

-- ---- by the last four bits

abbrev pub key : ℕ → ℕ
key c = (c + c / 64) % 16

-- the tile at each of them
abbrev tiles : List ℕ
tiles = 0 ∷ 5 ∷ 7 ∷ 1 ∷ 2 ∷ 7 ∷ 7 ∷ 7 ∷ 7 ∷ 7 ∷ 4 ∷ 6 ∷ 7 ∷ 0 ∷ 3 ∷ 7 ∷ []

pub keyed : (c : ℕ) → tile_of c ≤ 6 → get_or tiles (key c) 0 ≡ tile_of c
unfolding tile_of
keyed c h = each_letter (λ x. get_or tiles (key x) 0 ≡ tile_of x) (refl, (refl, (refl, (refl, (refl, (refl, (refl, (refl, tt)))))))) c h

pub letter_low : (c : ℕ) → tile_of c ≤ 6 → c ≤ 64
letter_low c h = each_letter (λ x. x ≤ 64) (omega arith, (omega arith, (omega arith, (omega arith, (omega arith, (omega arith, (omega arith, (omega arith, tt)))))))) c h

-- ---- foreign bytes

-- letters are not foreign, and what is not foreign is a letter
pub letter_known : (c : ℕ) → tile_of c ≤ 6 → foreign c ≡ 0
letter_known c h = ap (λ (b : Bool). cond b 0 1) (lt-ltb (tile_of c) 7 (omega arith))

pub other_foreign : (c : ℕ) → 7 ≤ tile_of c → foreign c ≡ 1
other_foreign c h = ap (λ (b : Bool). cond b 0 1) (le-ltb (tile_of c) 7 h)

pub known_letter : (c : ℕ) → foreign c ≡ 0 → tile_of c ≤ 6
known_letter c e = ⊎_elim (λ h. omega (arith, h)) (λ h. absurd (omega (arith, e, other_foreign c h))) (lt_or_ge (tile_of c) 7)

pub foreign_one : (c : ℕ) → foreign c ≤ 1
foreign_one c = ⊎_elim (λ h. omega (arith, letter_known c (omega (arith, h)))) (λ h. omega (arith, other_foreign c h)) (lt_or_ge (tile_of c) 7)
