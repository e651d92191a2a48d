-- What is found, or that nothing is, from what account says of a cell or of n.
use mathlib.Core.Path.{◌≡◌, refl, sym, ◌∙◌, subst}
use mathlib.Core.Bool.{Bool, true, false}
use mathlib.Core.List.{List, [], ◌∷◌}
use Prim.Native.Nat.{ℕ, ◌<◌, ◌≤◌}
use native.Mathlib.Omega.{arith}
use native.Mathlib.Decide.{ℕ_discrete}
use lib.Dec.{eqb, ltb}
use borrow.Author.Tests.{both_ways, eqb-true, eqb-false, lt-ltb, eq-eqb, ne_eqb}
use Rattle.std.specs.Prelude.{Option, Some, None, ◌||◌}
use Rattle.std.specs.List.{list_any}
use Rattle.account.specs.Errata.{Outside}
use Rattle.account.specs.Search.{CellOf, Found2, Joined}
use Rattle.account.proofs.Powers as powers
use Rattle.gf256.specs.Gf256.{gf256}
use Rattle.gf256.specs.Tables.{place_of}
use Rattle.gf256.proofs.Field256.{field256}
use Rattle.rules.specs.Says.{Says}
use Rattle.values.specs.Values.{at}
use Rattle.locate.specs.Places.{IsCell, CellAt, Two, Both}
use Rattle.locate.specs.declared.Pair.{Pair}

-- ---- the cell of a place

module _ (x n : ℕ) (ps : List ℕ) where
  pub some_cell : (p : ℕ) → p < n → CellOf gf256 x n ps p → CellAt x n ps (Some p)
  some_cell p l C = record { below = l; place = (C.right l).0; unmarked = (C.right l).1 }

  pub no_cell : CellOf gf256 x n ps n → CellAt x n ps None
  no_cell C p I = let e : n ≡ p = C.all p I.below I.place I.unmarked in absurd (omega (arith, I.below))

  pub cell_of : n ≤ 255 → (p : ℕ) → IsCell x n ps p → CellOf gf256 x n ps p
  cell_of short p I = record { within = omega (arith, I.below); right = λ l. (I.place, I.unmarked); all = λ q l e o. one q l e }
    where
      one : (q : ℕ) → q < n → place_of n q ≡ x → p ≡ q
      one q l e = go (ℕ_discrete p q)
        where
          go : Dec (p ≡ q) → p ≡ q
          go (yes s) = s
          go (no ne) = absurd (powers.place_apart gf256 field256 n short p q I.below l ne (I.place ∙ sym e))

  pub cell_none : CellAt x n ps None → CellOf gf256 x n ps n
  cell_none N = record {
    within = omega arith;
    right = λ l. absurd (omega arith);
    all = λ p l e o. absurd (N p (record { below = l; place = e; unmarked = o }));
  }

-- ---- two cells

-- the cells, or n
abbrev pub p_or : ℕ → Option Pair → ℕ
p_or n (Some r) = r.p
p_or n None = n

abbrev pub q_or : ℕ → Option Pair → ℕ
q_or n (Some r) = r.q
q_or n None = n

module _ (t : List ℕ) (k n : ℕ) (ps : List ℕ) where
  pub joined : (x y : ℕ) (o : Option Pair) → Both x y t k n ps o → Joined gf256 x y (at t) k n ps (p_or n o) (q_or n o)
  joined x y (Some r) B = record {
    within = omega (arith, B.0.below);
    at_p = λ l. (B.0.place, B.0.unmarked);
    at_q = λ l. (B.1.below, B.1.place, B.1.unmarked);
    zeros = λ l. B.2;
    none = λ e. absurd (omega (arith, B.0.below));
  }
  joined x y None N = record {
    within = omega arith;
    at_p = λ l. absurd (omega arith);
    at_q = λ l. absurd (omega arith);
    zeros = λ l. absurd (omega arith);
    none = λ e a b la lb ea eb oa ob z. N a b (record { below = la; place = ea; unmarked = oa }) (record { below = lb; place = eb; unmarked = ob }) z;
  }

  pub couple : (x y : ℕ) (o : Option Pair) → Both x y t k n ps o → Found2 gf256 (at t) k n ps (p_or n o) (q_or n o) → Two t k n ps o
  couple x y (Some r) B F = record {
    below_p = B.0.below;
    below_q = B.1.below;
    apart = (F.apart B.0.below).1;
    fits = F.fits B.0.below;
  }
  couple x y None N F = F.none refl

-- ---- a cell among those that are listed

-- p is none of them
pub outside : (ps : List ℕ) (p : ℕ) → list_any (λ q. eqb q p) ps ≡ false → Outside ps p
outside [] p e = tt
outside (q ∷ ps) p e = go (outside ps p) (eqb q p) refl e
  where
    go : (list_any (λ q. eqb q p) ps ≡ false → Outside ps p) → (b : Bool) → eqb q p ≡ b → (b || list_any (λ q. eqb q p) ps) ≡ false
        → Outside (q ∷ ps) p
    go more true s e = absurd (both_ways true e refl)
    go more false s e = ((λ d. eqb-false q p s (sym d)), more e)

-- p is one
pub not_outside : (ps : List ℕ) (p : ℕ) → list_any (λ q. eqb q p) ps ≡ true → Outside ps p → ⊥
not_outside [] p e o = both_ways false refl e
not_outside (q ∷ ps) p e o = go (not_outside ps p) (eqb q p) refl e
  where
    go : (list_any (λ q. eqb q p) ps ≡ true → Outside ps p → ⊥) → (b : Bool) → eqb q p ≡ b → (b || list_any (λ q. eqb q p) ps) ≡ true → ⊥
    go more true s e = o.0 (sym (eqb-true q p s))
    go more false s e = more e o.1

-- ---- tests of numbers

pub says_less : (P : Type 0) (a b : ℕ) → a < b → P → Says (ltb a b) P
says_less P a b l p = subst (λ (x : Bool). Says x P) (sym (lt-ltb a b l)) p

pub says_not_equal : (P : Type 0) (a b : ℕ) → (a ≡ b → ⊥) → (P → ⊥) → Says (eqb a b) P
says_not_equal P a b n p = subst (λ (x : Bool). Says x P) (sym (ne_eqb a b n)) p

pub says_equal : (P : Type 0) (a b : ℕ) → (a ≡ b → P) → ((a ≡ b → ⊥) → P → ⊥) → Says (eqb a b) P
says_equal P a b f g = go (ℕ_discrete a b)
  where
    go : Dec (a ≡ b) → Says (eqb a b) P
    go (yes e) = subst (λ (x : Bool). Says x P) (sym (eq-eqb a b e)) (f e)
    go (no n) = says_not_equal P a b n (g n)
