-- Cells placed one after the other, or by a copy.
use mathlib.Core.Path.{◌≡◌, refl, sym, ap, ap₂, ◌∙◌, subst}
use mathlib.Core.Logic.{◌⊎◌, inl, inr, ⊎_elim}
use mathlib.Core.List.{List, [], ◌++◌, append-nil}
use Prim.Native.Nat.{ℕ, ◌+◌, ◌-◌, ◌≤◌, ◌<◌}
use native.Mathlib.Nat.{eq-or-lt_of_le}
use native.Mathlib.Omega.{arith}
use lib.ListN.{length, get_or, set, take, drop, length-set, length-append, length-drop, drop_of_length-le, get_or-append}
use lib.Seq.{get_or-set_same, get_or-set_other, get_or-take, get_or-drop, get_or-append-add, take-length, length-take-le, drop-drop}
use Rattle.rules.specs.Placed.{Placed, Laid}
use Rattle.rules.proofs.Numbers.{lt_or_ge}

module _ (a : ℕ) (v : ℕ → ℕ) (o : List ℕ) where
  pub placed_0 : Placed a a v o o
  placed_0 = record { long = refl; inside = λ p h k. absurd (omega arith); outside = λ p h. refl }

  -- and then those up to a later one
  pub placed_after : (b c : ℕ) (x y : List ℕ) → a ≤ b → b ≤ c → Placed a b v o x → Placed b c v x y → Placed a c v o y
  placed_after b c x y ab bc P Q = record {
    long = Q.long ∙ P.long;
    inside = λ p h k. ⊎_elim (λ l. Q.outside p (inl l) ∙ P.inside p h l) (λ g. Q.inside p g k) (lt_or_ge p b);
    outside = λ p h. ⊎_elim (λ l. Q.outside p (inl (omega arith)) ∙ P.outside p (inl l)) (λ g. Q.outside p (inr g) ∙ P.outside p (inr (omega arith))) h;
  }

  pub placed_more : (x : List ℕ) (b w : ℕ) → a ≤ b → b < length o → w ≡ v b → Placed a b v o x → Placed a (b + 1) v o (set x b w)
  placed_more x b w ab h e P = record {
    long = simp length-set P.long;
    inside = λ p g k.
        ⊎_elim (λ q. subst (λ (i : ℕ). get_or (set x b w) i 0 ≡ v i) (sym q) (get_or-set_same x b w 0 (omega (arith, P.long)) ∙ e))
        (λ l. get_or-set_other x b p w 0 (λ q. omega (arith, q)) ∙ P.inside p g l) (eq-or-lt_of_le {n = p} {m = b} (omega arith));
    outside = λ p s. get_or-set_other x b p w 0 (λ q. apart p s q) ∙ P.outside p (⊎_elim (λ l. inl l) (λ l. inr (omega arith)) s);
  }
    where
      apart : (p : ℕ) → (p < a) ⊎ (b + 1 ≤ p) → p ≡ b → ⊥
      apart p (inl l) q = omega arith
      apart p (inr l) q = omega arith

-- t over the cells of o from a on
module _ (a : ℕ) (t o : List ℕ) (room : a + length t ≤ length o) where
  abbrev over : List ℕ
  over = take a o ++ (t ++ drop (a + length t) o)

  front : length (take a o) ≡ a
  front = length-take-le a o (omega arith)

  behind : (i : ℕ) → get_or over (a + i) 0 ≡ get_or (t ++ drop (a + length t) o) i 0
  behind i = ap (λ (k : ℕ). get_or over (k + i) 0) (sym front) ∙ get_or-append-add (take a o) (t ++ drop (a + length t) o) i 0

  over_laid : Laid a t o over
  over_laid = record {
    long =
        length-append (take a o) (t ++ drop (a + length t) o)
        ∙ omega (arith, front, length-append t (drop (a + length t) o), length-drop (a + length t) o);
    inside = λ p g k.
        let e : p ≡ a + (p - a) = omega arith in
        ap (λ (i : ℕ). get_or over i 0) e ∙ behind (p - a) ∙ get_or-append t (drop (a + length t) o) 0 (p - a) (omega arith);
    outside = λ p s. ⊎_elim (before p) (past p) s;
  }
    where
      before : (p : ℕ) → p < a → get_or over p 0 ≡ get_or o p 0
      before p l = get_or-append (take a o) (t ++ drop (a + length t) o) 0 p (omega (arith, front)) ∙ get_or-take a o p 0 l

      past : (p : ℕ) → a + length t ≤ p → get_or over p 0 ≡ get_or o p 0
      past p l =
          let e : p ≡ a + (length t + (p - (a + length t))) = omega arith in
          let f : a + length t + (p - (a + length t)) ≡ p = omega arith in
          ap (λ (i : ℕ). get_or over i 0) e ∙ behind (length t + (p - (a + length t)))
          ∙ get_or-append-add t (drop (a + length t) o) (p - (a + length t)) 0 ∙ get_or-drop (a + length t) o (p - (a + length t)) 0
          ∙ ap (λ (i : ℕ). get_or o i 0) f

  -- what a copy to the cells from a on leaves
  pub laid_copy : (x : List ℕ) → x ≡ t ++ drop (length t) (take (length o - a) (drop a o))
      → Laid a t o (take a o ++ (x ++ drop (length o - a) (drop a o)))
  laid_copy x e = subst (Laid a t o) (sym same) over_laid
    where
      all : take (length o - a) (drop a o) ≡ drop a o
      all = ap (λ (n : ℕ). take n (drop a o)) (sym (length-drop a o)) ∙ take-length (drop a o)

      none : drop (length o - a) (drop a o) ≡ []
      none = drop_of_length-le (drop a o) {i = length o - a} (omega (arith, length-drop a o))

      same : take a o ++ (x ++ drop (length o - a) (drop a o)) ≡ over
      same =
          ap (λ (y : List ℕ). take a o ++ y)
          (ap₂ (λ (y z : List ℕ). y ++ z) (e ∙ ap (λ (y : List ℕ). t ++ drop (length t) y) all) none ∙ append-nil (t ++ drop (length t) (drop a o))
          ∙ ap (λ (y : List ℕ). t ++ y) (drop-drop (length t) a o))
