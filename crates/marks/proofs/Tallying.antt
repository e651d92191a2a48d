-- Marks, or-ed together and summed.
use mathlib.Core.Path.{◌≡◌, refl, sym, ap, ap₂, ◌∙◌, subst}
use mathlib.Core.Bool.{not}
use mathlib.Core.List.{List}
use Prim.Native.Nat.{ℕ, zero, suc, ◌+◌, ◌*◌, ◌^◌, ◌≤◌, ◌<◌}
use native.Mathlib.Numerals.{add-one}
use native.Mathlib.Omega.{arith}
use lib.Bits.{bit_or, or_lt, or_add_and, and_le_l, and_le_r}
use lib.Dec.{eqb, T}
use lib.ListN.{length, get_or}
use borrow.Author.Count.{below_more}
use Rattle.account.specs.Reach.{count_to, is_marked, one_if, GoodMarks}
use Rattle.account.proofs.Cells.{count_none}
use Rattle.marks.specs.Marks.{AnyOf, SumOf}

-- the first i marks, or-ed
pub record Oring (marks : List ℕ) (x i : ℕ) : Type 0 where
  pub each : (p : ℕ) → p < i → get_or marks p 0 ≤ x
  pub bad : ((p : ℕ) → p < i → get_or marks p 0 ≤ 1) → x ≤ 1

-- and summed
pub record Summing (marks : List ℕ) (x i : ℕ) : Type 0 where
  pub small : x ≤ 255 * i
  pub count : GoodMarks marks → x ≡ count_to (is_marked marks) i

or_left : (a b : ℕ) → a ≤ bit_or a b
or_left a b = omega (arith, or_add_and a b, and_le_r a b)

or_right : (a b : ℕ) → b ≤ bit_or a b
or_right a b = omega (arith, or_add_and a b, and_le_l a b)

or_small : (a b : ℕ) → a ≤ 1 → b ≤ 1 → bit_or a b ≤ 1
or_small a b ha hb = let h : bit_or a b < 2 ^ 1 = or_lt 1 a b (omega arith) (omega arith) in omega arith

pub or_goes : (marks : List ℕ) (x i : ℕ) → i < length marks → Oring marks x i → Oring marks (bit_or x (get_or marks i 0)) (i + 1)
or_goes marks x i l O = record {
  each = below_more _ i (λ p k. omega (arith, O.each p k, or_left x (get_or marks i 0))) (or_right x (get_or marks i 0));
  bad = λ h. or_small x (get_or marks i 0) (O.bad (λ p k. h p (omega arith))) (h i (omega arith));
}

pub or_ends : (marks : List ℕ) (x i : ℕ) → i ≡ length marks → Oring marks x i → AnyOf marks x
or_ends marks x i h O = record {
  good = λ g p l. omega (arith, O.each p (omega arith));
  bad = λ g. O.bad (λ p l. g p (omega arith));
  none = λ z. count_none (is_marked marks) (length marks) (λ p l. unset (get_or marks p 0) (omega (arith, O.each p (omega arith))));
}
  where
    unset : (m : ℕ) → m ≡ 0 → T (not (not (eqb m 0)))
    unset m e = subst (λ (k : ℕ). T (not (not (eqb k 0)))) (sym e) tt

-- a mark counts itself
one_mark : (m : ℕ) → m ≤ 1 → m ≡ one_if (not (eqb m 0))
one_mark zero h = refl
one_mark (suc zero) h = refl
one_mark (suc (suc m)) h = absurd (omega arith)

pub sum_starts : (marks : List ℕ) → Summing marks 0 0
unfolding count_to
sum_starts marks = record { small = omega arith; count = λ g. refl }

pub sum_goes : (marks : List ℕ) (x m i : ℕ) → i < length marks → m ≡ get_or marks i 0 → m < 256 → Summing marks x i → Summing marks (x + m) (i + 1)
unfolding count_to
sum_goes marks x m i l e b S = record {
  small = omega (arith, S.small);
  count = λ g. ap₂ (λ (a c : ℕ). a + c) (S.count g) (e ∙ one_mark (get_or marks i 0) (g i l)) ∙ ap (count_to (is_marked marks)) (sym (add-one i));
}

-- both
pub tally_none : (marks : List ℕ) (x : ℕ) → AnyOf marks x → x ≡ 0 → GoodMarks marks × (0 ≡ count_to (is_marked marks) (length marks))
tally_none marks x A z = (A.good (omega arith), sym (A.none z))

pub tallied : (marks : List ℕ) (x y : ℕ) → x ≤ 1 → AnyOf marks x → SumOf marks y → GoodMarks marks × (y ≡ count_to (is_marked marks) (length marks))
tallied marks x y h A S = (A.good h, S.count (A.good h))
