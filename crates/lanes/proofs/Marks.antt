-- Marks of a lane: none, where there are none at all.
use mathlib.Core.Path.{◌≡◌, refl, sym, ap, ◌∙◌, subst}
use mathlib.Core.Bool.{Bool, true, false, not}
use mathlib.Core.Logic.{⊎_elim}
use mathlib.Core.List.{List}
use Prim.Native.Nat.{ℕ, zero, suc, ◌+◌, ◌*◌, ◌/◌, ◌<◌}
use native.Mathlib.Omega.{arith}
use lib.Dec.{T}
use lib.ListN.{length}
use Rattle.account.specs.Lanes.{lane}
use Rattle.account.specs.Reach.{count_to, is_marked, one_if}
use Rattle.account.proofs.Cells.{count_none}
use Rattle.account.proofs.Lanes.{length_lane}
use Rattle.rules.proofs.Numbers.{lt_or_ge}
use Rattle.marks.specs.Marks.{AllOf}
use Rattle.marks.proofs.Counting.{lane_marked, lane_inside}
use Rattle.marks.proofs.Listing.{none_listed}

-- what is counted nowhere is nowhere
zero_count : (f : ℕ → Bool) (n : ℕ) → count_to f n ≡ 0 → (i : ℕ) → i < n → T (not (f i))
unfolding count_to
zero_count f zero z i l = absurd (omega arith)
zero_count f (suc n) z i l = go (f n) refl z (λ y k. zero_count f n y i k)
  where
    go : (b : Bool) → f n ≡ b → count_to f n + one_if b ≡ 0 → (count_to f n ≡ 0 → i < n → T (not (f i))) → T (not (f i))
    go true e q rec = absurd (omega arith)
    go false e q rec =
        ⊎_elim (λ k. rec (omega arith) k)
        (λ k. let y : i ≡ n = omega arith in subst (λ (b : Bool). T (not b)) (sym (ap f y ∙ e)) tt) (lt_or_ge i n)

module _ (R : ℕ) (marks : List ℕ) (l : ℕ) (h : l < R) (z : count_to (is_marked marks) (length marks) ≡ 0) where
  pub none_marked : count_to (is_marked (lane R l marks)) (length (lane R l marks)) ≡ 0
  none_marked = count_none (is_marked (lane R l marks)) (length (lane R l marks)) (λ i k.
      let j : i < length marks / R = omega (arith, length_lane R (omega arith) l marks) in
      subst (λ (b : Bool). T (not b)) (lane_marked R marks l i h j)
      (zero_count (is_marked marks) (length marks) z (R * i + l) (lane_inside R marks l i h j)))

  pub none_listed_in : (p : List ℕ) → length p ≡ 5 → AllOf (lane R l marks) (record { count = 0; cells = p })
  none_listed_in p e = record {
    few = omega arith;
    list = none_listed (lane R l marks) p 0 (sym none_marked) refl e;
    count = sym none_marked;
  }
