-- The first tiles stepped: the last of them by one, or a carry to the one before it.
use mathlib.Core.Path.{◌≡◌, refl, sym, ap, subst, ◌∙◌}
use mathlib.Core.Logic.{⊎_elim}
use mathlib.Core.Bool.{Bool, true, false}
use mathlib.Core.List.{List, ◌++◌}
use Prim.Native.Nat.{ℕ, suc, ◌+◌, ◌-◌, ◌≤◌, ◌<◌}
use native.Mathlib.Decide.{ℕ_discrete}
use native.Mathlib.Nat.{le_refl}
use native.Mathlib.Omega.{arith}
use lib.Dec.{T}
use lib.ListN.{length, get_or, set, take, drop, replicate, length-set, length-append, length-drop, length-replicate, get_or-append, get_or-replicate}
use lib.Seq.{get_or-set_same, get_or-set_other, get_or-append-add, get_or-take, length-take-le}
use borrow.Rule.Slice.PartMut.{put_mid}
use Rattle.rules.proofs.Numbers.{lt_or_ge}
use Rattle.account.proofs.Lanes.{get_d_past}
use Rattle.level.specs.Level.{AllTiles}
use Rattle.lending.proofs.Writing.{codes_all}
use Rattle.tiny.specs.Tiny.{digits}
use Rattle.tiny.specs.Parts.{Stepped, Passed}
use Rattle.tiny.proofs.Digits.{same_digits}

-- a tile exchanged for another code
pub codes_set : (b : List ℕ) (i v : ℕ) → AllTiles 1 b → v ≤ 6 → AllTiles 1 (set b i v)
codes_set b i v f s j h = go (ℕ_discrete j i)
  where
    in_b : j < length b
    in_b = omega (arith, h, length-set b i v)

    go : Dec (j ≡ i) → get_or (set b i v) j 0 ≤ 6
    go (yes e) = omega (arith, subst (λ (k : ℕ). get_or (set b i v) k 0 ≡ v) (sym e) (get_or-set_same b i v 0 (omega (arith, in_b, e))), s)
    go (no n) = omega (arith, get_or-set_other b i j v 0 n, f j in_b)

-- does not touch the digits before it
before : (b : List ℕ) (i v : ℕ) → digits i (set b i v) ≡ digits i b
before b i v = same_digits i (set b i v) b (λ j h. get_or-set_other b i j v 0 (λ e. omega (arith, e, h)))

differ : {X : Type 0} → true ≡ false → X
differ e = absurd (subst T e tt)

-- no place is left
pub at_none : (b : List ℕ) (k : ℕ) → AllTiles 1 b → k ≡ 0 → Stepped k b b false
unfolding digits
at_none b k f e = rw e (record { more = record { codes = f; up = λ q. differ (sym q); top = λ q c g. omega arith }; rest = λ i h. refl })

module _ (b : List ℕ) (i : ℕ) (f : AllTiles 1 b) (h : i < length b) where
  -- the last place has room
  last : get_or b i 0 < 6 → Stepped (suc i) b (set b i (get_or b i 0 + 1)) true
  unfolding digits
  last l = record {
    more = record {
      codes = codes_set b i (get_or b i 0 + 1) f (omega arith);
      up = λ q. omega (arith, before b i (get_or b i 0 + 1), get_or-set_same b i (get_or b i 0 + 1) 0 h);
      top = λ q. differ q;
    };
    rest = λ k g. get_or-set_other b i k (get_or b i 0 + 1) 0 (λ e. omega (arith, e, g));
  }

  -- it is 6: what was stepped before it
  carry : (z : List ℕ) (r : Bool) → get_or b i 0 ≡ 6 → Stepped i (set b i 0) z r → Stepped (suc i) b z r
  unfolding digits
  carry z r l s =
      let none : get_or z i 0 ≡ 0 = s.rest i (le_refl i) ∙ get_or-set_same b i 0 0 h in
      record {
        more = record {
          codes = s.more.codes;
          up = λ q. omega (arith, s.more.up q, before b i 0, none, l);
          top = λ q c g. omega (arith, s.more.top q c g, before b i 0, l, codes_all 1 c g i);
        };
        rest = λ k g. s.rest k (omega arith) ∙ get_or-set_other b i k 0 0 (λ e. omega (arith, e, g));
      }

-- the same at k, whose last place is k - 1
module _ (b : List ℕ) (k : ℕ) (f : AllTiles 1 b) (some : k ≡ 0 → ⊥) (h : k ≤ length b) where
  is_suc : suc (k - 1) ≡ k
  is_suc = omega (arith, some)

  pub at_last : (v : ℕ) → v ≡ get_or b (k - 1) 0 → v < 6 → Stepped k b (set b (k - 1) (v + 1)) true
  at_last v e l =
      rw e (subst (λ (j : ℕ). Stepped j b (set b (k - 1) (get_or b (k - 1) 0 + 1)) true) is_suc (last b (k - 1) f (omega (arith, some)) (omega (arith, e, l))))

  pub at_carry : (z : List ℕ) (r : Bool) → get_or b (k - 1) 0 ≡ 6 → Stepped (k - 1) (set b (k - 1) 0) z r → Stepped k b z r
  at_carry z r e s = subst (λ (j : ℕ). Stepped j b z r) is_suc (carry b (k - 1) f (omega (arith, some)) z r e s)

-- ---- floor from a place on

module _ (b z : List ℕ) (k n m : ℕ) (h : k ≤ length b) (e : n ≡ length b - k) (is : z ≡ replicate m 0) where
  size : length (take k b) ≡ k
  size = length-take-le k b h

  pub filled_front : (i : ℕ) → i < k → get_or (put_mid k n b z) i 0 ≡ get_or b i 0
  filled_front i l = get_or-append (take k b) (z ++ drop n (drop k b)) 0 i (omega (arith, size)) ∙ get_or-take k b i 0 l

  floor_in : (j : ℕ) → get_or (z ++ drop n (drop k b)) j 0 ≡ 0
  floor_in j = ⊎_elim inside (λ l. get_d_past (z ++ drop n (drop k b)) j (omega (arith, l, none, length-append z (drop n (drop k b))))) (lt_or_ge j (length z))
    where
      none : length (drop n (drop k b)) ≡ 0
      none = omega (arith, length-drop n (drop k b), length-drop k b, e)

      inside : j < length z → get_or (z ++ drop n (drop k b)) j 0 ≡ 0
      inside l =
          get_or-append z (drop n (drop k b)) 0 j l ∙ ap (λ (y : List ℕ). get_or y j 0) is
          ∙ get_or-replicate m j 0 0 (omega (arith, l, ap length is, length-replicate {A = ℕ} m 0))

  pub filled_floor : (i : ℕ) → k ≤ i → get_or (put_mid k n b z) i 0 ≡ 0
  filled_floor i l =
      let at : i ≡ length (take k b) + (i - k) = omega (arith, size) in
      ap (λ (j : ℕ). get_or (put_mid k n b z) j 0) at ∙ get_or-append-add (take k b) (z ++ drop n (drop k b)) (i - k) 0 ∙ floor_in (i - k)

-- then stepped

module _ (old cleared : List ℕ) (k : ℕ) (f : AllTiles 1 old)
    (front : (i : ℕ) → i < k → get_or cleared i 0 ≡ get_or old i 0) (floor : (i : ℕ) → k ≤ i → get_or cleared i 0 ≡ 0) where
  pub passed : (new : List ℕ) (r : Bool) → Stepped k cleared new r → Passed k old new r
  passed new r s =
      let same : digits k cleared ≡ digits k old = same_digits k cleared old front in
      record {
        more = record {
          codes = s.more.codes;
          up = λ q. omega (arith, s.more.up q, same);
          top = λ q c g. omega (arith, s.more.top q c g, same);
        };
        floor = λ i h. s.rest i h ∙ floor i h;
      }
