-- Lanes mended one after the other.
use mathlib.Core.Path.{◌≡◌, refl, sym, ap, ap₂, ◌∙◌, subst}
use mathlib.Core.Bool.{Bool}
use mathlib.Core.List.{List}
use Prim.Native.Nat.{ℕ, ◌+◌, ◌*◌, ◌/◌, ◌%◌, ◌≤◌, ◌<◌}
use native.Mathlib.Nat.{mod-lt, div-lt_iff_lt-mul, mul_comm}
use native.Mathlib.Numerals.{add-one}
use native.Mathlib.Omega.{arith}
use borrow.Author.Count.{below_more}
use lib.ListN.{length}
use Rattle.account.specs.Lists.{sum_of}
use Rattle.account.specs.Lanes.{lane}
use Rattle.account.specs.Code.{Cells}
use Rattle.account.specs.Reach.{count_to, differs_at, repainted_at}
use Rattle.account.proofs.Lanes.{length_lane, cell, columns_of}
use Rattle.gf256.specs.Gf256.{gf256}
use Rattle.level.specs.Strip.{wrong_in, mended_of, repainted_in, repainted_of}
use Rattle.level.proofs.Counts.{sum_cong, wrong_few, repainted_few}
use Rattle.std.specs.Prelude.{Some}
use Rattle.marks.specs.declared.Counts.{Counts}
use Rattle.patches.specs.declared.Fixes.{Fixes}
use Rattle.patches.specs.Patched.{patched}
use Rattle.patches.proofs.Patching.{patched_0, length_patched}
use Rattle.lanes.specs.Fixes.{Room, fixed}
use Rattle.lanes.specs.Lanes.{Entered, LaneMended, OneGood, OneAs, AllMended}
use Rattle.lanes.proofs.Repairs.{some}

sum_more : (n : ℕ) (f : ℕ → ℕ) → sum_of (n + 1) f ≡ sum_of n f + f n
unfolding sum_of
sum_more n f = rw add-one

-- a strip whose lanes have cells of the field has
cells_of_lanes : (R : ℕ) → 0 < R → (t : List ℕ) (m : ℕ) → length t ≡ R * m → ((j : ℕ) → j < R → Cells gf256 (lane R j t)) → Cells gf256 t
cells_of_lanes R some t m full f = record {
  cell = λ p h.
      let k : p / R < m = (div-lt_iff_lt-mul some).1 (omega (arith, full, mul_comm R m)) in
      subst (λ (x : ℕ). x < 256) (cell R some t m full p h)
      ((f (p % R) (mod-lt p some)).cell (p / R) (omega (arith, length_lane R some (p % R) t, columns_of R some t m full)));
}

module _ (R : ℕ) (s marks : List ℕ) where
  -- the lanes below l are mended by what is noted, the others are still those of s
  pub record Sofar (f : Fixes) (c : Counts) (l : ℕ) : Type 0 where
    pub within : l ≤ R
    pub noted : f.count ≤ 5 * l
    pub cells_long : length f.cells ≡ 80
    pub bytes_long : length f.bytes ≡ 80
    pub each : (j : ℕ) → j < l → LaneMended R marks s (fixed f s) j
    pub later : (j : ℕ) → l ≤ j → j < R → lane R j (fixed f s) ≡ lane R j s
    pub count : c.mended ≡ sum_of l (wrong_in R marks s (fixed f s))
    pub repaints : c.repainted ≡ sum_of l (repainted_in R marks s (fixed f s))
    pub small : c.mended ≤ 2 * l
    pub few : c.repainted ≤ 5 * l

  pub sofar_0 : (f : Fixes) → length f.cells ≡ 80 → length f.bytes ≡ 80 → f.count ≡ 0 → Sofar f (record { mended = 0; repainted = 0 }) 0
  unfolding sum_of
  sofar_0 f lc lb z = record {
    within = omega arith;
    noted = omega arith;
    cells_long = lc;
    bytes_long = lb;
    each = λ j h. absurd (omega arith);
    later = λ j h k. ap (lane R j) (ap (λ (n : ℕ). patched f.cells f.bytes n s) z ∙ patched_0 f.cells f.bytes s);
    count = refl;
    repaints = refl;
    small = omega arith;
    few = omega arith;
  }

  pub room_left : R ≤ 16 → (f : Fixes) (c : Counts) (l : ℕ) → l < R → Sofar f c l → Room f
  room_left lanes f c l h W = record { left = omega (arith, W.noted); cells_long = W.cells_long; bytes_long = W.bytes_long }

  module _ (E : Entered R s marks) where
    -- a lane that was mended
    module _ (f f' : Fixes) (c : Counts) (l : ℕ) (h : l < R) (W : Sofar f c l) (o : Counts) (a : OneAs R s marks l f f' (Some o)) where
      good : OneGood R s marks l (fixed f s) (fixed f' s) o.mended o.repainted
      good = a.0 (W.later l (omega arith) h)

      pub one_few : (o.mended ≤ 2) × (o.repainted ≤ 5)
      one_few = (
        omega (arith, wrong_few R (some R s marks E) marks s (fixed f' s) l good.mended_lane.reach, good.count),
        omega (arith, repainted_few R (some R s marks E) marks s (fixed f' s) l good.mended_lane.reach, good.repaints),
      )

      pub sofar_more : Sofar f' (record { mended = c.mended + o.mended; repainted = c.repainted + o.repainted }) (l + 1)
      sofar_more = record {
        within = omega arith;
        noted = omega (arith, W.noted, a.1);
        cells_long = a.2;
        bytes_long = a.3;
        each = below_more _ l (λ j b. kept j b (W.each j b)) good.mended_lane;
        later = λ j b d. good.others j d (λ q. omega (arith, q)) ∙ W.later j (omega arith) d;
        count = more differs_at c.mended o.mended W.count good.count;
        repaints = more repainted_at c.repainted o.repainted W.repaints good.repaints;
        small = omega (arith, one_few, W.small);
        few = omega (arith, one_few, W.few);
      }
        where
          other : (j : ℕ) → j < l → lane R j (fixed f' s) ≡ lane R j (fixed f s)
          other j b = good.others j (omega arith) (λ q. omega (arith, q))

          kept : (j : ℕ) → j < l → LaneMended R marks s (fixed f s) j → LaneMended R marks s (fixed f' s) j
          kept j b m = record { cells = rw (other j b) m.cells; clean = rw (other j b) m.clean; reach = rw (other j b) m.reach }

          -- what D counts in the lanes, and what it counts in one more
          counted : (List ℕ → List ℕ → List ℕ → ℕ → Bool) → List ℕ → ℕ → ℕ
          counted D u j = count_to (D (lane R j marks) (lane R j s) (lane R j u)) (length s / R)

          more : (D : List ℕ → List ℕ → List ℕ → ℕ → Bool) (x y : ℕ) → x ≡ sum_of l (counted D (fixed f s)) → y ≡ counted D (fixed f' s) l
              → x + y ≡ sum_of (l + 1) (counted D (fixed f' s))
          more D x y ex ey =
              sym (sum_more l (counted D (fixed f' s))
              ∙ ap₂ (λ (i j : ℕ). i + j)
              (sum_cong l (counted D (fixed f' s)) (counted D (fixed f s))
              (λ j b. ap (λ (v : List ℕ). count_to (D (lane R j marks) (lane R j s) v) (length s / R)) (other j b)) ∙ sym ex) (sym ey))

    -- all are
    pub all_mended : (f : Fixes) (c : Counts) (l : ℕ) → R ≤ l → Sofar f c l → AllMended R s marks f c
    unfolding mended_of repainted_of
    all_mended f c l h W = record {
      found = record {
        cells = cells_of_lanes R (some R s marks E) (fixed f s) (E.legal.k + 5) (long ∙ E.legal.cells) (λ j b. (W.each j (omega arith)).cells);
        clean = λ j b. (W.each j (omega arith)).clean;
        reach = record { same_length = long; each = λ j b. (W.each j (omega arith)).reach };
      };
      count = W.count ∙ ap (λ (n : ℕ). sum_of n (wrong_in R marks s (fixed f s))) all;
      repaints = W.repaints ∙ ap (λ (n : ℕ). sum_of n (repainted_in R marks s (fixed f s))) all;
      small = omega (arith, W.small, all);
    }
      where
        all : l ≡ R
        all = omega (arith, W.within)

        long : length (fixed f s) ≡ length s
        long = length_patched f.cells f.bytes s f.count
