-- Strips that are the same but for the bytes under marks.
use mathlib.Core.Path.{◌≡◌, sym, ◌∙◌}
use mathlib.Core.Logic.{⊎_elim}
use mathlib.Core.List.{List}
use Prim.Native.Nat.{ℕ, ◌+◌, ◌*◌, ◌<◌}
use native.Mathlib.Omega.{arith}
use lib.ListN.{length, get_or}
use Rattle.account.specs.Field.{Ops}
use Rattle.account.specs.Lanes.{lane}
use Rattle.account.specs.Reach.{SameRead}
use Rattle.account.proofs.Lanes.{length_lane, get_d_lane, get_d_past, columns_of}
use Rattle.account.proofs.Theorems.{same_differing, same_reach, same_reachable}
use Rattle.level.specs.Level.{Level}
use Rattle.level.specs.Strip.{wrong_in, mended_of, StripReach, Reached, Mends, Mendable}
use Rattle.rules.proofs.Numbers.{lt_or_ge}
use Rattle.level.proofs.Counts.{sum_cong}

module _ (R : ℕ) (some : 0 < R) (marks r s : List ℕ) (m : ℕ) (full : length r ≡ R * m) (matched : length marks ≡ length r) (same : SameRead marks r s) where
  long : length s ≡ R * m
  long = sym same.same_length ∙ full

  lane_same : (j : ℕ) → SameRead (lane R j marks) (lane R j r) (lane R j s)
  lane_same j = record {
    same_length = size r full ∙ sym (size s long);
    read = λ i e.
        ⊎_elim (λ h. at r full i h ∙ same.read (R * i + j) (rw (at marks (matched ∙ full) i h) at e) ∙ sym (at s long i h))
        (λ h. get_d_past (lane R j r) i (omega (arith, size r full)) ∙ sym (get_d_past (lane R j s) i (omega (arith, size s long)))) (lt_or_ge i m);
  }
    where
      size : (u : List ℕ) → length u ≡ R * m → length (lane R j u) ≡ m
      size u e = length_lane R some j u ∙ columns_of R some u m e

      at : (u : List ℕ) → length u ≡ R * m → (i : ℕ) → i < m → get_or (lane R j u) i 0 ≡ get_or u (R * i + j) 0
      at u e i h = get_d_lane R some j u i (rw (columns_of R some u m e) h)

  -- the same is within reach
  pub same_strip_reach : (t : List ℕ) → StripReach R marks r t → StripReach R marks s t
  same_strip_reach t h = record {
    same_length = h.same_length ∙ same.same_length;
    each = λ j l. same_reach (lane R j marks) (lane R j r) (lane R j s) (lane R j t) (lane_same j) (h.each j l);
  }

  pub same_reached : {upto : ℕ} (O : Ops) (l : Level) (t : List ℕ) → Reached O R upto marks r l t → Reached O R upto marks s l t
  same_reached O l t h = record { is_level = h.is_level; not_newer = h.not_newer; is_strip = h.is_strip; reach = same_strip_reach t h.reach }

  pub same_mends : (O : Ops) (t : List ℕ) → Mends O R marks r t → Mends O R marks s t
  same_mends O t h = record { cells = h.cells; clean = h.clean; reach = same_strip_reach t h.reach }

  pub same_mendable : (O : Ops) (j : ℕ) → Mendable O R marks r j → Mendable O R marks s j
  same_mendable O j = same_reachable O (lane R j marks) (lane R j r) (lane R j s) (lane_same j)

  -- and as much is mended
  pub same_mended : (t : List ℕ) → mended_of R marks r t ≡ mended_of R marks s t
  unfolding mended_of
  same_mended t = sum_cong R (wrong_in R marks r t) (wrong_in R marks s t) (λ j h. each j)
    where
      each : (j : ℕ) → wrong_in R marks r t j ≡ wrong_in R marks s t j
      each j = rw (length_lane R some j r, length_lane R some j s) at (same_differing (lane R j marks) (lane R j r) (lane R j s) (lane R j t) (lane_same j))
