-- Damage in runs of neighbouring cells: how much of it each lane has, and what is then within reach.
use mathlib.Core.Path.{◌≡◌, sym, ap, ◌∙◌}
use mathlib.Core.List.{List}
use Prim.Native.Nat.{ℕ, ◌+◌, ◌*◌, ◌/◌, ◌%◌, ◌≤◌, ◌<◌}
use native.Mathlib.Omega.{arith}
use lib.Dec.{T}
use lib.ListN.{length}
use Rattle.account.specs.Field.{Ops}
use Rattle.account.specs.Reach.{is_marked, differs_at}
use Rattle.account.specs.Runs.{InRun, ChangedIn, MarkedIn}
use Rattle.account.proofs.Runs.{run_meets, run_meets_more, right_outside, unmarked_outside}
use Rattle.account.proofs.Lanes.{length_lane, columns_of}
use Rattle.level.specs.Strip.{StripReach, Mendable, wrong_in, marked_in}
use Rattle.level.proofs.Counts.{wrong_cells, marked_cells}

module _ (R : ℕ) (some : 0 < R) (marks s t : List ℕ) (matched : length marks ≡ length s) (same : length t ≡ length s) where
  -- a strip is within reach where each of its lanes is
  pub lanes_reach : ((j : ℕ) → j < R → 2 * wrong_in R marks s t j + marked_in R marks j ≤ 5) → StripReach R marks s t
  lanes_reach few = record {
    same_length = same;
    each = λ j hj. record {
      same_length = length_lane R some j t ∙ ap (λ (n : ℕ). n / R) same ∙ sym (length_lane R some j s);
      few = rw (length_lane R some j s) (rw matched at (few j hj));
    };
  }

  module _ (a n c : ℕ) where
    -- cells changed in a run of c times R cells, or fewer: in no lane are more than c wrong
    pub wrong_in_run : n ≤ R * c → ChangedIn marks a n s t → (j : ℕ) → j < R → wrong_in R marks s t j ≤ c
    wrong_in_run few only j hj =
        rw (wrong_cells R some marks s t matched same j)
        (run_meets R some (differs_at marks s t) a n c few (right_outside marks a n s t only) j (length s / R) hj)

    -- cells marked in such a run: in no lane are more than c
    pub marked_in_run : n ≤ R * c → MarkedIn a n marks → (j : ℕ) → j < R → marked_in R marks j ≤ c
    marked_in_run few only j hj =
        rw (marked_cells R some marks j) (run_meets R some (is_marked marks) a n c few (unmarked_outside marks a n only) j (length marks / R) hj)

    -- all cells wrong, or all marked, in a longer run within the strip: more than c are, in the lane of the first
    module _ (m : ℕ) (full : length s ≡ R * m) (many : R * c < n) (ends : a + n ≤ length s) where
      pub run_wrong : ((p : ℕ) → InRun a n p → T (differs_at marks s t p)) → c < wrong_in R marks s t (a % R)
      run_wrong all =
          rw (wrong_cells R some marks s t matched same (a % R), columns_of R some s m full)
          (run_meets_more R some (differs_at marks s t) a n c many all m (omega (arith, full)))

      pub run_marked : ((p : ℕ) → InRun a n p → T (is_marked marks p)) → c < marked_in R marks (a % R)
      run_marked all =
          rw (marked_cells R some marks (a % R), columns_of R some marks m (matched ∙ full))
          (run_meets_more R some (is_marked marks) a n c many all m (omega (arith, full)))

  -- FORMAT 3.7: a lane with six marked cells or more cannot be mended
  pub six_marks : (O : Ops) (j : ℕ) → 5 < marked_in R marks j → Mendable O R marks s j → ⊥
  six_marks O j six m = omega (arith, rw matched at six, rw (length_lane R some j s) at m.reach.few)

  -- FORMAT 14.8: cells changed in a run of c times R cells, and marked in a run of d times R, are within reach if 2c + d is at most 5
  pub runs_reach : (a n c b m d : ℕ) → 2 * c + d ≤ 5 → n ≤ R * c → m ≤ R * d → ChangedIn marks a n s t → MarkedIn b m marks → StripReach R marks s t
  runs_reach a n c b m d five few few' only only' =
      lanes_reach (λ j hj. omega (arith, wrong_in_run a n c few only j hj, marked_in_run b m d few' only' j hj))
