-- Parts: what the functions that mend the lanes of a strip promise each other, over the lane count R. The mended strip is the strip with the
-- noted cells put right.
use Rattle.std.specs.Prelude.{◌≡◌, Bool, false, Option, Some, None, Result, Ok, Err, List, ℕ, ◌+◌, ◌*◌, ◌≤◌, ◌<◌, length}
use Rattle.account.specs.Lanes.{lane}
use Rattle.account.specs.Code.{Cells, Clean}
use Rattle.account.specs.Reach.{count_to, is_marked, Reach, GoodMarks}
use Rattle.rules.specs.Refusal.{Within}
use Rattle.gf256.specs.Gf256.{gf256}
use Rattle.level.specs.Sizes.{record_most}
use Rattle.level.specs.Strip.{columns, Legal, wrong_in, mended_of, repainted_in, repainted_of, Mends, Mendable, Lowest}
use Rattle.code.specs.Lane.{lane_most}
use Rattle.marks.specs.declared.Counts.{Counts}
use Rattle.patches.specs.declared.Fixes.{Fixes}
use Rattle.dealt.specs.Lanes.{LaneRemains}
use Rattle.lanes.specs.Fixes.{fixed}

-- no cell is marked, if none is said to be
pub record NoneSet (marked : Bool) (marks : List ℕ) : Type 0 where
  pub none : marked ≡ false → count_to (is_marked marks) (length marks) ≡ 0

module _ (R : ℕ) where
  -- what mending goes on with: a legal strip with its marks, of lanes that can travel by value
  pub record Entered (s marks : List ℕ) : Type 0 where
    pub lanes : Within 1 16 R
    pub short : columns R record_most + 5 ≤ lane_most
    pub legal : Legal R (length s)
    pub matched : length marks ≡ length s
    pub good : GoodMarks marks

  -- and for lane j, which has the remainder r
  pub record Ready (j : ℕ) (s marks : List ℕ) (r : ℕ) : Type 0 where
    pub entered : Entered s marks
    pub inside : j < R
    pub remains : LaneRemains R j s r

  -- lane j of t is mended
  pub record LaneMended (marks s t : List ℕ) (j : ℕ) : Type 0 where
    pub cells : Cells gf256 (lane R j t)
    pub clean : Clean gf256 (lane R j t)
    pub reach : Reach (lane R j marks) (lane R j s) (lane R j t)

  -- lane j is mended in t', and the others are as they were in t
  pub record OneGood (s marks : List ℕ) (j : ℕ) (t t' : List ℕ) (mended repainted : ℕ) : Type 0 where
    pub mended_lane : LaneMended marks s t' j
    pub count : mended ≡ wrong_in R marks s t' j
    pub repaints : repainted ≡ repainted_in R marks s t' j
    pub others : (i : ℕ) → i < R → (i ≡ j → ⊥) → lane R i t' ≡ lane R i t

  -- lane j, as it was in the strip, is mended by what is noted, and so many cells of it are put right; or it cannot be
  abbrev pub OneAs : List ℕ → List ℕ → ℕ → Fixes → Fixes → Option Counts → Type 0
  OneAs s marks j f f' (Some c) =
      (lane R j (fixed f s) ≡ lane R j s → OneGood s marks j (fixed f s) (fixed f' s) c.mended c.repainted)
      × (f'.count ≤ f.count + 5)
      × (length f'.cells ≡ 80)
      × (length f'.bytes ≡ 80)
  OneAs s marks j f f' None = Mendable gf256 R marks s j → ⊥

  -- every lane is mended by what is noted, and so many cells are put right
  pub record AllMended (s marks : List ℕ) (f : Fixes) (c : Counts) : Type 0 where
    pub found : Mends gf256 R marks s (fixed f s)
    pub count : c.mended ≡ mended_of R marks s (fixed f s)
    pub repaints : c.repainted ≡ repainted_of R marks s (fixed f s)
    pub small : c.mended ≤ 2 * R

  -- or the lowest lane that cannot be
  abbrev pub MendedAs : List ℕ → List ℕ → Fixes → Result Counts ℕ → Type 0
  MendedAs s marks f (Ok c) = AllMended s marks f c
  MendedAs s marks f (Err l) = Lowest gf256 R marks s l
