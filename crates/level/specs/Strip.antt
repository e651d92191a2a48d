-- FORMAT 7, for R lanes: strips, cells of a field dealt to lanes, each lane a word of the code.
use Rattle.std.specs.Prelude.{◌≡◌, ◌≢◌, ◌⊎◌, ℕ, ◌+◌, ◌*◌, ◌-◌, ◌/◌, ◌%◌, ◌≤◌, ◌<◌, List, length, get_or}
use Rattle.account.specs.Field.{Ops}
use Rattle.account.specs.Code.{Cells, Clean}
use Rattle.account.specs.Reach.{count_to, differs_at, repainted_at, is_marked, Reach, Reachable}
use Rattle.account.specs.Lists.{sum_of}
use Rattle.account.specs.Lanes.{lane}
use Rattle.level.specs.Sizes.{record_least, record_most}
use Rattle.level.specs.Level.{Level, IsLevel}
use Rattle.level.specs.Record.{IsRecord}

-- FORMAT 7.1: the lane counts that can be named
abbrev pub LaneCount : ℕ → Type 0
LaneCount R = (R ≡ 2) ⊎ (R ≡ 4) ⊎ (R ≡ 8) ⊎ (R ≡ 16)

-- ---- over the lanes

module _ (R : ℕ) where
  -- FORMAT 7.2: data cells of a lane, for n cells in all
  abbrev pub columns : ℕ → ℕ
  columns n = (n + (R - 1)) / R

  -- FORMAT 7.9: R (k + 5) cells, where k is that of the shortest record, of the longest, or between
  pub record Legal (N : ℕ) : Type 0 where
    pub k : ℕ
    pub from : columns record_least ≤ k
    pub to : k ≤ columns record_most
    pub cells : N ≡ R * (k + 5)

  -- FORMAT 7.14: t is within reach of s, lane for lane
  pub record StripReach (marks s t : List ℕ) : Type 0 where
    pub same_length : length t ≡ length s
    pub each : (j : ℕ) → j < R → Reach (lane R j marks) (lane R j s) (lane R j t)

  -- FORMAT 7.14, 7.19: the unmarked cells of lane j in which t and s differ, and the marked ones
  abbrev pub wrong_in : List ℕ → List ℕ → List ℕ → ℕ → ℕ
  wrong_in marks s t j = count_to (differs_at (lane R j marks) (lane R j s) (lane R j t)) (length s / R)

  abbrev pub repainted_in : List ℕ → List ℕ → List ℕ → ℕ → ℕ
  repainted_in marks s t j = count_to (repainted_at (lane R j marks) (lane R j s) (lane R j t)) (length s / R)

  -- FORMAT 7.14: its marked cells
  abbrev pub marked_in : List ℕ → ℕ → ℕ
  marked_in marks j = count_to (is_marked (lane R j marks)) (length marks / R)

  -- FORMAT 7.15: mended, the unmarked cells in which t and s differ, over all lanes
  unfoldable pub mended_of : List ℕ → List ℕ → List ℕ → ℕ
  unfolding sum_of
  mended_of marks s t = sum_of R (wrong_in marks s t)

  -- FORMAT 7.19: repainted, the marked cells in which they differ, over all lanes
  unfoldable pub repainted_of : List ℕ → List ℕ → List ℕ → ℕ
  unfolding sum_of
  repainted_of marks s t = sum_of R (repainted_in marks s t)

-- FORMAT 7.16: how far w is from a over b, in parts of one b-th
unfoldable pub distance : ℕ → ℕ → ℕ → ℕ
distance a b w = (a - b * w) + (b * w - a)

-- FORMAT 7.16: w is the whole number nearest to a over b: none is closer, and of two that are equally near it is the even one
pub record Nearest (a b w : ℕ) : Type 0 where
  pub closest : (v : ℕ) → distance a b w ≤ distance a b v
  pub even : (v : ℕ) → v ≢ w → distance a b v ≡ distance a b w → w % 2 ≡ 0

-- FORMAT 7.16: wear, of so many cells mended out of N
abbrev pub IsWear : ℕ → ℕ → ℕ → Type 0
IsWear mended N w = Nearest (100 * mended) N w

-- ---- over the field and the lanes

module _ (O : Ops) (R : ℕ) where
  -- FORMAT 7.3 to 7.6: the cells cs with zeros after them, dealt to the lanes: cell q is cell q div R of lane q mod R. Each lane is a clean word.
  pub record Dealt (cs s : List ℕ) : Type 0 where
    pub cells : Cells O s
    pub size : length s ≡ R * (columns R (length cs) + 5)
    pub clean : (j : ℕ) → j < R → Clean O (lane R j s)
    pub laid : (q : ℕ) → q < R * columns R (length cs) → get_or (lane R (q % R) s) (q / R) 0 ≡ get_or cs q 0

  -- FORMAT 7.7: the strip of a level: its record, dealt
  pub record IsStrip (l : Level) (s : List ℕ) : Type 0 where
    pub bs : List ℕ
    pub is_record : IsRecord l bs
    pub dealt : Dealt bs s

  -- FORMAT 11.2: a level of a version up to this one, with its strip, of the same length and within reach
  pub record Reached (upto : ℕ) (marks s : List ℕ) (l : Level) (t : List ℕ) : Type 0 where
    pub is_level : IsLevel l
    pub not_newer : l.version ≤ upto
    pub is_strip : IsStrip l t
    pub reach : StripReach R marks s t

  -- FORMAT 9.6: lane j can be mended
  abbrev pub Mendable : List ℕ → List ℕ → ℕ → Type 0
  Mendable marks s j = Reachable O (lane R j marks) (lane R j s)

  -- FORMAT 9.48: t is what s is mended to: each lane is clean and within reach
  pub record Mends (marks s t : List ℕ) : Type 0 where
    pub cells : Cells O t
    pub clean : (j : ℕ) → j < R → Clean O (lane R j t)
    pub reach : StripReach R marks s t

  -- FORMAT 9.44: the lowest lane beyond reach
  pub record Lowest (marks s : List ℕ) (j : ℕ) : Type 0 where
    pub lane_below : j < R
    pub beyond : Mendable marks s j → ⊥
    pub below : (i : ℕ) → i < j → Mendable marks s i
