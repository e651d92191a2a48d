-- Parts: cells of a strip that are to be put right, noted lane by lane.
use Rattle.std.specs.Prelude.{◌≡◌, List, ℕ, ◌+◌, ◌/◌, ◌≤◌, ◌<◌, length, take}
use Rattle.account.specs.Lanes.{lane}
use Rattle.account.specs.Errata.{Applied}
use Rattle.gf256.specs.Gf256.{gf256}
use Rattle.values.specs.declared.Errata.{Errata}
use Rattle.errata.specs.Errata.{ErrataFor}
use Rattle.marks.specs.Marks.{CountsAll}
use Rattle.marks.specs.declared.Counts.{Counts}
use Rattle.code.specs.Lane.{lane_most, word_of}
use Rattle.code.specs.declared.lane.Lane.{Lane}
use Rattle.patches.specs.declared.Fixes.{Fixes}
use Rattle.patches.specs.Patched.{patched}

-- the strip s with the noted cells put right
abbrev pub fixed : Fixes → List ℕ → List ℕ
fixed f s = patched f.cells f.bytes f.count s

-- there is room for the cells of a lane more
pub record Room (f : Fixes) : Type 0 where
  pub left : f.count + 5 ≤ 80
  pub cells_long : length f.cells ≡ 80
  pub bytes_long : length f.bytes ≡ 80

-- what noting the errata e goes by, where w is lane l of R, and the marks are those of the strip
pub record Noting (R l : ℕ) (w : Lane) (e : Errata) (marks : List ℕ) (f : Fixes) : Type 0 where
  pub inside : l < R
  pub lanes : R ≤ 16
  pub short : w.len ≤ lane_most
  pub errata : ErrataFor w.len e
  pub matched : length marks / R ≡ w.len
  pub room : Room f

-- the first i of them are noted: with what is noted now put right, lane l of a strip is w with these added, if it was w, and the other lanes are
-- as they were; the counts are of the cells that they change
pub record Noted (R l : ℕ) (w : Lane) (e : Errata) (marks : List ℕ) (f : Fixes) (i : ℕ) (f' : Fixes) (c : Counts) : Type 0 where
  pub noted : f'.count ≡ f.count + i
  pub cells_long : length f'.cells ≡ 80
  pub bytes_long : length f'.bytes ≡ 80
  pub own : (s : List ℕ) → length s / R ≡ w.len → lane R l (fixed f s) ≡ word_of w
      → Applied gf256 (take i e.cells) (take i e.values) (word_of w) (lane R l (fixed f' s))
  pub others : (s : List ℕ) → length s / R ≡ w.len → (j : ℕ) → j < R → (j ≡ l → ⊥) → lane R j (fixed f' s) ≡ lane R j (fixed f s)
  pub counts : CountsAll (lane R l marks) (take i e.cells) (take i e.values) c

-- ---- the same of a lane of the strip s, which is taken out by value for that

abbrev pub TakenOut : ℕ → ℕ → List ℕ → Lane → Type 0
TakenOut R l s w = (w.len ≡ length s / R) × (word_of w ≡ lane R l s)

abbrev pub LaneNoting : (R l : ℕ) → Errata → (s marks : List ℕ) → Fixes → Type 0
LaneNoting R l e s marks f = (w : Lane) → TakenOut R l s w → Noting R l w e marks f

abbrev pub LaneNoted : (R l : ℕ) → Errata → (s marks : List ℕ) → (f f' : Fixes) → Counts → Type 0
LaneNoted R l e s marks f f' c = (w : Lane) × TakenOut R l s w × Noted R l w e marks f e.count f' c
