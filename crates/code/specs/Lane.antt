-- FORMAT 8.6: repair of a lane by value.
use Rattle.std.specs.Prelude.{◌≡◌, List, ℕ, take, drop}
use Rattle.gf256.specs.Gf256.{gf256}
use Rattle.code.specs.Repair.{Repairs}
use Rattle.code.specs.declared.lane.Lane.{Lane}
use Rattle.code.specs.declared.lane.LaneRepair.{LaneRepair}

-- FORMAT 9.1: how many bytes a lane has at most
abbrev pub lane_most : ℕ
lane_most = 187

-- FORMAT 8.6: the word that a lane holds
abbrev pub word_of : Lane → List ℕ
word_of l = take l.len l.bytes

-- FORMAT 8.6, 10.7: the repair of the word that a lane holds; what is past its length keeps its value
pub record LaneRepairsAs (lane marks : Lane) (r : LaneRepair) : Type 0 where
  pub repairs : Repairs gf256 lane_most lane.len marks.len (word_of marks) (word_of lane) (word_of r.lane) r.answer
  pub same_len : r.lane.len ≡ lane.len
  pub past : drop lane.len r.lane.bytes ≡ drop lane.len lane.bytes
