-- Parts: the ranges of a level that is lent, and its record put in a buffer.
use Rattle.std.specs.Prelude.{◌≡◌, List, [], ◌∷◌, ℕ, ◌+◌, ◌*◌, ◌/◌, ◌%◌, ◌≤◌, take, drop}
use Rattle.level.specs.Sizes.{record_most}
use Rattle.level.specs.Level.{Level, Sized}
use Rattle.level.specs.Record.{record_length, IsRecord}
use Rattle.fields.specs.declared.head.Head.{Head}
use Rattle.fields.specs.Head.{VersionTaken}

-- the record of a level put in front of a buffer, its length told
pub record RecordPut (l : Level) (old new : List ℕ) (n : ℕ) : Type 0 where
  pub size : n ≡ record_length l.width l.height
  pub short : n ≤ record_most
  pub is_record : IsRecord l (take n new)
  pub past : drop n new ≡ drop n old

-- the fields are within their ranges, and the version is taken
pub record InRange (upto : ℕ) (f : Head) : Type 0 where
  pub version_taken : VersionTaken upto f.version
  pub sized : Sized f.width f.height
  pub par_small : f.par ≤ 1023

-- version, width, height and par
abbrev pub head_bytes : Head → List ℕ
head_bytes f = (f.version * 16 + f.width / 2) ∷ (f.width % 2 * 128 + f.height * 4 + f.par / 256) ∷ (f.par % 256) ∷ []
