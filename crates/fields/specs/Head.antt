-- Parts: the fields in front of the tiles.
use Rattle.std.specs.Prelude.{◌≡◌, List, ℕ, ◌≤◌}
use Rattle.level.specs.Level.{Known, Level}
use Rattle.level.specs.Record.{field_at}
use Rattle.level.specs.Writing.{lent}
use Rattle.fields.specs.declared.head.Head.{Head}

-- the fields in front of the tiles
pub record Heads (bs : List ℕ) (r : Head) : Type 0 where
  pub version : r.version ≡ field_at bs 0 4
  pub width : r.width ≡ field_at bs 4 5
  pub height : r.height ≡ field_at bs 9 5
  pub par : r.par ≡ field_at bs 14 10

-- the level that is lent to a writer by its fields and its tiles
abbrev pub lent_as : Head → List ℕ → Level
lent_as f tiles = lent f.version f.width f.height f.par tiles

-- a version that there is, and that is taken: any up to this one
pub record VersionTaken (upto version : ℕ) : Type 0 where
  pub known : Known version
  pub not_newer : version ≤ upto

-- of such a version, and of a size that a level has
pub record HeadRanged (upto version width height : ℕ) : Type 0 where
  pub version_taken : VersionTaken upto version
  pub wide : 1 ≤ width
  pub high : 1 ≤ height
