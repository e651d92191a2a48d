-- FORMAT 8.13, 11.2: reading a strip. A level is returned exactly when one has a strip of that length within reach.
use Rattle.std.specs.Prelude.{◌≡◌, List, ◌++◌, ℕ, ◌*◌, ◌≤◌, length, drop, Result, Ok, Err}
use Rattle.account.specs.Field.{Ops}
use Rattle.gf256.specs.Gf256.{gf256}
use Rattle.rules.specs.Refusal.{Rule, First, Hold, asked, number_of}
use Rattle.level.specs.Sizes.{tiles_most, scratch_least}
use Rattle.level.specs.Level.{Level}
use Rattle.level.specs.Record.{field_at}
use Rattle.level.specs.Strip.{Reached, Lowest, mended_of, repainted_of, IsWear}
use Rattle.level.specs.Reading.{ReadNumbers, refused_at, returned, entering, mending, judging, tiles_of}
use Rattle.strip.specs.declared.read.Read.{Read}
use Rattle.strip.specs.declared.read.Unread.{Unread}
use Rattle.fields.specs.Judged.{AcceptedAs}
use Rattle.fields.specs.declared.head.Head.{Head}
use Rattle.marks.specs.declared.Counts.{Counts}

-- what reading answers: a level's numbers, or why there is none
abbrev pub Reading : Type 0
Reading = Result Read Unread

-- the numbers of an answer
abbrev pub strip_numbers : Reading → ReadNumbers
strip_numbers (Ok r) = record {
  code = 0;
  lane = 0;
  version = r.version;
  width = r.width;
  height = r.height;
  par = r.par;
  mended = r.mended;
  repainted = r.repainted;
  wear = r.wear;
  lanes = r.lanes;
}
strip_numbers (Err u) = refused_at (number_of u.refusal) u.lane

-- FORMAT 11.4 to 11.7, 11.13, 10.6: the level returned has a strip within reach, and no other level has, of the versions up to this one. Mended and
-- repainted count against that strip; tiles past the level keep their value.
pub record LevelRead (O : Ops) (upto R : ℕ) (s marks tiles tiles' : List ℕ) (n : ReadNumbers) : Type 0 where
  pub strip : List ℕ
  pub reached : Reached O R upto marks s (returned n tiles') strip
  pub only : (l : Level) (t : List ℕ) → Reached O R upto marks s l t → l ≡ returned n tiles'
  pub mended_is : n.mended ≡ mended_of R marks s strip
  pub repainted_is : n.repainted ≡ repainted_of R marks s strip
  pub lanes_is : n.lanes ≡ R
  pub wear_is : IsWear n.mended (length s) n.wear
  pub rest : drop (n.width * n.height) tiles' ≡ drop (n.width * n.height) tiles

-- FORMAT 8.13, 9.44, 9.45, 10.2 to 10.4: refused before the picture was looked at, the scratch is kept; refused by the picture, no level is
-- within reach. Only then, and with a level, is the scratch free. Versions up to `upto` are taken; the rules `early` are asked before the picture is.
pub record ReadsWith (upto R : ℕ) (early : List Rule) (s marks tiles tiles' scratch scratch' : List ℕ) (a : Reading) : Type 0 where
  pub code : First (early ++ mending gf256 R upto s marks) (strip_numbers a).code
  pub lane : (strip_numbers a).code ≡ 6 → Lowest gf256 R marks s (strip_numbers a).lane
  pub other_lane : ((strip_numbers a).code ≡ 6 → ⊥) → (strip_numbers a).lane ≡ 0
  pub level : (strip_numbers a).code ≡ 0 → LevelRead gf256 upto R s marks tiles tiles' (strip_numbers a)
  pub no_level : Hold early → ((strip_numbers a).code ≡ 0 → ⊥) → (l : Level) (t : List ℕ)
      → Reached gf256 R upto marks s l t → ⊥
  pub tiles_kept : ((strip_numbers a).code ≡ 0 → ⊥) → tiles' ≡ tiles
  pub scratch_kept : (Hold early → ⊥) → scratch' ≡ scratch

-- the promise of the strip reader of versions up to this one
abbrev pub StripReadsAs : ℕ → ℕ → List ℕ → List ℕ → List ℕ → List ℕ → List ℕ → List ℕ → Reading → Type 0
StripReadsAs upto R s marks tiles tiles' scratch scratch' =
    ReadsWith upto R (entering R s marks (length tiles) (length scratch)) s marks tiles tiles' scratch scratch'

-- FORMAT 11.1: a strip that we read, with its marks: the reader was lent buffers that are long enough
pub record WeRead (upto R : ℕ) (s marks : List ℕ) : Type 0 where
  pub tiles : List ℕ
  pub tiles' : List ℕ
  pub scratch : List ℕ
  pub scratch' : List ℕ
  pub answer : Reading
  pub promise : StripReadsAs upto R s marks tiles tiles' scratch scratch' answer
  pub room : tiles_most ≤ length tiles
  pub room' : scratch_least ≤ length scratch

-- whatever the reader then answers is as P says of the numbers and the tiles
abbrev pub Answers : ℕ → ℕ → List ℕ → List ℕ → (ReadNumbers → List ℕ → Type 0) → Type 0
Answers upto R s marks P = (r : WeRead upto R s marks) → P (strip_numbers r.answer) r.tiles'

-- FORMAT 8.15: the level l is returned
pub record Gives (l : Level) (n : ReadNumbers) (tiles' : List ℕ) : Type 0 where
  pub read : n.code ≡ 0
  pub level : returned n tiles' ≡ l

-- ---- parts

-- the record bs of a strip of N cells, judged and unpacked
pub record FinishedAs (upto R : ℕ) (bs : List ℕ) (N e d : ℕ) (tiles tiles' : List ℕ) (n : ReadNumbers) : Type 0 where
  pub first : First (asked (λ ask. ask bs) (judging upto R)) n.code
  pub lane : n.lane ≡ 0
  pub version : n.code ≡ 0 → n.version ≡ field_at bs 0 4
  pub wide : n.code ≡ 0 → n.width ≡ field_at bs 4 5
  pub high : n.code ≡ 0 → n.height ≡ field_at bs 9 5
  pub par : n.code ≡ 0 → n.par ≡ field_at bs 14 10
  pub mended : n.code ≡ 0 → n.mended ≡ e
  pub repainted : n.code ≡ 0 → n.repainted ≡ d
  pub wear : n.code ≡ 0 → IsWear e N n.wear
  pub lanes : n.code ≡ 0 → n.lanes ≡ R
  pub tiles_are : n.code ≡ 0 → tiles' ≡ tiles_of bs ++ drop (n.width * n.height) tiles
  pub kept : (n.code ≡ 0 → ⊥) → tiles' ≡ tiles

-- the answer r for a record that was accepted with the fields f is the one for every such record
abbrev pub FinishesAs : ℕ → Head → ℕ → Counts → Read → Type 0
FinishesAs R f N c r = (upto : ℕ) (bs tiles tiles' : List ℕ) → AcceptedAs upto R bs tiles tiles' (Ok f)
    → FinishedAs upto R bs N c.mended c.repainted tiles tiles' (strip_numbers (Ok r))
