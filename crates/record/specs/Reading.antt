-- FORMAT 8.11: reading a record.
use Rattle.std.specs.Prelude.{◌≡◌, List, ℕ, ◌*◌, ◌≤◌, length, drop, Result, Ok, Err}
use Rattle.level.specs.Record.{IsRecord}
use Rattle.level.specs.Level.{IsLevel}
use Rattle.level.specs.Reading.{reading_record, ReadNumbers, refused_at, returned}
use Rattle.rules.specs.declared.Refusal.{Refusal}
use Rattle.rules.specs.Refusal.{First, number_of}
use Rattle.fields.specs.declared.head.Head.{Head}

-- the numbers of an answer: a record has no lanes, and nothing in it is mended
abbrev pub record_numbers : Result Head Refusal → ReadNumbers
record_numbers (Ok f) = record { code = 0; lane = 0; version = f.version; width = f.width; height = f.height; par = f.par; mended = 0; repainted = 0; wear = 0; lanes = 0 }
record_numbers (Err e) = refused_at (number_of e) 0

-- FORMAT 8.11, 8.14, 8.29, 10.6: bs is the record of the level returned, which is of a version up to this one; tile bytes past the level keep
-- their value
pub record RecordReadsAs (upto : ℕ) (bs old new : List ℕ) (a : Result Head Refusal) : Type 0 where
  pub code : First (reading_record upto bs (length old)) (record_numbers a).code
  pub is_level : (record_numbers a).code ≡ 0 → IsLevel (returned (record_numbers a) new)
  pub not_newer : (record_numbers a).code ≡ 0 → (record_numbers a).version ≤ upto
  pub is_record : (record_numbers a).code ≡ 0 → IsRecord (returned (record_numbers a) new) bs
  pub past : (record_numbers a).code ≡ 0
      → drop ((record_numbers a).width * (record_numbers a).height) new ≡ drop ((record_numbers a).width * (record_numbers a).height) old
  pub kept : ((record_numbers a).code ≡ 0 → ⊥) → new ≡ old
