-- FORMAT 8.10: writing a record.
use Rattle.std.specs.Prelude.{◌≡◌, List, ℕ, length, take, drop, Result}
use Rattle.rules.specs.declared.Refusal.{Refusal}
use Rattle.rules.specs.Refusal.{First, written_numbers}
use Rattle.level.specs.Sizes.{record_most}
use Rattle.level.specs.Level.{Level}
use Rattle.level.specs.Record.{record_length, IsRecord}
use Rattle.level.specs.Writing.{writing_level}

-- FORMAT 8.10, 10.5: the record in front, its length returned; what is past it keeps its value
pub record RecordWritesAs (l : Level) (old new : List ℕ) (a : Result ℕ Refusal) : Type 0 where
  pub code : First (writing_level record_most l (length old)) (written_numbers a).code
  pub value : (written_numbers a).code ≡ 0 → (written_numbers a).value ≡ record_length l.width l.height
  pub is_record : (written_numbers a).code ≡ 0 → IsRecord l (take (record_length l.width l.height) new)
  pub past : (written_numbers a).code ≡ 0 → drop (record_length l.width l.height) new ≡ drop (record_length l.width l.height) old
  pub kept : ((written_numbers a).code ≡ 0 → ⊥) → new ≡ old
