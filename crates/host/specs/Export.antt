-- What an export promises: the number it returns is the packing of an answer that keeps the entry's promise.
use Rattle.std.specs.Prelude.{◌≡◌, List, ℕ}
use Rattle.gf256.specs.Gf256.{gf256}
use Rattle.rules.specs.Refusal.{written_numbers}
use Rattle.code.specs.Word.{tested_numbers, WritesAs, TestsAs}
use Rattle.code.specs.Repair.{repaired_numbers, RepairsAs}
use Rattle.level.specs.Level.{Level}
use Rattle.record.specs.Writing.{RecordWritesAs}
use Rattle.record.specs.Reading.{record_numbers, RecordReadsAs}
use Rattle.text.specs.Writing.{TextWritesAs}
use Rattle.text.specs.Reading.{TextReadsAs}
use Rattle.strip.specs.Writing.{StripWritesAs}
use Rattle.strip.specs.Reading.{strip_numbers, StripReadsAs}
use Rattle.pool.specs.Pooled.{Picture, pool_numbers, PoolsAs}
use Rattle.tiny.specs.Tiny.{Place, next_numbers, StepsAs}
use Rattle.packing.specs.Packed.{packed_length, packed_read, packed_repair, packed_pool}

-- r is the packing of an answer that keeps the entry's promise
pub record Export {A : Type 0} (keeps : A → Type 0) (packed : A → ℕ) (r : ℕ) : Type 0 where
  pub answer : A
  pub kept : keeps answer
  pub is : r ≡ packed answer

abbrev pub WriteExport : List ℕ → List ℕ → List ℕ → ℕ → Type 0
WriteExport d old new = Export (WritesAs d old new) (λ a. packed_length (written_numbers a))

abbrev pub TestExport : List ℕ → ℕ → Type 0
TestExport w = Export (TestsAs w) (λ a. packed_length (tested_numbers a))

-- a word of at most so many bytes
abbrev pub RepairExport : ℕ → List ℕ → List ℕ → List ℕ → ℕ → Type 0
RepairExport most marks old new = Export (RepairsAs gf256 most marks old new) (λ a. packed_repair (repaired_numbers a))

abbrev pub RecordExport : Level → List ℕ → List ℕ → ℕ → Type 0
RecordExport l old new = Export (RecordWritesAs l old new) (λ a. packed_length (written_numbers a))

-- of versions up to this one, and so for strips
abbrev pub RecordReadExport : ℕ → List ℕ → List ℕ → List ℕ → ℕ → Type 0
RecordReadExport upto bs old new = Export (RecordReadsAs upto bs old new) (λ a. packed_read (record_numbers a))

abbrev pub TextExport : Level → List ℕ → List ℕ → ℕ → Type 0
TextExport l old new = Export (TextWritesAs l old new) (λ a. packed_length (written_numbers a))

abbrev pub TextReadExport : List ℕ → List ℕ → List ℕ → ℕ → Type 0
TextReadExport text old new = Export (TextReadsAs text old new) (λ a. packed_read (record_numbers a))

abbrev pub StripExport : ℕ → Level → List ℕ → List ℕ → ℕ → Type 0
StripExport R l old new = Export (StripWritesAs R l old new) (λ a. packed_length (written_numbers a))

abbrev pub StripReadExport : ℕ → ℕ → List ℕ → List ℕ → List ℕ → List ℕ → List ℕ → List ℕ → ℕ → Type 0
StripReadExport upto R s marks tiles tiles' scratch scratch' = Export (StripReadsAs upto R s marks tiles tiles' scratch scratch') (λ a. packed_read (strip_numbers a))

abbrev pub PoolExport : ℕ → Picture → Picture → Picture → Picture → ℕ → Type 0
PoolExport R a b out out' = Export (PoolsAs R a b out out') (λ r. packed_pool (pool_numbers r))

abbrev pub TinyExport : ℕ → ℕ → Place → List ℕ → List ℕ → ℕ → Type 0
TinyExport w h p old new = Export (StepsAs w h p old new) (λ a. packed_length (next_numbers a))
