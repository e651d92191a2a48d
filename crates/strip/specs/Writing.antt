-- FORMAT 8.12: writing a strip.
use Rattle.std.specs.Prelude.{◌≡◌, List, ℕ, ◌+◌, ◌*◌, length, take, drop, Result}
use Rattle.gf256.specs.Gf256.{gf256}
use Rattle.rules.specs.declared.Refusal.{Refusal}
use Rattle.rules.specs.Refusal.{Rule, First, written_numbers}
use Rattle.level.specs.Level.{Level}
use Rattle.level.specs.Record.{record_length}
use Rattle.level.specs.Strip.{columns, IsStrip}
use Rattle.level.specs.Writing.{writing_strip}

-- FORMAT 7.6: the cells of a level's strip
abbrev pub strip_length : ℕ → Level → ℕ
strip_length R l = R * (columns R (record_length l.width l.height) + 5)

-- FORMAT 8.12, 10.5: the level's strip in front, its length returned; what is past it keeps its value. These are the rules asked.
pub record WritesWith (R : ℕ) (rules : List Rule) (l : Level) (old new : List ℕ) (a : Result ℕ Refusal) : Type 0 where
  pub code : First rules (written_numbers a).code
  pub value : (written_numbers a).code ≡ 0 → (written_numbers a).value ≡ strip_length R l
  pub strip : (written_numbers a).code ≡ 0 → IsStrip gf256 R l (take (strip_length R l) new)
  pub past : (written_numbers a).code ≡ 0 → drop (strip_length R l) new ≡ drop (strip_length R l) old
  pub kept : ((written_numbers a).code ≡ 0 → ⊥) → new ≡ old

-- the promise of the strip writer
abbrev pub StripWritesAs : ℕ → Level → List ℕ → List ℕ → Result ℕ Refusal → Type 0
StripWritesAs R l old new = WritesWith R (writing_strip R l (length old)) l old new

-- FORMAT 7.12: t is a strip that we wrote, for the level l: the first N cells of the buffer where the strip writer returned N
pub record WeWrote (R : ℕ) (l : Level) (t : List ℕ) : Type 0 where
  pub old : List ℕ
  pub new : List ℕ
  pub answer : Result ℕ Refusal
  pub promise : StripWritesAs R l old new answer
  pub done : (written_numbers answer).code ≡ 0
  pub front : t ≡ take (written_numbers answer).value new

-- FORMAT 14.3, 14.4: how many neighbouring cells of a strip that we wrote a sticker may change, or hide where they are marked
abbrev pub changed_most : ℕ → ℕ
changed_most R = 2 * R

abbrev pub marked_most : ℕ → ℕ
marked_most R = 5 * R

-- ---- parts

-- the strip of a level laid in front of a buffer
pub record LaidAs (R : ℕ) (l : Level) (old new : List ℕ) (n : ℕ) : Type 0 where
  pub size : n ≡ strip_length R l
  pub strip : IsStrip gf256 R l (take (strip_length R l) new)
  pub past : drop (strip_length R l) new ≡ drop (strip_length R l) old
