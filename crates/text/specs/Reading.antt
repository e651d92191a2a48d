-- FORMAT 8.26: reading a text.
use Rattle.std.specs.Prelude.{◌≡◌, List, [], ◌∷◌, ℕ, ◌*◌, ◌≤◌, length, drop, Result}
use Rattle.fields.specs.declared.head.Head.{Head}
use Rattle.rules.specs.declared.Refusal.{Refusal}
use Rattle.rules.specs.Refusal.{Rule, unless, Question, asked, First}
use Rattle.level.specs.Sizes.{tiles_most}
use Rattle.level.specs.Level.{Level, Sized, ruling, IsLevel}
use Rattle.level.specs.Reading.{returned}
use Rattle.record.specs.Reading.{record_numbers}
use Rattle.typed.specs.Text.{IsText, SaysLevel}

-- FORMAT 9.53: what is asked holds of whatever level the text says
abbrev pub OfText : List ℕ → (Level → Type 0) → Type 0
OfText text ask = (l : Level) → SaysLevel text l → ask l

-- FORMAT 9.12, 9.10: 1 to 31 rows, the longest of 1 to 31 letters; the board keeps the rule
abbrev pub typing : List (Question Level)
typing = record { number = 12; asks = λ l. Sized l.width l.height } ∷ ruling ∷ []

-- FORMAT 9.40, 9.52. 4: the tile buffer; 11: all of the text; 12; 10
abbrev pub reading_text : List ℕ → ℕ → List Rule
reading_text text room = unless 4 (tiles_most ≤ room) ∷ unless 11 (IsText text) ∷ asked (OfText text) typing

-- FORMAT 8.26, 10.6, 13.8: the text says the level returned; tile bytes past the level keep their value. An answer has the numbers of a
-- record's
pub record TextReadsAs (text old new : List ℕ) (a : Result Head Refusal) : Type 0 where
  pub code : First (reading_text text (length old)) (record_numbers a).code
  pub is_level : (record_numbers a).code ≡ 0 → IsLevel (returned (record_numbers a) new)
  pub says : (record_numbers a).code ≡ 0 → SaysLevel text (returned (record_numbers a) new)
  pub past : (record_numbers a).code ≡ 0
      → drop ((record_numbers a).width * (record_numbers a).height) new ≡ drop ((record_numbers a).width * (record_numbers a).height) old
  pub kept : ((record_numbers a).code ≡ 0 → ⊥) → new ≡ old
