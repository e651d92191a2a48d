-- Parts: rows judged, and a text put.
use Rattle.std.specs.Prelude.{◌≡◌, List, ◌++◌, ℕ, ◌*◌, length, drop, Result}
use Rattle.fields.specs.declared.head.Head.{Head}
use Rattle.rules.specs.declared.Refusal.{Refusal}
use Rattle.rules.specs.Refusal.{First, asked}
use Rattle.level.specs.Level.{Level, IsLevel}
use Rattle.record.specs.Reading.{record_numbers}
use Rattle.level.specs.Reading.{returned}
use Rattle.typed.specs.Text.{level_typed, text_of}
use Rattle.typed.specs.Parts.{IsRows}
use Rattle.text.specs.Reading.{typing}

-- rows judged, and their tiles written where nothing is refused
pub record RowsReadAs (par : ℕ) (body old new : List ℕ) (a : Result Head Refusal) : Type 0 where
  pub has : IsRows body
  pub code : First (asked (λ ask. ask (level_typed par has.rows)) typing) (record_numbers a).code
  pub is_level : (record_numbers a).code ≡ 0 → IsLevel (level_typed par has.rows)
  pub says : (record_numbers a).code ≡ 0 → returned (record_numbers a) new ≡ level_typed par has.rows
  pub past : (record_numbers a).code ≡ 0
      → drop ((record_numbers a).width * (record_numbers a).height) new ≡ drop ((record_numbers a).width * (record_numbers a).height) old
  pub kept : ((record_numbers a).code ≡ 0 → ⊥) → new ≡ old

-- the text of a level put in front of a buffer, its length told
pub record TextPut (l : Level) (old new : List ℕ) (n : ℕ) : Type 0 where
  pub size : n ≡ length (text_of l)
  pub text : new ≡ text_of l ++ drop n old
