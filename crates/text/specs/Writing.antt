-- FORMAT 8.25: writing a text.
use Rattle.std.specs.Prelude.{◌≡◌, List, ◌++◌, ℕ, length, drop, Result}
use Rattle.rules.specs.declared.Refusal.{Refusal}
use Rattle.rules.specs.Refusal.{First, written_numbers}
use Rattle.level.specs.Level.{Level}
use Rattle.level.specs.Writing.{writing_upto}
use Rattle.typed.specs.Text.{text_of, text_most}

-- FORMAT 8.25, 10.5: of a level of version 1 the text in front, its length returned; what is past it keeps its value
pub record TextWritesAs (l : Level) (old new : List ℕ) (a : Result ℕ Refusal) : Type 0 where
  pub code : First (writing_upto 1 text_most l (length old)) (written_numbers a).code
  pub value : (written_numbers a).code ≡ 0 → (written_numbers a).value ≡ length (text_of l)
  pub text : (written_numbers a).code ≡ 0 → new ≡ text_of l ++ drop (length (text_of l)) old
  pub kept : ((written_numbers a).code ≡ 0 → ⊥) → new ≡ old
