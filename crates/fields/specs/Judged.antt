-- Parts: a record judged, and its tiles written.
use Rattle.std.specs.Prelude.{◌≡◌, List, ◌++◌, ℕ, ◌*◌, ◌≤◌, drop, Result}
use Rattle.std.specs.Result.{IfOk, IfErr}
use Rattle.rules.specs.declared.Refusal.{Refusal}
use Rattle.rules.specs.Refusal.{First, asked, code_of}
use Rattle.level.specs.Sizes.{tiles_most}
use Rattle.level.specs.Reading.{tiles_of, judging}
use Rattle.fields.specs.declared.head.Head.{Head}
use Rattle.fields.specs.Head.{Heads}

-- what bytes that are not refused spell
pub record Spells (bs : List ℕ) (f : Head) : Type 0 where
  pub heads : Heads bs f
  pub few : f.width * f.height ≤ tiles_most

-- a record (lanes = 1), or the data cells of a strip, judged by a reader of versions up to this one
pub record JudgedAs (upto lanes : ℕ) (bs : List ℕ) (r : Result Head Refusal) : Type 0 where
  pub first : First (asked (λ ask. ask bs) (judging upto lanes)) (code_of r)
  pub spells : IfOk r (λ f. Spells bs f)

-- the bytes judged, and their tiles written where nothing is refused
pub record AcceptedAs (upto lanes : ℕ) (bs old new : List ℕ) (r : Result Head Refusal) : Type 0 where
  pub first : First (asked (λ ask. ask bs) (judging upto lanes)) (code_of r)
  pub heads : IfOk r (λ f. Heads bs f)
  pub tiles : IfOk r (λ f. new ≡ tiles_of bs ++ drop (f.width * f.height) old)
  pub kept : IfErr r (λ e. new ≡ old)
