-- FORMAT 8.10, 8.12: what the writers of a level are asked.
use Rattle.std.specs.Prelude.{List, ◌∷◌, ℕ, ◌≤◌}
use Rattle.rules.specs.Refusal.{Rule, unless, asked}
use Rattle.level.specs.Sizes.{strip_most}
use Rattle.level.specs.Level.{Level, newest, lending}
use Rattle.level.specs.Reading.{naming}

-- FORMAT 8.10, 8.12: the level that is lent to a writer
abbrev pub lent : ℕ → ℕ → ℕ → ℕ → List ℕ → Level
lent v w h par tiles = record { version = v; width = w; height = h; par = par; tiles = tiles }

-- FORMAT 9.40. 4: a buffer of at least so many bytes; 7 to 10 of the level, by a writer of versions up to this one
abbrev pub writing_upto : ℕ → ℕ → Level → ℕ → List Rule
writing_upto upto least l room = unless 4 (least ≤ room) ∷ asked (λ ask. ask l) (lending upto)

-- by one of every version
abbrev pub writing_level : ℕ → Level → ℕ → List Rule
writing_level = writing_upto newest

-- FORMAT 9.40, 9.15: by the strip writer. 15: the lane count; then as above
abbrev pub writing_strip : ℕ → Level → ℕ → List Rule
writing_strip R l room = naming R ∷ writing_level strip_most l room
