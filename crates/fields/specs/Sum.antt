-- Parts: refusals 9 and 10 of a board, and of what its tiles add.
use Rattle.std.specs.Prelude.{◌≡◌, List, ℕ, ◌/◌, ◌%◌, ◌^◌, ◌≤◌, ◌<◌, length, cond}
use lib.Dec.{ltb}
use Rattle.rules.specs.Refusal.{First, asked}
use Rattle.level.specs.Sizes.{tiles_most}
use Rattle.level.specs.Level.{Level, boarding}
use Rattle.tiles.specs.Sum.{weight}

-- FORMAT 5.10: crates do not fall short of goals, and before version 2 there are as many
pub record Matched (v crates goals : ℕ) : Type 0 where
  pub enough : goals ≤ crates
  pub as_many : v < 2 → crates ≡ goals

-- a board of version v, as far as refusals 9 and 10 ask
abbrev pub board_of : ℕ → List ℕ → Level
board_of v tiles = record { version = v; width = 0; height = 0; par = 0; tiles = tiles }

abbrev pub BoardCode : ℕ → List ℕ → ℕ → Type 0
BoardCode v tiles = First (asked (λ ask. ask (board_of v tiles)) boarding)

-- what tiles with codes of the version add stays below this: four sums of ten bits, and from version 2 on the pits above them
abbrev pub sum_most : ℕ → ℕ
sum_most v = cond (ltb v 2) (2 ^ 40) (2 ^ 50)

-- FORMAT 5.8 to 5.10, 5.13, of the four sums: one player, crates for the goals, and a crate off its goal
pub record SumFair (v x : ℕ) : Type 0 where
  pub one_player : x % 1024 ≡ 1
  pub unfinished : 1 ≤ x / 1073741824 % 1024
  pub matched : Matched v (x / 1024 % 1024) (x / 1048576 % 1024)

-- the refusal of every board whose tiles add x
pub record SumCode (v x code : ℕ) : Type 0 where
  pub code_of : (tiles : List ℕ) → length tiles ≤ tiles_most → x ≡ weight tiles → BoardCode v tiles code
