-- A size that is tiny, and a board that is judged.
use mathlib.Core.Path.{refl}
use mathlib.Core.List.{List}
use Prim.Native.Nat.{ℕ, ◌*◌, ◌≤◌}
use native.Mathlib.Nat.{mul-le-mul, le_refl}
use native.Mathlib.Omega.{arith}
use Rattle.rules.specs.declared.Refusal.{Refusal}
use Rattle.rules.specs.Refusal.{asked, number_of}
use Rattle.rules.proofs.Laws.{some_number, all_hold, none_first}
use Rattle.level.specs.Tile.{totals}
use Rattle.level.specs.Level.{Sized, AllTiles, Playable, boarding}
use Rattle.fields.specs.Sum.{board_of, BoardCode}
use Rattle.tiny.specs.Tiny.{Tiny}

module _ (w h : ℕ) (t : Tiny w h) where
  pub wide_most : w ≤ 6
  wide_most = omega (arith, mul-le-mul (le_refl w) t.high, t.few)

  pub high_most : h ≤ 6
  high_most = omega (arith, mul-le-mul t.wide (le_refl h), t.few)

  pub tiny_sized : Sized w h
  tiny_sized = record { wide = t.wide; not_wider = omega (arith, wide_most); high = t.high; not_higher = omega (arith, high_most) }

  pub some_tile : 1 ≤ w * h
  some_tile = omega (arith, mul-le-mul t.wide t.high)

-- ---- a board judged by refusals 9 and 10

pub is_fair : (ts : List ℕ) → BoardCode 1 ts 0 → Playable 1 (totals ts)
is_fair ts f = (all_hold 10 (asked (λ ask. ask (board_of 1 ts)) boarding) 0 tt f refl).1.0

pub not_fair : (ts : List ℕ) (e : Refusal) → BoardCode 1 ts (number_of e) → AllTiles 1 ts → Playable 1 (totals ts) → ⊥
not_fair ts e f a p = some_number e (none_first (asked (λ ask. ask (board_of 1 ts)) boarding) (number_of e) (a, (p, tt)) f)
