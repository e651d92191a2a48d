-- A record accepted: judged, and its tiles written where nothing is refused.
use mathlib.Core.Path.{◌≡◌, refl, sym, ap, ap₂, ◌∙◌}
use mathlib.Core.List.{List, ◌++◌}
use Prim.Native.Nat.{ℕ, ◌*◌, ◌≤◌, ◌<◌}
use native.Mathlib.Omega.{arith}
use lib.ListN.{length, take, drop}
use lib.Seq.{take_at, drop_at}
use Rattle.rules.specs.Refusal.{First, Hold, asked}
use Rattle.rules.proofs.Laws.{all_hold}
use Rattle.level.specs.Level.{Level}
use Rattle.level.specs.Record.{field_at}
use Rattle.level.specs.Reading.{tiles_in, tiles_of, level_of, judging}
use Rattle.level.proofs.Fields.{same_level}
use Rattle.level.proofs.Judged.{length_tiles}
use Rattle.tiles.specs.Part.{tiles_from}
use Rattle.tiles.proofs.Part.{part_of, tiles_from_part}
use Rattle.std.specs.Prelude.{Ok, Err}
use Rattle.rules.specs.declared.Refusal.{Refusal}
use Rattle.fields.specs.declared.head.Head.{Head}
use Rattle.fields.specs.Judged.{JudgedAs, AcceptedAs}
use Rattle.fields.proofs.Judging.{part_fits}

-- what is not refused has passed every rule
pub passed : (upto R : ℕ) (bs : List ℕ) (c : ℕ) → c ≡ 0 → First (asked (λ ask. ask bs) (judging upto R)) c → Hold (asked (λ ask. ask bs) (judging upto R))
passed upto R bs c z f = all_hold 10 (asked (λ ask. ask bs) (judging upto R)) c tt f z

module _ (upto lanes : ℕ) (bs old : List ℕ) where
  pub rejected : (e : Refusal) → JudgedAs upto lanes bs (Err e) → AcceptedAs upto lanes bs old old (Err e)
  rejected e J = record { first = J.first; heads = tt; tiles = tt; kept = refl }

  module _ (f : Head) (J : JudgedAs upto lanes bs (Ok f)) where
    area : f.width * f.height ≡ field_at bs 4 5 * field_at bs 9 5
    area = ap₂ (λ (x y : ℕ). x * y) J.spells.heads.width J.spells.heads.height

    pub room_for : 0 < lanes → 3 * (f.width * f.height) ≤ 8 * length (part_of bs)
    room_for some = omega (arith, area, part_fits lanes bs some (passed upto lanes bs 0 refl J.first).1.0)

    pub accepted : (new : List ℕ) → new ≡ tiles_from (part_of bs) (f.width * f.height) ++ drop (f.width * f.height) old
        → AcceptedAs upto lanes bs old new (Ok f)
    accepted new e = record {
      first = J.first;
      heads = J.spells.heads;
      tiles = e ∙ ap (λ (ts : List ℕ). ts ++ drop (f.width * f.height) old) (tiles_from_part bs (f.width * f.height) ∙ ap (tiles_in bs) area);
      kept = tt;
    }

-- the level that the bytes spell is the one returned, and what is past its tiles keeps its value
module _ (bs old new : List ℕ) (v w h par : ℕ) (ev : v ≡ field_at bs 0 4) (ew : w ≡ field_at bs 4 5) (eh : h ≡ field_at bs 9 5) (ep : par ≡ field_at bs 14 10)
    (put : new ≡ tiles_of bs ++ drop (w * h) old) where
  abbrev made : Level
  made = record { version = v; width = w; height = h; par = par; tiles = take (w * h) new }

  count : length (tiles_of bs) ≡ w * h
  count = length_tiles bs (field_at bs 4 5 * field_at bs 9 5) ∙ sym (ap₂ (λ (x y : ℕ). x * y) ew eh)

  pub level_is : level_of bs ≡ record { version = v; width = w; height = h; par = par; tiles = take (w * h) new }
  level_is =
      same_level (level_of bs) made (sym ev) (sym ew) (sym eh) (sym ep)
      (sym (ap (take (w * h)) put ∙ take_at (tiles_of bs) (drop (w * h) old) (w * h) count))

  pub tiles_past : drop (w * h) new ≡ drop (w * h) old
  tiles_past = ap (drop (w * h)) put ∙ drop_at (tiles_of bs) (drop (w * h) old) (w * h) count
