-- A record judged.
use mathlib.Core.Path.{◌≡◌, refl, sym, ap, ap₂, ◌∙◌, subst}
use mathlib.Core.Logic.{inr}
use mathlib.Core.List.{List}
use Prim.Native.Nat.{ℕ, ◌+◌, ◌*◌, ◌≤◌, ◌<◌}
use native.Mathlib.Omega.{arith}
use lib.ListN.{length}
use Rattle.std.specs.Prelude.{Ok, Err}
use Rattle.rules.specs.declared.Refusal.{Refusal}
use Rattle.rules.specs.declared.Refusal.TheVariants as refusal
use Rattle.rules.specs.Refusal.{First, asked, number_of}
use Rattle.rules.proofs.Laws.{stops}
use Rattle.level.specs.Level.{Known, Taken}
use Rattle.level.specs.Record.{field_at, record_length}
use Rattle.level.specs.Reading.{tiles_of, level_of, Shaped, judging}
use Rattle.level.proofs.Dealing.{within}
use Rattle.level.proofs.Judged.{length_tiles}
use Rattle.level.proofs.Windows.{field_below}
use Rattle.tiles.specs.Sum.{weight, PartSummed}
use Rattle.tiles.proofs.Part.{part_of, length_part, bit_on, tiles_from_part}
use Rattle.fields.specs.declared.head.Head.{Head}
use Rattle.fields.specs.Sum.{BoardCode, SumCode}
use Rattle.fields.specs.Head.{Heads, HeadRanged}
use Rattle.fields.specs.Judged.{JudgedAs}
use Rattle.fields.proofs.Tiles.{area_small}
use Rattle.fields.proofs.Reading.{field_5}

module _ (upto R : ℕ) (bs : List ℕ) where
  pub judged_err : (e : Refusal) → First (asked (λ ask. ask bs) (judging upto R)) (number_of e) → JudgedAs upto R bs (Err e)
  judged_err e f = record { first = f; spells = tt }

  pub judged_7 : (Taken upto (level_of bs) → ⊥) → JudgedAs upto R bs (Err refusal.Fields)
  judged_7 n = judged_err refusal.Fields (stops 0 (asked (λ ask. ask bs) (judging upto R)) 7 (n, refl))

  pub judged_8 : Taken upto (level_of bs) → (Shaped R bs → ⊥) → JudgedAs upto R bs (Err refusal.Shape)
  judged_8 h n = judged_err refusal.Shape (stops 1 (asked (λ ask. ask bs) (judging upto R)) 8 (h, (n, refl)))

-- the bytes have room for the tiles, and so has their part from byte 3
module _ (R : ℕ) (bs : List ℕ) (some : 0 < R) (s : Shaped R bs) where
  pub tiles_fit : 24 + 3 * (field_at bs 4 5 * field_at bs 9 5) ≤ 8 * length bs
  tiles_fit = omega (arith, s.fits, within R some (record_length (field_at bs 4 5) (field_at bs 9 5)))

  pub part_fits : 3 * (field_at bs 4 5 * field_at bs 9 5) ≤ 8 * length (part_of bs)
  part_fits = omega (arith, tiles_fit, length_part bs)

  -- what the part adds is what the tiles do
  pub summed_tiles : (x : ℕ) → PartSummed (part_of bs) x → x ≡ weight (tiles_of bs)
  summed_tiles x t =
      t.sum (field_at bs 4 5 * field_at bs 9 5) part_fits (λ p a b. bit_on bs p ∙ s.filling (24 + p) (omega arith) (omega (arith, length_part bs)))
      ∙ ap weight (tiles_from_part bs (field_at bs 4 5 * field_at bs 9 5))

-- the head is one that a level has
abbrev pub Opens : ℕ → Head → Type 0
Opens upto f = HeadRanged upto f.version f.width f.height

module _ (bs : List ℕ) (f : Head) (hd : Heads bs f) where
  pub area_is : f.width * f.height ≡ field_at bs 4 5 * field_at bs 9 5
  area_is = ap₂ (λ (x y : ℕ). x * y) hd.width hd.height

  pub area_few : f.width * f.height ≤ 961
  area_few = area_small f.width f.height (omega (arith, hd.width, field_5 bs 4)) (omega (arith, hd.height, field_5 bs 9))

  pub headed : (upto : ℕ) → Opens upto f → Taken upto (level_of bs)
  headed upto k = record {
    ranged = record {
      known = subst Known hd.version k.version_taken.known;
      sized = record {
        wide = omega (arith, hd.width, k.wide);
        not_wider = field_5 bs 4;
        high = omega (arith, hd.height, k.high);
        not_higher = field_5 bs 9;
      };
      par_small = omega (arith, field_below bs 14 10);
    };
    not_newer = omega (arith, hd.version, k.version_taken.not_newer);
  }

  pub head_of_level : (upto : ℕ) → Taken upto (level_of bs) → Opens upto f
  head_of_level upto t = record {
    version_taken = record { known = subst Known (sym hd.version) t.ranged.known; not_newer = omega (arith, hd.version, t.not_newer) };
    wide = omega (arith, hd.width, t.ranged.sized.wide);
    high = omega (arith, hd.height, t.ranged.sized.high);
  }

  -- what the tiles add tells their refusal
  boarded : (R x code : ℕ) → 0 < R → Shaped R bs → PartSummed (part_of bs) x → SumCode f.version x code
      → BoardCode (field_at bs 0 4) (tiles_of bs) code
  boarded R x code some s t j =
      subst (λ (y : ℕ). BoardCode y (tiles_of bs) code) hd.version
      (j.code_of (tiles_of bs) (omega (arith, length_tiles bs (field_at bs 4 5 * field_at bs 9 5), area_is, area_few)) (summed_tiles R bs some s x t))

  -- where head and shape hold, the tiles decide
  pub judged_by_tiles : (upto R x code : ℕ) → 0 < R → Opens upto f → Shaped R bs → PartSummed (part_of bs) x → SumCode f.version x code
      → First (asked (λ ask. ask bs) (judging upto R)) code
  judged_by_tiles upto R x code some k s t j = inr (headed upto k, inr (s, boarded R x code some s t j))

  -- the head, where nothing is refused
  pub judged_ok : (upto R : ℕ) → First (asked (λ ask. ask bs) (judging upto R)) 0 → JudgedAs upto R bs (Ok f)
  judged_ok upto R k = record { first = k; spells = record { heads = hd; few = area_few } }
