-- The record of a mended strip judged, from what its windows show.
use mathlib.Core.Path.{◌≡◌, sym, ◌∙◌}
use mathlib.Core.Bool.{Bool, true, false}
use mathlib.Core.List.{List}
use Prim.Native.Nat.{ℕ, ◌+◌, ◌*◌, ◌/◌, ◌<◌}
use lib.ListN.{length}
use Rattle.std.specs.Prelude.{Some, Err}
use Rattle.rules.specs.declared.Refusal.TheVariants as refusal
use Rattle.rules.specs.Says.{Says}
use Rattle.rules.specs.Refusal.{First, asked}
use Rattle.rules.proofs.Tests.{said, denied}
use Rattle.level.specs.Strip.{columns}
use Rattle.level.specs.Reading.{judging}
use Rattle.fields.specs.declared.head.Head.{Head}
use Rattle.fields.specs.Sum.{SumCode}
use Rattle.fields.specs.Head.{Heads}
use Rattle.fields.specs.Judged.{JudgedAs}
use Rattle.fields.proofs.Reading.{blank_is, misfits}
use Rattle.fields.proofs.Judging.{Opens, judged_7, judged_8, area_is, headed, head_of_level, judged_by_tiles}
use Rattle.windows.specs.Windows.{BlankFrom, WeighedAs}

module _ (upto R to : ℕ) (bs : List ℕ) (long : length bs ≡ to) (f : Head) (hd : Heads bs f) where
  abbrev tiles : ℕ
  tiles = f.width * f.height

  abbrev Fitting : Type 0
  Fitting = to ≡ R * columns R (3 + (3 * tiles + 7) / 8)

  pub not_ranged : (b : Bool) → b ≡ false → Says b (Opens upto f) → JudgedAs upto R bs (Err refusal.Fields)
  not_ranged b n o = judged_7 upto R bs (λ h. denied (Opens upto f) b n o (head_of_level bs f hd upto h))

  module _ (b : Bool) (y : b ≡ true) (o : Says b (Opens upto f)) where
    opens : Opens upto f
    opens = said (Opens upto f) b y o

    pub not_fitting : (d : Bool) → d ≡ false → Says d Fitting → JudgedAs upto R bs (Err refusal.Shape)
    not_fitting d n q =
        judged_8 upto R bs (headed bs f hd upto opens)
        (misfits R tiles bs (area_is bs f hd) (λ z. denied Fitting d n q (sym long ∙ z)))

    module _ (d : Bool) (z : d ≡ true) (q : Says d Fitting) where
      pub not_blank_after : (BlankFrom (24 + 3 * tiles) bs → ⊥) → JudgedAs upto R bs (Err refusal.Shape)
      not_blank_after n =
          judged_8 upto R bs (headed bs f hd upto opens) (blank_is false R tiles bs (area_is bs f hd) (long ∙ said Fitting d z q) n)

      pub by_tiles : (sum code : ℕ) → WeighedAs bs (24 + 3 * tiles) (Some sum) → 0 < R → SumCode f.version sum code
          → First (asked (λ ask. ask bs) (judging upto R)) code
      by_tiles sum code W some C =
          judged_by_tiles bs f hd upto R sum code some opens
          (blank_is true R tiles bs (area_is bs f hd) (long ∙ said Fitting d z q) W.0) W.1 C
