-- A word written: data in front, then five check bytes.
use mathlib.Core.Path.{◌≡◌, refl, sym, ap, ◌∙◌, subst}
use mathlib.Core.List.{List, ◌++◌}
use Prim.Native.Nat.{ℕ}
use native.Mathlib.Omega.{arith}
use lib.ListN.{length, take, length-append}
use lib.Seq.{take-append_seam}
use Rattle.account.specs.Code.{Clean, WordOf}
use Rattle.gf256.specs.Gf256.{gf256}
use Rattle.remainder.specs.Remainder.{Checks, unpacked}
use Rattle.std.specs.Prelude.{Bool, true, false, Ok}
use Rattle.rules.specs.Refusal.{Within}
use Rattle.rules.proofs.Laws.{hold_first}
use Rattle.code.specs.Word.{word_most, testing, TestsAs}

pub word_of : (d w : List ℕ) (x : ℕ) → Checks d x → w ≡ d ++ unpacked x → WordOf gf256 d w
word_of d w x C is = record {
  size = ap length is ∙ length-append d (unpacked x);
  front = ap (take (length d)) is ∙ take-append_seam d (unpacked x);
  clean = subst (Clean gf256) (sym is) C.clean;
}

-- ---- the test

module _ (w : List ℕ) where
  -- by the test of the remainder
  pub tested : Within 6 word_most (length w) → (b : Bool) → (b ≡ true → Clean gf256 w) → (b ≡ false → Clean gf256 w → ⊥) → TestsAs w (Ok b)
  tested h true f g = record { code = hold_first (testing w) (h, tt); only = λ _. f refl; always = λ _ _. refl }
  tested h false f g =
      record { code = hold_first (testing w) (h, tt); only = λ e. absurd (omega (arith, e)); always = λ _ c. absurd (g refl c) }
