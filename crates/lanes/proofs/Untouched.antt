-- A clean strip with no marks is mended as it is.
use mathlib.Core.Path.{◌≡◌, refl, subst}
use mathlib.Core.List.{List, [], ◌∷◌}
use Prim.Native.Nat.{ℕ, zero, suc, ◌≤◌, ◌<◌}
use native.Mathlib.Numerals.{add-one}
use native.Mathlib.Omega.{arith}
use lib.ListN.{length, get_or}
use Rattle.account.specs.Code.{Cells}
use Rattle.account.specs.Reach.{count_to, is_marked}
use Rattle.gf256.specs.Gf256.{gf256}
use Rattle.dealt.specs.Lanes.{Remaindered}
use Rattle.dealt.proofs.Searching.{lane_clean}
use Rattle.marks.specs.declared.Counts.{Counts}
use Rattle.patches.specs.declared.Fixes.{Fixes}
use Rattle.lanes.specs.Lanes.{Entered, AllMended}
use Rattle.lanes.proofs.Marks.{none_listed_in}
use Rattle.lanes.proofs.Repairs.{kept_one}
use Rattle.lanes.proofs.Sofar.{Sofar, sofar_0, room_left, sofar_more, all_mended}

module _ (R : ℕ) (s marks : List ℕ) (E : Entered R s marks) (cs : Cells gf256 s) (none : count_to (is_marked marks) (length marks) ≡ 0) (r : List ℕ)
    (rem : Remaindered R s r) (clean : (j : ℕ) → j < R → get_or r j 0 ≡ 0) (f : Fixes) (lc : length f.cells ≡ 80) (lb : length f.bytes ≡ 80)
    (z : f.count ≡ 0) where
  abbrev nothing : Counts
  nothing = record { mended = 0; repainted = 0 }

  sofar : (l : ℕ) → l ≤ R → Sofar R s marks f nothing l
  sofar zero h = sofar_0 R s marks f lc lb z
  sofar (suc l) h =
      let W = sofar l (omega arith) in
      let k : l < R = omega arith in
      let five : List ℕ = 0 ∷ 0 ∷ 0 ∷ 0 ∷ 0 ∷ [] in
      subst (Sofar R s marks f nothing) (add-one l)
      (sofar_more R s marks E f f nothing l k W nothing
      (kept_one R s marks E l k f (record { count = 0; cells = five }) (none_listed_in R marks l k none five refl)
      (lane_clean R l s (get_or r l 0) (record { remains = rem.each l k }) (clean l k)) cs (room_left R s marks E.lanes.to f nothing l k W)))

  pub untouched : AllMended R s marks f (record { mended = 0; repainted = 0 })
  untouched = all_mended R s marks E f nothing R (omega arith) (sofar R (omega arith))
