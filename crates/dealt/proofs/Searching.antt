-- What the remainder of a lane tells.
use mathlib.Core.Path.{◌≡◌}
use mathlib.Core.List.{List}
use Prim.Native.Nat.{ℕ}
use lib.ListN.{length}
use Rattle.account.specs.Code.{Cells, Clean}
use Rattle.account.specs.Lanes.{lane}
use Rattle.gf256.specs.Gf256.{gf256}
use Rattle.std.specs.Prelude.{Option}
use Rattle.values.specs.declared.Errata.{Errata}
use Rattle.errata.specs.Errata.{Gathered, SearchedAs}
use Rattle.remainder.proofs.Whole.{none_is_clean}
use Rattle.dealt.specs.Lanes.{LaneRemains, SearchedBy}

module _ (R l : ℕ) (s : List ℕ) (r : ℕ) (L : LaneRemains R l s r) where
  -- it is zero just where the lane is clean
  pub lane_clean : r ≡ 0 → Clean gf256 (lane R l s)
  lane_clean z = none_is_clean (lane R l s) r L.remains z

  -- and what is found by it is for this lane
  pub lane_searched : (marks erased : List ℕ) (n f : ℕ) (x : Option Errata) → length marks ≡ n → Gathered marks erased f → length (lane R l s) ≡ n
      → Cells gf256 (lane R l s) → SearchedBy r n erased f x → SearchedAs marks (lane R l s) x
  lane_searched marks erased n f x em G es cs S = S marks em G (lane R l s) es cs L.remains
