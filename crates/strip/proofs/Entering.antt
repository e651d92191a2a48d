-- A strip that was entered: what was asked before the picture was looked at holds, and mending goes on with that.
use mathlib.Core.Path.{◌≡◌}
use mathlib.Core.List.{List}
use Prim.Native.Nat.{ℕ}
use native.Mathlib.Omega.{arith}
use Rattle.rules.specs.Refusal.{First, Hold, Within}
use Rattle.rules.proofs.Laws.{all_hold}
use Rattle.level.specs.Reading.{entering}
use Rattle.level.proofs.Dealing.{lanes_short}
use Rattle.level.proofs.Lengths.{lanes_within}
use Rattle.lanes.specs.Lanes.{Entered}

module _ (R : ℕ) (s marks : List ℕ) (room scratch : ℕ) where
  pub entered : (c : ℕ) → c ≡ 0 → First (entering R s marks room scratch) c → Hold (entering R s marks room scratch)
  entered c z f = all_hold 15 (entering R s marks room scratch) c tt f z

  pub ready : Hold (entering R s marks room scratch) → Entered R s marks
  ready h = record {
    lanes = record { from = omega (arith, within.from); to = within.to };
    short = lanes_short R within.from;
    legal = h.1.0;
    matched = h.1.1.0;
    good = h.1.1.1.0;
  }
    where
      within : Within 2 16 R
      within = lanes_within R h.0
