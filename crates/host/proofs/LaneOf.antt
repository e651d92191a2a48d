-- A slice copied to a lane and back, and the answers of a lane's repair.
use mathlib.Core.Path.{◌≡◌, refl, subst}
use mathlib.Core.List.{List}
use Prim.Native.Nat.{ℕ, ◌≤◌}
use lib.ListN.{length}
use Rattle.gf256.specs.Gf256.{gf256}
use mathlib.Core.Bool.{false}
use Rattle.std.specs.Prelude.{Result, Ok, Err, is_ok}
use Rattle.rules.proofs.Laws.{some_number}
use Rattle.marks.specs.declared.Counts.{Counts}
use Rattle.rules.specs.declared.Refusal.{Refusal}
use Rattle.rules.specs.declared.Refusal.TheVariants as refusal
use Rattle.rules.specs.Refusal.{First, Within, number_of}
use Rattle.rules.proofs.Laws.{stops}
use Rattle.code.specs.Repair.{repaired_numbers, repairing, RepairsAs}
use Rattle.code.specs.Lane.{word_of, LaneRepairsAs}
use Rattle.code.specs.declared.lane.Lane.{Lane}
use Rattle.code.specs.declared.lane.LaneRepair.{LaneRepair}
use Rattle.code.proofs.Repairing.{refuses}
use Rattle.packing.specs.Packed.{packed_repair}
use Rattle.host.specs.Export.{RepairExport}

-- ---- answers

none : (marks old : List ℕ) (c : Refusal) (r : ℕ) → First (repairing gf256 187 (length old) (length marks) marks old) (number_of c)
    → r ≡ packed_repair (repaired_numbers (Err c)) → RepairExport 187 marks old old r
none marks old c r f e = record {
  answer = Err c;
  kept = refuses gf256 187 (length old) (length marks) marks old c f;
  is = e;
}

pub export_1 : (marks old : List ℕ) (r : ℕ) → (Within 6 187 (length old) → ⊥) → r ≡ packed_repair (repaired_numbers (Err refusal.Length))
    → RepairExport 187 marks old old r
export_1 marks old r n e = none marks old refusal.Length r (stops 0 (repairing gf256 187 (length old) (length marks) marks old) 1 (n, refl)) e

pub export_2 : (marks old : List ℕ) (r : ℕ) → 6 ≤ length old → length old ≤ 187 → (length marks ≡ length old → ⊥)
    → r ≡ packed_repair (repaired_numbers (Err refusal.MarkCount)) → RepairExport 187 marks old old r
export_2 marks old r a b n e =
    none marks old refusal.MarkCount r (stops 1 (repairing gf256 187 (length old) (length marks) marks old) 2 (record { from = a; to = b }, (n, refl))) e

-- what the lane's repair says of the lane, said of the slice
module _ (marks old : List ℕ) (l m : Lane) (x : LaneRepair) (nl : l.len ≡ length old)
    (wl : word_of l ≡ old) (nm : m.len ≡ length marks) (wm : word_of m ≡ marks) (R : LaneRepairsAs l m x) where
  as_slice : RepairsAs gf256 187 marks old (word_of x.lane) x.answer
  as_slice = rw (← nl, ← nm, ← wl, ← wm) R.repairs

  pub export_mended : (new : List ℕ) (r : ℕ) → new ≡ word_of x.lane → r ≡ packed_repair (repaired_numbers x.answer) → RepairExport 187 marks old new r
  export_mended new r en p = record { answer = x.answer; kept = rw en as_slice; is = p }

  -- with a refusal the slice keeps its bytes, which are the lane's
  pub export_refused : (r : ℕ) → ((repaired_numbers x.answer).code ≡ 0 → ⊥) → r ≡ packed_repair (repaired_numbers x.answer) → RepairExport 187 marks old old r
  export_refused r n p = record { answer = x.answer; kept = subst (λ (v : List ℕ). RepairsAs gf256 187 marks old v x.answer) (as_slice.kept n) as_slice; is = p }

-- an answer that is no result has a code
pub refused : (a : Result Counts Refusal) → is_ok a ≡ false → (repaired_numbers a).code ≡ 0 → ⊥
refused (Ok c) e = absurd (cc)
refused (Err r) e = some_number r
