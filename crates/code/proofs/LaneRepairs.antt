-- The answers of a lane's repair.
use mathlib.Core.Path.{◌≡◌, refl, sym, ap, ◌∙◌, subst}
use mathlib.Core.List.{List, ◌++◌}
use Prim.Native.Nat.{ℕ, ◌≤◌}
use native.Mathlib.Omega.{arith}
use lib.ListN.{length, take, drop}
use lib.Seq.{length-take-le, take_at, drop_at}
use Rattle.gf256.specs.Gf256.{gf256}
use Rattle.rules.specs.Refusal.{Within}
use Rattle.rules.proofs.Laws.{either}
use Rattle.std.specs.Prelude.{Result}
use Rattle.rules.specs.declared.Refusal.{Refusal}
use Rattle.marks.specs.declared.Counts.{Counts}
use Rattle.code.specs.declared.lane.Lane.{Lane}
use Rattle.code.specs.Word.{word_most}
use Rattle.code.specs.Repair.{repaired_numbers, Repairs, RepairsAs}
use Rattle.code.specs.Lane.{lane_most, word_of, LaneRepairsAs}
use Rattle.code.proofs.Repairing.{repairs_alike}

module _ (lane marks : Lane) where
  module _ (low : 6 ≤ lane.len) (high : lane.len ≤ lane_most) where
    within : Within 6 lane_most lane.len
    within = record { from = low; to = high }

    -- the word repaired, in front of what was past it
    module _ (x : List ℕ) (a : Result Counts Refusal) (em : marks.len ≡ lane.len) (room : length lane.bytes ≡ lane_most) (mroom : length marks.bytes ≡ lane_most)
        (A : RepairsAs gf256 word_most (take lane.len marks.bytes) (word_of lane) x a) where
      long : length (word_of lane) ≡ lane.len
      long = length-take-le lane.len lane.bytes (omega arith)

      mlong : length (take lane.len marks.bytes) ≡ lane.len
      mlong = length-take-le lane.len marks.bytes (omega arith)

      x_long : length x ≡ lane.len
      x_long = either (length x ≡ lane.len) (repaired_numbers a).code (λ z. (A.reach z).same_length ∙ long) (λ n. ap length (A.kept n) ∙ long)

      word_is : take lane.len (x ++ drop lane.len lane.bytes) ≡ x
      word_is = take_at x (drop lane.len lane.bytes) lane.len x_long

      same : Repairs gf256 lane_most lane.len lane.len (take lane.len marks.bytes) (word_of lane) x a
      same =
          repairs_alike gf256 word_most lane_most (length (word_of lane)) lane.len (length (take lane.len marks.bytes)) lane.len
          (take lane.len marks.bytes) (word_of lane) x a (
            refl,
            (λ _. within),
            (λ _. record { from = omega (arith, long); to = omega (arith, long) }),
            λ _. (refl, (λ _. refl), (λ _. mlong ∙ sym long), λ _. (refl, (λ g. g), (λ g. g), λ _. (refl, (λ R. R), (λ R. R), λ _. tt))),
          )
          A

      pub lane_repaired : LaneRepairsAs lane marks (record { lane = record { bytes = x ++ drop lane.len lane.bytes; len = lane.len }; answer = a })
      lane_repaired = record {
        repairs =
            subst
            (λ (m : ℕ). Repairs gf256 lane_most lane.len m (take m marks.bytes) (word_of lane) (take lane.len (x ++ drop lane.len lane.bytes)) a)
            (sym em)
            (subst (λ (v : List ℕ). Repairs gf256 lane_most lane.len lane.len (take lane.len marks.bytes) (word_of lane) v a) (sym word_is) same);
        same_len = refl;
        past = drop_at x (drop lane.len lane.bytes) lane.len x_long;
      }
