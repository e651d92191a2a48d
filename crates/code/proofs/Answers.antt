-- What an answer's promise fixes: its numbers, and the word where none is refused.
use mathlib.Core.Path.{◌≡◌, refl, sym, ap, ap₂, ◌∙◌}
use mathlib.Core.Logic.{◌≢◌, ◌⊎◌, inl, inr}
use mathlib.Core.List.{List, ◌++◌}
use Prim.Native.Nat.{ℕ, ◌≤◌}
use lib.ListN.{length, take, drop, take-append-drop}
use Rattle.account.specs.Reach.{differing, repainted, SameRead}
use Rattle.account.proofs.Theorems as theorems
use Rattle.gf256.specs.Gf256.{gf256}
use Rattle.gf256.proofs.Field256.{field256}
use Rattle.rules.proofs.Laws.{first_fixes, first_alike, all_hold, either, Alike}
use Rattle.std.specs.Prelude.{Bool, true, false, Result, Ok, Err}
use Rattle.rules.specs.declared.Refusal.{Refusal}
use Rattle.rules.specs.Refusal.{written_numbers}
use Rattle.marks.specs.declared.Counts.{Counts}
use Rattle.code.specs.declared.lane.Lane.{Lane}
use Rattle.code.specs.declared.lane.LaneRepair.{LaneRepair}
use Rattle.code.specs.Word.{word_most, tested_numbers}
use Rattle.code.specs.Repair.{RepairNumbers, repaired_numbers, repairing, Repairs}
use Rattle.code.specs.Lane.{word_of, LaneRepairsAs}

-- ---- writing and testing

-- nothing is returned with a refusal
pub written_zero : (a : Result ℕ Refusal) → (written_numbers a).code ≢ 0 → (written_numbers a).value ≡ 0
written_zero (Ok n) h = absurd (h refl)
written_zero (Err r) h = refl

-- a test answers 1 with no refusal, or 0
pub tested_bit : (a : Result Bool Refusal) → ((tested_numbers a).value ≡ 0) ⊎ (((tested_numbers a).value ≡ 1) × ((tested_numbers a).code ≡ 0))
tested_bit (Ok true) = inr (refl, refl)
tested_bit (Ok false) = inl refl
tested_bit (Err r) = inl refl

-- ---- repair

-- nothing is mended or repainted with a refusal
pub repaired_zero : (a : Result Counts Refusal) → (repaired_numbers a).code ≢ 0 → ((repaired_numbers a).mended ≡ 0) × ((repaired_numbers a).repainted ≡ 0)
repaired_zero (Ok c) h = absurd (h refl)
repaired_zero (Err r) h = (refl, refl)

same_repair : (x y : RepairNumbers) → x.code ≡ y.code → x.mended ≡ y.mended → x.repainted ≡ y.repainted → x ≡ y
same_repair x y c m p =
    ap₂ (λ (i j : ℕ). made i j x.repainted) c m ∙ ap (λ (k : ℕ). made y.code y.mended k) p
  where
    made : ℕ → ℕ → ℕ → RepairNumbers
    made i j k = record { code = i; mended = j; repainted = k }

-- two repairs, of words that are the same but for the bytes under marks
module _ (most n m : ℕ) (marks r s v w : List ℕ) (a b : Result Counts Refusal) (same : SameRead marks r s) (short : n ≤ most → length r ≤ word_most)
    (A : Repairs gf256 most n m marks r v a) (B : Repairs gf256 most n m marks s w b) where
  back : SameRead marks s r
  back = theorems.read_turned marks r s same

  alike : Alike (repairing gf256 most n m marks s) (repairing gf256 most n m marks r)
  alike = (
    refl,
    (λ x. x),
    (λ x. x),
    λ _. (
      refl,
      (λ x. x),
      (λ x. x),
      λ _. (
        refl,
        (λ x. x),
        (λ x. x),
        λ _. (refl, theorems.same_reachable gf256 marks s r back, theorems.same_reachable gf256 marks r s same, λ _. tt),
      ),
    ),
  )

  one_code : (repaired_numbers a).code ≡ (repaired_numbers b).code
  one_code =
      first_fixes (repairing gf256 most n m marks r) (repaired_numbers a).code (repaired_numbers b).code A.code
      (first_alike (repairing gf256 most n m marks s) (repairing gf256 most n m marks r) (repaired_numbers b).code alike B.code)

  one_word : (repaired_numbers a).code ≡ 0 → v ≡ w
  one_word z =
      let y : (repaired_numbers b).code ≡ 0 = sym one_code ∙ z in
      theorems.one_in_reach gf256 field256 marks r v w (short (all_hold 6 (repairing gf256 most n m marks r) (repaired_numbers a).code tt A.code z).0.to)
      (A.cells z) (B.cells y) (A.clean z) (B.clean y) (A.reach z) (theorems.same_reach marks s r w back (B.reach y))

  one_mended : (repaired_numbers a).mended ≡ (repaired_numbers b).mended
  one_mended =
      either ((repaired_numbers a).mended ≡ (repaired_numbers b).mended) (repaired_numbers a).code
      (λ z. A.mended_is z ∙ ap (differing marks r) (one_word z) ∙ theorems.same_differing marks r s w same ∙ sym (B.mended_is (sym one_code ∙ z)))
      (λ n. (repaired_zero a n).0 ∙ sym (repaired_zero b (λ z. n (one_code ∙ z))).0)

  -- the same but for repainted
  pub one_but_repainted : ((repaired_numbers a).code ≡ (repaired_numbers b).code) × ((repaired_numbers a).mended ≡ (repaired_numbers b).mended)
      × ((repaired_numbers a).code ≡ 0 → v ≡ w)
  one_but_repainted = (one_code, one_mended, one_word)

-- two repairs of one word
module _ (most n m : ℕ) (marks old v w : List ℕ) (a b : Result Counts Refusal) (short : n ≤ most → length old ≤ word_most)
    (A : Repairs gf256 most n m marks old v a) (B : Repairs gf256 most n m marks old w b) where
  alike_but : ((repaired_numbers a).code ≡ (repaired_numbers b).code) × ((repaired_numbers a).mended ≡ (repaired_numbers b).mended)
      × ((repaired_numbers a).code ≡ 0 → v ≡ w)
  alike_but = one_but_repainted most n m marks old old v w a b (theorems.read_itself marks old) short A B

  one_repainted : (repaired_numbers a).repainted ≡ (repaired_numbers b).repainted
  one_repainted =
      either ((repaired_numbers a).repainted ≡ (repaired_numbers b).repainted) (repaired_numbers a).code
      (λ z. A.repainted_is z ∙ ap (repainted marks old) (alike_but.2 z) ∙ sym (B.repainted_is (sym alike_but.0 ∙ z)))
      (λ n. (repaired_zero a n).1 ∙ sym (repaired_zero b (λ z. n (alike_but.0 ∙ z))).1)

  pub one_repair : (v ≡ w) × (repaired_numbers a ≡ repaired_numbers b)
  one_repair = (
    either (v ≡ w) (repaired_numbers a).code alike_but.2 (λ k. A.kept k ∙ sym (B.kept (λ z. k (alike_but.0 ∙ z)))),
    same_repair (repaired_numbers a) (repaired_numbers b) alike_but.0 alike_but.1 one_repainted,
  )

-- ---- a lane

-- a lane is its word and what is past it
pub lane_is : (lane marks : Lane) (r : LaneRepair) → LaneRepairsAs lane marks r → word_of r.lane ++ drop lane.len lane.bytes ≡ r.lane.bytes
lane_is lane marks r A =
    ap (λ (l : List ℕ). word_of r.lane ++ l) (sym A.past) ∙ ap (λ (k : ℕ). take k r.lane.bytes ++ drop lane.len r.lane.bytes) A.same_len
    ∙ take-append-drop lane.len r.lane.bytes

-- lanes with the same bytes and length are the same
pub lane_same : (x y : Lane) → x.bytes ≡ y.bytes → x.len ≡ y.len → x ≡ y
lane_same x y e f = ap₂ (λ (b : List ℕ) (n : ℕ). made b n) e f
  where
    made : List ℕ → ℕ → Lane
    made b n = record { bytes = b; len = n }
