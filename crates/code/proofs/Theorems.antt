-- What is promised of words of bytes, each with its number in FORMAT.
use mathlib.Core.Path.{◌≡◌, refl, sym, ap, ◌∙◌, subst}
use mathlib.Core.Logic.{◌≢◌, ◌⊎◌, inl, inr}
use mathlib.Core.List.{List, [], ◌∷◌, ◌++◌}
use Prim.Native.Nat.{ℕ, ◌+◌, ◌*◌, ◌≤◌, ◌<◌}
use native.Mathlib.Omega.{arith}
use lib.ListN.{length, drop, take-append-drop}
use lib.Seq.{length-take-le}
use Rattle.account.specs.Field.{Ops, power}
use Rattle.account.specs.Code.{alpha_to, Cells, Clean, WordOf}
use Rattle.account.specs.Reach.{marked, differing, Reach, SameRead}
use Rattle.account.specs.Generator.{generator, times, plus, scale, Multiple}
use Rattle.account.specs.Product.{product}
use Rattle.account.proofs.Theorems as theorems
use Rattle.account.proofs.Generator as generators
use Rattle.account.proofs.Powers as powers
use Rattle.gf256.specs.Gf256.{gf256}
use Rattle.gf256.proofs.Field256.{field256}
use Rattle.std.specs.Prelude.{Bool, Result}
use Rattle.rules.specs.declared.Refusal.{Refusal}
use Rattle.rules.specs.Refusal.{written_numbers}
use Rattle.marks.specs.declared.Counts.{Counts}
use Rattle.code.specs.declared.lane.Lane.{Lane}
use Rattle.code.specs.declared.lane.LaneRepair.{LaneRepair}
use Rattle.rules.proofs.Laws.{first_fixes, same_numbers, decided, either, all_hold}
use Rattle.code.specs.Word.{word_most, writing, testing, WritesAs, TestsAs, tested_numbers}
use Rattle.code.specs.Repair.{Repairs, RepairsAs, repaired_numbers}
use Rattle.code.specs.Lane.{lane_most, word_of, LaneRepairsAs}
use Rattle.code.proofs.Answers.{written_zero, tested_bit, repaired_zero, one_repair, one_but_repainted, lane_is, lane_same}

-- FORMAT 1.6: the first 255 powers of α are different from each other, and none is zero.
pub powers_differ : (i j : ℕ) → i < 255 → j < 255 → i ≢ j → power gf256 2 i ≢ power gf256 2 j
powers_differ = powers.pow_apart gf256 field256

pub powers_nonzero : (i : ℕ) → power gf256 2 i ≢ 0
powers_nonzero = powers.pow_some gf256 field256

-- FORMAT 2.11: two clean words of one length differ in at least six places or nowhere.
pub six_apart : (v w : List ℕ) → length v ≤ word_most → length w ≡ length v → Cells gf256 v → Cells gf256 w → Clean gf256 v → Clean gf256 w
    → (v ≡ w) ⊎ (6 ≤ differing [] v w)
six_apart = theorems.six_apart gf256 field256

-- FORMAT 3.5: at most one clean word is within reach of a word with its marks.
pub one_in_reach : (marks r v w : List ℕ) → length r ≤ word_most → Cells gf256 v → Cells gf256 w → Clean gf256 v → Clean gf256 w
    → Reach marks r v → Reach marks r w → v ≡ w
one_in_reach = theorems.one_in_reach gf256 field256

-- FORMAT 3.9: a word at 2e + f = 6 from a clean word has none within reach.
pub none_at_six : (marks r v w : List ℕ) → length r ≤ word_most → Cells gf256 v → Cells gf256 w → Clean gf256 v → Clean gf256 w
    → length v ≡ length r → 2 * differing marks r v + marked marks r ≡ 6 → Reach marks r w → ⊥
none_at_six = theorems.none_at_six gf256 field256

-- FORMAT 2.7: at most one clean word has the given data in front.
pub one_word_with_data : (d v w : List ℕ) → length d + 5 ≤ word_most → Cells gf256 v → Cells gf256 w → WordOf gf256 d v → WordOf gf256 d w → v ≡ w
one_word_with_data = theorems.one_with_data gf256 field256

-- FORMAT 2.7: and there is one.
pub some_word_with_data : (d : List ℕ) → length d + 5 ≤ word_most → Cells gf256 d → (w : List ℕ) × WordOf gf256 d w × Cells gf256 w
some_word_with_data = theorems.some_with_data gf256 field256

-- FORMAT 2.8: the generator, with its highest power first.
pub generator_is : generator gf256 ≡ 0x01 ∷ 0xCE ∷ 0xE6 ∷ 0xE6 ∷ 0xCE ∷ 0x01 ∷ []
unfolding generator times plus scale alpha_to power product
generator_is = refl

-- FORMAT 2.9: the clean words are the multiples of the generator.
pub clean_is_multiple : (w : List ℕ) → Cells gf256 w → 5 ≤ length w → length w ≤ word_most → Clean gf256 w → Multiple gf256 w
clean_is_multiple = generators.clean_is_multiple gf256 field256

pub multiple_is_clean : (w : List ℕ) → Multiple gf256 w → Clean gf256 w
multiple_is_clean = generators.multiple_is_clean gf256 field256

-- ---- FORMAT 10.9: the promises fix every result and every byte

-- Writing: there is one word, and one pair of numbers.
pub writes_fixed : (d old v w : List ℕ) (a b : Result ℕ Refusal) → Cells gf256 v → Cells gf256 w → WritesAs d old v a → WritesAs d old w b
    → (v ≡ w) × (written_numbers a ≡ written_numbers b)
writes_fixed d old v w a b cv cw A B = (
  same,
  decided (written_numbers a) (written_numbers b) (written_zero a) (written_zero b) codes (λ z. A.value z ∙ ap length same ∙ sym (B.value (sym codes ∙ z))),
)
  where
    codes : (written_numbers a).code ≡ (written_numbers b).code
    codes = first_fixes (writing d old) (written_numbers a).code (written_numbers b).code A.code B.code

    short : (written_numbers a).code ≡ 0 → length d + 5 ≤ word_most
    short z = omega (arith, (all_hold 4 (writing d old) (written_numbers a).code tt A.code z).0.to)

    same : v ≡ w
    same =
        either (v ≡ w) (written_numbers a).code (λ z. one_word_with_data d v w (short z) cv cw (A.word z) (B.word (sym codes ∙ z)))
        (λ n. A.kept n ∙ sym (B.kept (λ z. n (codes ∙ z))))

-- Testing: there is one answer.
pub tests_fixed : (w : List ℕ) (a b : Result Bool Refusal) → TestsAs w a → TestsAs w b → tested_numbers a ≡ tested_numbers b
tests_fixed w a b A B = same_numbers (tested_numbers a) (tested_numbers b) codes (go (tested_bit a) (tested_bit b))
  where
    codes : (tested_numbers a).code ≡ (tested_numbers b).code
    codes = first_fixes (testing w) (tested_numbers a).code (tested_numbers b).code A.code B.code

    go : ((tested_numbers a).value ≡ 0) ⊎ (((tested_numbers a).value ≡ 1) × ((tested_numbers a).code ≡ 0))
        → ((tested_numbers b).value ≡ 0) ⊎ (((tested_numbers b).value ≡ 1) × ((tested_numbers b).code ≡ 0)) → (tested_numbers a).value ≡ (tested_numbers b).value
    go (inl p) (inl q) = p ∙ sym q
    go (inl p) (inr q) = A.always (codes ∙ q.1) (B.only q.0) ∙ sym q.0
    go (inr p) (inl q) = p.0 ∙ sym (B.always (sym codes ∙ p.1) (A.only p.0))
    go (inr p) (inr q) = p.0 ∙ sym q.0

-- Repair, of words of at most so many bytes: there is one word, and one of each number.
pub repairs_fixed : (most : ℕ) → most ≤ word_most → (marks old v w : List ℕ) (a b : Result Counts Refusal) → RepairsAs gf256 most marks old v a
    → RepairsAs gf256 most marks old w b → (v ≡ w) × (repaired_numbers a ≡ repaired_numbers b)
repairs_fixed most h marks old v w a b A B = one_repair most (length old) (length marks) marks old v w a b (λ k. omega arith) A B

-- FORMAT 4.5: the byte under a mark influences repainted and nothing else: the code, what is mended and the word it becomes are the same.
pub under_marks : (most : ℕ) → most ≤ word_most → (marks r s v w : List ℕ) (a b : Result Counts Refusal) → SameRead marks r s → RepairsAs gf256 most marks r v a
    → RepairsAs gf256 most marks s w b
    → ((repaired_numbers a).code ≡ (repaired_numbers b).code) × ((repaired_numbers a).mended ≡ (repaired_numbers b).mended) × ((repaired_numbers a).code ≡ 0 → v ≡ w)
under_marks most h marks r s v w a b same A B =
    one_but_repainted most (length r) (length marks) marks r s v w a b same (λ k. omega arith) A
    (subst (λ (n : ℕ). Repairs gf256 most n (length marks) marks s w b) (sym same.same_length) B)

-- FORMAT 4.6: at most five cells are repainted.
pub repainted_few : (O : Ops) (most n m : ℕ) (marks old new : List ℕ) (a : Result Counts Refusal) → Repairs O most n m marks old new a → (repaired_numbers a).repainted ≤ 5
repainted_few O most n m marks old new a A =
    either ((repaired_numbers a).repainted ≤ 5) (repaired_numbers a).code
    (λ z. omega (arith, A.repainted_is z, theorems.repainted_marked marks old new, (A.reach z).few)) (λ k. omega (arith, (repaired_zero a k).1))

-- a lane's word is no longer than a word
lane_short : (lane : Lane) → length lane.bytes ≡ lane_most → lane.len ≤ lane_most → length (word_of lane) ≤ word_most
lane_short lane room h = omega (arith, length-take-le lane.len lane.bytes (omega arith))

-- Repair of a lane by value: there is one lane, and one of each number.
pub lane_repairs_fixed : (lane marks : Lane) (r s : LaneRepair) → length lane.bytes ≡ lane_most → LaneRepairsAs lane marks r → LaneRepairsAs lane marks s
    → (r.lane ≡ s.lane) × (repaired_numbers r.answer ≡ repaired_numbers s.answer)
lane_repairs_fixed lane marks r s room A B = (
  lane_same r.lane s.lane
      (sym (lane_is lane marks r A) ∙ ap (λ (l : List ℕ). l ++ drop lane.len lane.bytes) one.0 ∙ lane_is lane marks s B)
      (A.same_len ∙ sym B.same_len),
  one.1,
)
  where
    one : (word_of r.lane ≡ word_of s.lane) × (repaired_numbers r.answer ≡ repaired_numbers s.answer)
    one =
        one_repair lane_most lane.len marks.len (word_of marks) (word_of lane) (word_of r.lane) (word_of s.lane) r.answer s.answer
        (lane_short lane room) A.repairs B.repairs

-- FORMAT 4.5: and of a lane by value too the byte under a mark influences repainted and nothing else.
pub lane_under_marks : (lane lane' marks : Lane) (r s : LaneRepair) → length lane.bytes ≡ lane_most → lane.len ≡ lane'.len
    → SameRead (word_of marks) (word_of lane) (word_of lane') → LaneRepairsAs lane marks r → LaneRepairsAs lane' marks s
    → ((repaired_numbers r.answer).code ≡ (repaired_numbers s.answer).code) × ((repaired_numbers r.answer).mended ≡ (repaired_numbers s.answer).mended)
    × ((repaired_numbers r.answer).code ≡ 0 → word_of r.lane ≡ word_of s.lane)
lane_under_marks lane lane' marks r s room e same A B =
    one_but_repainted lane_most lane.len marks.len (word_of marks) (word_of lane) (word_of lane') (word_of r.lane) (word_of s.lane) r.answer
    s.answer same (lane_short lane room) A.repairs
    (subst (λ (n : ℕ). Repairs gf256 lane_most n marks.len (word_of marks) (word_of lane') (word_of s.lane) s.answer) (sym e) B.repairs)

-- FORMAT 10.2: a lane that is refused is kept whole.
pub lane_kept : (lane marks : Lane) (r : LaneRepair) → LaneRepairsAs lane marks r → (repaired_numbers r.answer).code ≢ 0 → r.lane ≡ lane
lane_kept lane marks r A n =
    lane_same r.lane lane
    (sym (lane_is lane marks r A) ∙ ap (λ (l : List ℕ). l ++ drop lane.len lane.bytes) (A.repairs.kept n)
    ∙ take-append-drop lane.len lane.bytes) A.same_len
