-- What is promised of records (FORMAT 8.10, 8.11).
use mathlib.Core.Path.{◌≡◌, refl, sym, ap, ap₂, ◌∙◌, subst}
use mathlib.Core.Logic.{inl, inr, ◌≢◌}
use mathlib.Core.List.{List, ◌++◌}
use Prim.Native.Nat.{ℕ, ◌+◌, ◌*◌, ◌-◌, ◌/◌, ◌≤◌}
use native.Mathlib.Nat.{mul-le-mul}
use native.Mathlib.Omega.{arith}
use lib.ListN.{length, take, drop, take-append-drop}
use Rattle.level.specs.Level.{Level, IsLevel, newest, Counted, lending}
use Rattle.level.specs.Record.{field_at, record_length, IsRecord}
use Rattle.level.specs.Reading.{reading_record, ReadNumbers, refused_at, returned, level_of}
use Rattle.level.proofs.Determined.{one_record}
use Rattle.level.proofs.Fields.{record_injective}
use Rattle.level.proofs.Judged.{level_passes, judged_alike, late_coded, not_nine}
use Rattle.level.proofs.Versions.{TakeAlike, taken_alike, but_two, judging_alike}
use Rattle.std.specs.Prelude.{Result, Ok, Err}
use Rattle.rules.specs.declared.Refusal.{Refusal}
use Rattle.rules.specs.Refusal.{First, Within, asked, written_numbers}
use Rattle.rules.proofs.Laws.{first_fixes, hold_first, first_alike, decided, either}
use Rattle.fields.specs.declared.head.Head.{Head}
use Rattle.level.specs.Writing.{writing_level}
use Rattle.record.specs.Writing.{RecordWritesAs}
use Rattle.record.specs.Reading.{record_numbers, RecordReadsAs}
use Rattle.fields.proofs.Tiles.{area_small}
use Rattle.lending.proofs.Lent.{written_level, level_written}

-- a refusal brings no length
pub written_zero : (a : Result ℕ Refusal) → (written_numbers a).code ≢ 0 → (written_numbers a).value ≡ 0
written_zero (Ok n) some = absurd (some refl)
written_zero (Err e) some = refl

-- The promise of the writer fixes every number and byte.
pub record_writes_fixed : (l : Level) (old u v : List ℕ) (a b : Result ℕ Refusal) → RecordWritesAs l old u a → RecordWritesAs l old v b
    → (u ≡ v) × (written_numbers a ≡ written_numbers b)
record_writes_fixed l old u v a b A B = (
  either (u ≡ v) (written_numbers a).code same (λ n. A.kept n ∙ sym (B.kept (λ z. n (codes ∙ z)))),
  decided (written_numbers a) (written_numbers b) (written_zero a) (written_zero b) codes (λ z. A.value z ∙ sym (B.value (sym codes ∙ z))),
)
  where
    codes : (written_numbers a).code ≡ (written_numbers b).code
    codes = first_fixes (writing_level 364 l (length old)) (written_numbers a).code (written_numbers b).code A.code B.code

    same : (written_numbers a).code ≡ 0 → u ≡ v
    same z =
        sym (take-append-drop (record_length l.width l.height) u)
        ∙ ap₂ (λ (x y : List ℕ). x ++ y)
        (one_record l (take (record_length l.width l.height) u) (take (record_length l.width l.height) v)
        (written_level 2 l 364 (length old) (written_numbers a).code z A.code).1 (A.is_record z) (B.is_record (sym codes ∙ z)))
        (A.past z ∙ sym (B.past (sym codes ∙ z)))
        ∙ take-append-drop (record_length l.width l.height) v

-- Each level is written.
pub level_is_written : (l : Level) (old new : List ℕ) (a : Result ℕ Refusal) → IsLevel l → 364 ≤ length old → RecordWritesAs l old new a → (written_numbers a).code ≡ 0
level_is_written l old new a il room A =
    first_fixes (writing_level 364 l (length old)) (written_numbers a).code 0 A.code (level_written 2 l 364 (length old) room il il.ranged.known.to)

-- And nothing else is.
pub written_is_level : (l : Level) (old new : List ℕ) (a : Result ℕ Refusal) → RecordWritesAs l old new a → (written_numbers a).code ≡ 0 → IsLevel l
written_is_level l old new a A z = (written_level 2 l 364 (length old) (written_numbers a).code z A.code).1

-- ---- reading

-- FORMAT 9.54: the record of a board, a level or not, is refused as a writer of the same versions refuses the board.
pub record_read_alike : (upto : ℕ) (l : Level) (bs old new : List ℕ) (a : Result Head Refusal) → Counted l → IsRecord l bs → Within 4 364 (length bs) → 961 ≤ length old
    → RecordReadsAs upto bs old new a → (c : ℕ) → First (asked (λ ask. ask l) (lending upto)) c → (record_numbers a).code ≡ c
record_read_alike upto l bs old new a co is fits room A c f =
    first_fixes (reading_record upto bs (length old)) (record_numbers a).code c A.code
    (inr (fits, inr (room, judged_alike 1 (omega arith) l bs bs co is (all (length bs)) (λ q h. refl) upto c f)))
  where
    all : (B : ℕ) → B ≡ 1 * ((B + (1 - 1)) / 1)
    all B = omega arith

-- the record of a level that is taken is read, as that level
pub level_is_read : (upto : ℕ) (l : Level) (bs old new : List ℕ) (a : Result Head Refusal) → IsLevel l → l.version ≤ upto → IsRecord l bs → 961 ≤ length old
    → RecordReadsAs upto bs old new a
    → ((record_numbers a).code ≡ 0) × (returned (record_numbers a) new ≡ l)
level_is_read upto l bs old new a il early is room A =
    (zero_code, record_injective (returned (record_numbers a) new) l bs (A.is_level zero_code) il (A.is_record zero_code) is)
  where
    some : 1 * 1 ≤ l.width * l.height
    some = mul-le-mul il.ranged.sized.wide il.ranged.sized.high

    fits : Within 4 364 (length bs)
    fits = record {
      from = omega (arith, is.size, some);
      to = omega (arith, is.size, area_small l.width l.height il.ranged.sized.not_wider il.ranged.sized.not_higher);
    }

    zero_code : (record_numbers a).code ≡ 0
    zero_code =
        record_read_alike upto l bs old new a il.count is fits room A 0
        (hold_first (asked (λ ask. ask l) (lending upto)) (level_passes upto l il early))

-- and nothing else is
pub read_is_record : (upto : ℕ) (bs old new : List ℕ) (a : Result Head Refusal) → RecordReadsAs upto bs old new a → (record_numbers a).code ≡ 0
    → (l : Level) × IsLevel l × (l.version ≤ upto) × IsRecord l bs
read_is_record upto bs old new a A z = (returned (record_numbers a) new, A.is_level z, A.not_newer z, A.is_record z)

-- What the writer wrote, read by a reader that takes its version, is the level that was lent, in its version.
pub record_read_back : (upto : ℕ) (l : Level) (out out' old new : List ℕ) (a : Result ℕ Refusal) (b : Result Head Refusal) → RecordWritesAs l out out' a → (written_numbers a).code ≡ 0
    → l.version ≤ upto → 961 ≤ length old → RecordReadsAs upto (take (written_numbers a).value out') old new b → ((record_numbers b).code ≡ 0) × (returned (record_numbers b) new ≡ l)
record_read_back upto l out out' old new a b A z early room B =
    level_is_read upto l (take (written_numbers a).value out') old new b (written_is_level l out out' a A z) early
    (rw (A.value z) (A.is_record z)) room B

-- the numbers of an answer are its code and what the level returned says; of two refusals, the code
made : ℕ → Level → ReadNumbers
made c l = record { code = c; lane = 0; version = l.version; width = l.width; height = l.height; par = l.par; mended = 0; repainted = 0; wear = 0; lanes = 0 }

numbers_of : (a : Result Head Refusal) (tiles : List ℕ) → record_numbers a ≡ made (record_numbers a).code (returned (record_numbers a) tiles)
unfolding made
numbers_of (Ok f) tiles = refl
numbers_of (Err e) tiles = refl

two_refusals : (a b : Result Head Refusal) → (record_numbers a).code ≢ 0 → (record_numbers b).code ≢ 0 → (record_numbers a).code ≡ (record_numbers b).code
    → record_numbers a ≡ record_numbers b
two_refusals (Ok f) b m n e = absurd (m refl)
two_refusals (Err d) (Ok f) m n e = absurd (n refl)
two_refusals (Err d) (Err f) m n e = ap (λ (k : ℕ). refused_at k 0) e

-- Two answers with one code and, where that is 0, one level have the same numbers, and leave the same bytes.
pub returned_fixes : (old u v : List ℕ) (a b : Result Head Refusal) → (record_numbers a).code ≡ (record_numbers b).code
    → ((record_numbers a).code ≡ 0 → (record_numbers b).code ≡ 0 → returned (record_numbers a) u ≡ returned (record_numbers b) v)
    → ((record_numbers a).code ≡ 0
    → drop ((record_numbers a).width * (record_numbers a).height) u ≡ drop ((record_numbers a).width * (record_numbers a).height) old)
    → ((record_numbers b).code ≡ 0
    → drop ((record_numbers b).width * (record_numbers b).height) v ≡ drop ((record_numbers b).width * (record_numbers b).height) old)
    → ((record_numbers a).code ≢ 0 → u ≡ old) → ((record_numbers b).code ≢ 0 → v ≡ old) → (u ≡ v) × (record_numbers a ≡ record_numbers b)
returned_fixes old u v a b codes one past-a past-b kept-a kept_b = (
  either (u ≡ v) (record_numbers a).code alike (λ n. kept-a n ∙ sym (kept_b (other n))),
  either (record_numbers a ≡ record_numbers b) (record_numbers a).code (λ z. numbers_of a u ∙ ap₂ made codes (level z) ∙ sym (numbers_of b v))
      (λ n. two_refusals a b n (other n) codes),
)
  where
    other : (record_numbers a).code ≢ 0 → (record_numbers b).code ≢ 0
    other n z = n (codes ∙ z)

    level : (record_numbers a).code ≡ 0 → returned (record_numbers a) u ≡ returned (record_numbers b) v
    level z = one z (sym codes ∙ z)

    area : (record_numbers a).code ≡ 0 → (record_numbers a).width * (record_numbers a).height ≡ (record_numbers b).width * (record_numbers b).height
    area z = ap (λ (l : Level). l.width * l.height) (level z)

    alike : (record_numbers a).code ≡ 0 → u ≡ v
    alike z =
        sym (take-append-drop ((record_numbers a).width * (record_numbers a).height) u)
        ∙ ap₂ (λ (x y : List ℕ). x ++ y) (ap (λ (l : Level). l.tiles) (level z))
        (past-a z ∙ ap (λ (n : ℕ). drop n old) (area z) ∙ sym (past-b (sym codes ∙ z)))
        ∙ take-append-drop ((record_numbers b).width * (record_numbers b).height) v

-- FORMAT 8.32: two readers that both take the version of a record, or neither, read it alike: the same numbers, and the same tile bytes.
pub record_versions_alike : (m n : ℕ) (bs old u v : List ℕ) (a b : Result Head Refusal) → TakeAlike m n (field_at bs 0 4) → RecordReadsAs m bs old u a
    → RecordReadsAs n bs old v b → (u ≡ v) × (record_numbers a ≡ record_numbers b)
record_versions_alike m n bs old u v a b takes A B =
    returned_fixes old u v a b
    (first_fixes (reading_record n bs (length old)) (record_numbers a).code (record_numbers b).code
    (first_alike (reading_record m bs (length old)) (reading_record n bs (length old)) (record_numbers a).code (
      refl,
      (λ h. h),
      (λ h. h),
      λ _. (
        refl,
        (λ h. h),
        (λ h. h),
        λ _. judging_alike m n 1 (λ ask. ask bs) (λ ask. ask bs) (λ ask h. h) (λ ask h. h)
            (taken_alike m n (level_of bs) takes) (taken_alike n m (level_of bs) (takes.1, takes.0)),
      ),
    ) A.code) B.code)
    (λ y z. record_injective (returned (record_numbers a) u) (returned (record_numbers b) v) bs (A.is_level y) (B.is_level z) (A.is_record y) (B.is_record z))
    A.past B.past A.kept B.kept

-- The promise of the reader fixes every number and byte.
pub record_reads_fixed : (upto : ℕ) (bs old u v : List ℕ) (a b : Result Head Refusal) → RecordReadsAs upto bs old u a → RecordReadsAs upto bs old v b
    → (u ≡ v) × (record_numbers a ≡ record_numbers b)
record_reads_fixed upto bs old u v a b = record_versions_alike upto upto bs old u v a b ((λ h. h), (λ h. h))

-- FORMAT 8.32: the reader of version 1 and the one of every version read alike what is not of version 2,
pub record_v1_alike : (bs old u v : List ℕ) (a b : Result Head Refusal) → field_at bs 0 4 ≢ 2 → RecordReadsAs newest bs old u a → RecordReadsAs 1 bs old v b
    → (u ≡ v) × (record_numbers a ≡ record_numbers b)
record_v1_alike bs old u v a b other = record_versions_alike newest 1 bs old u v a b (but_two (field_at bs 0 4) other)

-- FORMAT 9.55: 9 does not arise for version 2.
pub record_v2_coded : (upto : ℕ) (bs old new : List ℕ) (a : Result Head Refusal) → field_at bs 0 4 ≡ 2 → RecordReadsAs upto bs old new a → (record_numbers a).code ≢ 9
record_v2_coded upto bs old new a second A nine = go (subst (First (reading_record upto bs (length old))) nine A.code)
  where
    go : First (reading_record upto bs (length old)) 9 → ⊥
    go (inl p) = omega (arith, p.1)
    go (inr (h, inl p)) = omega (arith, p.1)
    go (inr (h, inr (k, f))) = not_nine upto 1 (λ ask. ask bs) (late_coded bs (omega (arith, second))) f

-- FORMAT 9.7: and a version that is not taken is refused with 7, whatever else there is to refuse of the bytes.
pub record_version_refused : (upto : ℕ) (bs old new : List ℕ) (a : Result Head Refusal) → Within 4 364 (length bs) → 961 ≤ length old
    → (field_at bs 0 4 ≤ upto → ⊥) → RecordReadsAs upto bs old new a → (record_numbers a).code ≡ 7
record_version_refused upto bs old new a fits room late A =
    first_fixes (reading_record upto bs (length old)) (record_numbers a).code 7 A.code
    (inr (fits, inr (room, inl ((λ t. late t.not_newer), refl))))
