-- What C gets: each packed number, taken apart as the header does, gives the numbers of the answer. Nothing is lost.
use mathlib.Core.Path.{◌≡◌, refl, ap, ◌∙◌}
use mathlib.Core.Logic.{◌≢◌, inl, inr}
use mathlib.Core.List.{List, ◌∷◌, ◌++◌}
use Prim.Native.Nat.{ℕ, ◌+◌, ◌<◌}
use native.Mathlib.Decide.{ℕ_discrete}
use native.Mathlib.Omega.{arith}
use lib.Dec.{T}
use lib.ListN.{length}
use Rattle.gf256.specs.Gf256.{gf256}
use Rattle.std.specs.Prelude.{Bool, true, false, Result, Ok, Err}
use Rattle.rules.specs.declared.Refusal.{Refusal}
use Rattle.rules.specs.Refusal.{Rule, First, written_numbers}
use Rattle.rules.proofs.Laws.{between, at_most, all_hold, either}
use Rattle.code.specs.Word.{tested_numbers, writing, testing}
use Rattle.code.specs.Repair.{repaired_numbers, repairing}
use Rattle.code.proofs.Answers.{written_zero, repaired_zero}
use Rattle.code.proofs.Theorems.{repainted_few}
use Rattle.level.specs.Sizes.{strip_most, scratch_least}
use Rattle.level.specs.Level.{Level, IsLevel}
use Rattle.level.specs.Reading.{ReadNumbers, reading_record, entering_with, naming, entering, mending, returned}
use Rattle.level.specs.Writing.{writing_upto, writing_level, writing_strip}
use Rattle.level.specs.Record.{record_length}
use Rattle.level.specs.Strip.{LaneCount}
use Rattle.level.proofs.Lengths.{lanes_within, strip_short}
use Rattle.record.specs.Reading.{record_numbers}
use Rattle.fields.specs.declared.head.Head.{Head}
use Rattle.record.proofs.Theorems.{written_is_level}
use Rattle.text.specs.Reading.{reading_text}
use Rattle.text.proofs.Written.{text_short}
use Rattle.text.proofs.Theorems.{written_text_level}
use Rattle.strip.specs.Reading.{Reading, strip_numbers, StripReadsAs}
use Rattle.strip.proofs.Laid.{record_fits}
use Rattle.strip.proofs.Reader.{zeros}
use Rattle.strip.proofs.Theorems.{written_strip_level, mended_most, repainted_most, wear_most}
use Rattle.pool.specs.declared.Pooled.{Pooled}
use Rattle.pool.specs.Pooled.{Picture, Kind, agreed, taken, conflict, both, pool_numbers, told, pooling, PoolsAs}
use Rattle.pool.proofs.Theorems.{pool_zeros, counts_add_up}
use Rattle.tiny.specs.Tiny.{Place, next_numbers, stepping}
use Rattle.tiny.proofs.Theorems.{few_tiles, numbers_small}
use Rattle.packing.specs.Packed.{unpacked_length, unpacked_read, unpacked_repair, unpacked_pool}
use Rattle.packing.proofs.Rooms.{Room, ReadRoom, PoolRoom, back_length, back_read, back_repair, back_pool}
use Rattle.host.specs.Export.{WriteExport, TestExport, RepairExport, RecordExport, RecordReadExport, TextExport, TextReadExport, StripExport, StripReadExport, PoolExport, TinyExport}

-- a refusal has room
few : (rs : List Rule) (c : ℕ) → T (between 1 31 rs) → First rs c → c < 32
few rs c t f = omega (arith, at_most 31 rs c t f)

-- a writer's numbers have room where its length has
written_room : (rs : List Rule) (a : Result ℕ Refusal) → T (between 1 31 rs) → First rs (written_numbers a).code
    → ((written_numbers a).code ≡ 0 → (written_numbers a).value < 65536) → Room (written_numbers a)
written_room rs a t f h = record {
  code = few rs (written_numbers a).code t f;
  value = either ((written_numbers a).value < 65536) (written_numbers a).code h (λ n. omega (arith, written_zero a n));
}

-- ---- words

pub word_write_told : (d old new : List ℕ) (r : ℕ) (E : WriteExport d old new r) → unpacked_length r ≡ written_numbers E.answer
word_write_told d old new r E =
    ap unpacked_length E.is
    ∙ back_length (written_numbers E.answer) (written_room (writing d old) E.answer tt E.kept.code
    (λ z. omega (
      arith,
      E.kept.value z,
      (E.kept.word z).size,
      (all_hold 10 (writing d old) (written_numbers E.answer).code tt E.kept.code z).0.to,
    )))

pub word_test_told : (w : List ℕ) (r : ℕ) (E : TestExport w r) → unpacked_length r ≡ tested_numbers E.answer
word_test_told w r E =
    ap unpacked_length E.is
    ∙ back_length (tested_numbers E.answer) (record {
      code = few (testing w) (tested_numbers E.answer).code tt E.kept.code;
      value = small
          E.answer;
    })
  where
    small : (a : Result Bool Refusal) → (tested_numbers a).value < 65536
    small (Ok true) = omega arith
    small (Ok false) = omega arith
    small (Err r) = omega arith

-- a word or a lane
pub word_repair_told : (most : ℕ) (marks old new : List ℕ) (r : ℕ) (E : RepairExport most marks old new r) → unpacked_repair r ≡ repaired_numbers E.answer
word_repair_told most marks old new r E =
    ap unpacked_repair E.is
    ∙ back_repair (repaired_numbers E.answer)
    (few (repairing gf256 most (length old) (length marks) marks old) (repaired_numbers E.answer).code tt E.kept.code)
    (either ((repaired_numbers E.answer).mended < 64) (repaired_numbers E.answer).code (λ z. omega (arith, E.kept.mended_is z, (E.kept.reach z).few))
    (λ n. omega (arith, (repaired_zero E.answer n).0)))
    (omega (arith, repainted_few gf256 most (length old) (length marks) marks old new E.answer E.kept))

-- ---- levels written

pub record_write_told : (l : Level) (old new : List ℕ) (r : ℕ) (E : RecordExport l old new r) → unpacked_length r ≡ written_numbers E.answer
record_write_told l old new r E =
    ap unpacked_length E.is
    ∙ back_length (written_numbers E.answer) (written_room (writing_level 364 l (length old)) E.answer tt E.kept.code
    (λ z. omega (arith, E.kept.value z, record_fits l (written_is_level l old new E.answer E.kept z))))

pub text_write_told : (l : Level) (old new : List ℕ) (r : ℕ) (E : TextExport l old new r) → unpacked_length r ≡ written_numbers E.answer
text_write_told l old new r E =
    ap unpacked_length E.is
    ∙ back_length (written_numbers E.answer) (written_room (writing_upto 1 1001 l (length old)) E.answer tt E.kept.code
    (λ z. omega (arith, E.kept.value z, text_short l (written_text_level l old new E.answer E.kept z).0 (written_text_level l old new E.answer E.kept z).1)))

-- where anything but 15 is told, the lane count is one that can be named
named_first : (R : ℕ) (rs : List Rule) (c : ℕ) → c ≢ 15 → First (naming R ∷ rs) c → LaneCount R
named_first R rs c n (inl p) = absurd (n p.1)
named_first R rs c n (inr p) = p.0

pub strip_write_told : (R : ℕ) (l : Level) (old new : List ℕ) (r : ℕ) (E : StripExport R l old new r) → unpacked_length r ≡ written_numbers E.answer
strip_write_told R l old new r E =
    ap unpacked_length E.is
    ∙ back_length (written_numbers E.answer) (written_room (writing_strip R l (length old)) E.answer tt E.kept.code (λ z.
    let n = named_first R (writing_level strip_most l (length old)) (written_numbers E.answer).code (λ e. omega (arith, z, e)) E.kept.code in
    let f = record_fits l (written_strip_level R n l old new E.answer E.kept z) in
    omega (arith, E.kept.value z, strip_short R n (record_length l.width l.height) f.0 f.1)))

-- ---- levels read

-- the numbers of a level, read from a record or from a text
level_room : (a : Result Head Refusal) (new : List ℕ) → (record_numbers a).code < 32 → ((record_numbers a).code ≡ 0 → IsLevel (returned (record_numbers a) new))
    → ReadRoom (record_numbers a)
level_room (Ok r) new f is =
    let l = (is refl).ranged in
    record {
      code = f;
      lane = omega arith;
      version = omega (arith, l.known.to);
      width = omega (arith, l.sized.not_wider);
      height = omega (arith, l.sized.not_higher);
      par = omega (arith, l.par_small);
      mended = omega arith;
      repainted = omega arith;
      wear = omega arith;
      lanes = omega arith;
    }
level_room (Err r) new f is = record {
  code = f;
  lane = omega arith;
  version = omega arith;
  width = omega arith;
  height = omega arith;
  par = omega arith;
  mended = omega arith;
  repainted = omega arith;
  wear = omega arith;
  lanes = omega arith;
}

pub record_read_told : (upto : ℕ) (bs old new : List ℕ) (r : ℕ) (E : RecordReadExport upto bs old new r) → unpacked_read r ≡ record_numbers E.answer
record_read_told upto bs old new r E =
    ap unpacked_read E.is
    ∙ back_read (record_numbers E.answer)
    (level_room E.answer new (few (reading_record upto bs (length old)) (record_numbers E.answer).code tt E.kept.code) E.kept.is_level)

pub text_read_told : (text old new : List ℕ) (r : ℕ) (E : TextReadExport text old new r) → unpacked_read r ≡ record_numbers E.answer
text_read_told text old new r E =
    ap unpacked_read E.is
    ∙ back_read (record_numbers E.answer)
    (level_room E.answer new (few (reading_text text (length old)) (record_numbers E.answer).code tt E.kept.code) E.kept.is_level)

module _ (upto R : ℕ) (s marks tiles tiles' scratch scratch' : List ℕ) (a : Reading) (A : StripReadsAs upto R s marks tiles tiles' scratch scratch' a) where
  code_small : (strip_numbers a).code < 32
  code_small = few (entering R s marks (length tiles) (length scratch) ++ mending gf256 R upto s marks) (strip_numbers a).code tt A.code

  named : (strip_numbers a).code ≢ 15 → LaneCount R
  named n = named_first R (entering_with scratch_least R s marks (length tiles) (length scratch) ++ mending gf256 R upto s marks) (strip_numbers a).code n A.code

  lane_small : (strip_numbers a).lane < 16
  lane_small = go (ℕ_discrete (strip_numbers a).code 6)
    where
      go : Dec ((strip_numbers a).code ≡ 6) → (strip_numbers a).lane < 16
      go (yes z) = omega (arith, (A.lane z).lane_below, (lanes_within R (named (λ e. omega (arith, z, e)))).to)
      go (no k) = omega (arith, A.other_lane k)

  strip_room : ReadRoom (strip_numbers a)
  strip_room = either (ReadRoom (strip_numbers a)) (strip_numbers a).code read refused
    where
      read : (strip_numbers a).code ≡ 0 → ReadRoom (strip_numbers a)
      read z =
          let l = (A.level z).reached.is_level.ranged in
          let n = named (λ e. omega (arith, z, e)) in
          let most = (lanes_within R n).to in
          record {
            code = code_small;
            lane = lane_small;
            version = omega (arith, l.known.to);
            width = omega (arith, l.sized.not_wider);
            height = omega (arith, l.sized.not_higher);
            par = omega (arith, l.par_small);
            mended = omega (arith, most, mended_most R n upto s marks tiles tiles' scratch scratch' a A);
            repainted = omega (arith, most, repainted_most R n upto s marks tiles tiles' scratch scratch' a A);
            wear = omega (arith, wear_most R n upto s marks tiles tiles' scratch scratch' a A);
            lanes = omega (arith, most, (A.level z).lanes_is);
          }

      refused : (strip_numbers a).code ≢ 0 → ReadRoom (strip_numbers a)
      refused k =
          let z = zeros a k in
          record {
            code = code_small;
            lane = lane_small;
            version = omega (arith, ap (λ (n : ReadNumbers). n.version) z);
            width = omega (arith, ap (λ (n : ReadNumbers). n.width) z);
            height = omega (arith, ap (λ (n : ReadNumbers). n.height) z);
            par = omega (arith, ap (λ (n : ReadNumbers). n.par) z);
            mended = omega (arith, ap (λ (n : ReadNumbers). n.mended) z);
            repainted = omega (arith, ap (λ (n : ReadNumbers). n.repainted) z);
            wear = omega (arith, ap (λ (n : ReadNumbers). n.wear) z);
            lanes = omega (arith, ap (λ (n : ReadNumbers). n.lanes) z);
          }

pub strip_read_told : (upto R : ℕ) (s marks tiles tiles' scratch scratch' : List ℕ) (r : ℕ) (E : StripReadExport upto R s marks tiles tiles' scratch scratch' r)
    → unpacked_read r ≡ strip_numbers E.answer
strip_read_told upto R s marks tiles tiles' scratch scratch' r E =
    ap unpacked_read E.is ∙ back_read (strip_numbers E.answer) (strip_room upto R s marks tiles tiles' scratch scratch' E.answer E.kept)

-- ---- pictures pooled

module _ (a b out out' : Picture) (r : Result Pooled Refusal) (P : PoolsAs 4 a b out out' r) where
  -- no count is past the longest strip's cells
  pool_small : (k : Kind) → told (pool_numbers r) k < 512
  pool_small k = either (told (pool_numbers r) k < 512) (pool_numbers r).code (λ z. within z k) (λ n. omega (arith, pool_zeros r n k))
    where
      within : (pool_numbers r).code ≡ 0 → (j : Kind) → told (pool_numbers r) j < 512
      within z j = go j
        where
          sum : (pool_numbers r).agreed + (pool_numbers r).taken + (pool_numbers r).conflict + (pool_numbers r).both ≡ length a.cells
          sum = counts_add_up 4 a b out' (record { out = out; answer = r; promise = P; done = z })

          most : length a.cells < 512
          most =
              let h = (all_hold 13 (pooling 4 a b (length out.cells) (length out.marks)) (pool_numbers r).code tt P.code z).0.0 in
              omega (arith, h.to, h.cells)

          go : (i : Kind) → told (pool_numbers r) i < 512
          go agreed = omega (arith, sum, most)
          go taken = omega (arith, sum, most)
          go conflict = omega (arith, sum, most)
          go both = omega (arith, sum, most)

  pool_room : PoolRoom (pool_numbers r)
  pool_room = record {
    code = few (pooling 4 a b (length out.cells) (length out.marks)) (pool_numbers r).code tt P.code;
    agreed = pool_small agreed;
    taken = pool_small taken;
    conflict = pool_small conflict;
    both = pool_small both;
  }

pub strip_pool_told : (a b out out' : Picture) (r : ℕ) (E : PoolExport 4 a b out out' r) → unpacked_pool r ≡ pool_numbers E.answer
strip_pool_told a b out out' r E =
    ap unpacked_pool E.is ∙ back_pool (pool_numbers E.answer) (pool_room a b out out' E.answer E.kept)

-- ---- tiny boards

pub tiny_next_told : (w h : ℕ) (p : Place) (old new : List ℕ) (r : ℕ) (E : TinyExport w h p old new r) → unpacked_length r ≡ next_numbers E.answer
tiny_next_told w h p old new r E =
    ap unpacked_length E.is
    ∙ back_length (next_numbers E.answer) (record {
      code = few (stepping w h p (length old)) (next_numbers E.answer).code (numbers_small w h p (length old)) E.kept.code;
      value = omega (arith, few_tiles w h p old new E.answer E.kept);
    })
