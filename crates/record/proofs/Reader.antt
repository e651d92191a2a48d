-- The answers of the reader.
use mathlib.Core.Path.{◌≡◌, refl, subst}
use mathlib.Core.Logic.{inr}
use mathlib.Core.List.{List}
use Prim.Native.Nat.{ℕ, ◌*◌, ◌≤◌}
use native.Mathlib.Omega.{arith}
use lib.ListN.{length}
use lib.Seq.{take_all}
use Rattle.std.specs.Prelude.{Result, Ok, Err}
use Rattle.rules.specs.declared.Refusal.{Refusal}
use Rattle.rules.specs.Refusal.{First, Within, number_of}
use Rattle.rules.specs.Bytes.{Bytes}
use Rattle.rules.proofs.Laws.{some_number}
use Rattle.level.specs.Level.{Level, IsLevel}
use Rattle.level.specs.Record.{field_at, record_length, IsRecord}
use Rattle.level.specs.Strip.{columns}
use Rattle.level.specs.Reading.{level_of, Shaped, reading_record}
use Rattle.level.proofs.Judged.{spelled_record, spelled_level}
use Rattle.fields.specs.declared.head.Head.{Head}
use Rattle.fields.specs.Judged.{AcceptedAs}
use Rattle.fields.proofs.Accepting.{passed, level_is, tiles_past}
use Rattle.record.specs.Reading.{RecordReadsAs}

-- the bytes of a record are all of it
pub whole_record : (bs : List ℕ) → Bytes bs → Shaped 1 bs → IsRecord (level_of bs) bs
whole_record bs by s =
    subst (IsRecord (level_of bs)) (take_all (record_length (field_at bs 4 5) (field_at bs 9 5)) bs (omega (arith, all, s.fits)))
    (spelled_record 1 (omega arith) bs by s)
  where
    all : 1 * columns 1 (record_length (field_at bs 4 5) (field_at bs 9 5)) ≡ record_length (field_at bs 4 5) (field_at bs 9 5)
    all = go (record_length (field_at bs 4 5) (field_at bs 9 5))
      where
        go : (B : ℕ) → 1 * columns 1 B ≡ B
        go B = omega arith

module _ (upto : ℕ) (bs old new : List ℕ) where
  pub not_reads : (e : Refusal) → new ≡ old → First (reading_record upto bs (length old)) (number_of e) → RecordReadsAs upto bs old new (Err e)
  not_reads e k f = record {
    code = f;
    is_level = λ z. absurd (some_number e z);
    not_newer = λ z. absurd (some_number e z);
    is_record = λ z. absurd (some_number e z);
    past = λ z. absurd (some_number e z);
    kept = λ _. k;
  }

  -- what is accepted is read
  pub reads : (r : Result Head Refusal) → AcceptedAs upto 1 bs old new r → Bytes bs → Within 4 364 (length bs) → 961 ≤ length old
      → RecordReadsAs upto bs old new r
  reads (Err e) A by a b = not_reads e A.kept (inr (a, inr (b, A.first)))
  reads (Ok r) A by a b =
      let p = passed upto 1 bs 0 refl A.first in
      let h = A.heads in
      let e = level_is bs old new r.version r.width r.height r.par h.version h.width h.height h.par A.tiles in
      record {
        code = inr (a, inr (b, A.first));
        is_level = λ _. subst IsLevel e (spelled_level bs p.0.ranged p.1.1.0 p.1.1.1.0);
        not_newer = λ _. omega (arith, h.version, p.0.not_newer);
        is_record = λ _. subst (λ (l : Level). IsRecord l bs) e (whole_record bs by p.1.0);
        past = λ _. tiles_past bs old new r.version r.width r.height r.par h.version h.width h.height h.par A.tiles;
        kept = λ k. absurd (k refl);
      }
