-- What is promised of levels, records and strips alone. Strips are over any field and any number of lanes.
use mathlib.Core.Path.{◌≡◌, sym, ap, ◌∙◌, subst}
use mathlib.Core.Logic.{◌≢◌}
use mathlib.Core.List.{List}
use Prim.Native.Nat.{ℕ, ◌+◌, ◌*◌, ◌≤◌, ◌<◌}
use native.Mathlib.Nat.{mul-zero, mul-le-mul}
use native.Mathlib.Omega.{arith}
use lib.ListN.{length}
use Rattle.account.specs.Field.{Ops, IsField}
use Rattle.account.specs.Reach.{differing, repainted}
use Rattle.gf256.specs.Gf256.{gf256}
use Rattle.gf256.proofs.Field256.{field256}
use Rattle.level.specs.Level.{Level, IsLevel, Ranged, Counted, Coded}
use Rattle.level.specs.Record.{field_at, record_length, IsRecord}
use Rattle.level.specs.Strip.{columns, Legal, Dealt, IsStrip, StripReach, Reached, wrong_in, marked_in, mended_of, repainted_of, IsWear}
use Rattle.level.proofs.Written.{record_of}
use Rattle.level.proofs.Dealing.{some_dealt, columns_more, lanes_short}
use Rattle.level.proofs.Fields as fields
use Rattle.level.proofs.Determined as determined
use Rattle.level.proofs.RecordOf as records
use Rattle.level.proofs.Strips as strips
use Rattle.level.proofs.Nearest.{rounded, nearest_one, nearest_rounded, nearest_most}
use Rattle.level.proofs.Counts as counts

-- FORMAT 6.10: each board within the ranges has a record, a level or not.
pub board_record : (l : Level) → Ranged l → Counted l → Coded l → (bs : List ℕ) × IsRecord l bs
board_record l ra co cd = (record_of l, records.record_is l ra co cd)

-- FORMAT 6.8: each level has a record, and one.
pub some_record : (l : Level) → IsLevel l → (bs : List ℕ) × IsRecord l bs
some_record l il = board_record l il.ranged il.count il.codes

pub one_record : (l : Level) (xs ys : List ℕ) → IsLevel l → IsRecord l xs → IsRecord l ys → xs ≡ ys
one_record = determined.one_record

-- FORMAT 6.9: two levels with one record are one level.
pub record_injective : (l m : Level) (bs : List ℕ) → IsLevel l → IsLevel m → IsRecord l bs → IsRecord m bs → l ≡ m
record_injective = fields.record_injective

-- FORMAT 6.11: boards of different versions have different records.
pub records_apart : (l m : Level) (xs ys : List ℕ) → l.version ≢ m.version → IsRecord l xs → IsRecord m ys → xs ≢ ys
records_apart l m xs ys d a b e = d (sym a.version ∙ ap (λ (bs : List ℕ). field_at bs 0 4) e ∙ b.version)

module _ (O : Ops) (F : IsField O) (R : ℕ) (some : 0 < R) where
  open O use {order}

  -- FORMAT 6.10: each board within the ranges has a strip, where bytes are cells and its lanes are words of the code.
  pub board_strip : 256 ≤ O.size → (l : Level) → Ranged l → Counted l → Coded l → columns R (record_length l.width l.height) + 5 ≤ order
      → (s : List ℕ) × IsStrip O R l s
  board_strip room l ra co cd short = (d.0, record { bs = record_of l; is_record = r; dealt = d.1 })
    where
      r : IsRecord l (record_of l)
      r = records.record_is l ra co cd

      d : (s : List ℕ) × Dealt O R (record_of l) s
      d =
          some_dealt O F R some (record_of l) (rw r.size short)
          (record { cell = λ p h. omega (arith, room, r.bytes.cell p h) })

  -- FORMAT 7.7: each level has a strip.
  pub some_strip : 256 ≤ O.size → (l : Level) → IsLevel l → columns R (record_length l.width l.height) + 5 ≤ order → (s : List ℕ) × IsStrip O R l s
  some_strip room l il = board_strip room l il.ranged il.count il.codes

  -- FORMAT 7.7: and one.
  pub one_strip : (l : Level) (s t : List ℕ) → IsLevel l → columns R (record_length l.width l.height) + 5 ≤ order → IsStrip O R l s → IsStrip O R l t
      → s ≡ t
  one_strip = strips.one_strip O F R some

  -- FORMAT 7.8: two levels with one strip are one level.
  pub strip_injective : (l m : Level) (s : List ℕ) → IsLevel l → IsLevel m → IsStrip O R l s → IsStrip O R m s → l ≡ m
  strip_injective = strips.strip_injective O F R some

  -- FORMAT 7.20: so two levels of different versions, all else alike or not, have different strips.
  pub strips_apart : (l m : Level) (s t : List ℕ) → IsLevel l → IsLevel m → l.version ≢ m.version → IsStrip O R l s → IsStrip O R m t → s ≢ t
  strips_apart l m s t il im d a b e = d (ap (λ (x : Level). x.version) (strip_injective l m t il im (subst (IsStrip O R l) e a) b))

  module _ (marks s : List ℕ) (m : ℕ) (full : length s ≡ R * m) (short : m ≤ order) where
    -- FORMAT 11.5: no other level has a strip of that length within reach.
    pub one_level : {x y : ℕ} (l n : Level) (t u : List ℕ) → Reached O R x marks s l t → Reached O R y marks s n u → l ≡ n
    one_level = strips.one_level O F R some marks s m full short

    -- FORMAT 11.8: at 2e + f = 6 in a lane, counted against a level's strip, no level is within reach.
    pub six_refused : {upto : ℕ} (l n : Level) (v t : List ℕ) (j : ℕ) → length marks ≡ length s → IsStrip O R l v → length v ≡ length s → j < R
        → 2 * wrong_in R marks s v j + marked_in R marks j ≡ 6 → Reached O R upto marks s n t → ⊥
    six_refused = strips.six_refused O F R some marks s m full short

-- FORMAT 7.7: over bytes each level has a strip of every number of lanes from two on.
pub every_strip : (R : ℕ) → 2 ≤ R → (l : Level) → IsLevel l → (s : List ℕ) × IsStrip gf256 R l s
every_strip R two l il =
    some_strip gf256 field256 R some (omega arith) l il (omega (arith, lanes_short R two, columns_more R some (record_length l.width l.height) 364 short))
  where
    some : 0 < R
    some = omega arith

    short : record_length l.width l.height ≤ 364
    short = omega (arith, mul-le-mul il.ranged.sized.not_wider il.ranged.sized.not_higher)

-- FORMAT 7.16: out of any number of cells but 0, exactly one number is the wear, and it is the quotient or one more.
pub wear_one : (mended N v w : ℕ) → 0 < N → IsWear mended N v → IsWear mended N w → v ≡ w
wear_one mended N v w some = nearest_one (100 * mended) N some v w

pub wear_rounded : (mended N : ℕ) → 0 < N → IsWear mended N (rounded (100 * mended) N)
wear_rounded mended N = nearest_rounded (100 * mended) N

-- FORMAT 7.16: with nothing mended it is 0.
pub wear_none : (N w : ℕ) → 0 < N → IsWear 0 N w → w ≡ 0
wear_none N w some worn = omega (arith, nearest_most 0 N some 0 w (omega (arith, some, mul-zero N)) worn)

-- FORMAT 7.15, 7.16: at most two cells of each lane are mended, and wear is at most 33.
pub mended_most : (R : ℕ) → 0 < R → (marks s t : List ℕ) → StripReach R marks s t → mended_of R marks s t ≤ 2 * R
mended_most = counts.mended_most

pub wear_most : (R : ℕ) → 0 < R → (marks s t : List ℕ) (w : ℕ) → Legal R (length s) → StripReach R marks s t
    → IsWear (mended_of R marks s t) (length s) w → w ≤ 33
wear_most = counts.wear_most

-- FORMAT 11.6: mended is the number of unmarked cells in which the two strips differ.
pub mended_differing : (R : ℕ) → 0 < R → (marks s t : List ℕ) (m : ℕ) → length s ≡ R * m → length marks ≡ length s → length t ≡ length s
    → mended_of R marks s t ≡ differing marks s t
mended_differing = counts.mended_differing

-- FORMAT 7.19: at most five cells of each lane are repainted.
pub repainted_most : (R : ℕ) → 0 < R → (marks s t : List ℕ) → StripReach R marks s t → repainted_of R marks s t ≤ 5 * R
repainted_most = counts.repainted_most

-- FORMAT 11.13: repainted is the number of marked cells in which the two strips differ.
pub repainted_differing : (R : ℕ) → 0 < R → (marks s t : List ℕ) (m : ℕ) → length s ≡ R * m → length marks ≡ length s → length t ≡ length s
    → repainted_of R marks s t ≡ repainted marks s t
repainted_differing = counts.repainted_differing
