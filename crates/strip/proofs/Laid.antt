-- The record, its filling and the check cells are the level's strip.
use mathlib.Core.Path.{◌≡◌, sym, ap, ◌∙◌, subst}
use mathlib.Core.Logic.{◌⊎◌, inl, inr}
use mathlib.Core.List.{List}
use Prim.Native.Nat.{ℕ, ◌+◌, ◌*◌, ◌-◌, ◌≤◌, ◌<◌}
use native.Mathlib.Nat.{mul-add, mul-le-mul}
use native.Mathlib.Omega.{arith}
use lib.ListN.{length, get_or, take, drop, length-drop, length-take}
use lib.Seq.{ext_get_or, get_or-take, get_or-drop, length-take-le}
use Rattle.account.specs.Code.{Cells}
use Rattle.account.proofs.Lanes.{get_d_past, cell}
use Rattle.gf256.specs.Gf256.{gf256}
use Rattle.rules.specs.Refusal.{Within}
use Rattle.rules.specs.Placed.{Placed}
use Rattle.dealt.specs.Lanes.{ChecksPut}
use Rattle.level.specs.Sizes.{strip_most}
use Rattle.level.specs.Level.{Level, IsLevel}
use Rattle.level.specs.Record.{record_length}
use Rattle.level.specs.Strip.{LaneCount, columns, IsStrip}
use Rattle.rules.proofs.Numbers.{lt_or_ge}
use Rattle.level.proofs.Dealing.{within}
use Rattle.level.proofs.Lengths.{lanes_within, columns_few, strip_short}
use Rattle.lending.specs.Lending.{RecordPut}
use Rattle.fields.proofs.Tiles.{area_small}
use Rattle.strip.specs.Writing.{strip_length, LaidAs}

-- how far a record reaches
pub record_fits : (l : Level) → IsLevel l → (4 ≤ record_length l.width l.height) × (record_length l.width l.height ≤ 364)
record_fits l il =
    let a = area_small l.width l.height il.ranged.sized.not_wider il.ranged.sized.not_higher in
    let b : 1 * 1 ≤ l.width * l.height = mul-le-mul il.ranged.sized.wide il.ranged.sized.high in
    (omega (arith, b), omega (arith, a))

-- the numbers of the strip of a record of b bytes
pub record StripFits (R b : ℕ) : Type 0 where
  pub lanes : Within 1 16 R
  pub bytes : b ≤ 364
  pub few : columns R b + 5 ≤ 187
  pub holds : b ≤ R * columns R b
  pub front : R * columns R b ≤ strip_most
  pub cells : R * (columns R b + 5) ≤ strip_most

pub strip_fits : (R : ℕ) → LaneCount R → (l : Level) → IsLevel l → (b : ℕ) → b ≡ record_length l.width l.height → StripFits R b
strip_fits R lanes l il b e = record {
  lanes = record { from = omega (arith, (lanes_within R lanes).from); to = (lanes_within R lanes).to };
  bytes = most;
  few = columns_few R lanes b least most;
  holds = within R (omega (arith, (lanes_within R lanes).from)) b;
  front = omega (arith, strip_short R lanes b least most, mul-add R (columns R b) 5);
  cells = strip_short R lanes b least most;
}
  where
    least : 4 ≤ b
    least = omega (arith, e, (record_fits l il).0)

    most : b ≤ 364
    most = omega (arith, e, (record_fits l il).1)

module _ (R : ℕ) (some : 0 < R) (l : Level) (o x1 x2 x3 : List ℕ) (b k : ℕ) (put : RecordPut l o x1 b) (ek : k ≡ columns R b)
    (filled : Placed b (R * k) (λ p. 0) x1 x2) (checks : ChecksPut gf256 R k x2 x3) (room : R * (k + 5) ≤ length o) (bytes : Cells gf256 x3) where
  cells : R * (k + 5) ≡ R * k + R * 5
  cells = mul-add R k 5

  holds : b ≤ R * k
  holds = subst (λ (n : ℕ). b ≤ R * n) (sym ek) (within R some b)

  record_long : length (take b x1) ≡ b
  record_long = put.is_record.size ∙ sym put.size

  x1_long : length x1 ≡ length o
  x1_long =
      let a : length x1 - b ≡ length o - b = sym (length-drop b x1) ∙ ap length put.past ∙ length-drop b o in
      omega (arith, record_long, length-take b x1, a, room, cells, holds)

  x2_long : length x2 ≡ length o
  x2_long = filled.long ∙ x1_long

  x3_long : length x3 ≡ length o
  x3_long = checks.long ∙ x2_long

  -- the data cells are the record and zeros
  data_cell : (q : ℕ) → q < R * k → get_or x3 q 0 ≡ get_or (take b x1) q 0
  data_cell q h = checks.front q h ∙ go (lt_or_ge q b)
    where
      go : (q < b) ⊎ (b ≤ q) → get_or x2 q 0 ≡ get_or (take b x1) q 0
      go (inl a) = filled.outside q (inl a) ∙ sym (get_or-take b x1 q 0 a)
      go (inr a) = filled.inside q a h ∙ sym (get_d_past (take b x1) q (omega (arith, record_long)))

  front : length (take (R * (k + 5)) x3) ≡ R * (k + 5)
  front = length-take-le (R * (k + 5)) x3 (omega (arith, x3_long, room))

  wide : R * (columns R (length (take b x1)) + 5) ≡ R * (k + 5)
  wide = ap (λ (n : ℕ). R * (n + 5)) (ap (columns R) record_long ∙ sym ek)

  data_wide : R * columns R (length (take b x1)) ≡ R * k
  data_wide = ap (λ (n : ℕ). R * n) (ap (columns R) record_long ∙ sym ek)

  strip_laid : IsStrip gf256 R l (take (R * (k + 5)) x3)
  strip_laid = record {
    bs = take b x1;
    is_record = put.is_record;
    dealt = record {
      cells = record {
        cell = λ q h. let i : q < R * (k + 5) = omega (arith, front) in rw (get_or-take (R * (k + 5)) x3 q 0 i) (bytes.cell q (omega (arith, x3_long, room)));
      };
      size = front ∙ sym wide;
      clean = λ j h. (checks.words j h).clean;
      laid = λ q h.
          let i : q < R * k = omega (arith, data_wide) in
          cell R some (take (R * (k + 5)) x3) (k + 5) front q (omega (arith, front, cells)) ∙ get_or-take (R * (k + 5)) x3 q 0 (omega (arith, cells))
          ∙ data_cell q i;
    };
  }

  past_cell : (p : ℕ) → b ≤ p → get_or x1 p 0 ≡ get_or o p 0
  past_cell p h =
      let z : b + (p - b) ≡ p = omega arith in
      ap (λ (n : ℕ). get_or x1 n 0) (sym z) ∙ sym (get_or-drop b x1 (p - b) 0) ∙ ap (λ (x : List ℕ). get_or x (p - b) 0) put.past ∙ get_or-drop b o (p - b) 0
      ∙ ap (λ (n : ℕ). get_or o n 0) z

  strip_past : drop (R * (k + 5)) x3 ≡ drop (R * (k + 5)) o
  strip_past =
      ext_get_or 0 (drop (R * (k + 5)) x3) (drop (R * (k + 5)) o)
      (length-drop (R * (k + 5)) x3 ∙ ap (λ (n : ℕ). n - R * (k + 5)) x3_long ∙ sym (length-drop (R * (k + 5)) o)) (λ i h.
      get_or-drop (R * (k + 5)) x3 i 0 ∙ checks.past (R * (k + 5) + i) (omega arith) ∙ filled.outside (R * (k + 5) + i) (inr (omega (arith, cells)))
      ∙ past_cell (R * (k + 5) + i) (omega (arith, cells, holds)) ∙ sym (get_or-drop (R * (k + 5)) o i 0))

  pub laid_as : LaidAs R l o x3 (R * (k + 5))
  laid_as = record {
    size = length_is;
    strip = subst (λ (n : ℕ). IsStrip gf256 R l (take n x3)) length_is strip_laid;
    past = subst (λ (n : ℕ). drop n x3 ≡ drop n o) length_is strip_past;
  }
    where
      length_is : R * (k + 5) ≡ strip_length R l
      length_is = ap (λ (n : ℕ). R * (n + 5)) (ek ∙ ap (columns R) put.size)
