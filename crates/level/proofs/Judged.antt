-- What passes refusals 7 to 10 is a level's record with its filling; and the record of a board is refused as the board is.
use mathlib.Core.Path.{◌≡◌, refl, sym, ap, ap₂, ◌∙◌, subst}
use Prim.Native.Nat.{ℕ, ◌+◌, ◌*◌, ◌-◌, ◌/◌, ◌%◌, ◌^◌, ◌≤◌, ◌<◌}
use native.Mathlib.Nat.{zero-div}
use native.Mathlib.Omega.{arith}
use mathlib.Core.List.{List}
use mathlib.Core.Logic.{◌⊎◌, inl, inr}
use lib.ListN.{length, get_or, take}
use lib.Seq.{get_or-take, ext_get_or, length-take-le}
use Rattle.rules.specs.Bytes.{Bytes}
use Rattle.rules.specs.Refusal.{First, Hold, asked}
use Rattle.rules.proofs.Laws.{first_alike}
use Rattle.account.proofs.Lists.{length_list_of, get_d_list_of}
use Rattle.account.proofs.Lanes.{get_d_past}
use Rattle.level.specs.Level.{Level, IsLevel, Ranged, Counted, Coded, Fair, Taken, lending}
use Rattle.level.specs.Record.{bit_at, field_at, record_length, IsRecord}
use Rattle.level.specs.Strip.{columns}
use Rattle.level.specs.Reading.{tiles_in, level_of, Shaped, judging}
use Rattle.level.proofs.Bits.{bit_of}
use Rattle.rules.proofs.Numbers.{lt_or_ge}
use Rattle.level.proofs.Dealing.{within}
use Rattle.level.proofs.Fields.{same_level}
use Rattle.level.proofs.Versions.{code_late}
use Rattle.level.proofs.Windows.{field_below, bit_front, field_front}

pub length_tiles : (bs : List ℕ) (n : ℕ) → length (tiles_in bs n) ≡ n
unfolding tiles_in
length_tiles bs n = length_list_of n (λ i. field_at bs (24 + 3 * i) 3)

pub get_d_tiles : (bs : List ℕ) (n i : ℕ) → i < n → get_or (tiles_in bs n) i 0 ≡ field_at bs (24 + 3 * i) 3
unfolding tiles_in
get_d_tiles bs n i h = get_d_list_of n (λ k. field_at bs (24 + 3 * k) 3) i h

-- a byte without a bit is 0
zero_byte : (bs : List ℕ) (q : ℕ) → get_or bs q 0 < 256 → ((p : ℕ) → 8 * q ≤ p → p < 8 * q + 8 → bit_at bs p ≡ 0) → get_or bs q 0 ≡ 0
zero_byte bs q small none = go (get_or bs q 0) small (λ i h. sym (bit_of bs q i h) ∙ none (8 * q + i) (omega arith) (omega arith))
  where
    go : (x : ℕ) → x < 256 → ((i : ℕ) → i < 8 → x / 2 ^ (7 - i) % 2 ≡ 0) → x ≡ 0
    go x h at =
        let a : x < 128 = omega (arith, at 0 (omega arith)) in
        let b : x < 64 = omega (arith, at 1 (omega arith)) in
        let c : x < 32 = omega (arith, at 2 (omega arith)) in
        let d : x < 16 = omega (arith, at 3 (omega arith)) in
        let e : x < 8 = omega (arith, at 4 (omega arith)) in
        let f : x < 4 = omega (arith, at 5 (omega arith)) in
        let g : x < 2 = omega (arith, at 6 (omega arith)) in
        omega (arith, at 7 (omega arith))

-- and the other way
zero_bit : (bs : List ℕ) (p : ℕ) → get_or bs (p / 8) 0 ≡ 0 → bit_at bs p ≡ 0
unfolding bit_at
zero_bit bs p e = ap (λ (x : ℕ). x / 2 ^ (7 - p % 8) % 2) e ∙ ap (λ (x : ℕ). x % 2) (zero-div (2 ^ (7 - p % 8)))

module _ (R : ℕ) (some : 0 < R) (bs : List ℕ) (by : Bytes bs) (sh : Shaped R bs) where
  abbrev m : ℕ
  m = field_at bs 4 5 * field_at bs 9 5

  abbrev B : ℕ
  B = record_length (field_at bs 4 5) (field_at bs 9 5)

  room : B ≤ length bs
  room = omega (arith, sh.fits, within R some B)

  pub front : length (take B bs) ≡ B
  front = length-take-le B bs room

  same_front : (q : ℕ) → q < B → get_or (take B bs) q 0 ≡ get_or bs q 0
  same_front q h = get_or-take B bs q 0 h

  fld : (p n : ℕ) → p + n ≤ 8 * B → field_at (take B bs) p n ≡ field_at bs p n
  fld p n h = field_front (take B bs) bs B same_front p n h

  -- its record is in front
  pub spelled_record : IsRecord (level_of bs) (take B bs)
  spelled_record = record {
    bytes = record { cell = λ j h. let k : j < B = omega (arith, front) in rw (same_front j k) (by.cell j (omega (arith, room))) };
    size = front;
    version = fld 0 4 (omega arith);
    width = fld 4 5 (omega arith);
    height = fld 9 5 (omega arith);
    par = fld 14 10 (omega arith);
    tile = λ i h. let k : i < m = omega (arith, length_tiles bs m) in fld (24 + 3 * i) 3 (omega arith) ∙ sym (get_d_tiles bs m i k);
    filling = λ p h k.
        bit_front (take B bs) bs B same_front p (omega (arith, front)) ∙ sh.filling p (omega (arith, length_tiles bs m)) (omega (arith, front, room));
  }

  -- and zero bytes past it
  pub filled : (q : ℕ) → q < length bs → get_or bs q 0 ≡ get_or (take B bs) q 0
  filled q h = go (lt_or_ge q B)
    where
      go : (q < B) ⊎ (B ≤ q) → get_or bs q 0 ≡ get_or (take B bs) q 0
      go (inl k) = sym (same_front q k)
      go (inr k) = zero_byte bs q (by.cell q h) (λ p a b. sh.filling p (omega arith) (omega arith)) ∙ sym (get_d_past (take B bs) q (omega (arith, front)))

pub spelled_level : (bs : List ℕ) → Ranged (level_of bs) → Coded (level_of bs) → Fair (level_of bs) → IsLevel (level_of bs)
spelled_level bs ra al pl = record {
  ranged = ra;
  count = length_tiles bs (field_at bs 4 5 * field_at bs 9 5);
  codes = al;
  playable = pl;
}

-- FORMAT 9.55: in version 2 three bits say a tile code, whatever they are
pub late_coded : (bs : List ℕ) → 2 ≤ field_at bs 0 4 → Coded (level_of bs)
late_coded bs late i h =
    let k : i < field_at bs 4 5 * field_at bs 9 5 = omega (arith, h, length_tiles bs (field_at bs 4 5 * field_at bs 9 5)) in
    omega (arith, get_d_tiles bs (field_at bs 4 5 * field_at bs 9 5) i k, field_below bs (24 + 3 * i) 3, code_late (field_at bs 0 4) late)

-- so 9 is not told of it
pub not_nine : (upto R : ℕ) (t : (List ℕ → Type 0) → Type 0) → t (λ bs. Coded (level_of bs)) → First (asked t (judging upto R)) 9 → ⊥
not_nine upto R t coded (inl p) = omega (arith, p.1)
not_nine upto R t coded (inr (a, inl p)) = omega (arith, p.1)
not_nine upto R t coded (inr (a, inr (b, inl p))) = p.0 coded
not_nine upto R t coded (inr (a, inr (b, inr (c, inl p)))) = omega (arith, p.1)
not_nine upto R t coded (inr (a, inr (b, inr (c, inr (d, e))))) = omega (arith, e)

-- a level passes what is asked of one that is lent, and what passes is one
pub level_passes : (upto : ℕ) (l : Level) → IsLevel l → l.version ≤ upto → Hold (asked (λ ask. ask l) (lending upto))
level_passes upto l il early = (record { ranged = il.ranged; not_newer = early }, (il.count, (il.codes, (il.playable, tt))))

pub level_passed : (upto : ℕ) (l : Level) → Hold (asked (λ ask. ask l) (lending upto)) → IsLevel l × (l.version ≤ upto)
level_passed upto l (r, (c, (k, (p, none)))) = (record { ranged = r.ranged; count = c; codes = k; playable = p }, r.not_newer)

-- the record of a board, a level or not, with zero bytes after it
module _ (R : ℕ) (some : 0 < R) (l : Level) (rec bs : List ℕ) (co : Counted l) (is : IsRecord l rec)
    (size : length bs ≡ R * columns R (length rec)) (same : (q : ℕ) → q < length bs → get_or rec q 0 ≡ get_or bs q 0) where
  long : record_length l.width l.height ≤ length bs
  long = omega (arith, size, is.size, within R some (length rec))

  fld' : (p n : ℕ) → p + n ≤ 8 * length bs → field_at bs p n ≡ field_at rec p n
  fld' p n h = sym (field_front rec bs (length bs) same p n h)

  wide : field_at bs 4 5 ≡ l.width
  wide = fld' 4 5 (omega (arith, long)) ∙ is.width

  high : field_at bs 9 5 ≡ l.height
  high = fld' 9 5 (omega (arith, long)) ∙ is.height

  area : field_at bs 4 5 * field_at bs 9 5 ≡ l.width * l.height
  area = ap₂ (λ (x y : ℕ). x * y) wide high

  -- they spell the board
  pub spelled_board : level_of bs ≡ l
  spelled_board = same_level (level_of bs) l (fld' 0 4 (omega (arith, long)) ∙ is.version) wide high
      (fld' 14 10 (omega (arith, long)) ∙ is.par)
      (ap (tiles_in bs) area ∙ ext_get_or 0 (tiles_in bs (l.width * l.height)) l.tiles (length_tiles bs (l.width * l.height) ∙ sym co) (λ i k.
      let j : i < l.width * l.height = omega (arith, length_tiles bs (l.width * l.height)) in
      get_d_tiles bs (l.width * l.height) i j ∙ fld' (24 + 3 * i) 3 (omega (arith, long)) ∙ is.tile i (omega (arith, co))))

  fill : (p : ℕ) → 24 + 3 * (l.width * l.height) ≤ p → (p < 8 * length rec) ⊎ (8 * length rec ≤ p) → bit_at rec p ≡ 0
  fill p k (inl a) = is.filling p (omega (arith, co)) a
  fill p k (inr a) = zero_bit rec p (get_d_past rec (p / 8) (omega arith))

  shaped : Shaped R bs
  shaped = record {
    fits = subst (λ (x : Level). length bs ≡ R * columns R (record_length x.width x.height)) (sym spelled_board) (size ∙ ap (λ (n : ℕ). R * columns R n) is.size);
    filling = λ p h k.
        sym (bit_front rec bs (length bs) same p k)
        ∙ fill p (subst (λ (x : Level). 24 + 3 * (x.width * x.height) ≤ p) spelled_board h) (lt_or_ge p (8 * length rec));
  }

  -- a reader judges them as a writer judges the board
  pub judged_alike : (upto c : ℕ) → First (asked (λ ask. ask l) (lending upto)) c → First (asked (λ ask. ask bs) (judging upto R)) c
  judged_alike upto c =
      first_alike (asked (λ ask. ask l) (lending upto)) (asked (λ ask. ask bs) (judging upto R)) c (
        refl,
        subst (Taken upto) (sym spelled_board),
        subst (Taken upto) spelled_board,
        λ _. (refl, (λ _. shaped), (λ _. co), λ _. (refl, subst Coded (sym spelled_board), subst Coded spelled_board, λ _. (refl, subst Fair (sym spelled_board), subst Fair spelled_board, λ _. tt))),
      )
