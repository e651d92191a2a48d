-- A record seen through windows: bits, fields and sums of a window are those of the record.
use mathlib.Core.Path.{◌≡◌, sym, ap, ◌∙◌}
use mathlib.Core.Logic.{⊎_elim}
use mathlib.Core.List.{List}
use Prim.Native.Nat.{ℕ, ◌+◌, ◌*◌, ◌-◌, ◌/◌, ◌≤◌, ◌<◌}
use native.Mathlib.Omega.{arith}
use lib.ListN.{length, get_or}
use Rattle.rules.proofs.Numbers.{lt_or_ge}
use Rattle.account.specs.Lists.{sum_of}
use Rattle.account.proofs.Lanes.{get_d_past}
use Rattle.level.specs.Record.{bit_at, field_at}
use Rattle.level.proofs.Counts.{sum_cong}
use Rattle.level.proofs.Windows.{bit_seen, field_part, field_seen}
use Rattle.tiles.specs.Sum.{weighed, adds_at, Counted}
use Rattle.tiles.proofs.Part.{part_of, part_same}
use Rattle.tiles.proofs.Counting.{sum_append, sum_none, bit_past, field_none}

-- w has n bytes of bs, from byte a on
pub record Sees (bs : List ℕ) (a n : ℕ) (w : List ℕ) : Type 0 where
  pub inside : a + n ≤ length bs
  pub same : (q : ℕ) → q < n → get_or w q 0 ≡ get_or bs (a + q) 0

module _ (bs : List ℕ) (a n : ℕ) (w : List ℕ) (S : Sees bs a n w) where
  -- ---- blank

  module _ (bits : ℕ) where
    pub blank_more : length w ≡ n → ((p : ℕ) → bits ≤ p → p < 8 * a → bit_at bs p ≡ 0) → ((p : ℕ) → bits - 8 * a ≤ p → p < 8 * length w → bit_at w p ≡ 0)
        → (p : ℕ) → bits ≤ p → p < 8 * (a + n) → bit_at bs p ≡ 0
    blank_more long old new p h k = ⊎_elim (λ l. old p h l) (λ l.
        let z : 8 * a + (p - 8 * a) ≡ p = omega arith in
        ap (bit_at bs) (sym z) ∙ sym (bit_seen bs w a n S.same (p - 8 * a) (omega arith)) ∙ new (p - 8 * a) (omega arith) (omega (arith, long))) (lt_or_ge p (8 * a))

    pub blank_seen : length w ≡ n → ((p : ℕ) → bits ≤ p → p < 8 * length bs → bit_at bs p ≡ 0) → (p : ℕ) → bits - 8 * a ≤ p → p < 8 * length w → bit_at w p ≡ 0
    blank_seen long all p h k = bit_seen bs w a n S.same p (omega (arith, long)) ∙ all (8 * a + p) (omega arith) (omega (arith, long, S.inside))

  -- ---- what the tiles add

  module _ (g : ℕ) (at : a ≡ 3 + 3 * g) where
    -- a tile of the window is one of the part
    abbrev part : List ℕ
    part = part_of bs

    tile_in_part : (i : ℕ) → field_at part (3 * (8 * g + i)) 3 ≡ field_at bs (8 * a + 3 * i) 3
    tile_in_part i =
        let z : 8 * 3 + 3 * (8 * g + i) ≡ 8 * a + 3 * i = omega arith in
        field_part bs part 3 (part_same bs) (3 * (8 * g + i)) 3 ∙ ap (λ (p : ℕ). field_at bs p 3) z

    tile_seen : (i : ℕ) → 3 * i + 3 ≤ 8 * n → adds_at w i ≡ adds_at part (8 * g + i)
    tile_seen i h = ap weighed (field_seen bs w a n S.same (3 * i) 3 h ∙ sym (tile_in_part i))

    -- at the end of the bytes the window has all that there is
    tile_last : a + n ≡ length bs → length w ≡ n → (i : ℕ) → adds_at w i ≡ adds_at part (8 * g + i)
    tile_last e long i = ap weighed (field_part bs w a all (3 * i) 3 ∙ sym (tile_in_part i))
      where
        all : (q : ℕ) → get_or w q 0 ≡ get_or bs (a + q) 0
        all q = ⊎_elim (λ l. S.same q l) (λ l. get_d_past w q (omega (arith, long)) ∙ sym (get_d_past bs (a + q) (omega (arith, e)))) (lt_or_ge q n)

    none_past : length w ≡ n → n ≡ 186 → (i : ℕ) → adds_at w (496 + i) ≡ 0
    none_past long e i = ap weighed (field_none w (3 * (496 + i)) 3 (λ q h. bit_past w q (omega (arith, long, e))))

    pub full_sum : length w ≡ n → n ≡ 186 → (x r : ℕ) → x ≡ sum_of (8 * g) (adds_at part) → Counted w r → x + r ≡ sum_of (8 * (g + 62)) (adds_at part)
    full_sum long e x r ex C =
        let z : 8 * (g + 62) ≡ 8 * g + 496 = omega arith in
        let y : 8 * (length w / 3 + 1) ≡ 496 + 8 = omega (arith, long, e) in
        omega (
          arith,
          ex,
          C.all,
          ap (λ (k : ℕ). sum_of k (adds_at w)) y,
          sum_append 496 8 (adds_at w),
          sum_none 8 (λ i. adds_at w (496 + i)) (none_past long e),
          ap (λ (k : ℕ). sum_of k (adds_at part)) z,
          sum_append (8 * g) 496 (adds_at part),
          sum_cong 496 (adds_at w) (λ i. adds_at part (8 * g + i)) (λ i h. tile_seen i (omega (arith, e))),
        )

    pub last_sum : a + n ≡ length bs → length w ≡ n → (x r : ℕ) → x ≡ sum_of (8 * g) (adds_at part) → Counted w r
        → x + r ≡ sum_of (8 * (g + (length w / 3 + 1))) (adds_at part)
    last_sum e long x r ex C =
        let z : 8 * (g + (length w / 3 + 1)) ≡ 8 * g + 8 * (length w / 3 + 1) = omega arith in
        omega (
          arith,
          ex,
          C.all,
          ap (λ (k : ℕ). sum_of k (adds_at part)) z,
          sum_append (8 * g) (8 * (length w / 3 + 1)) (adds_at part),
          sum_cong (8 * (length w / 3 + 1)) (adds_at w) (λ i. adds_at part (8 * g + i)) (λ i h. tile_last e long i),
        )
