-- Windows one after the other: what is blank, and what the tiles add.
use mathlib.Core.Path.{◌≡◌, refl, sym, ap, ◌∙◌}
use mathlib.Core.Logic.{⊎_elim}
use mathlib.Core.List.{List}
use Prim.Native.Nat.{ℕ, ◌+◌, ◌*◌, ◌-◌, ◌/◌, ◌≤◌, ◌<◌}
use native.Mathlib.Omega.{arith}
use lib.ListN.{length, get_or, take}
use lib.Seq.{get_or-take, length-take-le}
use Rattle.rules.proofs.Numbers.{lt_or_ge}
use Rattle.account.specs.Lists.{sum_of}
use Rattle.level.specs.Record.{bit_at, field_at}
use Rattle.level.proofs.Windows.{field_seen}
use Rattle.std.specs.Prelude.{Some, None}
use Rattle.patches.specs.declared.Fixes.{Fixes}
use Rattle.patches.specs.Patched.{patched}
use Rattle.patches.proofs.Patching.{length_patched}
use Rattle.patches.specs.Window.{Shown}
use Rattle.fields.specs.Head.{Heads}
use Rattle.fields.specs.declared.head.Head.{Head}
use Rattle.tiles.specs.Sum.{adds_at, Counted}
use Rattle.tiles.proofs.Part.{part_of, length_part}
use Rattle.tiles.proofs.Counting.{part_summed}
use Rattle.windows.specs.Windows.{record_in, BlankFrom, WeighedAs}
use Rattle.windows.proofs.Pieces.{Sees, blank_more, blank_seen, full_sum, last_sum}

pub length_record : (s : List ℕ) (f : Fixes) (to : ℕ) → to ≤ length s → length (record_in s f to) ≡ to
length_record s f to h = length-take-le to (patched f.cells f.bytes f.count s) (omega (arith, length_patched f.cells f.bytes s f.count))

-- what a window shows, it shows of the record
pub sees : (s scratch : List ℕ) (f : Fixes) (a to n : ℕ) → to ≤ length s → Shown s f.cells f.bytes f.count a to scratch n
    → Sees (record_in s f to) a n (take n scratch)
sees s scratch f a to n h O = record {
  inside = omega (arith, O.before, length_record s f to h);
  same = λ q l.
      get_or-take n scratch q 0 (omega arith) ∙ O.shows q l
      ∙ sym (get_or-take to (patched f.cells f.bytes f.count s) (a + q) 0 (omega (arith, O.before)));
}

-- ---- the head

pub head_seen : (s scratch : List ℕ) (f : Fixes) (to n : ℕ) → 3 ≤ to → to ≤ length s → Shown s f.cells f.bytes f.count 0 3 scratch n → (r : Head)
    → Heads scratch r → Heads (record_in s f to) r
head_seen s scratch f to n some h O r H = record {
  version = H.version ∙ at 0 4 (omega arith);
  width = H.width ∙ at 4 5 (omega arith);
  height = H.height ∙ at 9 5 (omega arith);
  par = H.par ∙ at 14 10 (omega arith);
}
  where
    three : n ≡ 3
    three = ⊎_elim (λ l. absurd (omega (arith, l, O.full (omega arith)))) (λ l. omega (arith, O.before)) (lt_or_ge n 3)

    same : (q : ℕ) → q < 3 → get_or scratch q 0 ≡ get_or (record_in s f to) (0 + q) 0
    same q l = O.shows q (omega (arith, three)) ∙ sym (get_or-take to (patched f.cells f.bytes f.count s) (0 + q) 0 (omega arith))

    at : (p k : ℕ) → p + k ≤ 24 → field_at scratch p k ≡ field_at (record_in s f to) p k
    at p k l =
        let z : 8 * 0 + p ≡ p = omega arith in
        field_seen (record_in s f to) scratch 0 3 same p k (omega arith) ∙ ap (λ (q : ℕ). field_at (record_in s f to) q k) z

-- ---- blank, and the sum

module _ (bs : List ℕ) (bits : ℕ) where
  -- the bytes before one of them have been seen
  pub record Weighing (from sum : ℕ) : Type 0 where
    pub within : from ≤ length bs
    pub start : 3 ≤ from
    pub g : ℕ
    pub few : g ≤ from
    pub sum_is : sum ≡ sum_of (8 * g) (adds_at (part_of bs))
    pub small : sum ≤ 9007199254740992 * (2 * g)
    pub on : from < length bs → from ≡ 3 + 3 * g
    pub all : length bs ≤ from → length (part_of bs) ≤ 3 * g
    pub clear : (p : ℕ) → bits ≤ p → p < 8 * from → bit_at bs p ≡ 0

  pub weighing_0 : 24 ≤ bits → 4 ≤ length bs → Weighing 3 0
  unfolding sum_of
  weighing_0 h l = record {
    within = omega arith;
    start = omega arith;
    g = 0;
    few = omega arith;
    sum_is = refl;
    small = omega arith;
    on = λ _. omega arith;
    all = λ k. absurd (omega arith);
    clear = λ p a b. absurd (omega arith);
  }

  module _ (from sum n r : ℕ) (w : List ℕ) (W : Weighing from sum) (more : from < length bs) (S : Sees bs from n w) (long : length w ≡ n)
      (full : from + n < length bs → n ≡ 186) (d : ℕ) (left : d ≡ bits - 8 * from) where
    pub some_seen : 0 < n
    some_seen = ⊎_elim (λ l. omega (arith, full l)) (λ l. omega arith) (lt_or_ge (from + n) (length bs))

    pub weighing_more : BlankFrom d w → Counted w r → Weighing (from + n) (sum + r)
    weighing_more b C = ⊎_elim goes ends (lt_or_ge (from + n) (length bs))
      where
        clear : (p : ℕ) → bits ≤ p → p < 8 * (from + n) → bit_at bs p ≡ 0
        clear = blank_more bs from n w S bits long W.clear (λ p h. b p (omega (arith, left)))

        goes : from + n < length bs → Weighing (from + n) (sum + r)
        goes l = record {
          within = omega arith;
          start = omega (arith, W.start);
          g = W.g + 62;
          few = omega (arith, W.few, full l);
          sum_is = full_sum bs from n w S W.g (W.on more) long (full l) sum r W.sum_is C;
          small = omega (arith, W.small, C.small, long, full l, count);
          on = λ _. omega (arith, W.on more, full l);
          all = λ k. absurd (omega arith);
          clear = clear;
        }
          where
            count : length w / 3 ≡ 62
            count = omega (arith, long, full l)

        ends : length bs ≤ from + n → Weighing (from + n) (sum + r)
        ends l = record {
          within = S.inside;
          start = omega (arith, W.start);
          g = W.g + (length w / 3 + 1);
          few = omega (arith, W.few, W.on more, long);
          sum_is = last_sum bs from n w S W.g (W.on more) (omega (arith, S.inside)) long sum r W.sum_is C;
          small = omega (arith, W.small, C.small);
          on = λ k. absurd (omega arith);
          all = λ _. omega (arith, length_part bs, W.on more, long);
          clear = clear;
        }

    pub not_blank : (BlankFrom d w → ⊥) → WeighedAs bs bits None
    not_blank out all = out (λ p h. blank_seen bs from n w S bits long all p (omega (arith, left)))

  pub weighed_all : (from sum : ℕ) → length bs ≤ from → Weighing from sum → WeighedAs bs bits (Some sum)
  weighed_all from sum h W = (λ p a b. W.clear p a (omega arith), part_summed (part_of bs) sum W.g (W.all h) W.sum_is)
