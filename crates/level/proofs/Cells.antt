-- The worked examples hold.
use mathlib.Core.Path.{◌≡◌, refl, sym, ap, ap₂, ◌∙◌}
use mathlib.Core.Bool.{Bool, true}
use mathlib.Core.Logic.{inl, inr}
use mathlib.Core.List.{List, [], ◌∷◌}
use Prim.Native.Nat.{ℕ, zero, suc, ◌+◌, ◌*◌, ◌/◌, ◌%◌, ◌≤◌, ◌<◌}
use native.Mathlib.Omega.{arith}
use lib.Dec.{T, eqb, eqb→eq, ltb, ltb→lt}
use lib.ListN.{length, get_or}
use Rattle.account.specs.Field.{power, sum_to}
use Rattle.account.specs.Product.{product}
use Rattle.account.specs.Code.{alpha_to, S, Cells, Clean}
use Rattle.account.specs.Reach.{one_if, count_to, is_marked, differs_at, marked, differing, Reach, Reachable}
use Rattle.account.specs.Lanes.{lane}
use Rattle.account.specs.Lists.{list_of}
use Rattle.account.proofs.Test.{both, both_left, both_right, upto, upto_at}
use Rattle.account.proofs.Laws as laws
use Rattle.account.proofs.Words as words
use Rattle.account.proofs.Words.{five, sums_of, sums_clean}
use Rattle.account.proofs.Generator as generators
use Rattle.account.proofs.Theorems.{one_in_reach, none_at_six}
use Rattle.gf256.specs.Gf256.{gf256}
use Rattle.gf256.proofs.Field256.{field256}
use Rattle.rules.specs.Refusal.{Within, First, asked}
use Rattle.level.specs.Tile.{totals}
use Rattle.level.specs.Level.{Level, IsLevel, Known, code_most, Ranged, Counted, Coded, Fair, Taken, lending}
use Rattle.level.specs.Record.{bit_at, field_at, IsRecord}
use Rattle.level.specs.Strip.{columns, IsStrip}
use Rattle.level.specs.Reading.{reading_record}
use Rattle.level.specs.Cells.{Holds, no_level, All, board, finished, finished_record, finished_strip, unfinished, unfinished_record, unfinished_strip, unfinished_of_two, unfinished_of_eight, unfinished_record2, unfinished_strip2, pitted, pitted_record, pitted_strip, table}
use Rattle.level.proofs.Written.{spelled, record_bit, record_byte, record_of}
use Rattle.level.proofs.RecordOf.{record_is}
use Rattle.level.proofs.Judged.{judged_alike}
use Rattle.level.proofs.Versions.{first_known, second_known}
use Rattle.level.proofs.Worn.{every_row}

-- numbers below a bound, by a computed test
abbrev all_below : ℕ → List ℕ → Bool
all_below n [] = true
all_below n (b ∷ w) = both (ltb b n) (all_below n w)

below_at : (n : ℕ) (l : List ℕ) → T (all_below n l) → (p : ℕ) → p < length l → get_or l p 0 < n
below_at n [] u p h = absurd (omega arith)
below_at n (b ∷ l) u zero h = ltb→lt b n (both_left (ltb b n) (all_below n l) u)
below_at n (b ∷ l) u (suc p) h = below_at n l (both_right (ltb b n) (all_below n l) u) p (omega arith)

bytes_of : (w : List ℕ) → T (all_below 256 w) → Cells gf256 w
bytes_of w t = record { cell = below_at 256 w t }

-- the clean words of the table

clean0 : Clean gf256 (0 ∷ 0 ∷ 0 ∷ 0 ∷ 0 ∷ 0 ∷ [])
unfolding S sum_to alpha_to power product
clean0 = five (λ j. S gf256 j (0 ∷ 0 ∷ 0 ∷ 0 ∷ 0 ∷ 0 ∷ []) ≡ 0) refl refl refl refl refl

clean1 : Clean gf256 (0x01 ∷ 0xCE ∷ 0xE6 ∷ 0xE6 ∷ 0xCE ∷ 0x01 ∷ [])
unfolding S sum_to alpha_to power product
clean1 = five (λ j. S gf256 j (0x01 ∷ 0xCE ∷ 0xE6 ∷ 0xE6 ∷ 0xCE ∷ 0x01 ∷ []) ≡ 0) refl refl refl refl refl

clean2 : Clean gf256 (0x02 ∷ 0x81 ∷ 0xD1 ∷ 0xD1 ∷ 0x81 ∷ 0x02 ∷ [])
unfolding S sum_to alpha_to power product
clean2 = five (λ j. S gf256 j (0x02 ∷ 0x81 ∷ 0xD1 ∷ 0xD1 ∷ 0x81 ∷ 0x02 ∷ []) ≡ 0) refl refl refl refl refl

clean3 : Clean gf256 (0x01 ∷ 0x00 ∷ 0x6C ∷ 0xAA ∷ 0x82 ∷ 0x8B ∷ 0xCE ∷ [])
unfolding S sum_to alpha_to power product
clean3 = five (λ j. S gf256 j (0x01 ∷ 0x00 ∷ 0x6C ∷ 0xAA ∷ 0x82 ∷ 0x8B ∷ 0xCE ∷ []) ≡ 0) refl refl refl refl refl

-- ---- a cell of nothing in front

clean_cons : (w : List ℕ) → Clean gf256 w → Clean gf256 (0 ∷ w)
clean_cons w c j l h =
    words.sum_value gf256 field256 j (0 ∷ w) ∙ generators.value_cons gf256 field256 (alpha_to gf256 j) 0 w
    ∙ ap₂ (λ (a b : ℕ). gf256.◌⊕◌ a b) (laws.zero_mul gf256 field256 (power gf256 (alpha_to gf256 j) (length w)))
    (sym (words.sum_value gf256 field256 j w) ∙ c j l h)

-- the first cell and the others
count_cons : (f : ℕ → Bool) (n : ℕ) → count_to f (suc n) ≡ one_if (f 0) + count_to (λ p. f (suc p)) n
unfolding count_to
count_cons f zero = omega arith
count_cons f (suc n) = omega (arith, count_cons f n)

cells_cons : (w : List ℕ) → Cells gf256 w → Cells gf256 (0 ∷ w)
cells_cons w c = record { cell = at }
  where
    at : (p : ℕ) → p < suc (length w) → get_or (0 ∷ w) p 0 < 256
    at zero h = omega arith
    at (suc p) h = c.cell p (omega arith)

reach_cons : (marks r w : List ℕ) → Reach marks r w → Reach (0 ∷ marks) (0 ∷ r) (0 ∷ w)
reach_cons marks r w h = record {
  same_length = ap suc h.same_length;
  few = omega (arith, h.few, count_cons (differs_at (0 ∷ marks) (0 ∷ r) (0 ∷ w)) (length r), count_cons (is_marked (0 ∷ marks)) (length r));
}

-- without its first cell the wrong place would be outside the word
outside : Reachable gf256 (0 ∷ 0 ∷ 0 ∷ 0 ∷ 0 ∷ 0 ∷ []) (0x00 ∷ 0x6C ∷ 0xAA ∷ 0x82 ∷ 0x8B ∷ 0xCE ∷ []) → ⊥
unfolding count_to
outside R = let z : ◌≡◌ {A = ℕ} 0 1 = ap (λ (l : List ℕ). get_or l 0 0) same in omega arith
  where
    same : 0 ∷ R.word ≡ 0x01 ∷ 0x00 ∷ 0x6C ∷ 0xAA ∷ 0x82 ∷ 0x8B ∷ 0xCE ∷ []
    same =
        one_in_reach gf256 field256 (0 ∷ 0 ∷ 0 ∷ 0 ∷ 0 ∷ 0 ∷ 0 ∷ []) (0x00 ∷ 0x00 ∷ 0x6C ∷ 0xAA ∷ 0x82 ∷ 0x8B ∷ 0xCE ∷ []) (0 ∷ R.word)
        (0x01 ∷ 0x00 ∷ 0x6C ∷ 0xAA ∷ 0x82 ∷ 0x8B ∷ 0xCE ∷ []) (omega arith) (cells_cons R.word R.cells)
        (bytes_of (0x01 ∷ 0x00 ∷ 0x6C ∷ 0xAA ∷ 0x82 ∷ 0x8B ∷ 0xCE ∷ []) tt) (clean_cons R.word R.clean) clean3
        (reach_cons (0 ∷ 0 ∷ 0 ∷ 0 ∷ 0 ∷ 0 ∷ []) (0x00 ∷ 0x6C ∷ 0xAA ∷ 0x82 ∷ 0x8B ∷ 0xCE ∷ []) R.word R.reach)
        (record { same_length = refl; few = omega arith })

-- ---- the boards, their records and strips

-- the size and the codes are within their ranges
module _ (v h : ℕ) (known : Known v) (sized : Within 1 2 h) (ts : List ℕ) where
  ranged : Ranged (board v h ts)
  ranged = record {
    known = known;
    sized = record { wide = omega arith; not_wider = omega arith; high = sized.from; not_higher = omega (arith, sized.to) };
    par_small = omega arith;
  }

  taken : Taken 2 (board v h ts)
  taken = record { ranged = ranged; not_newer = known.to }

  codes : T (all_below (suc (code_most v)) ts) → Coded (board v h ts)
  codes small i l = omega (arith, below_at (suc (code_most v)) ts small i l)

  recorded : Counted (board v h ts) → T (all_below (suc (code_most v)) ts) → IsRecord (board v h ts) (record_of (board v h ts))
  recorded count small = record_is (board v h ts) ranged count (codes small)

-- heights
one : Within 1 2 1
one = record { from = omega arith; to = omega arith }

two : Within 1 2 2
two = record { from = omega arith; to = omega arith }

-- over the lane count: the lanes of s are clean, and bs is in front
module _ (R : ℕ) where
  abbrev clean_lanes : List ℕ → Bool
  clean_lanes s = upto (λ j. upto (λ m. eqb (sums_of gf256 (lane R j s) m) 0) 5) R

  abbrev in_front : List ℕ → List ℕ → Bool
  in_front bs s = upto (λ p. eqb (get_or (lane R (p % R) s) (p / R) 0) (get_or bs p 0)) (R * columns R (length bs))

  strip_of : (l : Level) (bs s : List ℕ) → IsRecord l bs → length s ≡ R * (columns R (length bs) + 5) → T (all_below 256 s) → T (clean_lanes s)
      → T (in_front bs s) → IsStrip gf256 R l s
  strip_of l bs s is long bytes clean front = record {
    bs = bs;
    is_record = is;
    dealt = record {
      cells = bytes_of s bytes;
      size = long;
      clean = λ j h.
          sums_clean gf256 (lane R j s) (λ m k.
          eqb→eq _ _ (upto_at (λ i. eqb (sums_of gf256 (lane R j s) i) 0) 5
          (upto_at (λ i. upto (λ m. eqb (sums_of gf256 (lane R i s) m) 0) 5) R clean j h) m k));
      laid = λ q h. eqb→eq _ _ (upto_at (λ p. eqb (get_or (lane R (p % R) s) (p / R) 0) (get_or bs p 0)) (R * columns R (length bs)) front q h);
    };
  }

finished_record_is : IsRecord (finished 1) finished_record
unfolding record_of record_byte record_bit spelled list_of
finished_record_is = recorded 1 1 first_known one (finished 1).tiles refl tt

finished_strip_is : IsStrip gf256 4 (finished 1) finished_strip
unfolding lane list_of S sum_to alpha_to power product
finished_strip_is = strip_of 4 (finished 1) finished_record finished_strip finished_record_is refl tt tt tt

-- its crate is on its goal, in each version
not_fair : (v : ℕ) → Fair (finished v) → ⊥
unfolding totals
not_fair v f = omega (arith, f.unfinished)

not_lent : (v : ℕ) → Known v → T (all_below (suc (code_most v)) (4 ∷ 5 ∷ [])) → First (asked (λ ask. ask (finished v)) (lending 2)) 10
not_lent v known small =
    inr (taken v 1 known one (finished v).tiles, inr (refl, inr (codes v 1 known one (finished v).tiles small, inl (not_fair v, refl))))

unfinished_record_is : IsRecord (unfinished 1) unfinished_record
unfolding record_of record_byte record_bit spelled list_of
unfinished_record_is = recorded 1 1 first_known one (unfinished 1).tiles refl tt

unfinished_strip_is : IsStrip gf256 4 (unfinished 1) unfinished_strip
unfolding lane list_of S sum_to alpha_to power product
unfinished_strip_is = strip_of 4 (unfinished 1) unfinished_record unfinished_strip unfinished_record_is refl tt tt tt

unfinished_two : IsStrip gf256 2 (unfinished 1) unfinished_of_two
unfolding lane list_of S sum_to alpha_to power product
unfinished_two = strip_of 2 (unfinished 1) unfinished_record unfinished_of_two unfinished_record_is refl tt tt tt

unfinished_eight : IsStrip gf256 8 (unfinished 1) unfinished_of_eight
unfolding lane list_of S sum_to alpha_to power product
unfinished_eight = strip_of 8 (unfinished 1) unfinished_record unfinished_of_eight unfinished_record_is refl tt tt tt

unfinished_record_2 : IsRecord (unfinished 2) unfinished_record2
unfolding record_of record_byte record_bit spelled list_of
unfinished_record_2 = recorded 2 1 second_known one (unfinished 2).tiles refl tt

unfinished_strip_2 : IsStrip gf256 4 (unfinished 2) unfinished_strip2
unfolding lane list_of S sum_to alpha_to power product
unfinished_strip_2 = strip_of 4 (unfinished 2) unfinished_record2 unfinished_strip2 unfinished_record_2 refl tt tt tt

fair : (v : ℕ) → Fair (unfinished v)
unfolding totals
fair v = record { one_player = refl; some_crate = omega arith; enough = omega arith; as_many = λ _. refl; unfinished = omega arith }

is_level : (v : ℕ) → Known v → T (all_below (suc (code_most v)) (2 ∷ 6 ∷ [])) → IsLevel (unfinished v)
is_level v known small = record {
  ranged = ranged v 1 known one (unfinished v).tiles;
  count = refl;
  codes = codes v 1 known one (unfinished v).tiles small;
  playable = fair v;
}

-- two crates and a goal
pitted_record_is : IsRecord (pitted 2) pitted_record
unfolding record_of record_byte record_bit spelled list_of
pitted_record_is = recorded 2 2 second_known two (pitted 2).tiles refl tt

pitted_strip_is : IsStrip gf256 4 (pitted 2) pitted_strip
unfolding lane list_of S sum_to alpha_to power product
pitted_strip_is = strip_of 4 (pitted 2) pitted_record pitted_strip pitted_record_is refl tt tt tt

pitted_fair : Fair (pitted 2)
unfolding totals
pitted_fair = record { one_player = refl; some_crate = omega arith; enough = omega arith; as_many = λ early. absurd (omega arith); unfinished = omega arith }

-- in version 1 its last tile has no code
pitted_foreign : Coded (pitted 1) → ⊥
pitted_foreign c = omega (arith, c 3 (omega arith))

-- a record of version 3, and one of a finished board of version 2
third : First (reading_record 2 (0x31 ∷ 0x04 ∷ 0x05 ∷ 0x94 ∷ []) 961) 7
unfolding field_at bit_at
third = inr (record { from = omega arith; to = omega arith }, inr (omega arith, inl (λ t. omega (arith, t.ranged.known.to), refl)))

finished_record_2 : IsRecord (finished 2) (0x21 ∷ 0x04 ∷ 0x05 ∷ 0x94 ∷ [])
unfolding record_of record_byte record_bit spelled list_of
finished_record_2 = recorded 2 1 second_known one (finished 2).tiles refl tt

finished_read : First (reading_record 2 (0x21 ∷ 0x04 ∷ 0x05 ∷ 0x94 ∷ []) 961) 10
finished_read =
    inr (
      record { from = omega arith; to = omega arith },
      inr (
        omega arith,
        judged_alike 1 (omega arith) (finished 2) (0x21 ∷ 0x04 ∷ 0x05 ∷ 0x94 ∷ []) (0x21 ∷ 0x04 ∷ 0x05 ∷ 0x94 ∷ []) refl finished_record_2 refl (λ q h. refl) 2 10
            (not_lent 2 second_known tt),
      ),
    )

-- Every cell of the table holds.
pub cells : All table
unfolding product count_to
cells = (
  refl,
  (
    refl,
    (
      refl,
      (
        record { size = refl; front = refl; clean = clean1 },
        (
          record { size = refl; front = refl; clean = clean2 },
          (
            record { size = refl; front = refl; clean = clean3 },
            (
              (clean0, record { same_length = refl; few = omega arith }, refl, refl),
              (
                at_six none (0x01 ∷ 0xCE ∷ 0xE6 ∷ 0x00 ∷ 0x00 ∷ 0x00 ∷ []) (0x01 ∷ 0xCE ∷ 0xE6 ∷ 0xE6 ∷ 0xCE ∷ 0x01 ∷ []) (omega arith)
                    (bytes_of (0x01 ∷ 0xCE ∷ 0xE6 ∷ 0xE6 ∷ 0xCE ∷ 0x01 ∷ []) tt) clean1 refl refl,
                (
                  (clean1, record { same_length = refl; few = omega arith }, refl, refl),
                  (
                    (clean1, record { same_length = refl; few = omega arith }, refl, refl),
                    (
                      (clean1, record { same_length = refl; few = omega arith }, refl, refl),
                      (
                        (clean2, record { same_length = refl; few = omega arith }, refl, refl),
                        (
                          (clean2, record { same_length = refl; few = omega arith }, refl, refl),
                          (
                            at_six ones (0x02 ∷ 0 ∷ 0 ∷ 0 ∷ 0 ∷ 0 ∷ []) (0x02 ∷ 0x81 ∷ 0xD1 ∷ 0xD1 ∷ 0x81 ∷ 0x02 ∷ []) (omega arith)
                                (bytes_of (0x02 ∷ 0x81 ∷ 0xD1 ∷ 0xD1 ∷ 0x81 ∷ 0x02 ∷ []) tt) clean2 refl refl,
                            (
                              (clean3, record { same_length = refl; few = omega arith }, refl, refl),
                              (
                                outside,
                                (
                                  (finished_record_is, finished_strip_is),
                                  (
                                    no_level_is,
                                    (
                                      (unfinished_record_is, unfinished_strip_is),
                                      (
                                        (unfinished_record_is, unfinished_two),
                                        (
                                          (unfinished_record_is, unfinished_eight),
                                          (
                                            is_level 1 first_known tt,
                                            (
                                              (pitted_record_is, pitted_strip_is),
                                              (
                                                pitted_level,
                                                (
                                                  no_pit,
                                                  ((unfinished_record_2, unfinished_strip_2), (is_level 2 second_known tt, (third, (finished_read, (every_row, tt))))),
                                                ),
                                              ),
                                            ),
                                          ),
                                        ),
                                      ),
                                    ),
                                  ),
                                ),
                              ),
                            ),
                          ),
                        ),
                      ),
                    ),
                  ),
                ),
              ),
            ),
          ),
        ),
      ),
    ),
  ),
)
  where
    no_level_is : Holds (no_level (finished 1) 10)
    no_level_is = (λ il. not_fair 1 il.playable, not_lent 1 first_known tt)

    pitted_level : IsLevel (pitted 2)
    pitted_level = record {
      ranged = ranged 2 2 second_known two (pitted 2).tiles;
      count = refl;
      codes = codes 2 2 second_known two (pitted 2).tiles tt;
      playable = pitted_fair;
    }

    no_pit : Holds (no_level (pitted 1) 9)
    no_pit = (λ il. pitted_foreign il.codes, inr (taken 1 2 first_known two (pitted 1).tiles, inr (refl, inl (pitted_foreign, refl))))

    none : List ℕ
    none = 0 ∷ 0 ∷ 0 ∷ 0 ∷ 0 ∷ 0 ∷ []

    ones : List ℕ
    ones = 1 ∷ 1 ∷ 1 ∷ 1 ∷ 1 ∷ 1 ∷ []

    -- a clean word at exactly six refutes every other
    at_six : (marks r v : List ℕ) → length r ≤ 255 → Cells gf256 v → Clean gf256 v → length v ≡ length r → 2 * differing marks r v + marked marks r ≡ 6
        → Reachable gf256 marks r → ⊥
    at_six marks r v short cv kv e six R = none_at_six gf256 field256 marks r v R.word short cv R.cells kv R.clean e six R.reach
