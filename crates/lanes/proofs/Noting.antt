-- The errata of a lane noted among those of the strip.
use mathlib.Core.Path.{◌≡◌, sym, ap, ◌∙◌, subst}
use mathlib.Core.List.{List, [], ◌∷◌, ◌++◌}
use Prim.Native.Nat.{ℕ, ◌+◌, ◌*◌, ◌/◌, ◌≤◌, ◌<◌}
use native.Mathlib.Nat.{mul-le-mul, le_of_lt}
use native.Mathlib.Omega.{arith}
use lib.Bits.{bit_xor}
use lib.ListN.{length, get_or, take, set, length-set}
use lib.Seq.{get_or-take, length-take-le}
use Rattle.account.specs.Lanes.{lane}
use Rattle.account.specs.Errata.{Applied}
use Rattle.account.proofs.Lanes.{length_lane}
use Rattle.gf256.specs.Gf256.{gf256}
use Rattle.values.specs.declared.Errata.{Errata}
use Rattle.marks.specs.Marks.{CountsOne}
use Rattle.marks.specs.declared.Counts.{Counts}
use Rattle.marks.proofs.Counting.{lane_inside, lane_counts, counts_few, take_next, counts_next, erratum_below}
use Rattle.code.specs.Lane.{word_of}
use Rattle.code.specs.declared.lane.Lane.{Lane}
use Rattle.patches.specs.declared.Fixes.{Fixes}
use Rattle.lanes.specs.Fixes.{Noting, Noted, fixed}
use Rattle.patches.proofs.Patching.{patched_pushed, length_patched}
use Rattle.lanes.proofs.Setting.{lane_set, lane_set_other}
use Rattle.code.proofs.Applying.{alike, outside_before, applied_last}

module _ (R l : ℕ) (w : Lane) (e : Errata) (marks : List ℕ) (f : Fixes) (N : Noting R l w e marks f) where
  some : 0 < R
  some = omega (arith, N.inside)

  -- the next, as a cell of the lane and of the strip
  module _ (i : ℕ) (h : i < e.count) where
    abbrev c : ℕ
    c = get_or e.cells i 0

    abbrev p : ℕ
    p = R * c + l

    abbrev v : ℕ
    v = get_or e.values i 0

    abbrev b : ℕ
    b = bit_xor (get_or w.bytes c 0) v

    pub cell_below : c < w.len
    cell_below = erratum_below w.len e N.errata i h

    pub cell_small : p < 65536
    cell_small = omega (arith, mul-le-mul N.lanes (le_of_lt cell_below), N.short, N.inside, N.lanes)

    in_columns : c < length marks / R
    in_columns = omega (arith, cell_below, N.matched)

    pub cell_inside : p < length marks
    cell_inside = lane_inside R marks l c N.inside in_columns

    cells_more : take (i + 1) e.cells ≡ take i e.cells ++ c ∷ []
    cells_more = take_next e.cells i (omega (arith, N.errata.few, N.errata.room))

    values_more : take (i + 1) e.values ≡ take i e.values ++ v ∷ []
    values_more = take_next e.values i (omega (arith, N.errata.few, N.errata.values_room))

    as_many : length (take i e.values) ≡ length (take i e.cells)
    as_many = alike w.len e N.errata i (omega arith)

    module _ (f' : Fixes) (m : Counts) (H : Noted R l w e marks f i f' m) where
      room_one : f'.count < 80
      room_one = omega (arith, H.noted, N.room.left, N.errata.few)

      pub counts_small : (m.mended ≤ 4096) × (m.repainted ≤ 4096)
      counts_small =
          let u = counts_few (lane R l marks) (take i e.cells) (take i e.values) m H.counts in
          let n : length (take i e.cells) ≤ 5 = omega (arith, length-take-le i e.cells (omega (arith, N.errata.few, N.errata.room)), N.errata.few) in
          (omega (arith, u.0), omega (arith, u.1))

      -- f'' are the same with one more
      module _ (f'' : Fixes) (ec : f''.cells ≡ set f'.cells f'.count p) (eb : f''.bytes ≡ set f'.bytes f'.count b) (en : f''.count ≡ f'.count + 1) where
        pub noted_more : (x : Counts) → CountsOne marks p v m x → Noted R l w e marks f (i + 1) f'' x
        noted_more x C = record {
          noted = omega (arith, en, H.noted);
          cells_long = ap length ec ∙ length-set f'.cells f'.count p ∙ H.cells_long;
          bytes_long = ap length eb ∙ length-set f'.bytes f'.count b ∙ H.bytes_long;
          own = λ s z same.
              subst (λ (ps : List ℕ). Applied gf256 ps (take (i + 1) e.values) (word_of w) (lane R l (fixed f'' s))) (sym cells_more)
              (subst (λ (vs : List ℕ). Applied gf256 (take i e.cells ++ c ∷ []) vs (word_of w) (lane R l (fixed f'' s))) (sym values_more)
              (subst (Applied gf256 (take i e.cells ++ c ∷ []) (take i e.values ++ v ∷ []) (word_of w)) (sym (set_there s z))
              (applied_last (take i e.cells) (take i e.values) (word_of w) (lane R l (fixed f' s)) c v as_many
              (outside_before e.cells e.count i h (omega (arith, N.errata.few, N.errata.room)) N.errata.distinct) (in_word s z same) (H.own s z same))));
          others = λ s z j a n. ap (lane R j) (pushed s) ∙ lane_set_other R some (fixed f' s) l c b N.inside (inside s z) j a n ∙ H.others s z j a n;
          counts =
              counts_next (lane R l marks) e.cells e.values i m x (omega (arith, N.errata.few, N.errata.room))
              (omega (arith, N.errata.few, N.errata.values_room)) H.counts (lane_counts R marks l c v m x N.inside in_columns C);
        }
          where
            pushed : (s : List ℕ) → fixed f'' s ≡ set (fixed f' s) p b
            pushed s =
                rw (ec, eb, en)
                (patched_pushed f'.cells f'.bytes s f'.count p b (omega (arith, H.cells_long, room_one)) (omega (arith, H.bytes_long, room_one)))

            inside : (s : List ℕ) → length s / R ≡ w.len → c < length (fixed f' s) / R
            inside s z = subst (λ (n : ℕ). c < n / R) (sym (length_patched f'.cells f'.bytes s f'.count)) (omega (arith, cell_below, z))

            -- the word has as many cells as the strip has columns
            in_word : (s : List ℕ) → length s / R ≡ w.len → lane R l (fixed f s) ≡ word_of w → c < length (word_of w)
            in_word s z same =
                omega (
                  arith,
                  cell_below,
                  z,
                  ap length same,
                  length_lane R some l (fixed f s),
                  ap (λ (n : ℕ). n / R) (length_patched f.cells f.bytes s f.count),
                )

            set_there : (s : List ℕ) → length s / R ≡ w.len → lane R l (fixed f'' s) ≡ set (lane R l (fixed f' s)) c (bit_xor (get_or (word_of w) c 0) v)
            set_there s z =
                ap (lane R l) (pushed s) ∙ lane_set R some (fixed f' s) l c b N.inside (inside s z)
                ∙ ap (λ (y : ℕ). set (lane R l (fixed f' s)) c (bit_xor y v)) (sym (get_or-take w.len w.bytes c 0 cell_below))
