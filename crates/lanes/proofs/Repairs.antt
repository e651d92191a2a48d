-- A lane of a strip mended, from what the lower library promises of it.
use mathlib.Core.Path.{◌≡◌, refl, sym, ap, ◌∙◌, subst}
use mathlib.Core.Bool.{Bool}
use mathlib.Core.List.{List}
use Prim.Native.Nat.{ℕ, ◌+◌, ◌*◌, ◌/◌, ◌≤◌, ◌<◌}
use native.Mathlib.Nat.{mul-div_right}
use native.Mathlib.Omega.{arith}
use lib.ListN.{length}
use Rattle.account.specs.Lanes.{lane}
use Rattle.account.specs.Code.{Cells, Clean}
use Rattle.account.specs.Errata.{Applied}
use Rattle.account.specs.Reach.{Reach, and, count_to, is_marked, is_read, differs, differs_at, repainted_at, differing, repainted}
use Rattle.account.proofs.Cells.{none_differ}
use Rattle.account.proofs.Lanes.{length_lane, bytes_lane}
use Rattle.gf256.specs.Gf256.{gf256}
use Rattle.values.specs.declared.Errata.{Errata}
use Rattle.errata.specs.Errata.{cells_of, values_of, Listed, Gathered, ErrataFor, Corrects, SearchedAs}
use Rattle.errata.proofs.Guesses.{listed_marks}
use Rattle.level.specs.Strip.{Mendable}
use Rattle.std.specs.Prelude.{Option, Some, None}
use Rattle.marks.specs.Marks.{AllOf, ListedIn}
use Rattle.marks.specs.declared.Listed as declared
use Rattle.marks.specs.declared.Counts.{Counts}
use Rattle.marks.proofs.Counting.{counts_are}
use Rattle.code.specs.Lane.{lane_most, word_of}
use Rattle.code.specs.declared.lane.Lane.{Lane}
use Rattle.dealt.specs.Lanes.{LaneRemains, SearchedBy}
use Rattle.dealt.proofs.Searching.{lane_searched}
use Rattle.patches.specs.declared.Fixes.{Fixes}
use Rattle.lanes.specs.Fixes.{Room, Noting, Noted, fixed}
use Rattle.lanes.specs.Lanes.{Entered, OneGood, OneAs}
use Rattle.code.proofs.Applying.{alike}

module _ (R : ℕ) (s marks : List ℕ) (E : Entered R s marks) where
  pub some : 0 < R
  some = omega (arith, E.lanes.from)

  columns_are : length s / R ≡ E.legal.k + 5
  columns_are = ap (λ (n : ℕ). n / R) E.legal.cells ∙ mul-div_right (E.legal.k + 5) some

  pub few_columns : length s / R ≤ lane_most
  few_columns = omega (arith, columns_are, E.legal.to, E.short)

  pub full : length s ≡ R * (length s / R)
  full = E.legal.cells ∙ ap (λ (n : ℕ). R * n) (sym columns_are)

  marks_columns : length marks / R ≡ length s / R
  marks_columns = ap (λ (n : ℕ). n / R) E.matched

  module _ (j : ℕ) (h : j < R) where
    own_columns : length (lane R j s) ≡ length s / R
    own_columns = length_lane R some j s

    mark_columns : length (lane R j marks) ≡ length s / R
    mark_columns = length_lane R some j marks ∙ marks_columns

    -- ---- a lane's errata, searched for by its remainder

    pub to_search : (erased : List ℕ) (f : ℕ) → f ≤ 5 → Gathered (lane R j marks) erased f → Listed (length s / R) erased f
    to_search erased f five G =
        subst (λ (n : ℕ). Listed n erased f) mark_columns (listed_marks (lane R j marks) erased f (omega (arith, mark_columns, few_columns)) five G)

    -- by what is found
    pub searched : (r f : ℕ) (erased : List ℕ) (x : Option Errata) → LaneRemains R j s r → Gathered (lane R j marks) erased f → Cells gf256 s
        → SearchedBy r (length s / R) erased f x → SearchedAs (lane R j marks) (lane R j s) x
    searched r f erased x L G cs S =
        lane_searched R j s r L (lane R j marks) erased (length s / R) f x mark_columns G own_columns (bytes_lane R some gf256 j s h cs) S

    pub beyond_reach : SearchedAs (lane R j marks) (lane R j s) None → Mendable gf256 R marks s j → ⊥
    beyond_reach b q = b q.word q.cells q.clean q.reach

  module _ (j : ℕ) (h : j < R) (f : Fixes) where
    -- ---- the errata of a lane noted; w are its cells

    module _ (w : Lane) (lw : w.len ≡ length s / R) (ew : word_of w ≡ lane R j s) (e : Errata) (K : Corrects (lane R j marks) (lane R j s) e)
        (room : Room f) where
      pub to_note : Noting R j w e marks f
      to_note = record {
        inside = h;
        lanes = E.lanes.to;
        short = omega (arith, lw, few_columns);
        errata = subst (λ (n : ℕ). ErrataFor n e) (own_columns j h ∙ sym lw) K.listed;
        matched = marks_columns ∙ sym lw;
        room = room;
      }

      pub mended_one : (f' : Fixes) (c : Counts) → Noted R j w e marks f e.count f' c → OneAs R s marks j f f' (Some c)
      mended_one f' c N = (good, omega (arith, N.noted, K.listed.few), N.cells_long, N.bytes_long)
        where
          t' : List ℕ
          t' = fixed f' s

          good : lane R j (fixed f s) ≡ lane R j s → OneGood R s marks j (fixed f s) t' c.mended c.repainted
          good same = record {
            mended_lane = record { cells = right.2; clean = right.0; reach = right.1 };
            count = are.0 ∙ ap (count_to (differs_at (lane R j marks) (lane R j s) (lane R j t'))) (own_columns j h);
            repaints = are.1 ∙ ap (count_to (repainted_at (lane R j marks) (lane R j s) (lane R j t'))) (own_columns j h);
            others = N.others s (sym lw);
          }
            where
              put : Applied gf256 (cells_of e) (values_of e) (lane R j s) (lane R j t')
              put = subst (λ (u : List ℕ). Applied gf256 (cells_of e) (values_of e) u (lane R j t')) ew (N.own s (sym lw) (same ∙ sym ew))

              are : (c.mended ≡ differing (lane R j marks) (lane R j s) (lane R j t')) × (c.repainted ≡ repainted (lane R j marks) (lane R j s) (lane R j t'))
              are =
                  counts_are (lane R j marks) (cells_of e) (values_of e) (lane R j s) (lane R j t')
                  (alike (length (lane R j s)) e K.listed e.count (omega arith)) K.listed.below K.listed.distinct put c N.counts

              right : Clean gf256 (lane R j t') × Reach (lane R j marks) (lane R j s) (lane R j t') × Cells gf256 (lane R j t')
              right = K.corrects (lane R j t') put

    -- ---- a lane that is clean is as it is to be

    sizes : length (lane R j s) ≡ length (lane R j marks)
    sizes = length_lane R some j s ∙ ap (λ (n : ℕ). n / R) (sym E.matched) ∙ sym (length_lane R some j marks)

    pub kept_one : (m : declared.Listed) → AllOf (lane R j marks) m → Clean gf256 (lane R j s) → Cells gf256 s → Room f
        → OneAs R s marks j f f (Some (record { mended = 0; repainted = 0 }))
    kept_one m L clean cs room = (good, omega arith, room.cells_long, room.bytes_long)
      where
        reach : Reach (lane R j marks) (lane R j s) (lane R j s)
        reach = record {
          same_length = refl;
          few = omega (arith, none_differ (is_read (lane R j marks)) (lane R j s) (length (lane R j s)), L.count, ap (count_to (is_marked (lane R j marks))) sizes, L.few);
        }

        good : lane R j (fixed f s) ≡ lane R j s → OneGood R s marks j (fixed f s) (fixed f s) 0 0
        good same = record {
          mended_lane = record {
            cells = subst (Cells gf256) (sym same) (bytes_lane R some gf256 j s h cs);
            clean = subst (Clean gf256) (sym same) clean;
            reach = subst (Reach (lane R j marks) (lane R j s)) (sym same) reach;
          };
          count = none (is_read (lane R j marks));
          repaints = none (is_marked (lane R j marks));
          others = λ i b n. refl;
        }
          where
            none : (d : ℕ → Bool) → 0 ≡ count_to (λ i. and (d i) (differs (lane R j s) (lane R j (fixed f s)) i)) (length s / R)
            none d =
                sym (ap (λ (t : List ℕ). count_to (λ i. and (d i) (differs (lane R j s) t i)) (length s / R)) same
                ∙ none_differ d (lane R j s) (length s / R))

    -- six marks are beyond reach
    pub six_marked : ListedIn R j marks None → Mendable gf256 R marks s j → ⊥
    six_marked many q = omega (arith, many, q.reach.few, ap (count_to (is_marked (lane R j marks))) sizes)
