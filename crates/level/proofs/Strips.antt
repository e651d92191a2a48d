-- Strips and reach, over the field and the lane count.
use mathlib.Core.Path.{◌≡◌, sym, ap, ◌∙◌, subst}
use mathlib.Core.Logic.{◌⊎◌, inl, inr, ⊎_elim}
use Prim.Native.Nat.{ℕ, ◌+◌, ◌*◌, ◌/◌, ◌≤◌, ◌<◌}
use native.Mathlib.Omega.{arith}
use mathlib.Core.List.{List, []}
use lib.ListN.{length}
use Rattle.account.specs.Field.{Ops, IsField}
use Rattle.account.specs.Code.{Cells, Clean}
use Rattle.account.specs.Reach.{differing}
use Rattle.account.specs.Lanes.{lane}
use Rattle.account.proofs.Lanes.{length_lane, bytes_lane, columns_of, ext_lanes}
use Rattle.account.proofs.Theorems.{six_apart, one_in_reach, none_at_six}
use Rattle.rules.proofs.Numbers.{all_or_one}
use Rattle.level.specs.Level.{Level, IsLevel}
use Rattle.level.specs.Record.{record_length}
use Rattle.level.specs.Strip.{columns, Dealt, IsStrip, Reached, Mends, Mendable, wrong_in, marked_in}
use Rattle.level.proofs.Dealing.{same_cells, one_dealt}
use Rattle.level.proofs.Fields.{same_bytes}
use Rattle.level.proofs.Determined.{one_record}

module _ (O : Ops) (F : IsField O) (R : ℕ) (some : 0 < R) where
  open O use {order}

  -- how long a level's strip is
  pub strip_size : (l : Level) (s : List ℕ) → IsStrip O R l s → length s ≡ R * (columns R (record_length l.width l.height) + 5)
  strip_size l s st = st.dealt.size ∙ ap (λ (n : ℕ). R * (columns R n + 5)) st.is_record.size

  -- a level has one strip
  pub one_strip : (l : Level) (s t : List ℕ) → IsLevel l → columns R (record_length l.width l.height) + 5 ≤ order → IsStrip O R l s → IsStrip O R l t
      → s ≡ t
  one_strip l s t il short a b =
      one_dealt O F R some a.bs s t (rw a.is_record.size short) a.dealt (subst (λ (x : List ℕ). Dealt O R x t) (sym recs) b.dealt)
    where
      recs : a.bs ≡ b.bs
      recs = one_record l a.bs b.bs il a.is_record b.is_record

  -- and a strip one level
  pub strip_injective : (l m : Level) (s : List ℕ) → IsLevel l → IsLevel m → IsStrip O R l s → IsStrip O R m s → l ≡ m
  strip_injective l m s il im a b =
      same_bytes l m a.bs b.bs il im a.is_record b.is_record (same_cells O F R some a.bs b.bs s a.dealt b.dealt)

  -- two strips of one length, each lane a clean word, are the same, or differ in six cells or more of some lane
  pub lane_apart : (t u : List ℕ) (m : ℕ) → length t ≡ R * m → length u ≡ length t → m ≤ order → Cells O t → Cells O u
      → ((j : ℕ) → j < R → Clean O (lane R j t)) → ((j : ℕ) → j < R → Clean O (lane R j u))
      → (t ≡ u) ⊎ ((j : ℕ) × (j < R) × (6 ≤ differing [] (lane R j u) (lane R j t)))
  lane_apart t u m full same short ct cu clt clu =
      ⊎_elim (λ all. inl (ext_lanes R some t u m full same (λ j h. sym (all j h)))) inr
      (all_or_one R (λ j. lane R j u ≡ lane R j t) (λ j. 6 ≤ differing [] (lane R j u) (lane R j t))
      (λ j h. six_apart O F (lane R j u) (lane R j t) (omega (arith, length_lane R some j u, columns_of R some u m (same ∙ full)))
      (length_lane R some j t ∙ ap (λ (n : ℕ). n / R) (sym same) ∙ sym (length_lane R some j u)) (bytes_lane R some O j u h cu) (bytes_lane R some O j t h ct)
      (clu j h) (clt j h)))

  -- a level's strip within reach is what the strip is mended to
  pub reached_mends : {upto : ℕ} (marks s : List ℕ) (l : Level) (t : List ℕ) → Reached O R upto marks s l t → Mends O R marks s t
  reached_mends marks s l t r = record { cells = r.is_strip.dealt.cells; clean = r.is_strip.dealt.clean; reach = r.reach }

  -- a mended strip mends each lane
  pub mendable : (marks s t : List ℕ) → Mends O R marks s t → (j : ℕ) → j < R → Mendable O R marks s j
  mendable marks s t M j h = record { word = lane R j t; cells = bytes_lane R some O j t h M.cells; clean = M.clean j h; reach = M.reach.each j h }

  module _ (marks s : List ℕ) (m : ℕ) (full : length s ≡ R * m) (short : m ≤ order) where
    lane_short : (j : ℕ) → length (lane R j s) ≤ order
    lane_short j = omega (arith, length_lane R some j s, columns_of R some s m full)

    -- a strip is mended to one strip
    pub one_mended : (t u : List ℕ) → Mends O R marks s t → Mends O R marks s u → t ≡ u
    one_mended t u M N =
        ext_lanes R some t u m (M.reach.same_length ∙ full) (N.reach.same_length ∙ sym M.reach.same_length) (λ j h.
        one_in_reach O F (lane R j marks) (lane R j s) (lane R j t) (lane R j u) (lane_short j)
        (bytes_lane R some O j t h M.cells) (bytes_lane R some O j u h N.cells)
        (M.clean j h) (N.clean j h) (M.reach.each j h) (N.reach.each j h))

    pub same_strip : {x y : ℕ} (l n : Level) (t u : List ℕ) → Reached O R x marks s l t → Reached O R y marks s n u → t ≡ u
    same_strip l n t u a b = one_mended t u (reached_mends marks s l t a) (reached_mends marks s n u b)

    -- no other level has a strip of that length within reach
    pub one_level : {x y : ℕ} (l n : Level) (t u : List ℕ) → Reached O R x marks s l t → Reached O R y marks s n u → l ≡ n
    one_level l n t u a b =
        strip_injective l n u a.is_level b.is_level (subst (IsStrip O R l) (same_strip l n t u a b) a.is_strip) b.is_strip

    -- a lane at six from a level's strip cannot be mended
    pub six_beyond : (l : Level) (v : List ℕ) (j : ℕ) → length marks ≡ length s → IsStrip O R l v → length v ≡ length s → j < R
        → 2 * wrong_in R marks s v j + marked_in R marks j ≡ 6 → Mendable O R marks s j → ⊥
    six_beyond l v j em st ev h six m =
        none_at_six O F (lane R j marks) (lane R j s) (lane R j v) m.word (lane_short j)
        (bytes_lane R some O j v h st.dealt.cells) m.cells (st.dealt.clean j h) m.clean
        (length_lane R some j v ∙ ap (λ (x : ℕ). x / R) ev ∙ sym (length_lane R some j s))
        (rw (length_lane R some j s) (rw em at six)) m.reach

    -- and no level is within reach
    pub six_refused : {upto : ℕ} (l n : Level) (v t : List ℕ) (j : ℕ) → length marks ≡ length s → IsStrip O R l v → length v ≡ length s → j < R
        → 2 * wrong_in R marks s v j + marked_in R marks j ≡ 6 → Reached O R upto marks s n t → ⊥
    six_refused l n v t j em st ev h six b = six_beyond l v j em st ev h six (mendable marks s t (reached_mends marks s n t b) j h)
