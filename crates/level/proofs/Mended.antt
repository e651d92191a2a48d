-- A mended strip whose record passes is a level's strip; a board's strip within reach is the mended strip, and judged as the board is.
use mathlib.Core.Path.{◌≡◌, sym, ap, ◌∙◌, subst}
use Prim.Native.Nat.{ℕ, ◌+◌, ◌*◌, ◌-◌, ◌/◌, ◌%◌, ◌≤◌, ◌<◌}
use native.Mathlib.Nat.{mul-add}
use native.Mathlib.Omega.{arith}
use mathlib.Core.List.{List}
use mathlib.Core.Logic.{inr}
use lib.ListN.{length, get_or, take}
use lib.Seq.{get_or-take, length-take-le}
use Rattle.account.specs.Field.{Ops, IsField}
use Rattle.account.specs.Code.{Cells, Clean}
use Rattle.account.specs.Lanes.{lane}
use Rattle.account.proofs.Lanes.{cell}
use Rattle.rules.specs.Refusal.{First, Hold, asked}
use Rattle.rules.specs.Bytes.{Bytes}
use Rattle.rules.proofs.Laws.{first_fixes, hold_first, first_alike, asked_alike}
use Rattle.level.specs.Level.{Level, IsLevel, Counted, lending}
use Rattle.level.specs.Record.{field_at, record_length}
use Rattle.level.specs.Strip.{columns, IsStrip, StripReach, Reached, Mends}
use Rattle.level.specs.Reading.{level_of, judging, data_of, OfMended, mending}
use Rattle.level.proofs.Dealing.{laid_out}
use Rattle.level.proofs.Strips.{one_mended, reached_mends, mendable}
use Rattle.level.proofs.Judged.{spelled_record, spelled_level, front, filled, level_passes, spelled_board, judged_alike}

module _ (O : Ops) (F : IsField O) (bytes : O.size ≤ 256) (R : ℕ) (some : 0 < R) where
  open O use {order}

  -- the cells of a strip of k + 5 columns, without the last five
  module _ (t : List ℕ) (k : ℕ) (size : length t ≡ R * (k + 5)) where
    abbrev data_cells : ℕ
    data_cells = length t - R * 5

    cut : R * (k + 5) ≡ R * k + R * 5
    cut = mul-add R k 5

    pub data_length : length (data_of R t) ≡ R * k
    data_length = length-take-le data_cells t (omega arith) ∙ omega (arith, size, cut)

    pub data_cell : (q : ℕ) → q < R * k → get_or (data_of R t) q 0 ≡ get_or t q 0
    data_cell q h = get_or-take data_cells t q 0 (omega (arith, size, cut))

    pub data_bytes : Cells O t → Bytes (data_of R t)
    data_bytes b = record {
      cell = λ q h. let i : q < R * k = omega (arith, data_length) in rw (data_cell q i) (omega (arith, bytes, b.cell q (omega (arith, size, cut))));
    }

  -- a strip of clean lanes whose record passes is a level's
  pub level_strip : {upto : ℕ} (t : List ℕ) (k : ℕ) → length t ≡ R * (k + 5) → Cells O t → ((j : ℕ) → j < R → Clean O (lane R j t))
      → Hold (asked (λ ask. ask (data_of R t)) (judging upto R)) → IsLevel (level_of (data_of R t)) × IsStrip O R (level_of (data_of R t)) t
  level_strip t k size cells clean (ra, (sh, (al, (pl, none)))) = (
    spelled_level (data_of R t) ra.ranged al pl,
    record {
      bs = take B (data_of R t);
      is_record = spelled_record R some (data_of R t) by sh;
      dealt = record { cells = cells; size = long ∙ ap (λ (n : ℕ). R * (columns R n + 5)) (sym fr); clean = clean; laid = λ q h. laid q (rw fr at h) };
    },
  )
    where
      B : ℕ
      B = record_length (field_at (data_of R t) 4 5) (field_at (data_of R t) 9 5)

      by : Bytes (data_of R t)
      by = data_bytes t k size cells

      fr : length (take B (data_of R t)) ≡ B
      fr = front R some (data_of R t) by sh

      columns_are : R * k ≡ R * columns R B
      columns_are = sym (data_length t k size) ∙ sh.fits

      long : length t ≡ R * (columns R B + 5)
      long = omega (arith, size, mul-add R k 5, mul-add R (columns R B) 5, columns_are)

      laid : (q : ℕ) → q < R * columns R B → get_or (lane R (q % R) t) (q / R) 0 ≡ get_or (take B (data_of R t)) q 0
      laid q h =
          cell R some t (k + 5) size q (omega (arith, size, mul-add R k 5, columns_are))
          ∙ sym (data_cell t k size q (omega (arith, columns_are)))
          ∙ filled R some (data_of R t) by sh q (omega (arith, sh.fits))

  -- the strip of a board, a level or not, spells it, and is judged as a writer judges it
  module _ (l : Level) (u : List ℕ) (co : Counted l) (st : IsStrip O R l u) where
    long : length (data_of R u) ≡ R * columns R (length st.bs)
    long = data_length u (columns R (length st.bs)) st.dealt.size

    same : (q : ℕ) → q < length (data_of R u) → get_or st.bs q 0 ≡ get_or (data_of R u) q 0
    same q h =
        laid_out O F R some st.bs u st.dealt q (omega (arith, long))
        ∙ sym (data_cell u (columns R (length st.bs)) st.dealt.size q (omega (arith, long)))

    strip_spells : level_of (data_of R u) ≡ l
    strip_spells = spelled_board R some l st.bs (data_of R u) co st.is_record long same

    strip_alike : (upto c : ℕ) → First (asked (λ ask. ask l) (lending upto)) c → First (asked (λ ask. ask (data_of R u)) (judging upto R)) c
    strip_alike = judged_alike R some l st.bs (data_of R u) co st.is_record long same

  module _ (marks s t : List ℕ) (m : ℕ) (full : length s ≡ R * (m + 5)) (short : m + 5 ≤ order) (M : Mends O R marks s t) where
    -- a mended strip whose record passes is a level's
    pub level_reached : {upto : ℕ} → Hold (asked (λ ask. ask (data_of R t)) (judging upto R)) → Reached O R upto marks s (level_of (data_of R t)) t
    level_reached h =
        let x = level_strip t m (M.reach.same_length ∙ full) M.cells M.clean h in record { is_level = x.0; not_newer = h.0.not_newer; is_strip = x.1; reach = M.reach }

    -- a level's strip within reach is the mended strip, and spells the level
    reached_is : {upto : ℕ} (l : Level) (u : List ℕ) → Reached O R upto marks s l u → u ≡ t
    reached_is l u r = one_mended O F R some marks s (m + 5) full short u t (reached_mends O F R some marks s l u r) M

    pub reached_spells : {upto : ℕ} (l : Level) (u : List ℕ) → Reached O R upto marks s l u → level_of (data_of R t) ≡ l
    reached_spells l u r = ap (λ (x : List ℕ). level_of (data_of R x)) (sym (reached_is l u r)) ∙ strip_spells l u r.is_level.count r.is_strip

    -- what is found of the mended record is found of the strip
    pub found : (upto c : ℕ) → First (asked (λ ask. ask (data_of R t)) (judging upto R)) c → First (asked (OfMended O R marks s) (judging upto R)) c
    found upto c =
        first_alike (asked (λ ask. ask (data_of R t)) (judging upto R)) (asked (OfMended O R marks s) (judging upto R)) c
        (asked_alike (λ ask. ask (data_of R t)) (OfMended O R marks s) (judging upto R)
        (λ ask a u N. subst (λ (x : List ℕ). ask (data_of R x)) (one_mended O F R some marks s (m + 5) full short t u M N) a) (λ ask f. f t M))

    -- and then no level is within reach
    pub none_reached : (upto c : ℕ) → (c ≡ 0 → ⊥) → First (asked (λ ask. ask (data_of R t)) (judging upto R)) c → (l : Level) (u : List ℕ)
        → Reached O R upto marks s l u → ⊥
    none_reached upto c n f l u r = n (first_fixes (asked (λ ask. ask (data_of R t)) (judging upto R)) c 0 f passed)
      where
        passed : First (asked (λ ask. ask (data_of R t)) (judging upto R)) 0
        passed =
            subst (λ (x : List ℕ). First (asked (λ ask. ask (data_of R x)) (judging upto R)) 0) (reached_is l u r)
            (strip_alike l u r.is_level.count r.is_strip upto 0
            (hold_first (asked (λ ask. ask l) (lending upto)) (level_passes upto l r.is_level r.not_newer)))

  -- where the strip of a board is within reach, the strip read is refused as the board is
  pub board_found : (marks s u : List ℕ) (m : ℕ) → length s ≡ R * (m + 5) → m + 5 ≤ order → (l : Level) → Counted l → IsStrip O R l u → StripReach R marks s u
      → (upto c : ℕ) → First (asked (λ ask. ask l) (lending upto)) c → First (mending O R upto s marks) c
  board_found marks s u m full short l co st reach upto c f =
      inr (mendable O F R some marks s u M, found marks s u m full short M upto c (strip_alike l u co st upto c f))
    where
      M : Mends O R marks s u
      M = record { cells = st.dealt.cells; clean = st.dealt.clean; reach = reach }
