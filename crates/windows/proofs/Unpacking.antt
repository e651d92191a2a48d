-- Tiles written window by window.
use mathlib.Core.Path.{◌≡◌, refl, sym, ap, ◌∙◌, subst}
use mathlib.Core.Logic.{⊎_elim}
use mathlib.Core.List.{List, ◌++◌}
use Prim.Native.Nat.{ℕ, ◌+◌, ◌*◌, ◌-◌, ◌≤◌, ◌<◌}
use native.Mathlib.Omega.{arith}
use lib.ListN.{length, get_or, take, drop, length-append, length-drop, get_or-append}
use lib.Seq.{get_or-take, get_or-drop, get_or-append-add, length-take-le}
use Rattle.rules.proofs.Numbers.{lt_or_ge}
use Rattle.account.proofs.Lanes.{get_d_past}
use Rattle.level.specs.Record.{field_at}
use Rattle.level.specs.Reading.{tiles_in}
use Rattle.level.proofs.Windows.{field_part, field_seen}
use Rattle.tiles.specs.Part.{tiles_from}
use Rattle.tiles.proofs.Part.{part_of, part_same, tiles_from_part, length_tiles_from, get_d_tiles_from}
use Rattle.tiles.proofs.Putting.{tiles_put}
use Rattle.windows.proofs.Pieces.{Sees}

-- a window of n bytes has the k tiles that are next, and where more are to come, no others
pub window_holds : (to from m t n k : ℕ) → 8 * from ≡ 24 + 3 * t → 24 + 3 * m ≤ 8 * to → n ≤ 186 → from + n ≤ to → (from + n < to → n ≡ 186)
    → t < m → k ≤ 496 → k ≤ m - t → (k < m - t → k ≡ 496) → (3 * k ≤ 8 * n) × (t + k < m → 8 * n ≡ 3 * k)
window_holds to from m t n k on room most inside full more few left all =
    ⊎_elim (λ l. (omega (arith, full l), λ h. omega (arith, full l, all (omega arith)))) (λ l. (omega arith, λ h. absurd (omega (arith, all (omega arith)))))
    (lt_or_ge (from + n) to)

module _ (bs : List ℕ) (m : ℕ) (old : List ℕ) where
  -- the first t of m tiles are written, and the window from a byte on has the next
  pub record Unpacking (new : List ℕ) (from t : ℕ) : Type 0 where
    pub long : length new ≡ length old
    pub within : t ≤ m
    pub on : t < m → 8 * from ≡ 24 + 3 * t
    pub done : (i : ℕ) → i < t → get_or new i 0 ≡ field_at bs (24 + 3 * i) 3
    pub rest : (i : ℕ) → t ≤ i → get_or new i 0 ≡ get_or old i 0

  pub unpacking_0 : Unpacking old 3 0
  unpacking_0 = record {
    long = refl;
    within = omega arith;
    on = λ _. omega arith;
    done = λ i l. absurd (omega arith);
    rest = λ i l. refl;
  }

  -- k tiles of a window w put over those from t on
  module _ (new mid post w : List ℕ) (from t n k : ℕ) (U : Unpacking new from t) (more : t < m) (S : Sees bs from n w) (few : t + k ≤ m)
      (inside : 3 * k ≤ 8 * n) (full : t + k < m → 8 * n ≡ 3 * k) (room : m ≤ length new)
      (put : mid ≡ tiles_from w k ++ drop k (take (length new - t) (drop t new))) (same_long : length (take t new ++ (mid ++ post)) ≡ length new) where
    abbrev next : List ℕ
    next = take t new ++ (mid ++ post)

    abbrev kept : List ℕ
    kept = take (length new - t) (drop t new)

    front : (i : ℕ) → i < t → get_or next i 0 ≡ get_or new i 0
    front i h = get_or-append (take t new) (mid ++ post) 0 i (omega (arith, length-take-le t new (omega arith))) ∙ get_or-take t new i 0 h

    size : length mid ≡ length new - t
    size = ap length put ∙ length-append (tiles_from w k) (drop k kept)
        ∙ omega (arith, length_tiles_from w k, length-drop k kept, length-take-le (length new - t) (drop t new) (omega (arith, length-drop t new)))

    part : (i : ℕ) → t + i < length new → get_or next (t + i) 0 ≡ get_or (tiles_from w k ++ drop k kept) i 0
    part i h =
        ap (λ (j : ℕ). get_or next (j + i) 0) (sym (length-take-le t new (omega arith))) ∙ get_or-append-add (take t new) (mid ++ post) i 0
        ∙ get_or-append mid post 0 i (omega (arith, size)) ∙ ap (λ (l : List ℕ). get_or l i 0) put

    own : (i : ℕ) → i < k → get_or next (t + i) 0 ≡ field_at bs (24 + 3 * (t + i)) 3
    own i h =
        let z : 8 * from + 3 * i ≡ 24 + 3 * (t + i) = omega (arith, U.on more) in
        part i (omega arith) ∙ get_or-append (tiles_from w k) (drop k kept) 0 i (omega (arith, length_tiles_from w k))
        ∙ get_d_tiles_from w k i h ∙ field_seen bs w from n S.same (3 * i) 3 (omega arith) ∙ ap (λ (p : ℕ). field_at bs p 3) z

    past : (i : ℕ) → get_or next (t + (k + i)) 0 ≡ get_or new (t + (k + i)) 0
    past i = ⊎_elim (λ h.
        part (k + i) h
        ∙ ap (λ (j : ℕ). get_or (tiles_from w k ++ drop k kept) (j + i) 0) (sym (length_tiles_from w k))
        ∙ get_or-append-add (tiles_from w k) (drop k kept) i 0
        ∙ get_or-drop k kept i 0 ∙ get_or-take (length new - t) (drop t new) (k + i) 0 (omega arith) ∙ get_or-drop t new (k + i) 0)
        (λ h. get_d_past next (t + (k + i)) (omega (arith, same_long)) ∙ sym (get_d_past new (t + (k + i)) h)) (lt_or_ge (t + (k + i)) (length new))

    pub unpacking_more : Unpacking next (from + n) (t + k)
    unpacking_more = record {
      long = same_long ∙ U.long;
      within = few;
      on = λ l. omega (arith, U.on more, full l);
      done = λ i l. ⊎_elim (λ h. front i h ∙ U.done i h) (λ h.
          let z : t + (i - t) ≡ i = omega arith in
          subst (λ (j : ℕ). get_or next j 0 ≡ field_at bs (24 + 3 * j) 3) z (own (i - t) (omega arith))) (lt_or_ge i t);
      rest = λ i l.
          let z : t + (k + (i - (t + k))) ≡ i = omega arith in
          subst (λ (j : ℕ). get_or next j 0 ≡ get_or new j 0) z (past (i - (t + k))) ∙ U.rest i (omega arith);
    }

  pub unpacked_all : (new : List ℕ) (from t : ℕ) → m ≤ length old → m ≤ t → Unpacking new from t → new ≡ tiles_in bs m ++ drop m old
  unpacked_all new from t room h U =
      tiles_put (part_of bs) old new m room U.long
      (λ i l. U.done i (omega arith) ∙ sym (field_part bs (part_of bs) 3 (part_same bs) (3 * i) 3))
      (λ i l. U.rest i (omega (arith, U.within)))
      ∙ ap (λ (ts : List ℕ). ts ++ drop m old) (tiles_from_part bs m)
