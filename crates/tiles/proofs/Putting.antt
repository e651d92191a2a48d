-- Tiles written from their bytes.
use mathlib.Core.Path.{◌≡◌, refl, sym, ap, ap₂, ◌∙◌, subst}
use mathlib.Core.Logic.{⊎_elim}
use mathlib.Core.List.{List, [], ◌∷◌, ◌++◌, append_assoc}
use Prim.Native.Nat.{ℕ, zero, suc, ◌+◌, ◌*◌, ◌-◌, ◌/◌, ◌%◌, ◌≤◌, ◌<◌}
use native.Mathlib.Omega.{arith}
use borrow.Rule.Slice.PartMut.{put_mid}
use Rattle.std.specs.Int.{w64, to_le_bytes}
use lib.ListN.{length, get_or, take, drop, set, length-append, length-drop, get_or-append}
use lib.Seq.{sets, sets-eq, get_or-take, get_or-drop, get_or-append-add, length-take-le, ext_get_or, get_or-set_same, get_or-set_other, drop-drop}
use Rattle.rules.proofs.Numbers.{lt_or_ge}
use Rattle.account.specs.Lists.{list_of}
use Rattle.account.proofs.Lists.{length_list_of, get_d_list_of}
use Rattle.level.specs.Record.{field_at}
use Rattle.spreads.specs.Spread.{first_of, second_of, third_of}
use Rattle.tiles.specs.Part.{tiles_from, three_at}
use Rattle.tiles.specs.Put.{spread_of, byte_of, Puts}
use Rattle.tiles.proofs.Eight.{eight, eight_at, four_pairs}

-- ---- pairs spread

-- the number whose bytes are a list, the lowest first
unfoldable number_of : List ℕ → ℕ
number_of [] = 0
number_of (d ∷ ds) = d + 256 * number_of ds

abbrev Bytes : List ℕ → Type 0
Bytes [] = Unit {0}
Bytes (d ∷ ds) = (d < 256) × Bytes ds

byte_zero : (j : ℕ) → byte_of j 0 ≡ 0
unfolding byte_of
byte_zero zero = refl
byte_zero (suc j) = byte_zero j

byte_number : (ds : List ℕ) → Bytes ds → (j : ℕ) → byte_of j (number_of ds) ≡ get_or ds j 0
unfolding byte_of number_of
byte_number [] b j = byte_zero j
byte_number (d ∷ ds) (h, b) zero = omega arith
byte_number (d ∷ ds) (h, b) (suc j) = let e : (d + 256 * number_of ds) / 256 ≡ number_of ds = omega arith in ap (byte_of j) e ∙ byte_number ds b j

-- the tiles of three bytes, spread
spread_three : (x y z : ℕ) → x < 256 → y < 256 → z < 256 → spread_of 4 (x * 65536 + y * 256 + z) 0 ≡ number_of (eight x y z)
unfolding spread_of number_of
spread_three x y z hx hy hz =
    four_pairs (λ a b c d e f g h. (((0 * 65536 + (a + 256 * b)) * 65536 + (c + 256 * d)) * 65536 + (e + 256 * f)) * 65536 + (g + 256 * h)) x y z hx hy hz
    ∙ omega arith

-- the same from what each byte has of them
pub spread_sum : (x y z : ℕ) → x < 256 → y < 256 → z < 256 → spread_of 4 (x * 65536 + y * 256 + z) 0 ≡ first_of x + second_of y + third_of z
unfolding number_of
spread_sum x y z hx hy hz = spread_three x y z hx hy hz ∙ omega arith

spread_byte : (x y z : ℕ) → x < 256 → y < 256 → z < 256 → (j : ℕ) → byte_of j (spread_of 4 (x * 65536 + y * 256 + z) 0) ≡ get_or (eight x y z) j 0
spread_byte x y z hx hy hz j =
    ap (byte_of j) (spread_three x y z hx hy hz)
    ∙ byte_number (eight x y z) (omega arith, (omega arith, (omega arith, (omega arith, (omega arith, (omega arith, (omega arith, (omega arith, tt)))))))) j

-- ---- eight bytes put

-- a run of elements put into a list
module _ (l vs : List ℕ) (k : ℕ) (room : k + length vs ≤ length l) where
  front : length (take k l) ≡ k
  front = length-take-le k l (omega arith)

  fits : length (take k l ++ vs) ≡ k + length vs
  fits = length-append (take k l) vs ∙ ap (λ (n : ℕ). n + length vs) front

  sets_before : (i : ℕ) → i < k → get_or (sets l k vs) i 0 ≡ get_or l i 0
  sets_before i h =
      ap (λ (s : List ℕ). get_or s i 0) (sets-eq vs l k room)
      ∙ get_or-append (take k l ++ vs) (drop (k + length vs) l) 0 i (omega (arith, fits))
      ∙ get_or-append (take k l) vs 0 i (omega (arith, front))
      ∙ get_or-take k l i 0 h

  pub sets_at : (j : ℕ) → j < length vs → get_or (sets l k vs) (k + j) 0 ≡ get_or vs j 0
  sets_at j h =
      ap (λ (s : List ℕ). get_or s (k + j) 0) (sets-eq vs l k room)
      ∙ get_or-append (take k l ++ vs) (drop (k + length vs) l) 0 (k + j) (omega (arith, fits))
      ∙ ap (λ (n : ℕ). get_or (take k l ++ vs) (n + j) 0) (sym front)
      ∙ get_or-append-add (take k l) vs j 0

  pub sets_past : (i : ℕ) → k + length vs ≤ i → get_or (sets l k vs) i 0 ≡ get_or l i 0
  sets_past i h =
      let e : k + length vs + (i - (k + length vs)) ≡ i = omega arith in
      subst (λ (q : ℕ). get_or (sets l k vs) q 0 ≡ get_or l q 0) e (at (i - (k + length vs)))
    where
      at : (d : ℕ) → get_or (sets l k vs) (k + length vs + d) 0 ≡ get_or l (k + length vs + d) 0
      at d =
          ap (λ (s : List ℕ). get_or s (k + length vs + d) 0) (sets-eq vs l k room)
          ∙ ap (λ (n : ℕ). get_or ((take k l ++ vs) ++ drop (k + length vs) l) (n + d) 0) (sym fits)
          ∙ get_or-append-add (take k l ++ vs) (drop (k + length vs) l) d 0
          ∙ get_or-drop (k + length vs) l d 0

run_puts : (l vs : List ℕ) (k w : ℕ) → length vs ≡ 8 → k + length vs ≤ length l → ((j : ℕ) → j < 8 → get_or vs j 0 ≡ byte_of j w)
    → Puts l (sets l k vs) k (k + 8) w
run_puts l vs k w n room at = record {
  put = λ j h r. sets_at l vs k room j (omega (arith, n)) ∙ at j h;
  before = λ i h. sets_before l vs k room i h;
  past = λ i h. sets_past l vs k room i (omega (arith, n));
}

-- the bytes of a number, the lowest first
le_byte : (w j : ℕ) → j < 8 → get_or (to_le_bytes w64 w) j 0 ≡ byte_of j w
unfolding byte_of
le_byte w zero m = refl
le_byte w (suc zero) m = refl
le_byte w (suc (suc zero)) m = omega arith
le_byte w (suc (suc (suc zero))) m = omega arith
le_byte w (suc (suc (suc (suc zero)))) m = omega arith
le_byte w (suc (suc (suc (suc (suc zero))))) m = omega arith
le_byte w (suc (suc (suc (suc (suc (suc zero)))))) m = omega arith
le_byte w (suc (suc (suc (suc (suc (suc (suc zero))))))) m = omega arith
le_byte w (suc (suc (suc (suc (suc (suc (suc (suc j)))))))) m = absurd (omega arith)

-- put in one go
pub word_puts : (l : List ℕ) (k n w : ℕ) (vs : List ℕ) → k + 8 ≤ length l → n ≡ 8 → vs ≡ to_le_bytes w64 w → Puts l (put_mid k n l vs) k (k + 8) w
word_puts l k n w vs room en ev = subst (λ (x : List ℕ). Puts l x k (k + 8) w) (sym same) (run_puts l bs k w refl room (λ j m. le_byte w j m))
  where
    bs : List ℕ
    bs = to_le_bytes w64 w

    same : put_mid k n l vs ≡ sets l k bs
    same =
        ap₂ (λ (m : ℕ) (x : List ℕ). put_mid k m l x) en ev ∙ sym (append_assoc (take k l) bs (drop 8 (drop k l)))
        ∙ ap (λ (x : List ℕ). (take k l ++ bs) ++ x) (drop-drop 8 k l) ∙ sym (sets-eq bs l k room)

-- ---- bytes put one by one

module _ (old out : List ℕ) (k i w u : ℕ) (from : k ≤ i) (room : i < length out) where
  pub left_next : ((j : ℕ) → byte_of j u ≡ byte_of (i - k + j) w) → (j : ℕ) → byte_of j (u / 256) ≡ byte_of (i + 1 - k + j) w
  unfolding byte_of
  left_next h j = let e : i - k + suc j ≡ i + 1 - k + j = omega arith in h (suc j) ∙ ap (λ (q : ℕ). byte_of q w) e

  pub put_next : ((j : ℕ) → byte_of j u ≡ byte_of (i - k + j) w) → ((j : ℕ) → k + j < i → get_or out (k + j) 0 ≡ byte_of j w)
      → (j : ℕ) → k + j < i + 1 → get_or (set out i (u % 256)) (k + j) 0 ≡ byte_of j w
  unfolding byte_of
  put_next h p j l = ⊎_elim (λ a. get_or-set_other out i (k + j) (u % 256) 0 (λ e. omega arith) ∙ p j a) (λ b.
      let e : k + j ≡ i = omega arith in
      let d : i - k + 0 ≡ j = omega arith in
      ap (λ (q : ℕ). get_or (set out i (u % 256)) q 0) e ∙ get_or-set_same out i (u % 256) 0 room ∙ h 0 ∙ ap (λ (q : ℕ). byte_of q w) d) (lt_or_ge (k + j) i)

  pub before_next : ((q : ℕ) → q < k → get_or out q 0 ≡ get_or old q 0) → (q : ℕ) → q < k → get_or (set out i (u % 256)) q 0 ≡ get_or old q 0
  before_next h q l = get_or-set_other out i q (u % 256) 0 (λ e. omega arith) ∙ h q l

  pub past_next : ((q : ℕ) → i ≤ q → get_or out q 0 ≡ get_or old q 0) → (q : ℕ) → i + 1 ≤ q → get_or (set out i (u % 256)) q 0 ≡ get_or old q 0
  past_next h q l = get_or-set_other out i q (u % 256) 0 (λ e. omega arith) ∙ h q (omega arith)

-- ---- the tiles

-- eight tiles more
tile_byte : (part : List ℕ) (g : ℕ) → ((q : ℕ) → get_or part q 0 < 256) → (j : ℕ) → j < 8
    → byte_of j (spread_of 4 (three_at part g) 0) ≡ field_at part (3 * (8 * g + j)) 3
tile_byte part g by j h =
    let x = get_or part (3 * g) 0 in
    let y = get_or part (3 * g + 1) 0 in
    let z = get_or part (3 * g + 2) 0 in
    spread_byte x y z (by (3 * g)) (by (3 * g + 1)) (by (3 * g + 2)) j
    ∙ eight_at part g x y z refl refl refl (by (3 * g)) (by (3 * g + 1)) (by (3 * g + 2)) j h

pub tiles_next : (part old new : List ℕ) (g m w : ℕ) → ((q : ℕ) → get_or part q 0 < 256)
    → w ≡ spread_of 4 (three_at part g) 0 → Puts old new (8 * g) m w
    → ((i : ℕ) → i < 8 * g → i < m → get_or old i 0 ≡ field_at part (3 * i) 3)
    → (i : ℕ) → i < 8 * (g + 1) → i < m → get_or new i 0 ≡ field_at part (3 * i) 3
tiles_next part old new g m w by ew p h i a b =
    ⊎_elim (λ l. p.before i l ∙ h i l b) (λ l.
    let e : 8 * g + (i - 8 * g) ≡ i = omega arith in
    subst (λ (q : ℕ). get_or new q 0 ≡ field_at part (3 * q) 3) e
    (p.put (i - 8 * g) (omega arith) (omega arith) ∙ ap (byte_of (i - 8 * g)) ew ∙ tile_byte part g by (i - 8 * g) (omega arith)))
    (lt_or_ge i (8 * g))

-- the first elements of a list given one by one, and the rest as it was
pub filled : (f : ℕ → ℕ) (old new : List ℕ) (m : ℕ) → m ≤ length old → length new ≡ length old → ((i : ℕ) → i < m → get_or new i 0 ≡ f i)
    → ((i : ℕ) → m ≤ i → get_or new i 0 ≡ get_or old i 0) → new ≡ list_of m f ++ drop m old
filled f old new m room same first past =
    ext_get_or 0 new (list_of m f ++ drop m old)
    (omega (arith, length-append (list_of m f) (drop m old), length-drop m old, length_list_of m f)) (λ i l. ⊎_elim (λ a.
    first i a ∙ sym (get_d_list_of m f i a) ∙ sym (get_or-append (list_of m f) (drop m old) 0 i (omega (arith, length_list_of m f)))) (λ b.
    let e : m + (i - m) ≡ i = omega arith in subst (λ (q : ℕ). get_or new q 0 ≡ get_or (list_of m f ++ drop m old) q 0) e (at (i - m))) (lt_or_ge i m))
  where
    at : (d : ℕ) → get_or new (m + d) 0 ≡ get_or (list_of m f ++ drop m old) (m + d) 0
    at d =
        past (m + d) (omega arith)
        ∙ sym (get_or-drop m old d 0)
        ∙ sym (get_or-append-add (list_of m f) (drop m old) d 0)
        ∙ ap (λ (n : ℕ). get_or (list_of m f ++ drop m old) (n + d) 0) (length_list_of m f)

-- all tiles of a part
pub tiles_put : (part old new : List ℕ) (m : ℕ) → m ≤ length old → length new ≡ length old → ((i : ℕ) → i < m → get_or new i 0 ≡ field_at part (3 * i) 3)
    → ((i : ℕ) → m ≤ i → get_or new i 0 ≡ get_or old i 0) → new ≡ tiles_from part m ++ drop m old
unfolding tiles_from
tiles_put part old new m room same tile past = filled (λ i. field_at part (3 * i) 3) old new m room same tile past
