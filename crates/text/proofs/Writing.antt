-- A text written: letters, rows, and the first line in front; and the writer's answers.
use mathlib.Core.Path.{◌≡◌, refl, sym, ap, ap₂, ◌∙◌}
use mathlib.Core.List.{List, [], ◌∷◌, ◌++◌, map, append_assoc, map-append}
use Prim.Native.Nat.{ℕ, zero, suc, ◌+◌, ◌*◌, ◌≤◌, ◌<◌}
use native.Mathlib.Nat.{add-zero, zero-mul, suc-mul, mul_comm, mul-le-mul_right}
use native.Mathlib.Numerals.{add-one}
use native.Mathlib.Omega.{arith}
use lib.ListN.{length, get_or, take, drop, set, length-append, length-drop, length-map}
use lib.Seq.{sets, sets-eq, take-suc, drop-drop, get_or-drop, length-take-le, take_at, drop-append-add}
use Rattle.typed.specs.Letters.{letter_of}
use Rattle.level.specs.Level.{IsLevel}
use Rattle.fields.specs.declared.head.Head.{Head}
use Rattle.fields.specs.Head.{lent_as}
use Rattle.typed.specs.Text.{joined, first_line, rows_of, text_of}
use Rattle.typed.specs.Parts.{LineIs, line_of}
use Rattle.typed.specs.declared.line.Line.{Line}
use Rattle.text.specs.Parts.{TextPut}
use Rattle.text.proofs.Written.{joined_long, text_size, text_short}

-- ---- stores

-- a run of stores, and then another
sets_append : (o xs ys : List ℕ) (a : ℕ) → sets o a (xs ++ ys) ≡ sets (sets o a xs) (a + length xs) ys
sets_append o [] ys a = ap (λ (k : ℕ). sets o k ys) (sym (add-zero a))
sets_append o (x ∷ xs) ys a =
    let e : suc a + length xs ≡ a + suc (length xs) = omega arith in
    sets_append (set o a x) xs ys (suc a) ∙ ap (λ (k : ℕ). sets (sets (set o a x) (suc a) xs) k ys) e

-- stores right behind a front
sets_behind : (o f vs : List ℕ) → length f + length vs ≤ length o
    → sets (f ++ drop (length f) o) (length f) vs ≡ f ++ vs ++ drop (length f + length vs) o
sets_behind o f vs room =
    sets-eq vs (f ++ drop (length f) o) (length f) (omega (arith, length-append f (drop (length f) o), length-drop (length f) o))
    ∙ ap₂ (λ (a b : List ℕ). a ++ vs ++ b) (take_at f (drop (length f) o) (length f) refl)
    (drop-append-add f (drop (length f) o) (length vs) ∙ drop-drop (length vs) (length f) o)

-- ---- a row

-- the letters of the n tiles from k on
abbrev pub lettered : List ℕ → ℕ → ℕ → List ℕ
lettered ts k n = map letter_of (take n (drop k ts))

module _ (ts : List ℕ) (k : ℕ) where
  lettered_long : (n : ℕ) → k + n ≤ length ts → length (lettered ts k n) ≡ n
  lettered_long n h = length-map (take n (drop k ts)) letter_of ∙ length-take-le n (drop k ts) (omega (arith, length-drop k ts))

  lettered_next : (n : ℕ) → k + n < length ts → lettered ts k (n + 1) ≡ lettered ts k n ++ letter_of (get_or ts (k + n) 0) ∷ []
  lettered_next n h =
      ap (λ (i : ℕ). lettered ts k i) (add-one n)
      ∙ ap (map letter_of) (take-suc (drop k ts) n 0 (omega (arith, length-drop k ts)))
      ∙ map-append letter_of (take n (drop k ts)) (get_or (drop k ts) n 0 ∷ [])
      ∙ ap (λ (t : ℕ). lettered ts k n ++ letter_of t ∷ []) (get_or-drop k ts n 0)

  -- one letter more
  pub letters_next : (o : List ℕ) (j n : ℕ) → k + n < length ts
      → set (sets o j (lettered ts k n)) (j + n) (letter_of (get_or ts (k + n) 0)) ≡ sets o j (lettered ts k (n + 1))
  letters_next o j n h =
      ap (λ (i : ℕ). set (sets o j (lettered ts k n)) (j + i) (letter_of (get_or ts (k + n) 0))) (sym (lettered_long n (omega arith)))
      ∙ sym (sets_append o (lettered ts k n) (letter_of (get_or ts (k + n) 0) ∷ []) j)
      ∙ ap (sets o j) (sym (lettered_next n h))

  -- and the line feed
  pub letters_end : (o : List ℕ) (j n : ℕ) → k + n ≤ length ts → set (sets o j (lettered ts k n)) (j + n) 10 ≡ sets o j (lettered ts k n ++ 10 ∷ [])
  letters_end o j n h =
      ap (λ (i : ℕ). set (sets o j (lettered ts k n)) (j + i) 10) (sym (lettered_long n h)) ∙ sym (sets_append o (lettered ts k n) (10 ∷ []) j)

-- ---- rows

-- row y is among them
module _ (w h y : ℕ) (l : y < h) where
  pub row_tiles : y * w + w ≤ w * h
  row_tiles = omega (arith, mul-le-mul_right {m = suc y} {n = h} w l, suc-mul y w, mul_comm w h)

module _ (w : ℕ) where
  -- one row more
  joined_next : (y : ℕ) (ts : List ℕ) → joined (rows_of w (suc y) ts) ≡ joined (rows_of w y ts) ++ (lettered ts (y * w) w ++ 10 ∷ [])
  joined_next zero ts = ap (λ (k : ℕ). lettered ts k w ++ 10 ∷ []) (sym (zero-mul w))
  joined_next (suc y) ts =
      let e : w + y * w ≡ suc y * w = omega (arith, suc-mul y w) in
      ap (λ (r : List ℕ). map letter_of (take w ts) ++ 10 ∷ r) (joined_next y (drop w ts)
      ∙ ap (λ (r : List ℕ). joined (rows_of w y (drop w ts)) ++ (map letter_of (take w r) ++ 10 ∷ []))
      (drop-drop (y * w) w ts ∙ ap (λ (k : ℕ). drop k ts) e))
      ∙ sym (append_assoc (map letter_of (take w ts)) (10 ∷ joined (rows_of w y (drop w ts))) (lettered ts (suc y * w) w ++ 10 ∷ []))

  -- the row y put after those before it
  pub rows_next : (o ts t u : List ℕ) (j y : ℕ) → y * w ≤ length ts → t ≡ sets o j (joined (rows_of w y ts))
      → u ≡ sets t (j + y * (w + 1)) (lettered ts (y * w) w ++ 10 ∷ []) → u ≡ sets o j (joined (rows_of w (y + 1) ts))
  rows_next o ts t u j y k et eu =
      eu
      ∙ ap₂ (λ (v : List ℕ) (n : ℕ). sets v (j + n) (lettered ts (y * w) w ++ 10 ∷ [])) et (sym (joined_long w y ts k))
      ∙ sym (sets_append o (joined (rows_of w y ts)) (lettered ts (y * w) w ++ 10 ∷ []) j)
      ∙ ap (sets o j) (sym (joined_next y ts))
      ∙ ap (λ (n : ℕ). sets o j (joined (rows_of w n ts))) (sym (add-one y))

-- ---- a text

-- the first line copied in front, and the rows put behind it
module _ (f : Head) (ts o : List ℕ) (il : IsLevel (lent_as f ts)) (is_first : f.version ≡ 1) (room : 1001 ≤ length o) (r : Line)
    (line : LineIs f.par r) where
  abbrev body : List ℕ
  body = joined (rows_of f.width f.height ts)

  sized : r.len + f.height * (f.width + 1) ≡ length (text_of (lent_as f ts))
  sized = omega (arith, line.size, length-append (first_line f.par) (10 ∷ []), text_size (lent_as f ts) il is_first)

  pub rows_fit : r.len + f.height * (f.width + 1) ≤ length o
  rows_fit = omega (arith, sized, text_short (lent_as f ts) il is_first)

  pub line_fits : length (take r.len o) ≡ length (take r.len r.bytes)
  line_fits = length-take-le r.len o (omega (arith, rows_fit)) ∙ line.size ∙ sym (ap length line.is)

  long : length body ≡ f.height * (f.width + 1)
  long = joined_long f.width f.height ts (omega (arith, il.count, mul_comm f.width f.height))

  pub text_put : (t u : List ℕ) → t ≡ take r.len r.bytes ++ drop r.len o → u ≡ sets t r.len body
      → TextPut (lent_as f ts) o u (r.len + f.height * (f.width + 1))
  text_put t u et eu = record {
    size = sized;
    text = eu
        ∙ ap₂ (λ (v : List ℕ) (n : ℕ). sets v n body) (et ∙ ap₂ (λ (s : List ℕ) (n : ℕ). s ++ drop n o) line.is line.size) line.size
        ∙ sets_behind o (line_of f.par) body (omega (arith, line.size, long, rows_fit))
        ∙ ap₂ (λ (a : List ℕ) (n : ℕ). a ++ drop n o) (append_assoc (first_line f.par) (10 ∷ []) body) end;
  }
    where
      end : length (line_of f.par) + length body ≡ r.len + f.height * (f.width + 1)
      end = omega (arith, line.size, long)
