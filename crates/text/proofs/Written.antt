-- The text of a level: how long it is, and that it says that level.
use mathlib.Core.Path.{◌≡◌, refl, sym, ap, ap₂, ◌∙◌, subst}
use mathlib.Core.List.{List, [], ◌∷◌, ◌++◌, map, append-nil}
use Prim.Native.Nat.{ℕ, zero, suc, ◌+◌, ◌*◌, ◌-◌, ◌≤◌, max}
use native.Mathlib.Nat.{zero-mul, suc-mul, mul_comm, mul-le-mul, max-zero, max-eq_left, le_refl}
use native.Mathlib.Omega.{arith}
use lib.ListN.{length, get_or, take, drop, replicate, length-append, length-drop, length-map, take-append-drop, drop_of_length-le}
use lib.Seq.{get_or-drop, length-take-le}
use Rattle.level.specs.Level.{Level, AllTiles, IsLevel}
use Rattle.lending.proofs.Writing.{codes_all}
use Rattle.typed.specs.Letters.{tile_of, letter_of}
use Rattle.typed.specs.Text.{joined, first_line, Letters, Rows, longest, board, Typed, level_typed, rows_of, text_of}
use Rattle.typed.proofs.Tiles.{letter_tile}
use Rattle.typed.proofs.Lines.{decimal_short}

-- ---- sizes

-- the bytes of all rows
pub rows_few : (w h : ℕ) → w ≤ 31 → h ≤ 31 → h * (w + 1) ≤ 992
rows_few w h a b = mul-le-mul {n₁ = h} {m₁ = w + 1} {n₂ = 31} {m₂ = 32} b (omega arith)

module _ (w : ℕ) where
  -- a row that has all its tiles has w letters
  row_long : (h : ℕ) (ts : List ℕ) → suc h * w ≤ length ts → length (map letter_of (take w ts)) ≡ w
  row_long h ts k = length-map (take w ts) letter_of ∙ length-take-le w ts (omega (arith, suc-mul h w))

  -- and the other rows have theirs
  rest_long : (h : ℕ) (ts : List ℕ) → suc h * w ≤ length ts → h * w ≤ length (drop w ts)
  rest_long h ts k = omega (arith, suc-mul h w, length-drop w ts)

  -- each row takes w letters and its line feed
  pub joined_long : (h : ℕ) (ts : List ℕ) → h * w ≤ length ts → length (joined (rows_of w h ts)) ≡ h * (w + 1)
  joined_long zero ts k = sym (zero-mul (w + 1))
  joined_long (suc h) ts k =
      omega (
        arith,
        length-append (map letter_of (take w ts)) (10 ∷ joined (rows_of w h (drop w ts))),
        row_long h ts k,
        joined_long h (drop w ts) (rest_long h ts k),
        suc-mul h (w + 1),
      )

  -- there are h rows, and the longest has w letters
  rows_high : (h : ℕ) (ts : List ℕ) → length (rows_of w h ts) ≡ h
  rows_high zero ts = refl
  rows_high (suc h) ts = ap suc (rows_high h (drop w ts))

  rows_wide : (h : ℕ) (ts : List ℕ) → suc h * w ≤ length ts → longest (rows_of w (suc h) ts) ≡ w
  rows_wide zero ts k = ap (λ (n : ℕ). max n 0) (row_long zero ts k) ∙ max-zero w
  rows_wide (suc h) ts k =
      ap₂ max (row_long (suc h) ts k) (rows_wide h (drop w ts) (rest_long (suc h) ts k)) ∙ max-eq_left (le_refl w)

-- ---- tiles and back

-- each tile is one that has a letter; past the last are zeros
abbrev Small : List ℕ → Type 0
Small ts = (q : ℕ) → get_or ts q 0 ≤ 6

small_rest : (w : ℕ) (ts : List ℕ) → Small ts → Small (drop w ts)
small_rest w ts s q = omega (arith, get_or-drop w ts q 0, s (w + q))

row_letters : (n : ℕ) (ts : List ℕ) → Small ts → Letters (map letter_of (take n ts))
row_letters zero ts s = tt
row_letters (suc n) [] s = tt
row_letters (suc n) (t ∷ ts) s = (omega (arith, letter_tile t (s 0), s 0), row_letters n ts (λ q. s (suc q)))

row_back : (n : ℕ) (ts : List ℕ) → Small ts → map tile_of (map letter_of (take n ts)) ≡ take n ts
row_back zero ts s = refl
row_back (suc n) [] s = refl
row_back (suc n) (t ∷ ts) s = ap₂ (λ (c : ℕ) (cs : List ℕ). c ∷ cs) (letter_tile t (s 0)) (row_back n ts (λ q. s (suc q)))

module _ (w : ℕ) where
  rows_letters : (h : ℕ) (ts : List ℕ) → Small ts → Rows (rows_of w h ts)
  rows_letters zero ts s = tt
  rows_letters (suc h) ts s = (row_letters w ts s, rows_letters h (drop w ts) (small_rest w ts s))

  -- rows of full width are the board's tiles
  rows_board : (h : ℕ) (ts : List ℕ) → Small ts → length ts ≡ h * w → board w (rows_of w h ts) ≡ ts
  rows_board zero ts s e = sym (drop_of_length-le ts {i = zero} (omega (arith, e, zero-mul w)))
  rows_board (suc h) ts s e =
      ap₂ (λ (a b : List ℕ). a ++ b) front (rows_board h (drop w ts) (small_rest w ts s) (omega (arith, suc-mul h w, length-drop w ts)))
      ∙ take-append-drop w ts
    where
      full : w - length (map letter_of (take w ts)) ≡ 0
      full = omega (arith, row_long w h ts (omega arith))

      front : map tile_of (map letter_of (take w ts)) ++ replicate (w - length (map letter_of (take w ts))) 0 ≡ take w ts
      front = ap₂ (λ (a : List ℕ) (n : ℕ). a ++ replicate n 0) (row_back w ts s) full ∙ append-nil (take w ts)

-- ---- the text of a level

abbrev rows_in : Level → List (List ℕ)
rows_in l = rows_of l.width l.height l.tiles

module _ (l : Level) (il : IsLevel l) (first : l.version ≡ 1) where
  counted : length l.tiles ≡ l.height * l.width
  counted = il.count ∙ mul_comm l.width l.height

  pub text_size : length (text_of l) ≡ length (first_line l.par) + 1 + l.height * (l.width + 1)
  text_size =
      omega (arith, length-append (first_line l.par) (10 ∷ joined (rows_in l)), joined_long l.width l.height l.tiles (omega (arith, counted)))

  pub text_short : length (text_of l) ≤ 1001
  text_short =
      omega (arith, text_size, decimal_short l.par, rows_few l.width l.height il.ranged.sized.not_wider il.ranged.sized.not_higher)

  small : Small l.tiles
  small = codes_all 1 l.tiles (subst (λ (v : ℕ). AllTiles v l.tiles) first il.codes)

  -- it is typed as it should be
  pub text_typed : Typed (text_of l) l.par (rows_of l.width l.height l.tiles)
  text_typed = record { par_small = il.ranged.par_small; letters = rows_letters l.width l.height l.tiles small; is = refl }

  wide : longest (rows_in l) ≡ l.width
  wide = go l.height il.ranged.sized.high (omega (arith, counted))
    where
      go : (h : ℕ) → 1 ≤ h → h * l.width ≤ length l.tiles → longest (rows_of l.width h l.tiles) ≡ l.width
      go zero a k = absurd (omega arith)
      go (suc h) a k = rows_wide l.width h l.tiles k

  -- and it says that level
  pub typed_level : level_typed l.par (rows_of l.width l.height l.tiles) ≡ l
  typed_level = λ i. record {
    version = sym first i;
    width = wide i;
    height = rows_high l.width l.height l.tiles i;
    par = l.par;
    tiles = laid i;
  }
    where
      laid : board (longest (rows_in l)) (rows_in l) ≡ l.tiles
      laid = ap (λ (w : ℕ). board w (rows_in l)) wide ∙ rows_board l.width l.height l.tiles small counted
