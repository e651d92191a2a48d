-- The tiles of rows laid out byte by byte: letters put their tiles, a line feed leaves the rest of its row as floor.
use mathlib.Core.Path.{◌≡◌, refl, sym, ap, ap₂, ◌∙◌}
use mathlib.Core.Bool.{Bool, cond}
use mathlib.Core.List.{List, [], ◌∷◌, ◌++◌, map, append_assoc}
use Prim.Native.Nat.{ℕ, zero, suc, ◌+◌, ◌*◌, ◌-◌, ◌≤◌, ◌<◌, max}
use native.Mathlib.Nat.{mul-suc}
use native.Mathlib.Decide.{ℕ_discrete}
use native.Mathlib.Omega.{arith}
use borrow.Author.Tests.{eq-eqb, ne_eqb}
use lib.Dec.{eqb}
use lib.ListN.{length, get_or, replicate, length-append, length-replicate, length-map}
use Rattle.typed.specs.Letters.{tile_of}
use Rattle.typed.specs.Text.{joined, Letters, Rows, longest, filled, board}
use Rattle.typed.proofs.Tiles.{no_feed}

-- ---- what is laid out

-- each byte but a line feed is a letter
abbrev pub Lettered : List ℕ → Type 0
Lettered body = (i : ℕ) → i < length body → (get_or body i 0 ≡ 10 → ⊥) → tile_of (get_or body i 0) ≤ 6

-- the tiles of rows, each filled to a width, the first after column letters of it
abbrev pub unrolled : ℕ → ℕ → List ℕ → List ℕ
unrolled w column [] = []
unrolled w column (c ∷ cs) = cond (eqb c 10) (replicate (w - column) 0 ++ unrolled w 0 cs) (tile_of c ∷ unrolled w (column + 1) cs)

-- the longest row, the first after column letters of it
abbrev pub widest : ℕ → List ℕ → ℕ
widest column [] = column
widest column (c ∷ cs) = cond (eqb c 10) (max column (widest 0 cs)) (widest (column + 1) cs)

-- ---- one byte

module _ (w column c : ℕ) (cs : List ℕ) where
  pub unrolled_feed : c ≡ 10 → unrolled w column (c ∷ cs) ≡ replicate (w - column) 0 ++ unrolled w 0 cs
  unrolled_feed e = ap (λ (b : Bool). cond b (replicate (w - column) 0 ++ unrolled w 0 cs) (tile_of c ∷ unrolled w (column + 1) cs)) (eq-eqb c 10 e)

  pub unrolled_letter : (c ≡ 10 → ⊥) → unrolled w column (c ∷ cs) ≡ tile_of c ∷ unrolled w (column + 1) cs
  unrolled_letter n = ap (λ (b : Bool). cond b (replicate (w - column) 0 ++ unrolled w 0 cs) (tile_of c ∷ unrolled w (column + 1) cs)) (ne_eqb c 10 n)

  pub widest_feed : c ≡ 10 → widest column (c ∷ cs) ≡ max column (widest 0 cs)
  widest_feed e = ap (λ (b : Bool). cond b (max column (widest 0 cs)) (widest (column + 1) cs)) (eq-eqb c 10 e)

  pub widest_letter : (c ≡ 10 → ⊥) → widest column (c ∷ cs) ≡ widest (column + 1) cs
  widest_letter n = ap (λ (b : Bool). cond b (max column (widest 0 cs)) (widest (column + 1) cs)) (ne_eqb c 10 n)

-- ---- rows

row_unrolled : (w : ℕ) (r : List ℕ) → Letters r → (column : ℕ) (rest : List ℕ)
    → unrolled w column (r ++ 10 ∷ rest) ≡ map tile_of r ++ (replicate (w - (column + length r)) 0 ++ unrolled w 0 rest)
row_unrolled w [] h column rest = ap (λ (k : ℕ). replicate (w - k) 0 ++ unrolled w 0 rest) (omega arith)
row_unrolled w (c ∷ r) (t, h) column rest =
    unrolled_letter w column c (r ++ 10 ∷ rest) (no_feed c t)
    ∙ ap (λ (l : List ℕ). tile_of c ∷ l) (row_unrolled w r h (column + 1) rest
    ∙ ap (λ (k : ℕ). map tile_of r ++ (replicate (w - k) 0 ++ unrolled w 0 rest)) (omega arith))

pub rows_unrolled : (w : ℕ) (rows : List (List ℕ)) → Rows rows → unrolled w 0 (joined rows) ≡ board w rows
rows_unrolled w [] h = refl
rows_unrolled w (r ∷ rs) (a, h) =
    row_unrolled w r a 0 (joined rs)
    ∙ ap₂ (λ (k : ℕ) (l : List ℕ). map tile_of r ++ (replicate (w - k) 0 ++ l)) (omega arith) (rows_unrolled w rs h)
    ∙ sym (append_assoc (map tile_of r) (replicate (w - length r) 0) (board w rs))

row_widest : (r : List ℕ) → Letters r → (column : ℕ) (rest : List ℕ) → widest column (r ++ 10 ∷ rest) ≡ max (column + length r) (widest 0 rest)
row_widest [] h column rest = ap (λ (k : ℕ). max k (widest 0 rest)) (omega arith)
row_widest (c ∷ r) (t, h) column rest =
    widest_letter column column c (r ++ 10 ∷ rest) (no_feed c t) ∙ row_widest r h (column + 1) rest ∙ ap (λ (k : ℕ). max k (widest 0 rest)) (omega arith)

pub rows_widest : (rows : List (List ℕ)) → Rows rows → widest 0 (joined rows) ≡ longest rows
rows_widest [] h = refl
rows_widest (r ∷ rs) (a, h) = row_widest r a 0 (joined rs) ∙ ap₂ max (omega arith) (rows_widest rs h)

-- a board has as many tiles as its size has places
pub board_long : (w : ℕ) (rows : List (List ℕ)) → longest rows ≤ w → length (board w rows) ≡ w * length rows
board_long w [] h = omega arith
board_long w (r ∷ rs) h =
    length-append (filled w r) (board w rs) ∙ omega (
      arith,
      length-append (map tile_of r) (replicate (w - length r) 0),
      length-map r tile_of,
      length-replicate {A = ℕ} (w - length r) 0,
      board_long w rs (omega (arith, h)),
      mul-suc w (length rs),
      h,
    )

-- ---- bounds

pub widest_least : (cs : List ℕ) (column : ℕ) → column ≤ widest column cs
widest_least [] column = omega arith
widest_least (c ∷ cs) column = go (ℕ_discrete c 10) (widest_least cs (column + 1))
  where
    go : Dec (c ≡ 10) → column + 1 ≤ widest (column + 1) cs → column ≤ widest column (c ∷ cs)
    go (yes e) h = omega (arith, widest_feed column column c cs e)
    go (no n) h = omega (arith, widest_letter column column c cs n, h)

-- ---- letters

row_lettered : (r s : List ℕ) → Letters r → Lettered s → Lettered (r ++ 10 ∷ s)
row_lettered [] s h L zero k n = absurd (n refl)
row_lettered [] s h L (suc i) k n = L i (omega (arith, k)) n
row_lettered (c ∷ r) s (t, h) L zero k n = t
row_lettered (c ∷ r) s (t, h) L (suc i) k n = row_lettered r s h L i (omega (arith, k)) n

pub rows_lettered : (rows : List (List ℕ)) → Rows rows → Lettered (joined rows)
rows_lettered [] h = λ i k n. absurd (omega (arith, k))
rows_lettered (r ∷ rs) (a, h) = row_lettered r (joined rs) a (rows_lettered rs h)
