-- Tiles put one after the other on a board that is floor.
use mathlib.Core.Path.{◌≡◌, refl, sym, ap, ap₂, ◌∙◌, subst}
use mathlib.Core.List.{List, [], ◌∷◌, ◌++◌, append-nil, append_assoc}
use Prim.Native.Nat.{ℕ, zero, suc, ◌+◌, ◌*◌, ◌-◌, ◌≤◌, ◌<◌}
use native.Mathlib.Decide.{ℕ_discrete}
use native.Mathlib.Numerals.{add-one}
use native.Mathlib.Omega.{arith}
use lib.ListN.{length, get_or, take, drop, set, replicate, length-append, length-replicate, length-set, length-drop, drop_of_length-le}
use lib.Seq.{drop-cons, take-suc-set, append_snoc, take-add, length-take-le, get_or-set_other, get_or-drop}
use Rattle.typed.specs.Letters.{tile_of}
use Rattle.typed.specs.Text.{board}
use Rattle.typed.specs.Parts.{IsRows, Layable, LaidOut, PlacedAs}
use Rattle.typed.specs.declared.rows.Spot.{Spot}
use Rattle.typed.proofs.Unrolling.{Lettered, unrolled, widest, unrolled_feed, unrolled_letter, widest_feed, widest_letter, widest_least, rows_unrolled, rows_widest, rows_lettered, board_long}

-- floor, and floor again
floor_front : (k : ℕ) (l : List ℕ) → ((p : ℕ) → get_or l p 0 ≡ 0) → k ≤ length l → take k l ≡ replicate k 0
floor_front zero l z h = refl
floor_front (suc k) [] z h = absurd (omega (arith, h))
floor_front (suc k) (x ∷ l) z h = ap₂ (λ (a : ℕ) (b : List ℕ). a ∷ b) (z 0) (floor_front k l (λ p. z (suc p)) (omega (arith, h)))

-- the first i bytes are placed, the next goes to this spot, and from there on the board is floor
pub record LaidTo (body : List ℕ) (w n : ℕ) (board : List ℕ) (at : Spot) (i : ℕ) : Type 0 where
  pub long : length board ≡ n
  pub inside : at.base + at.column ≤ n
  pub floor : (p : ℕ) → at.base + at.column ≤ p → get_or board p 0 ≡ 0
  pub narrow : widest at.column (drop i body) ≤ w
  pub laid : take (at.base + at.column) board ++ unrolled w at.column (drop i body) ≡ unrolled w 0 body

module _ (body board : List ℕ) (w n i : ℕ) (at : Spot) (L : LaidTo body w n board at i) (room : length (unrolled w 0 body) ≤ n) (more : i < length body) where
  abbrev here : ℕ
  here = at.base + at.column

  abbrev byte : ℕ
  byte = get_or body i 0

  abbrev rest : List ℕ
  rest = drop (suc i) body

  -- what is still to come fits behind what is there
  fits : here + length (unrolled w at.column (byte ∷ rest)) ≤ n
  fits = omega (
    arith,
    ap length L.laid,
    length-append (take here board) (unrolled w at.column (drop i body)),
    length-take-le here board (omega (arith, L.long, L.inside)),
    ap (λ (l : List ℕ). length (unrolled w at.column l)) (drop-cons body i 0 more),
    room,
  )

  column_small : at.column ≤ w
  column_small = omega (arith, widest_least (drop i body) at.column, L.narrow)

  pub next_free : (byte ≡ 10 → ⊥) → here < n
  next_free k = omega (arith, fits, ap length (unrolled_letter w at.column byte rest k))

  laid_feed : byte ≡ 10 → LaidTo body w n board (record { base = at.base + w; column = 0 }) (i + 1)
  laid_feed e = record {
    long = L.long;
    inside = omega (arith, room_row);
    floor = λ p h. L.floor p (omega (arith, column_small, h));
    narrow =
        omega (
          arith,
          L.narrow,
          ap (widest at.column) (drop-cons body i 0 more),
          widest_feed w at.column byte rest e,
          ap (λ (k : ℕ). widest 0 (drop k body)) (add-one i),
        );
    laid =
        ap₂ (λ (k j : ℕ). take k board ++ unrolled w 0 (drop j body)) end (add-one i)
        ∙ ap (λ (l : List ℕ). l ++ unrolled w 0 rest) (take-add here (w - at.column) board ∙ ap (λ (l : List ℕ). take here board ++ l) filling)
        ∙ append_assoc (take here board) (replicate (w - at.column) 0) (unrolled w 0 rest)
        ∙ ap (λ (l : List ℕ). take here board ++ l) (sym (unrolled_feed w at.column byte rest e) ∙ sym (ap (unrolled w at.column) (drop-cons body i 0 more)))
        ∙ L.laid;
  }
    where
      end : at.base + w + 0 ≡ here + (w - at.column)
      end = omega (arith, column_small)

      room_row : here + (w - at.column) ≤ n
      room_row =
          omega (
            arith,
            fits,
            ap length (unrolled_feed w at.column byte rest e),
            length-append (replicate (w - at.column) 0) (unrolled w 0 rest),
            length-replicate {A = ℕ} (w - at.column) 0,
          )

      filling : take (w - at.column) (drop here board) ≡ replicate (w - at.column) 0
      filling =
          floor_front (w - at.column) (drop here board) (λ p. get_or-drop here board p 0 ∙ L.floor (here + p) (omega arith))
          (omega (arith, room_row, L.long, length-drop here board))

  laid_letter : (byte ≡ 10 → ⊥) → LaidTo body w n (set board here (tile_of byte)) (record { base = at.base; column = at.column + 1 }) (i + 1)
  laid_letter k = record {
    long = length-set board here (tile_of byte) ∙ L.long;
    inside = omega (arith, next_free k);
    floor = λ p h. get_or-set_other board here p (tile_of byte) 0 (λ e. omega (arith, e, h)) ∙ L.floor p (omega (arith, h));
    narrow =
        omega (
          arith,
          L.narrow,
          ap (widest at.column) (drop-cons body i 0 more),
          widest_letter w at.column byte rest k,
          ap (λ (j : ℕ). widest (at.column + 1) (drop j body)) (add-one i),
        );
    laid =
        ap₂ (λ (q j : ℕ). take q (set board here (tile_of byte)) ++ unrolled w (at.column + 1) (drop j body)) end (add-one i)
        ∙ ap (λ (l : List ℕ). l ++ unrolled w (at.column + 1) rest) (take-suc-set board here (tile_of byte) (omega (arith, next_free k, L.long)))
        ∙ append_snoc (take here board) (tile_of byte) (unrolled w (at.column + 1) rest)
        ∙ ap (λ (l : List ℕ). take here board ++ l) (sym (unrolled_letter w at.column byte rest k) ∙ sym (ap (unrolled w at.column) (drop-cons body i 0 more)))
        ∙ L.laid;
  }
    where
      end : at.base + (at.column + 1) ≡ suc here
      end = omega arith

  -- whatever the byte is
  pub laid_more : (new : List ℕ) (r : Spot) → PlacedAs byte w at board new r → LaidTo body w n new r (i + 1)
  laid_more new r P = go (ℕ_discrete byte 10)
    where
      go : Dec (byte ≡ 10) → LaidTo body w n new r (i + 1)
      go (yes e) = rw ((P.feed e).0, (P.feed e).1) (laid_feed e)
      go (no k) = rw ((P.letter k).0, (P.letter k).1) (laid_letter k)

-- ---- rows that can be laid out

module _ (body floor : List ℕ) (w : ℕ) (L : Layable body w floor) where
  pub lettered : Lettered body
  lettered = subst Lettered (sym L.has.is) (rows_lettered L.has.rows L.has.letters)

  wide : widest 0 body ≤ w
  wide = omega (arith, ap (widest 0) L.has.is, rows_widest L.has.rows L.has.letters, L.narrow)

  pub fits_board : length (unrolled w 0 body) ≤ length floor
  fits_board =
      omega (
        arith,
        ap (λ (s : List ℕ). length (unrolled w 0 s)) L.has.is,
        ap length (rows_unrolled w L.has.rows L.has.letters),
        board_long w L.has.rows L.narrow,
        L.room,
      )

  pub laid_none : LaidTo body w (length floor) floor (record { base = 0; column = 0 }) 0
  laid_none = record { long = refl; inside = omega arith; floor = λ p _. L.is_floor p; narrow = wide; laid = refl }

  -- all bytes are placed
  pub laid_all : (new : List ℕ) (i : ℕ) (at : Spot) → length body ≤ i → LaidTo body w (length floor) new at i → LaidOut body w new
  laid_all new i at h A = record { laid = λ b. ap (λ (n : ℕ). take n new) (size b) ∙ same b }
    where
      all : take (at.base + at.column) new ≡ unrolled w 0 body
      all =
          sym (append-nil (take (at.base + at.column) new))
          ∙ sym (ap (λ (l : List ℕ). take (at.base + at.column) new ++ unrolled w at.column l) (drop_of_length-le body h))
          ∙ A.laid

      same : (b : IsRows body) → take (at.base + at.column) new ≡ board w b.rows
      same b = all ∙ ap (unrolled w 0) b.is ∙ rows_unrolled w b.rows b.letters

      size : (b : IsRows body) → w * length b.rows ≡ at.base + at.column
      size b =
          sym (board_long w b.rows (omega (arith, wide, ap (widest 0) b.is, rows_widest b.rows b.letters)))
          ∙ sym (ap length (same b))
          ∙ length-take-le (at.base + at.column) new (omega (arith, A.long, A.inside))
