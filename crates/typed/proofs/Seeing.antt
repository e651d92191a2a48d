-- The bytes of rows, seen one after the other: what comes out tells whether they are rows, how many, and the longest.
use mathlib.Core.Path.{◌≡◌, refl, sym, ap, ap₂, ◌∙◌}
use mathlib.Core.Bool.{Bool, cond}
use mathlib.Core.List.{List, [], ◌∷◌, ◌++◌, append-nil, append_assoc}
use Prim.Native.Nat.{ℕ, zero, ◌+◌, ◌≤◌, ◌<◌, max}
use native.Mathlib.Decide.{ℕ_discrete}
use native.Mathlib.Omega.{arith}
use native.Mathlib.Numerals.{add-one}
use borrow.Author.Tests.{eq-eqb, ne_eqb}
use lib.ListN.{length, get_or, drop, length-append, drop_of_length-le}
use lib.Seq.{drop-cons}
use Rattle.typed.specs.Letters.{tile_of}
use Rattle.typed.specs.Text.{joined, Letters, Rows, longest}
use Rattle.typed.specs.Parts.{foreign, seen_next, seen_in, IsRows, Shown, SeenAs}
use Rattle.typed.specs.declared.rows.Seen.{Seen}
use Rattle.typed.proofs.Tiles.{no_feed, letter_known, known_letter, foreign_one}

abbrev pub seen : ℕ → ℕ → ℕ → ℕ → Seen
seen f n c l = record { foreign = f; rows = n; column = c; longest = l }

-- ---- one byte

pub next_feed : (s : Seen) (c : ℕ) → c ≡ 10 → seen_next s c ≡ seen s.foreign (s.rows + 1) 0 (max s.longest s.column)
next_feed s c e =
    ap (λ (b : Bool). cond b (seen s.foreign (s.rows + 1) 0 (max s.longest s.column)) (seen (s.foreign + foreign c) s.rows (s.column + 1) s.longest))
    (eq-eqb c 10 e)

pub next_other : (s : Seen) (c : ℕ) → (c ≡ 10 → ⊥) → seen_next s c ≡ seen (s.foreign + foreign c) s.rows (s.column + 1) s.longest
next_other s c n =
    ap (λ (b : Bool). cond b (seen s.foreign (s.rows + 1) 0 (max s.longest s.column)) (seen (s.foreign + foreign c) s.rows (s.column + 1) s.longest))
    (ne_eqb c 10 n)

-- ---- rows are seen as such

row_seen : (r : List ℕ) → Letters r → (f n c l : ℕ) (rest : List ℕ) → seen_in (seen f n c l) (r ++ 10 ∷ rest) ≡ seen_in (seen f (n + 1) 0 (max l (c + length r))) rest
row_seen [] h f n c l rest = ap (λ (k : ℕ). seen_in (seen f (n + 1) 0 (max l k)) rest) (omega arith)
row_seen (x ∷ r) (t, h) f n c l rest =
    ap (λ (s : Seen). seen_in s (r ++ 10 ∷ rest)) (next_other (seen f n c l) x (no_feed x t))
    ∙ ap (λ (k : ℕ). seen_in (seen k n (c + 1) l) (r ++ 10 ∷ rest)) (omega (arith, letter_known x t))
    ∙ row_seen r h f n (c + 1) l rest
    ∙ ap (λ (k : ℕ). seen_in (seen f (n + 1) 0 (max l k)) rest) (omega arith)

rows_seen : (rows : List (List ℕ)) → Rows rows → (n l : ℕ) → seen_in (seen 0 n 0 l) (joined rows) ≡ seen 0 (n + length rows) 0 (max l (longest rows))
rows_seen [] h n l = ap₂ (λ (a b : ℕ). seen 0 a 0 b) (omega arith) (omega arith)
rows_seen (r ∷ rs) (a, h) n l =
    row_seen r a 0 n 0 l (joined rs)
    ∙ rows_seen rs h (n + 1) (max l (0 + length r))
    ∙ ap₂ (λ (a b : ℕ). seen 0 a 0 b) (omega arith) (omega arith)

-- ---- and nothing else is

-- the count of foreign bytes never falls
foreign_grows : (cs : List ℕ) (s : Seen) → s.foreign ≤ (seen_in s cs).foreign
foreign_grows [] s = omega arith
foreign_grows (c ∷ cs) s = go (ℕ_discrete c 10) (foreign_grows cs (seen_next s c))
  where
    go : Dec (c ≡ 10) → (seen_next s c).foreign ≤ (seen_in (seen_next s c) cs).foreign → s.foreign ≤ (seen_in (seen_next s c) cs).foreign
    go (yes e) h = omega (arith, h, ap (λ (x : Seen). x.foreign) (next_feed s c e))
    go (no n) h = omega (arith, h, ap (λ (x : Seen). x.foreign) (next_other s c n))

letters_more : (r : List ℕ) (c : ℕ) → Letters r → tile_of c ≤ 6 → Letters (r ++ c ∷ [])
letters_more [] c h t = (t, tt)
letters_more (x ∷ r) c (a, h) t = (a, letters_more r c h t)

cut : (cs : List ℕ) (s : Seen) (acc : List ℕ) → Letters acc → s.column ≡ length acc → (seen_in s cs).foreign ≡ 0 → (seen_in s cs).column ≡ 0 → IsRows (acc ++ cs)
cut [] s acc h k f z = record { rows = []; letters = tt; is = append-nil acc ∙ drop_of_length-le acc {i = zero} (omega (arith, k, z)) }
cut (c ∷ cs) s acc h k f z = go (ℕ_discrete c 10) (λ a b i. cut cs (seen_next s c) a b i f z)
  where
    go : Dec (c ≡ 10) → ((a : List ℕ) → Letters a → (seen_next s c).column ≡ length a → IsRows (a ++ cs)) → IsRows (acc ++ c ∷ cs)
    go (yes e) more =
        let r = more [] tt (ap (λ (x : Seen). x.column) (next_feed s c e)) in
        record { rows = acc ∷ r.rows; letters = (h, r.letters); is = ap₂ (λ (x : ℕ) (y : List ℕ). acc ++ x ∷ y) e r.is }
    go (no n) more =
        let e = next_other s c n in
        let t : foreign c ≡ 0 = omega (arith, foreign_grows cs (seen_next s c), f, ap (λ (x : Seen). x.foreign) e) in
        let r = more (acc ++ c ∷ []) (letters_more acc c h (known_letter c t))
        (omega (arith, ap (λ (x : Seen). x.column) e, k, length-append acc (c ∷ []))) in
        record { rows = r.rows; letters = r.letters; is = sym (append_assoc acc (c ∷ []) cs) ∙ r.is }

-- ---- what is told of all bytes

seen_as : (body : List ℕ) (r : Seen) → r ≡ seen_in (seen 0 0 0 0) body → SeenAs body r
seen_as body r e = record { shown = shown; none = none }
  where
    told : (b : IsRows body) → r ≡ seen 0 (length b.rows) 0 (longest b.rows)
    told b =
        e ∙ ap (seen_in (seen 0 0 0 0)) b.is ∙ rows_seen b.rows b.letters 0 0 ∙ ap₂ (λ (n l : ℕ). seen 0 n 0 l) (omega arith) (omega arith)

    shown : r.foreign ≡ 0 → r.column ≡ 0 → Shown body r.longest r.rows
    shown f z =
        let b = cut body (seen 0 0 0 0) [] tt refl (sym (ap (λ (x : Seen). x.foreign) e) ∙ f) (sym (ap (λ (x : Seen). x.column) e) ∙ z) in
        record { has = b; width = ap (λ (x : Seen). x.longest) (told b); height = ap (λ (x : Seen). x.rows) (told b) }

    none : IsRows body → (r.foreign ≡ 0) × (r.column ≡ 0)
    none b = (ap (λ (x : Seen). x.foreign) (told b), ap (λ (x : Seen). x.column) (told b))

-- ---- the bytes seen so far

-- the first i bytes were seen, and the others are still to be
pub record SeenTo (body : List ℕ) (i : ℕ) (s : Seen) : Type 0 where
  pub foreign : s.foreign ≤ i
  pub rows : s.rows ≤ i
  pub column : s.column ≤ i
  pub left : seen_in s (drop i body) ≡ seen_in (seen 0 0 0 0) body

pub seen_none : (body : List ℕ) → SeenTo body 0 (seen 0 0 0 0)
seen_none body = record { foreign = omega arith; rows = omega arith; column = omega arith; left = refl }

pub seen_more : (body : List ℕ) (i : ℕ) (s r : Seen) → i < length body → SeenTo body i s → r ≡ seen_next s (get_or body i 0) → SeenTo body (i + 1) r
seen_more body i s r h S e = record {
  foreign = go.0;
  rows = go.1;
  column = go.2;
  left =
      ap₂ (λ (x : Seen) (k : ℕ). seen_in x (drop k body)) e (add-one i)
      ∙ sym (ap (seen_in s) (drop-cons body i 0 h))
      ∙ S.left;
}
  where
    bounds : Dec (get_or body i 0 ≡ 10) → (r.foreign ≤ i + 1) × (r.rows ≤ i + 1) × (r.column ≤ i + 1)
    bounds (yes f) =
        let n = e ∙ next_feed s (get_or body i 0) f in (
          omega (arith, ap (λ (x : Seen). x.foreign) n, S.foreign),
          omega (arith, ap (λ (x : Seen). x.rows) n, S.rows),
          omega (arith, ap (λ (x : Seen). x.column) n),
        )
    bounds (no f) =
        let n = e ∙ next_other s (get_or body i 0) f in (
          omega (arith, ap (λ (x : Seen). x.foreign) n, S.foreign, foreign_one (get_or body i 0)),
          omega (arith, ap (λ (x : Seen). x.rows) n, S.rows),
          omega (arith, ap (λ (x : Seen). x.column) n, S.column),
        )

    go : (r.foreign ≤ i + 1) × (r.rows ≤ i + 1) × (r.column ≤ i + 1)
    go = bounds (ℕ_discrete (get_or body i 0) 10)

pub seen_all : (body : List ℕ) (i : ℕ) (s : Seen) → length body ≤ i → SeenTo body i s → SeenAs body s
seen_all body i s h S = seen_as body s (sym (ap (seen_in s) (drop_of_length-le body h)) ∙ S.left)
