-- A text says one par and one list of rows.
use mathlib.Core.Path.{◌≡◌, refl, sym, ap, ap₂, ◌∙◌}
use mathlib.Core.List.{List, [], ◌∷◌, ◌++◌}
use Prim.Native.Nat.{ℕ, ◌≤◌}
use native.Mathlib.Omega.{arith}
use lib.ListN.{length, get_or, take, drop, length-append}
use lib.Seq.{append_snoc, take_at, drop_at}
use Rattle.level.specs.Level.{Level}
use Rattle.typed.specs.Text.{joined, first_line, Letters, Rows, Typed, IsText, level_typed, SaysLevel}
use Rattle.typed.specs.Parts.{line_of, Starts}
use Rattle.typed.proofs.Tiles.{no_feed}
use Rattle.typed.proofs.Heads.{line_spelled}

-- ---- rows

-- a line feed ends the row
row_same : (r r' s s' : List ℕ) → Letters r → Letters r' → r ++ 10 ∷ s ≡ r' ++ 10 ∷ s' → (r ≡ r') × (s ≡ s')
row_same [] [] s s' h h' e = (refl, ap (drop 1) e)
row_same [] (c ∷ r') s s' h (t, h') e = absurd (no_feed c t (sym (ap (λ (l : List ℕ). get_or l 0 0) e)))
row_same (c ∷ r) [] s s' (t, h) h' e = absurd (no_feed c t (ap (λ (l : List ℕ). get_or l 0 0) e))
row_same (c ∷ r) (c' ∷ r') s s' (t, h) (t', h') e =
    let p = row_same r r' s s' h h' (ap (drop 1) e) in
    (ap₂ (λ (x : ℕ) (l : List ℕ). x ∷ l) (ap (λ (l : List ℕ). get_or l 0 0) e) p.0, p.1)

some : (r s : List ℕ) → [] ≡ r ++ 10 ∷ s → ⊥
some r s e = omega (arith, ap length e, length-append r (10 ∷ s))

rows_same : (rows rows' : List (List ℕ)) → Rows rows → Rows rows' → joined rows ≡ joined rows' → rows ≡ rows'
rows_same [] [] h h' e = refl
rows_same [] (r ∷ rs) h h' e = absurd (some r (joined rs) e)
rows_same (r ∷ rs) [] h h' e = absurd (some r (joined rs) (sym e))
rows_same (r ∷ rs) (r' ∷ rs') (a, h) (a', h') e =
    let p = row_same r r' (joined rs) (joined rs') a a' e in
    ap₂ (λ (x : List ℕ) (l : List (List ℕ)). x ∷ l) p.0 (rows_same rs rs' h h' p.1)

-- ---- the first line, and the rows behind it

-- the first line of a text with its line feed, and what is behind
typed_line : (text : List ℕ) (par : ℕ) (rows : List (List ℕ)) → Typed text par rows → text ≡ line_of par ++ joined rows
typed_line text par rows T = T.is ∙ sym (append_snoc (first_line par) 10 (joined rows))

pub typed_starts : (text : List ℕ) (par : ℕ) (rows : List (List ℕ)) → Typed text par rows → Starts (line_of par) text
typed_starts text par rows T =
    ap (take (length (line_of par))) (typed_line text par rows T) ∙ take_at (line_of par) (joined rows) (length (line_of par)) refl

pub typed_rows : (text : List ℕ) (par : ℕ) (rows : List (List ℕ)) → Typed text par rows → drop (length (line_of par)) text ≡ joined rows
typed_rows text par rows T =
    ap (drop (length (line_of par))) (typed_line text par rows T) ∙ drop_at (line_of par) (joined rows) (length (line_of par)) refl

-- and back
pub typed_by : (text : List ℕ) (par : ℕ) (rows : List (List ℕ)) → par ≤ 1023 → Rows rows → text ≡ line_of par ++ joined rows → Typed text par rows
typed_by text par rows p h e = record { par_small = p; letters = h; is = e ∙ append_snoc (first_line par) 10 (joined rows) }

-- ---- one level

-- two pars whose lines a text starts with are the same
pub one_par : (text : List ℕ) (par par' : ℕ) → par ≤ 1023 → par' ≤ 1023 → Starts (line_of par) text → Starts (line_of par') text → par ≡ par'
one_par text par par' p p' s s' = sym (line_spelled par text p s) ∙ line_spelled par' text p' s'

pub one_level : (text : List ℕ) (l l' : Level) → SaysLevel text l → SaysLevel text l' → l ≡ l'
one_level text l l' S S' = S.says ∙ same S.typed S'.typed ∙ sym S'.says
  where
    same : (t u : IsText text) → level_typed t.par t.rows ≡ level_typed u.par u.rows
    same t u = ap₂ level_typed par (rows_same t.rows u.rows t.has.letters u.has.letters rows)
      where
        par : t.par ≡ u.par
        par =
            one_par text t.par u.par t.has.par_small u.has.par_small (typed_starts text t.par t.rows t.has)
            (typed_starts text u.par u.rows u.has)

        rows : joined t.rows ≡ joined u.rows
        rows =
            sym (typed_rows text t.par t.rows t.has)
            ∙ ap (λ (k : ℕ). drop (length (line_of k)) text) par
            ∙ typed_rows text u.par u.rows u.has
