-- The answers of repair.
use mathlib.Core.Path.{◌≡◌, refl, sym, ap, ◌∙◌, subst}
use mathlib.Core.List.{List, [], ◌∷◌}
use Prim.Native.Nat.{ℕ, zero, suc, ◌≤◌, ◌<◌}
use native.Mathlib.Omega.{arith}
use lib.ListN.{length, get_or}
use lib.Seq.{ext_get_or, length-take-le}
use Rattle.account.specs.Field.{Ops}
use Rattle.account.specs.Code.{Cells, Clean, syndrome}
use Rattle.account.specs.Reach.{count_to, is_marked, is_read, differing, repainted, Reach, Reachable}
use Rattle.account.proofs.Cells.{none_differ}
use Rattle.account.proofs.Words as words
use Rattle.account.specs.Errata.{Applied}
use Rattle.gf256.specs.Gf256.{gf256}
use Rattle.gf256.proofs.Field256.{field256}
use Rattle.values.specs.declared.Errata.{Errata}
use Rattle.errata.specs.Errata.{at, Bytes5, cells_of, values_of, Corrects, Beyond}
use Rattle.std.specs.Prelude.{Result, Ok, Err}
use Rattle.rules.specs.declared.Refusal.{Refusal}
use Rattle.rules.specs.Refusal.{Rule, unless, First, Hold, number_of}
use Rattle.rules.proofs.Laws.{some_number, hold_first, after, Alike, first_alike}
use Rattle.code.specs.Word.{word_most}
use Rattle.marks.specs.declared.Counts.{Counts}
use Rattle.marks.specs.Marks.{CountsAll}
use Rattle.code.specs.Repair.{repaired_numbers, entering_word, repairing, Repairs, RepairsAs, Searchable}
use Rattle.marks.proofs.Counting.{counts_are}

-- ---- a syndrome's bytes

pub syndrome_bytes : (w s : List ℕ) → s ≡ syndrome gf256 w → Bytes5 s
syndrome_bytes w s e m = subst (λ (l : List ℕ). at l m < 256) (sym e) (each m)
  where
    each : (m : ℕ) → at (syndrome gf256 w) m < 256
    each zero = words.sums_in gf256 field256 (length w) w refl 0
    each (suc zero) = words.sums_in gf256 field256 (length w) w refl 1
    each (suc (suc zero)) = words.sums_in gf256 field256 (length w) w refl 2
    each (suc (suc (suc zero))) = words.sums_in gf256 field256 (length w) w refl 3
    each (suc (suc (suc (suc zero)))) = words.sums_in gf256 field256 (length w) w refl 4
    each (suc (suc (suc (suc (suc m))))) = omega arith

-- ---- a clean word needs nothing

pub as_is : (marks w : List ℕ) (f : ℕ) (cells values : List ℕ) → length w ≡ length marks → f ≡ count_to (is_marked marks) (length marks) → f ≤ 5
    → Cells gf256 w → Clean gf256 w
    → length cells ≡ 5 → length values ≡ 5 → Corrects marks w (record { count = 0; cells = cells; values = values })
as_is marks w f cells values en ef h cw kw lc lv = record {
  listed = record { few = omega arith; room = lc; values_room = lv; below = tt; distinct = tt };
  corrects = λ v a. subst (λ (x : List ℕ). Clean gf256 x × Reach marks w x × Cells gf256 x) (sym (same v a)) (kw, reach, cw);
}
  where
    same : (v : List ℕ) → Applied gf256 [] [] w v → v ≡ w
    same v a = ext_get_or 0 v w a.same_length (λ p l. a.cell p (omega (arith, a.same_length)) ∙ field256.add_zero (get_or w p 0))

    reach : Reach marks w w
    reach = record {
      same_length = refl;
      few = omega (arith, none_differ (is_read marks) w (length w), ef, ap (count_to (is_marked marks)) en);
    }

-- six marks are beyond reach
pub too_many : (marks r : List ℕ) (f : ℕ) → Searchable (length r) marks f → 5 < f → Beyond marks r
too_many marks r f S h w cw kw hw = omega (arith, hw.few, S.count, ap (count_to (is_marked marks)) S.matched)

-- ---- repair

-- a word that is entered: its rules hold
abbrev pub Entry : List ℕ → List ℕ → Type 0
Entry marks r = Hold (entering_word word_most (length r) (length marks) marks)

-- what is refused is kept
pub refuses : (O : Ops) (most n m : ℕ) (marks w : List ℕ) (r : Refusal) → First (repairing O most n m marks w) (number_of r)
    → Repairs O most n m marks w w (Err r)
refuses O most n m marks w r f = record {
  code = f;
  cells = λ z. absurd (some_number r z);
  clean = λ z. absurd (some_number r z);
  reach = λ z. absurd (some_number r z);
  mended_is = λ z. absurd (some_number r z);
  repainted_is = λ z. absurd (some_number r z);
  kept = λ _. refl;
}

-- rules exchanged for others that say the same
pub repairs_alike : (O : Ops) (most most' n n' m m' : ℕ) (marks r w : List ℕ) (a : Result Counts Refusal)
    → Alike (repairing O most n m marks r) (repairing O most' n' m' marks r)
    → Repairs O most n m marks r w a → Repairs O most' n' m' marks r w a
repairs_alike O most most' n n' m m' marks r w a e A = record {
  code = first_alike (repairing O most n m marks r) (repairing O most' n' m' marks r) (repaired_numbers a).code e A.code;
  cells = A.cells;
  clean = A.clean;
  reach = A.reach;
  mended_is = A.mended_is;
  repainted_is = A.repainted_is;
  kept = A.kept;
}

module _ (marks r : List ℕ) where
  -- the rule of reach comes after those of the entry
  abbrev last : List Rule
  last = unless 6 (Reachable gf256 marks r) ∷ []

  abbrev entry : List Rule
  entry = entering_word word_most (length r) (length marks) marks

  pub repair_mends : (w : List ℕ) (e : Errata) (c : Counts) → Entry marks r → Corrects marks r e → Applied gf256 (cells_of e) (values_of e) r w
      → CountsAll marks (cells_of e) (values_of e) c → RepairsAs gf256 word_most marks r w (Ok c)
  repair_mends w e c E K A C = record {
    code = after entry last 0 E (hold_first last (record { word = w; cells = mended.2; clean = mended.0; reach = mended.1 }, tt));
    cells = λ _. mended.2;
    clean = λ _. mended.0;
    reach = λ _. mended.1;
    mended_is = λ _. counts.0;
    repainted_is = λ _. counts.1;
    kept = λ n. absurd (n refl);
  }
    where
      mended : Clean gf256 w × Reach marks r w × Cells gf256 w
      mended = K.corrects w A

      long : length (values_of e) ≡ length (cells_of e)
      long =
          length-take-le e.count e.values (omega (arith, K.listed.few, K.listed.values_room))
          ∙ sym (length-take-le e.count e.cells (omega (arith, K.listed.few, K.listed.room)))

      counts : (c.mended ≡ differing marks r w) × (c.repainted ≡ repainted marks r w)
      counts = counts_are marks (cells_of e) (values_of e) r w long K.listed.below K.listed.distinct A c C
