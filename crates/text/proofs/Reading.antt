-- The answers of the reader.
use mathlib.Core.Path.{◌≡◌, refl, sym, ap, ◌∙◌, subst}
use mathlib.Core.Logic.{inr}
use mathlib.Core.List.{List, ◌++◌}
use Prim.Native.Nat.{ℕ, ◌-◌, ◌≤◌}
use native.Mathlib.Omega.{arith}
use lib.ListN.{length, take, drop, length-drop}
use lib.Seq.{take_all}
use Rattle.std.specs.Prelude.{Option, Some, Result, Err}
use Rattle.rules.specs.declared.Refusal.{Refusal}
use Rattle.rules.specs.declared.Refusal.TheVariants as refusal
use Rattle.rules.specs.Refusal.{asked}
use Rattle.rules.proofs.Laws.{stops, some_number, first_alike, asked_alike}
use Rattle.level.specs.Level.{Level, IsLevel}
use Rattle.record.specs.Reading.{record_numbers}
use Rattle.fields.specs.declared.head.Head as fields
use Rattle.typed.specs.Text.{joined, Typed, IsText, level_typed, SaysLevel}
use Rattle.typed.specs.Parts.{line_of, Headed, HeadIs, SeenAs}
use Rattle.text.specs.Reading.{OfText, typing, reading_text, TextReadsAs}
use Rattle.text.specs.Parts.{RowsReadAs}
use Rattle.typed.specs.declared.head.Head.{Head}
use Rattle.typed.specs.declared.rows.Seen.{Seen}
use Rattle.typed.proofs.Heads.{started}
use Rattle.typed.proofs.Unique.{typed_starts, typed_rows, typed_by, one_par, one_level}

-- the head of a text, where it has one
pub headed : (text : List ℕ) (o : Option Head) (h : Head) → o ≡ Some h → HeadIs text o → Headed text h
headed text o h e told = subst (HeadIs text) e told

module _ (text old : List ℕ) (room : 961 ≤ length old) where
  not_read : (IsText text → ⊥) → TextReadsAs text old old (Err refusal.Text)
  not_read n = record {
    code = stops 1 (reading_text text (length old)) 11 (room, (n, refl));
    is_level = λ z. absurd (some_number refusal.Text z);
    says = λ z. absurd (some_number refusal.Text z);
    past = λ z. absurd (some_number refusal.Text z);
    kept = λ _. refl;
  }

  module _ (h : Head) (H : Headed text h) where
    abbrev body : List ℕ
    body = take (length text - h.from) (drop h.from text)

    behind : body ≡ drop (length (line_of h.par)) text
    behind = take_all (length text - h.from) (drop h.from text) (omega (arith, length-drop h.from text)) ∙ ap (λ (k : ℕ). drop k text) H.size

    -- rows of the text are rows of what is behind
    rows_behind : (t : IsText text) → body ≡ joined t.rows
    rows_behind t =
        behind
        ∙ ap (λ (k : ℕ). drop (length (line_of k)) text)
        (one_par text h.par t.par H.small t.has.par_small H.starts (typed_starts text t.par t.rows t.has))
        ∙ typed_rows text t.par t.rows t.has

    pub not_rows : (s : Seen) → SeenAs body s → ((s.foreign ≡ 0) × (s.column ≡ 0) → ⊥) → TextReadsAs text old old (Err refusal.Text)
    not_rows s S n = not_read (λ t. n (S.none (record { rows = t.rows; letters = t.has.letters; is = rows_behind t })))

    module _ (new : List ℕ) (a : Result fields.Head Refusal) (R : RowsReadAs h.par body old new a) where
      has : Typed text h.par R.has.rows
      has =
          typed_by text h.par R.has.rows H.small R.has.letters
          (started (line_of h.par) text H.starts ∙ ap (λ (l : List ℕ). line_of h.par ++ l) (sym behind ∙ R.has.is))

      abbrev level : Level
      level = level_typed h.par R.has.rows

      says_level : SaysLevel text level
      says_level = record { typed = record { par = h.par; rows = R.has.rows; has = has }; says = refl }

      pub text_read : TextReadsAs text old new a
      text_read = record {
        code =
            inr (
              room,
              inr (
                says_level.typed,
                first_alike (asked (λ ask. ask level) typing) (asked (OfText text) typing) (record_numbers a).code
                    (asked_alike (λ ask. ask level) (OfText text) typing (λ P p l s. subst P (one_level text level l says_level s) p) (λ P p. p level says_level)) R.code,
              ),
            );
        is_level = λ z. subst IsLevel (sym (R.says z)) (R.is_level z);
        says = λ z. subst (SaysLevel text) (sym (R.says z)) says_level;
        past = R.past;
        kept = R.kept;
      }
