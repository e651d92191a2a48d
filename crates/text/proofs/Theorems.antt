-- What is promised of texts (FORMAT 8.25, 8.26, 13).
use Rattle.std.specs.Prelude.{Result}
use Rattle.fields.specs.declared.head.Head.{Head}
use Rattle.rules.specs.declared.Refusal.{Refusal}
use Rattle.rules.specs.Refusal.{written_numbers}
use mathlib.Core.Path.{◌≡◌, refl, sym, ap, ap₂, ◌∙◌, subst}
use mathlib.Core.List.{List, [], ◌∷◌}
use mathlib.Core.Logic.{inl, inr, ◌≢◌}
use Prim.Native.Nat.{ℕ, ◌≤◌}
use native.Mathlib.Omega.{arith}
use lib.ListN.{length, take, drop}
use lib.Seq.{take_at}
use Rattle.rules.proofs.Laws.{first_fixes, none_first, decided, either}
use Rattle.level.specs.Level.{Level, Sized, Fair, IsLevel}
use Rattle.level.specs.Reading.{returned}
use Rattle.level.specs.Writing.{lent, writing_upto}
use Rattle.lending.proofs.Lent.{written_level, level_written}
use Rattle.record.specs.Reading.{record_numbers}
use Rattle.record.proofs.Theorems.{written_zero, returned_fixes}
use Rattle.typed.specs.Letters.{letter_of}
use Rattle.typed.specs.Text.{decimal, text_of, rows_of, SaysLevel}
use Rattle.typed.proofs.Unique.{one_level}
use Rattle.text.specs.Writing.{TextWritesAs}
use Rattle.text.specs.Reading.{OfText, reading_text, TextReadsAs}
use Rattle.text.proofs.Written.{text_typed, typed_level}

-- ---- the text of a level

-- The text of a level of version 1 says it.
pub text_says : (l : Level) → IsLevel l → l.version ≡ 1 → SaysLevel (text_of l) l
text_says l il first = record {
  typed = record { par = l.par; rows = rows_of l.width l.height l.tiles; has = text_typed l il first };
  says = sym (typed_level l il first);
}

-- Two such levels with one text are one level.
pub text_injective : (l m : Level) → IsLevel l → IsLevel m → l.version ≡ 1 → m.version ≡ 1 → text_of l ≡ text_of m → l ≡ m
text_injective l m il im fl fm e = one_level (text_of m) l m (subst (λ (t : List ℕ). SaysLevel t l) e (text_says l il fl)) (text_says m im fm)

-- FORMAT 13.11: the text of the level of 12.13, `par 5` and `$+`, each with its line feed.
pub text_cell : text_of (lent 1 2 1 5 (2 ∷ 6 ∷ [])) ≡ 112 ∷ 97 ∷ 114 ∷ 32 ∷ 53 ∷ 10 ∷ 36 ∷ 43 ∷ 10 ∷ []
unfolding decimal letter_of
text_cell = refl

-- ---- writing

-- The promise of the writer fixes every number and byte.
pub text_writes_fixed : (l : Level) (old u v : List ℕ) (a b : Result ℕ Refusal) → TextWritesAs l old u a → TextWritesAs l old v b
    → (u ≡ v) × (written_numbers a ≡ written_numbers b)
text_writes_fixed l old u v a b A B = (
  either (u ≡ v) (written_numbers a).code (λ z. A.text z ∙ sym (B.text (sym codes ∙ z))) (λ n. A.kept n ∙ sym (B.kept (λ z. n (codes ∙ z)))),
  decided (written_numbers a) (written_numbers b) (written_zero a) (written_zero b) codes (λ z. A.value z ∙ sym (B.value (sym codes ∙ z))),
)
  where
    codes : (written_numbers a).code ≡ (written_numbers b).code
    codes = first_fixes (writing_upto 1 1001 l (length old)) (written_numbers a).code (written_numbers b).code A.code B.code

-- Each level of version 1 is written.
pub level_text_written : (l : Level) (old new : List ℕ) (a : Result ℕ Refusal) → IsLevel l → l.version ≡ 1 → 1001 ≤ length old → TextWritesAs l old new a → (written_numbers a).code ≡ 0
level_text_written l old new a il first room A =
    first_fixes (writing_upto 1 1001 l (length old)) (written_numbers a).code 0 A.code (level_written 1 l 1001 (length old) room il (omega (arith, first)))

-- And nothing else is.
pub written_text_level : (l : Level) (old new : List ℕ) (a : Result ℕ Refusal) → TextWritesAs l old new a → (written_numbers a).code ≡ 0
    → IsLevel l × (l.version ≡ 1)
written_text_level l old new a A z =
    let w = written_level 1 l 1001 (length old) (written_numbers a).code z A.code in (w.1, omega (arith, w.1.ranged.known.from, w.2))

-- FORMAT 9.7: a level of another version to be typed, or any number told for one, is refused with 7, whatever else there is to refuse of it.
pub other_version_untyped : (l : Level) (old new : List ℕ) (a : Result ℕ Refusal) → l.version ≢ 1 → 1001 ≤ length old → TextWritesAs l old new a
    → (written_numbers a).code ≡ 7
other_version_untyped l old new a other room A =
    first_fixes (writing_upto 1 1001 l (length old)) (written_numbers a).code 7 A.code
    (inr (room, inl ((λ t. other (omega (arith, t.ranged.known.from, t.not_newer))), refl)))

-- A level has one written text: what stands in front of the buffer is its text, whatever the buffer was.
pub one_text : (l : Level) (old new : List ℕ) (a : Result ℕ Refusal) → TextWritesAs l old new a → (written_numbers a).code ≡ 0
    → take (written_numbers a).value new ≡ text_of l
one_text l old new a A z =
    ap₂ (λ (n : ℕ) (t : List ℕ). take n t) (A.value z) (A.text z) ∙ take_at (text_of l) (drop (length (text_of l)) old) (length (text_of l)) refl

-- ---- reading

-- A text that says a level is read, as that level.
pub said_is_read : (text : List ℕ) (l : Level) (old new : List ℕ) (a : Result Head Refusal) → IsLevel l → SaysLevel text l → 961 ≤ length old → TextReadsAs text old new a
    → ((record_numbers a).code ≡ 0) × (returned (record_numbers a) new ≡ l)
said_is_read text l old new a il s room A = (zero_code, one_level text (returned (record_numbers a) new) l (A.says zero_code) s)
  where
    of : (P : Level → Type 0) → P l → OfText text P
    of P p m t = subst P (one_level text l m s t) p

    zero_code : (record_numbers a).code ≡ 0
    zero_code =
        none_first (reading_text text (length old)) (record_numbers a).code
        (room, (s.typed, (of (λ m. _) il.ranged.sized, (of (λ m. _) il.playable, tt)))) A.code

-- FORMAT 9.54: a board of a size that a level can have, said by a text, is refused with 10 where it breaks the rule.
pub unfair_is_refused : (text : List ℕ) (l : Level) (old new : List ℕ) (a : Result Head Refusal) → Sized l.width l.height → (Fair l → ⊥) → SaysLevel text l
    → 961 ≤ length old → TextReadsAs text old new a → (record_numbers a).code ≡ 10
unfair_is_refused text l old new a sized n s room A =
    first_fixes (reading_text text (length old)) (record_numbers a).code 10 A.code
    (inr (room, inr (s.typed, inr ((λ m t. subst (λ (x : Level). Sized x.width x.height) (one_level text l m s t) sized), inl ((λ f. n (f l s)), refl)))))

-- And nothing else is.
pub read_is_said : (text old new : List ℕ) (a : Result Head Refusal) → TextReadsAs text old new a → (record_numbers a).code ≡ 0
    → (l : Level) × IsLevel l × SaysLevel text l
read_is_said text old new a A z = (returned (record_numbers a) new, A.is_level z, A.says z)

-- What a text says is of version 1.
pub said_first : (text : List ℕ) (l : Level) → SaysLevel text l → l.version ≡ 1
said_first text l s = ap (λ (x : Level). x.version) s.says

-- The promise of the reader fixes every number and byte.
pub text_reads_fixed : (text old u v : List ℕ) (a b : Result Head Refusal) → TextReadsAs text old u a → TextReadsAs text old v b
    → (u ≡ v) × (record_numbers a ≡ record_numbers b)
text_reads_fixed text old u v a b A B =
    returned_fixes old u v a b (first_fixes (reading_text text (length old)) (record_numbers a).code (record_numbers b).code A.code B.code)
    (λ y z. one_level text (returned (record_numbers a) u) (returned (record_numbers b) v) (A.says y) (B.says z)) A.past B.past A.kept B.kept

-- ---- there and back

-- What the writer wrote, read, is the level that was lent.
pub text_read_back : (l : Level) (out out' old new : List ℕ) (a : Result ℕ Refusal) (b : Result Head Refusal) → TextWritesAs l out out' a → (written_numbers a).code ≡ 0
    → 961 ≤ length old → TextReadsAs (take (written_numbers a).value out') old new b → ((record_numbers b).code ≡ 0) × (returned (record_numbers b) new ≡ l)
text_read_back l out out' old new a b A z room B =
    let il = written_text_level l out out' a A z in
    said_is_read (text_of l) l old new b il.0 (text_says l il.0 il.1) room (subst (λ (t : List ℕ). TextReadsAs t old new b) (one_text l out out' a A z) B)

-- ---- texts rewritten

-- The level that was read from a text is written again.
pub read_is_rewritten : (text old new out out' : List ℕ) (a : Result Head Refusal) (b : Result ℕ Refusal) → TextReadsAs text old new a → (record_numbers a).code ≡ 0
    → 1001 ≤ length out → TextWritesAs (returned (record_numbers a) new) out out' b → (written_numbers b).code ≡ 0
read_is_rewritten text old new out out' a b A z room B =
    level_text_written (returned (record_numbers a) new) out out' b (A.is_level z) (said_first text (returned (record_numbers a) new) (A.says z)) room B

-- Two texts that are read as the same level are rewritten alike, to the last byte.
pub rewritten_alike : (text text' old new old' new' : List ℕ) (a a' : Result Head Refusal) → TextReadsAs text old new a → TextReadsAs text' old' new' a'
    → (record_numbers a).code ≡ 0 → (record_numbers a').code ≡ 0 → returned (record_numbers a) new ≡ returned (record_numbers a') new'
    → (out u v : List ℕ) (b b' : Result ℕ Refusal) → TextWritesAs (returned (record_numbers a) new) out u b → TextWritesAs (returned (record_numbers a') new') out v b'
    → (u ≡ v) × (written_numbers b ≡ written_numbers b')
rewritten_alike text text' old new old' new' a a' A A' z z' e out u v b b' B B' =
    text_writes_fixed (returned (record_numbers a') new') out u v b b' (subst (λ (l : Level). TextWritesAs l out u b) e B) B'

-- Reading the rewritten text gives the level that was read at first.
pub rewritten_read : (text old new : List ℕ) (a : Result Head Refusal) → TextReadsAs text old new a → (record_numbers a).code ≡ 0
    → (out out' : List ℕ) (b : Result ℕ Refusal) → 1001 ≤ length out → TextWritesAs (returned (record_numbers a) new) out out' b
    → (old' new' : List ℕ) (c : Result Head Refusal) → 961 ≤ length old' → TextReadsAs (take (written_numbers b).value out') old' new' c
    → ((record_numbers c).code ≡ 0) × (returned (record_numbers c) new' ≡ returned (record_numbers a) new)
rewritten_read text old new a A z out out' b room B old' new' c room' C =
    text_read_back (returned (record_numbers a) new) out out' old' new' b c B (read_is_rewritten text old new out out' a b A z room B) room' C
