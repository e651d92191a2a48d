-- The first line of a text: its digits read, and its line held against the text.
use mathlib.Core.Path.{◌≡◌, refl, sym, ap, ap₂, ◌∙◌, subst}
use mathlib.Core.List.{List, [], ◌∷◌, ◌++◌}
use mathlib.Core.Bool.{Bool, true, false, cond}
use Prim.Native.Nat.{ℕ, zero, suc, ◌+◌, ◌*◌, ◌-◌, ◌/◌, ◌%◌, ◌^◌, ◌≤◌, ◌<◌}
use native.Mathlib.Nat.{pow-suc}
use native.Mathlib.Omega.{arith}
use borrow.Author.Tests.{lt-ltb, le-ltb}
use lib.Dec.{ltb, eqb}
use lib.ListN.{length, get_or, take, drop, take-append-drop}
use lib.Seq.{get_or-drop, drop-drop, append_snoc, take_at}
use Rattle.typed.specs.Text.{decimal}
use Rattle.typed.specs.Parts.{line_of, LineIs, spelled, Starts, Headed, HeadIs}
use Rattle.typed.specs.declared.line.Line.{Line}
use Rattle.std.specs.Prelude.{None}
use Rattle.std.specs.List.{starts_with}
use Rattle.std.proofs.lemmas.Slice.Eq.{starts_is}
use Rattle.std.proofs.lemmas.Bool.Decides.{Decides-eqb}
use Rattle.std.proofs.lemmas.Bool.{false≢true}
use Rattle.typed.proofs.Lines.{decimal_by, digits_3, digits_4}

-- ---- a line held against a text

module _ (line text : List ℕ) where
  -- a text that starts with a line is that line and the rest
  pub started : Starts line text → text ≡ line ++ drop (length line) text
  started s = sym (take-append-drop (length line) text) ∙ ap (λ (l : List ℕ). l ++ drop (length line) text) s

-- a test for it
module _ (text line : List ℕ) where
  cases : (r : Bool) → r ≡ starts_with eqb text line → (r ≡ true → text ≡ line ++ drop (length line) text) × ((rest : List ℕ) → text ≡ line ++ rest → r ≡ true)
  cases r e = starts_is Decides-eqb text line r e

  pub starts_so : starts_with eqb text line ≡ true → Starts line text
  starts_so s = ap (take (length line)) ((cases (starts_with eqb text line) refl).0 s) ∙ take_at line (drop (length line) text) (length line) refl

  pub starts_not : starts_with eqb text line ≡ false → Starts line text → ⊥
  starts_not s t = false≢true (sym s ∙ (cases (starts_with eqb text line) refl).1 (drop (length line) text) (started line text t))

-- ---- digits read

stop_low : (k n : ℕ) (s : List ℕ) → get_or s 0 0 < 48 → spelled k n s ≡ n
stop_low zero n s h = refl
stop_low (suc k) n [] h = refl
stop_low (suc k) n (c ∷ s) h = ap (λ (b : Bool). cond b n (cond (ltb 57 c) n (spelled k (n * 10 + (c - 48)) s))) (lt-ltb c 48 h)

stop_high : (k n : ℕ) (s : List ℕ) → 57 < get_or s 0 0 → spelled k n s ≡ n
stop_high zero n s h = refl
stop_high (suc k) n [] h = refl
stop_high (suc k) n (c ∷ s) h =
    ap₂ (λ (a b : Bool). cond a n (cond b n (spelled k (n * 10 + (c - 48)) s))) (le-ltb c 48 (omega (arith, h))) (lt-ltb 57 c h)

go_on : (k n : ℕ) (s : List ℕ) → 48 ≤ get_or s 0 0 → get_or s 0 0 ≤ 57 → spelled (suc k) n s ≡ spelled k (n * 10 + (get_or s 0 0 - 48)) (drop 1 s)
go_on k n [] g h = absurd (omega (arith, g))
go_on k n (c ∷ s) g h = ap₂ (λ (a b : Bool). cond a n (cond b n (spelled k (n * 10 + (c - 48)) s))) (le-ltb c 48 g) (le-ltb 57 c h)

-- the same at byte i of a text, of which at most eight are looked at
module _ (text : List ℕ) (i n : ℕ) where
  first : get_or (drop i text) 0 0 ≡ get_or text i 0
  first = get_or-drop i text 0 0 ∙ ap (λ (k : ℕ). get_or text k 0) (omega arith)

  pub stops_low : get_or text i 0 < 48 → spelled (8 - i) n (drop i text) ≡ n
  stops_low h = stop_low (8 - i) n (drop i text) (omega (arith, first, h))

  pub stops_high : 57 < get_or text i 0 → spelled (8 - i) n (drop i text) ≡ n
  stops_high h = stop_high (8 - i) n (drop i text) (omega (arith, first, h))

  pub goes_on : i < 8 → 48 ≤ get_or text i 0 → get_or text i 0 ≤ 57
      → spelled (8 - i) n (drop i text) ≡ spelled (8 - (i + 1)) (n * 10 + (get_or text i 0 - 48)) (drop (i + 1) text)
  goes_on h a b =
      ap (λ (k : ℕ). spelled k n (drop i text)) left
      ∙ go_on (8 - (i + 1)) n (drop i text) (omega (arith, first, a)) (omega (arith, first, b))
      ∙ ap₂ (λ (d : ℕ) (s : List ℕ). spelled (8 - (i + 1)) (n * 10 + (d - 48)) s) first (drop-drop 1 i text)
    where
      left : 8 - i ≡ suc (8 - (i + 1))
      left = omega arith

-- a number of k digits is below ten to the k
pub small : (i n : ℕ) → i < 8 → n < 10 ^ (i - 4) → n < 1000
small i n h k = omega (arith, k, go (i - 4) (omega arith))
  where
    go : (k : ℕ) → k ≤ 3 → 10 ^ k ≤ 1000
    go zero h = omega arith
    go (suc zero) h = omega arith
    go (suc (suc zero)) h = omega arith
    go (suc (suc (suc zero))) h = omega arith
    go (suc (suc (suc (suc k)))) h = absurd (omega arith)

pub grows : (i n d : ℕ) → 4 ≤ i → d ≤ 9 → n < 10 ^ (i - 4) → n * 10 + d < 10 ^ (i + 1 - 4)
grows i n d h k l = omega (arith, k, l, ap (λ (j : ℕ). 10 ^ j) up, pow-suc 10 (i - 4))
  where
    up : i + 1 - 4 ≡ suc (i - 4)
    up = omega arith

-- ---- the digits of a number spell it

digit : (k n m : ℕ) (s : List ℕ) → spelled (suc k) n ((48 + m % 10) ∷ s) ≡ spelled k (n * 10 + m % 10) s
digit k n m s = go_on k n ((48 + m % 10) ∷ s) (omega arith) (omega arith) ∙ ap (λ (j : ℕ). spelled k (n * 10 + j) s) (omega arith)

feed : (k n : ℕ) (s : List ℕ) → spelled k n (10 ∷ s) ≡ n
feed k n s = stop_low k n (10 ∷ s) (omega arith)

four_digits : (n : ℕ) → n ≤ 1023 → (((0 * 10 + n / 1000 % 10) * 10 + n / 100 % 10) * 10 + n / 10 % 10) * 10 + n % 10 ≡ n
four_digits n h =
    let a : n / 1000 % 10 ≡ n / 1000 = omega arith in
    let b : n / 1000 * 10 + n / 100 % 10 ≡ n / 100 = omega arith in
    let c : n / 100 * 10 + n / 10 % 10 ≡ n / 10 = omega arith in
    let d : n / 10 * 10 + n % 10 ≡ n = omega arith in
    rw (a) (omega (arith, b, c, d))

decimal_spelled : (n : ℕ) (s : List ℕ) → n ≤ 1023 → spelled 4 0 (decimal n ++ 10 ∷ s) ≡ n
decimal_spelled n s h =
    decimal_by n (λ ds. spelled 4 0 (ds ++ 10 ∷ s) ≡ n)
    (λ a. digit 3 0 n (10 ∷ s) ∙ feed 3 (0 * 10 + n % 10) s ∙ omega arith)
    (λ a b. digit 3 0 (n / 10) ((48 + n % 10) ∷ 10 ∷ s) ∙ digit 2 (0 * 10 + n / 10 % 10) n (10 ∷ s)
    ∙ feed 2 ((0 * 10 + n / 10 % 10) * 10 + n % 10) s ∙ omega arith)
    (λ a b. ap (λ (ds : List ℕ). spelled 4 0 (ds ++ 10 ∷ s)) (digits_3 n)
    ∙ (digit 3 0 (n / 100) ((48 + n / 10 % 10) ∷ (48 + n % 10) ∷ 10 ∷ s)
    ∙ digit 2 (0 * 10 + n / 100 % 10) (n / 10) ((48 + n % 10) ∷ 10 ∷ s)
    ∙ digit 1 ((0 * 10 + n / 100 % 10) * 10 + n / 10 % 10) n (10 ∷ s)
    ∙ feed 1 (((0 * 10 + n / 100 % 10) * 10 + n / 10 % 10) * 10 + n % 10) s ∙ omega arith))
    (λ a. ap (λ (ds : List ℕ). spelled 4 0 (ds ++ 10 ∷ s)) (digits_4 n)
    ∙ (digit 3 0 (n / 1000) ((48 + n / 100 % 10) ∷ (48 + n / 10 % 10) ∷ (48 + n % 10) ∷ 10 ∷ s)
    ∙ digit 2 (0 * 10 + n / 1000 % 10) (n / 100) ((48 + n / 10 % 10) ∷ (48 + n % 10) ∷ 10 ∷ s)
    ∙ digit 1 ((0 * 10 + n / 1000 % 10) * 10 + n / 100 % 10) (n / 10) ((48 + n % 10) ∷ 10 ∷ s)
    ∙ digit 0 (((0 * 10 + n / 1000 % 10) * 10 + n / 100 % 10) * 10 + n / 10 % 10) n (10 ∷ s)
    ∙ four_digits n h))

-- a text that starts with the line of a par spells that par
pub line_spelled : (par : ℕ) (text : List ℕ) → par ≤ 1023 → Starts (line_of par) text → spelled 4 0 (drop 4 text) ≡ par
line_spelled par text h s =
    ap (λ (t : List ℕ). spelled 4 0 (drop 4 t)) (started (line_of par) text s)
    ∙ ap (spelled 4 0) (append_snoc (decimal par) 10 (drop (length (line_of par)) text))
    ∙ decimal_spelled par (drop (length (line_of par)) text) h

-- ---- what the first line says

-- no par that the digits do not spell has its line here
module _ (text : List ℕ) (n : ℕ) (told : n ≡ spelled 4 0 (drop 4 text)) where
  pub head_large : 1023 < n → HeadIs text None
  head_large h = λ par p s. omega (arith, told, line_spelled par text p s, h, p)

  pub head_other : (Starts (line_of n) text → ⊥) → HeadIs text None
  head_other k = λ par p s. k (subst (λ (q : ℕ). Starts (line_of q) text) (sym (line_spelled par text p s) ∙ sym told) s)

  -- the line of that number is held against the text
  pub head_told : n ≤ 1023 → (r : Line) → LineIs n r → starts_with eqb text (take r.len r.bytes) ≡ true → Headed text (record { par = n; from = r.len })
  head_told h r L s = record { small = h; size = L.size; starts = subst (λ (l : List ℕ). Starts l text) L.is (starts_so text (take r.len r.bytes) s) }

  pub head_not : (r : Line) → LineIs n r → starts_with eqb text (take r.len r.bytes) ≡ false → HeadIs text None
  head_not r L s = head_other (λ t. starts_not text (take r.len r.bytes) s (subst (λ (l : List ℕ). Starts l text) (sym L.is) t))
