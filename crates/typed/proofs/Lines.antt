-- The first line: a number in as many digits as it takes, and a line's bytes.
use mathlib.Core.Path.{◌≡◌, refl, ◌∙◌}
use mathlib.Core.Logic.{⊎_elim}
use mathlib.Core.List.{List, [], ◌∷◌, ◌++◌}
use Prim.Native.Nat.{ℕ, ◌+◌, ◌/◌, ◌%◌, ◌≤◌, ◌<◌}
use native.Mathlib.Omega.{arith}
use borrow.Author.Tests.{lt-ltb, le-ltb}
use lib.ListN.{length, take}
use Rattle.rules.proofs.Numbers.{lt_or_ge}
use Rattle.typed.specs.Text.{digits, decimal}
use Rattle.typed.specs.Parts.{LineIs}
use Rattle.typed.specs.declared.line.Line.{Line}

-- ---- a number

-- of one digit, two, three and four
module _ (n : ℕ) where
  decimal_1 : n < 10 → decimal n ≡ digits 1 n
  unfolding decimal
  decimal_1 h = rw (lt-ltb n 10 h) refl

  decimal_2 : 10 ≤ n → n < 100 → decimal n ≡ digits 2 n
  unfolding decimal
  decimal_2 g h = rw (le-ltb n 10 g, lt-ltb n 100 h) refl

  decimal_3 : 100 ≤ n → n < 1000 → decimal n ≡ digits 3 n
  unfolding decimal
  decimal_3 g h = rw (le-ltb n 10 (omega arith), le-ltb n 100 g, lt-ltb n 1000 h) refl

  decimal_4 : 1000 ≤ n → decimal n ≡ digits 4 n
  unfolding decimal
  decimal_4 g = rw (le-ltb n 10 (omega arith), le-ltb n 100 (omega arith), le-ltb n 1000 g) refl

  -- a property of it by the four cases
  pub decimal_by : (P : List ℕ → Type 0) → (n < 10 → P (digits 1 n)) → (10 ≤ n → n < 100 → P (digits 2 n)) → (100 ≤ n → n < 1000 → P (digits 3 n))
      → (1000 ≤ n → P (digits 4 n)) → P (decimal n)
  decimal_by P one two three four =
      ⊎_elim (λ a. rw (decimal_1 a) (one a)) (λ a. ⊎_elim (λ b. rw (decimal_2 a b) (two a b)) (λ b.
      ⊎_elim (λ d. rw (decimal_3 b d) (three b d)) (λ d. rw (decimal_4 d) (four d)) (lt_or_ge n 1000)) (lt_or_ge n 100)) (lt_or_ge n 10)

  -- it has at most four
  pub decimal_short : length (decimal n) ≤ 4
  decimal_short = decimal_by (λ ds. length ds ≤ 4) (λ _. omega arith) (λ _ _. omega arith) (λ _ _. omega arith) (λ _. omega arith)

  -- its digits, each from the number itself
  pub digits_3 : digits 3 n ≡ (48 + n / 100 % 10) ∷ (48 + n / 10 % 10) ∷ (48 + n % 10) ∷ []
  digits_3 = let e : n / 10 / 10 ≡ n / 100 = omega arith in rw e refl

  pub digits_4 : digits 4 n ≡ (48 + n / 1000 % 10) ∷ (48 + n / 100 % 10) ∷ (48 + n / 10 % 10) ∷ (48 + n % 10) ∷ []
  digits_4 =
      let e : n / 10 / 10 ≡ n / 100 = omega arith in
      let f : n / 100 / 10 ≡ n / 1000 = omega arith in
      rw (e, f) refl

-- ---- the first line

-- the line whose number has these digits
abbrev spells : List ℕ → List ℕ
spells ds = 112 ∷ 97 ∷ 114 ∷ 32 ∷ ds ++ 10 ∷ []

module _ (n : ℕ) where
  line_is : (ds : List ℕ) (r : Line) → decimal n ≡ ds → r.len ≡ length (spells ds) → r.len ≤ 9 → take r.len r.bytes ≡ spells ds → LineIs n r
  line_is ds r e s h t = record { size = rw e s; short = h; is = rw e t }

  pub line_1 : (a : ℕ) → n < 10 → a ≡ 48 + n % 10 → LineIs n record { bytes = 112 ∷ 97 ∷ 114 ∷ 32 ∷ a ∷ 10 ∷ 0 ∷ 0 ∷ 0 ∷ []; len = 6 }
  line_1 a h ea = line_is (digits 1 n) _ (decimal_1 n h) refl (omega arith) (rw ea refl)

  pub line_2 : (a b : ℕ) → 10 ≤ n → n < 100 → a ≡ 48 + n / 10 % 10 → b ≡ 48 + n % 10
      → LineIs n record { bytes = 112 ∷ 97 ∷ 114 ∷ 32 ∷ a ∷ b ∷ 10 ∷ 0 ∷ 0 ∷ []; len = 7 }
  line_2 a b g h ea eb = line_is (digits 2 n) _ (decimal_2 n g h) refl (omega arith) (rw (ea, eb) refl)

  pub line_3 : (a b c : ℕ) → 100 ≤ n → n < 1000 → a ≡ 48 + n / 100 % 10 → b ≡ 48 + n / 10 % 10 → c ≡ 48 + n % 10
      → LineIs n record { bytes = 112 ∷ 97 ∷ 114 ∷ 32 ∷ a ∷ b ∷ c ∷ 10 ∷ 0 ∷ []; len = 8 }
  line_3 a b c g h ea eb ec = line_is _ _ (decimal_3 n g h ∙ digits_3 n) refl (omega arith) (rw (ea, eb, ec) refl)

  pub line_4 : (a b c d : ℕ) → 1000 ≤ n → a ≡ 48 + n / 1000 % 10 → b ≡ 48 + n / 100 % 10 → c ≡ 48 + n / 10 % 10 → d ≡ 48 + n % 10
      → LineIs n record { bytes = 112 ∷ 97 ∷ 114 ∷ 32 ∷ a ∷ b ∷ c ∷ d ∷ 10 ∷ []; len = 9 }
  line_4 a b c d g ea eb ec ed = line_is _ _ (decimal_4 n g ∙ digits_4 n) refl (omega arith) (rw (ea, eb, ec, ed) refl)
