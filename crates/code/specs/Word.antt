-- FORMAT 8.3, 8.4: words of bytes, written and tested.
use Rattle.std.specs.Prelude.{◌≡◌, ◌≢◌, Bool, true, false, Result, Ok, Err, List, [], ◌∷◌, ℕ, ◌+◌, length}
use Rattle.account.specs.Code.{Clean, WordOf}
use Rattle.gf256.specs.Gf256.{gf256}
use Rattle.rules.specs.declared.Refusal.{Refusal}
use Rattle.rules.specs.Refusal.{Rule, unless, First, Within, Numbers, done, refused, number_of, written_numbers}

-- FORMAT 2.1: how many bytes a word has at most
abbrev pub word_most : ℕ
word_most = 255

-- FORMAT 2.2: and how many of them are data
abbrev pub data_most : ℕ
data_most = 250

-- ---- writing: the length is returned

-- FORMAT 9.1, 9.4. 1: the data are not 1 to 250 bytes; 4: the buffer is not five longer
abbrev pub writing : List ℕ → List ℕ → List Rule
writing d old = unless 1 (Within 1 data_most (length d)) ∷ unless 4 (length old ≡ length d + 5) ∷ []

-- FORMAT 8.3, 10.2: the word of the data, over the whole buffer, and its length; with a refusal the buffer is kept
pub record WritesAs (d old new : List ℕ) (a : Result ℕ Refusal) : Type 0 where
  pub code : First (writing d old) (written_numbers a).code
  pub word : (written_numbers a).code ≡ 0 → WordOf gf256 d new
  pub value : (written_numbers a).code ≡ 0 → (written_numbers a).value ≡ length new
  pub kept : (written_numbers a).code ≢ 0 → new ≡ old

-- ---- testing: 1 for clean, 0 for not

abbrev pub tested_numbers : Result Bool Refusal → Numbers
tested_numbers (Ok true) = done 1
tested_numbers (Ok false) = done 0
tested_numbers (Err r) = refused (number_of r)

-- FORMAT 9.1: the length is not 6 to 255
abbrev pub testing : List ℕ → List Rule
testing w = unless 1 (Within 6 word_most (length w)) ∷ []

-- FORMAT 8.4: clean is answered of a word only if its five sums are zero, and always then
pub record TestsAs (w : List ℕ) (a : Result Bool Refusal) : Type 0 where
  pub code : First (testing w) (tested_numbers a).code
  pub only : (tested_numbers a).value ≡ 1 → Clean gf256 w
  pub always : (tested_numbers a).code ≡ 0 → Clean gf256 w → (tested_numbers a).value ≡ 1
