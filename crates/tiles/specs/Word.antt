-- Parts: bytes as one number.
use Rattle.std.specs.Prelude.{List, ℕ, ◌+◌, ◌*◌, get_or}

-- eight bytes as one number, the first highest
abbrev pub word_of : ℕ → ℕ → ℕ → ℕ → ℕ → ℕ → ℕ → ℕ → ℕ
word_of a b c d e f g h = ((((((a * 256 + b) * 256 + c) * 256 + d) * 256 + e) * 256 + f) * 256 + g) * 256 + h

abbrev pub word_at : List ℕ → ℕ → ℕ
word_at bs k =
    word_of (get_or bs k 0) (get_or bs (k + 1) 0) (get_or bs (k + 2) 0) (get_or bs (k + 3) 0)
    (get_or bs (k + 4) 0) (get_or bs (k + 5) 0) (get_or bs (k + 6) 0) (get_or bs (k + 7) 0)
