-- Parts: tiles written, eight at a time.
use Rattle.std.specs.Prelude.{◌≡◌, List, ℕ, zero, suc, ◌+◌, ◌*◌, ◌/◌, ◌%◌, ◌≤◌, ◌<◌, get_or}

-- n pairs of tiles put in front of a number, a byte each; the last pair is in the lowest six bits of v, the first comes to be lowest
unfoldable pub spread_of : ℕ → ℕ → ℕ → ℕ
spread_of zero v s = s
spread_of (suc n) v s = spread_of n (v / 64) (s * 65536 + (v % 64 / 8 + 256 * (v % 64 % 8)))

-- byte j of a number, the lowest first
unfoldable pub byte_of : ℕ → ℕ → ℕ
byte_of zero w = w % 256
byte_of (suc j) w = byte_of j (w / 256)

-- the bytes of w written from element k on, at most eight and none from m on
pub record Puts (old new : List ℕ) (k m w : ℕ) : Type 0 where
  pub put : (j : ℕ) → j < 8 → k + j < m → get_or new (k + j) 0 ≡ byte_of j w
  pub before : (i : ℕ) → i < k → get_or new i 0 ≡ get_or old i 0
  pub past : (i : ℕ) → m ≤ i → get_or new i 0 ≡ get_or old i 0
