-- FORMAT 6.5: tiles packed, three bits each.
use Rattle.std.specs.Prelude.{◌≡◌, List, ℕ, zero, suc, ◌+◌, ◌*◌, ◌/◌, ◌%◌, ◌≤◌, ◌<◌, length, get_or}

-- each is a tile code
abbrev pub Codes : List ℕ → Type 0
Codes tiles = (q : ℕ) → get_or tiles q 0 ≤ 7

-- eight tiles make three bytes: the first, the second and the third
abbrev pub three_of : (ℕ → ℕ) → ℕ → ℕ
three_of t zero = t 0 * 32 + t 1 * 4 + t 2 / 2
three_of t (suc zero) = t 2 % 2 * 128 + t 3 * 16 + t 4 * 2 + t 5 / 4
three_of t (suc (suc i)) = t 5 % 4 * 64 + t 6 * 8 + t 7

-- byte b of the tiles
abbrev pub tile_byte : List ℕ → ℕ → ℕ
tile_byte tiles b = three_of (λ j. get_or tiles (b / 3 * 8 + j) 0) (b % 3)

-- the bytes of the tiles, as many as they take, from byte 3 on
pub record PackedIn (tiles old new : List ℕ) : Type 0 where
  pub put : (b : ℕ) → b < (3 * length tiles + 7) / 8 → get_or new (3 + b) 0 ≡ tile_byte tiles b
  pub before : (i : ℕ) → i < 3 → get_or new i 0 ≡ get_or old i 0
  pub past : (i : ℕ) → 3 + (3 * length tiles + 7) / 8 ≤ i → get_or new i 0 ≡ get_or old i 0

-- ---- parts

-- n tiles as one number, the first highest
unfoldable pub joined : ℕ → (ℕ → ℕ) → ℕ
joined zero t = 0
joined (suc n) t = joined n t * 8 + t n

-- the eight of a group
abbrev pub joined_at : List ℕ → ℕ → ℕ
joined_at tiles g = joined 8 (λ j. get_or tiles (8 * g + j) 0)

-- three bytes in the other order
abbrev pub turned_of : ℕ → ℕ
turned_of v = v / 65536 + v / 256 % 256 * 256 + v % 256 * 65536
