-- Eight tiles in three bytes.
use mathlib.Core.Path.{◌≡◌, sym, ap, ◌∙◌}
use mathlib.Core.List.{List, [], ◌∷◌}
use Prim.Native.Nat.{ℕ, zero, suc, ◌+◌, ◌*◌, ◌/◌, ◌%◌, ◌^◌, ◌<◌}
use native.Mathlib.Omega.{arith}
use lib.ListN.{get_or}
use Rattle.level.specs.Record.{field_at}
use Rattle.level.proofs.Windows.{within_byte, across}

abbrev pub eight : ℕ → ℕ → ℕ → List ℕ
eight x y z = (x / 32) ∷ (x / 4 % 8) ∷ (x % 4 * 2 + y / 128) ∷ (y / 16 % 8) ∷ (y / 2 % 8) ∷ (y % 2 * 4 + z / 64) ∷ (z / 8 % 8) ∷ (z % 8) ∷ []

-- three bits within a byte
inside : (bs : List ℕ) (q i k v p : ℕ) → v ≡ get_or bs q 0 → i + 3 + k ≡ 8 → p ≡ 8 * q + i → v / 2 ^ k % 8 ≡ field_at bs p 3
inside bs q i k v p e h at = ap (λ (x : ℕ). x / 2 ^ k % 8) e ∙ sym (ap (λ (x : ℕ). field_at bs x 3) at ∙ within_byte bs q i 3 k h)

-- the tiles in three bytes
pub eight_at : (bs : List ℕ) (g x y z : ℕ) → x ≡ get_or bs (3 * g) 0 → y ≡ get_or bs (3 * g + 1) 0 → z ≡ get_or bs (3 * g + 2) 0 → x < 256 → y < 256 → z < 256
    → (j : ℕ) → j < 8 → get_or (eight x y z) j 0 ≡ field_at bs (3 * (8 * g + j)) 3
eight_at bs g x y z ex ey ez hx hy hz = go
  where
    go : (j : ℕ) → j < 8 → get_or (eight x y z) j 0 ≡ field_at bs (3 * (8 * g + j)) 3
    go zero h = omega (arith, inside bs (3 * g) 0 5 x (3 * (8 * g + 0)) ex (omega arith) (omega arith))
    go (suc zero) h = inside bs (3 * g) 3 2 x (3 * (8 * g + 1)) ex (omega arith) (omega arith)
    go (suc (suc zero)) h =
        let e : 3 * (8 * g + 2) ≡ 8 * (3 * g) + 6 = omega arith in
        omega (arith, ap (λ (p : ℕ). field_at bs p 3) e, across bs (3 * g) (3 * g + 1) 6 2 1 7 (omega arith) (omega arith) (omega arith))
    go (suc (suc (suc zero))) h = inside bs (3 * g + 1) 1 4 y (3 * (8 * g + 3)) ey (omega arith) (omega arith)
    go (suc (suc (suc (suc zero)))) h = inside bs (3 * g + 1) 4 1 y (3 * (8 * g + 4)) ey (omega arith) (omega arith)
    go (suc (suc (suc (suc (suc zero))))) h =
        let e : 3 * (8 * g + 5) ≡ 8 * (3 * g + 1) + 7 = omega arith in
        omega (arith, ap (λ (p : ℕ). field_at bs p 3) e, across bs (3 * g + 1) (3 * g + 2) 7 1 2 6 (omega arith) (omega arith) (omega arith))
    go (suc (suc (suc (suc (suc (suc zero)))))) h = inside bs (3 * g + 2) 2 3 z (3 * (8 * g + 6)) ez (omega arith) (omega arith)
    go (suc (suc (suc (suc (suc (suc (suc zero))))))) h = omega (arith, inside bs (3 * g + 2) 5 0 z (3 * (8 * g + 7)) ez (omega arith) (omega arith))
    go (suc (suc (suc (suc (suc (suc (suc (suc j)))))))) h = absurd (omega arith)

-- digits of three bytes as one number, six bits a step
module _ (x y z : ℕ) where
  six_1 : z < 256 → (x * 65536 + y * 256 + z) / 64 ≡ x * 1024 + y * 4 + z / 64
  six_1 h = omega arith

  last_1 : (x * 65536 + y * 256 + z) % 64 % 8 ≡ z % 8
  last_1 = omega arith

  first_1 : (x * 65536 + y * 256 + z) % 64 / 8 ≡ z / 8 % 8
  first_1 = omega arith

  six_2 : (k : ℕ) → k < 4 → (x * 1024 + y * 4 + k) / 64 ≡ x * 16 + y / 16
  six_2 k h = omega arith

  last_2 : (k : ℕ) → k < 4 → (x * 1024 + y * 4 + k) % 64 % 8 ≡ y % 2 * 4 + k
  last_2 k h = omega arith

  first_2 : (k : ℕ) → k < 4 → (x * 1024 + y * 4 + k) % 64 / 8 ≡ y / 2 % 8
  first_2 k h = omega arith

  six_3 : y < 256 → (x * 16 + y / 16) / 64 ≡ x / 4
  six_3 h = omega arith

  last_3 : (x * 16 + y / 16) % 64 % 8 ≡ y / 16 % 8
  last_3 = omega arith

  first_3 : y < 256 → (x * 16 + y / 16) % 64 / 8 ≡ x % 4 * 2 + y / 128
  first_3 h = omega arith

  first_4 : x < 256 → x / 4 % 64 / 8 ≡ x / 32
  first_4 h = omega arith

  last_4 : x / 4 % 64 % 8 ≡ x / 4 % 8
  last_4 = omega arith

-- what eight tiles are taken to by F, when they come as four pairs of digits of the number of the three bytes, the last pair first
pub four_pairs : (F : ℕ → ℕ → ℕ → ℕ → ℕ → ℕ → ℕ → ℕ → ℕ) (x y z : ℕ) → x < 256 → y < 256 → z < 256
    → F ((x * 65536 + y * 256 + z) % 64 / 8) ((x * 65536 + y * 256 + z) % 64 % 8)
    ((x * 65536 + y * 256 + z) / 64 % 64 / 8) ((x * 65536 + y * 256 + z) / 64 % 64 % 8)
    ((x * 65536 + y * 256 + z) / 64 / 64 % 64 / 8) ((x * 65536 + y * 256 + z) / 64 / 64 % 64 % 8)
    ((x * 65536 + y * 256 + z) / 64 / 64 / 64 % 64 / 8) ((x * 65536 + y * 256 + z) / 64 / 64 / 64 % 64 % 8)
    ≡ F (z / 8 % 8) (z % 8) (y / 2 % 8) (y % 2 * 4 + z / 64) (x % 4 * 2 + y / 128) (y / 16 % 8) (x / 32) (x / 4 % 8)
four_pairs F x y z hx hy hz =
    let k : z / 64 < 4 = omega arith in
    rw (
      first_1 x y z,
      last_1 x y z,
      six_1 x y z hz,
      first_2 x y z (z / 64) k,
      last_2 x y z (z / 64) k,
      six_2 x y z (z / 64) k,
      first_3 x y z hy,
      last_3 x y z,
      six_3 x y z hy,
      first_4 x y z hx,
      last_4 x y z,
    )
