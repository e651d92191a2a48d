-- A level has one record.
use mathlib.Core.Path.{◌≡◌, refl, sym, ap, ap₂, ◌∙◌}
use Prim.Native.Nat.{ℕ, zero, suc, ◌+◌, ◌*◌, ◌-◌, ◌/◌, ◌%◌, ◌^◌, ◌≤◌, ◌<◌}
use native.Mathlib.Nat.{div-div-eq-div-mul, pow-suc, div-eq_of_lt}
use native.Mathlib.Omega.{arith}
use mathlib.Core.List.{List}
use mathlib.Core.Logic.{⊎_elim}
use lib.ListN.{length, get_or}
use lib.Seq.{ext_get_or}
use Rattle.rules.specs.Bytes.{Bytes}
use Rattle.level.specs.Level.{Level, IsLevel}
use Rattle.level.specs.Record.{bit_at, field_at, IsRecord}
use Rattle.rules.proofs.Numbers.{lt_or_ge}
use Rattle.level.proofs.Bits.{bit_of}

pub bit_small : (bs : List ℕ) (p : ℕ) → bit_at bs p < 2
unfolding bit_at
bit_small bs p = go (get_or bs (p / 8) 0 / 2 ^ (7 - p % 8))
  where
    go : (x : ℕ) → x % 2 < 2
    go x = omega arith

-- a byte's first n bits
front_bits : (bs : List ℕ) (q n k : ℕ) → n + k ≡ 8 → get_or bs q 0 < 256 → field_at bs (8 * q) n ≡ get_or bs q 0 / 2 ^ k
unfolding field_at
front_bits bs q zero k e h = sym (ap (λ (m : ℕ). get_or bs q 0 / 2 ^ m) k8 ∙ div-eq_of_lt {n = get_or bs q 0} {m = 256} h)
  where
    k8 : k ≡ 8
    k8 = omega arith
front_bits bs q (suc n) k e h =
    ap₂ (λ (x y : ℕ). 2 * x + y) (front_bits bs q n (suc k) (omega arith) h ∙ half) (bit_of bs q n (omega arith) ∙ at)
    ∙ whole (get_or bs q 0 / 2 ^ k)
  where
    half : get_or bs q 0 / 2 ^ suc k ≡ get_or bs q 0 / 2 ^ k / 2
    half = ap (λ (d : ℕ). get_or bs q 0 / d) (pow-suc 2 k) ∙ sym (div-div-eq-div-mul (get_or bs q 0) (2 ^ k) 2)

    at : get_or bs q 0 / 2 ^ (7 - n) % 2 ≡ get_or bs q 0 / 2 ^ k % 2
    at = let z : 7 - n ≡ k = omega arith in ap (λ (m : ℕ). get_or bs q 0 / 2 ^ m % 2) z

    whole : (y : ℕ) → 2 * (y / 2) + y % 2 ≡ y
    whole y = omega arith

-- a byte is the field of its eight bits
pub byte_field : (bs : List ℕ) (q : ℕ) → get_or bs q 0 < 256 → field_at bs (8 * q) 8 ≡ get_or bs q 0
byte_field bs q h = front_bits bs q 8 0 (omega arith) h ∙ one (get_or bs q 0)
  where
    one : (x : ℕ) → x / 2 ^ 0 ≡ x
    one x = omega arith

module _ (xs ys : List ℕ) where
  -- equal fields have equal bits
  pub field_bits : (p n : ℕ) → field_at xs p n ≡ field_at ys p n → (i : ℕ) → i < n → bit_at xs (p + i) ≡ bit_at ys (p + i)
  unfolding field_at
  field_bits p zero e i h = absurd (omega arith)
  field_bits p (suc n) e i h =
      let a = bit_small xs (p + n) in
      let b = bit_small ys (p + n) in
      ⊎_elim (λ l. field_bits p n (omega arith) i l)
      (λ l. let z : i ≡ n = omega arith in rw z (omega arith)) (lt_or_ge i n)

  -- and equal bits equal fields
  pub bits_field : (p n : ℕ) → ((i : ℕ) → i < n → bit_at xs (p + i) ≡ bit_at ys (p + i)) → field_at xs p n ≡ field_at ys p n
  unfolding field_at
  bits_field p zero f = refl
  bits_field p (suc n) f = ap₂ (λ (x y : ℕ). 2 * x + y) (bits_field p n (λ i h. f i (omega arith))) (f n (omega arith))

  -- bytes with the same bits are the same
  pub ext_bits : Bytes xs → Bytes ys → length xs ≡ length ys → ((p : ℕ) → p < 8 * length xs → bit_at xs p ≡ bit_at ys p) → xs ≡ ys
  ext_bits bx by e f =
      ext_get_or 0 xs ys e (λ q h.
      sym (byte_field xs q (bx.cell q h)) ∙ bits_field (8 * q) 8 (λ i l. f (8 * q + i) (omega arith)) ∙ byte_field ys q (by.cell q (omega arith)))

-- a level's record is one
pub one_record : (l : Level) (xs ys : List ℕ) → IsLevel l → IsRecord l xs → IsRecord l ys → xs ≡ ys
one_record l xs ys il a b = ext_bits xs ys a.bytes b.bytes (a.size ∙ sym b.size) bits
  where
    m : ℕ
    m = length l.tiles

    in_field : (o n : ℕ) → field_at xs o n ≡ field_at ys o n → (p : ℕ) → o ≤ p → p < o + n → bit_at xs p ≡ bit_at ys p
    in_field o n e p h k =
        let z : o + (p - o) ≡ p = omega arith in
        rw (← z) (field_bits xs ys o n e (p - o) (omega arith))

    tiled : (p : ℕ) → 24 ≤ p → p < 24 + 3 * m → bit_at xs p ≡ bit_at ys p
    tiled p h k =
        let i : ℕ = (p - 24) / 3 in
        in_field (24 + 3 * i) 3 (a.tile i (omega arith) ∙ sym (b.tile i (omega arith))) p (omega arith) (omega arith)

    after : (p : ℕ) → 24 + 3 * m ≤ p → p < 8 * length xs → bit_at xs p ≡ bit_at ys p
    after p h k = a.filling p h k ∙ sym (b.filling p h (omega (arith, a.size, b.size)))

    bits : (p : ℕ) → p < 8 * length xs → bit_at xs p ≡ bit_at ys p
    bits p h =
        ⊎_elim (λ k. in_field 0 4 (a.version ∙ sym b.version) p (omega arith) (omega arith)) (λ k0.
        ⊎_elim (λ k. in_field 4 5 (a.width ∙ sym b.width) p (omega arith) (omega arith)) (λ k1.
        ⊎_elim (λ k. in_field 9 5 (a.height ∙ sym b.height) p (omega arith) (omega arith)) (λ k2.
        ⊎_elim (λ k. in_field 14 10 (a.par ∙ sym b.par) p (omega arith) (omega arith)) (λ k3.
        ⊎_elim (λ k. tiled p k3 k) (λ k4. after p k4 h) (lt_or_ge p (24 + 3 * m)))
        (lt_or_ge p 24)) (lt_or_ge p 14)) (lt_or_ge p 9)) (lt_or_ge p 4)
