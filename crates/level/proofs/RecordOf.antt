-- The bytes that `record_of` gives are the record.
use mathlib.Core.Path.{◌≡◌, refl, sym, ap, ap₂, ◌∙◌}
use Prim.Native.Nat.{ℕ, zero, suc, ◌+◌, ◌*◌, ◌-◌, ◌/◌, ◌%◌, ◌^◌, ◌≤◌, ◌<◌}
use native.Mathlib.Nat.{div-div-eq-div-mul, pow-suc, div-eq_of_lt, two-pow-succ, zero-div}
use native.Mathlib.Omega.{arith}
use mathlib.Core.List.{List}
use mathlib.Core.Logic.{⊎_elim}
use borrow.Author.Tests.{lt-ltb, le-ltb}
use lib.ListN.{length, get_or}
use Rattle.level.specs.Level.{Level, Ranged, Counted, Coded}
use Rattle.level.specs.Record.{bit_at, field_at, record_length, IsRecord}
use Rattle.level.proofs.Written.{digit, spelled, record_bit, record_byte, record_of}
use Rattle.account.proofs.Lanes.{get_d_past}
use Rattle.account.proofs.Lists.{length_list_of, get_d_list_of}
use Rattle.rules.proofs.Numbers.{lt_or_ge}
use Rattle.level.proofs.Determined.{byte_field, bit_small}
use Rattle.level.proofs.Versions.{code_most_is}

pub spelled_below : (n : ℕ) (f : ℕ → ℕ) → ((i : ℕ) → i < n → f i < 2) → spelled n f < 2 ^ n
unfolding spelled
spelled_below zero f h = omega arith
spelled_below (suc n) f h = omega (arith, spelled_below n f (λ i l. h i (omega arith)), h n (omega arith), two-pow-succ n)

spelled_cong : (n : ℕ) (f g : ℕ → ℕ) → ((i : ℕ) → i < n → f i ≡ g i) → spelled n f ≡ spelled n g
unfolding spelled
spelled_cong zero f g h = refl
spelled_cong (suc n) f g h = ap₂ (λ (x y : ℕ). 2 * x + y) (spelled_cong n f g (λ i l. h i (omega arith))) (h n (omega arith))

-- a field spells its bits
field_spelled : (bs : List ℕ) (p n : ℕ) → field_at bs p n ≡ spelled n (λ i. bit_at bs (p + i))
unfolding field_at spelled
field_spelled bs p zero = refl
field_spelled bs p (suc n) = ap (λ (x : ℕ). 2 * x + bit_at bs (p + n)) (field_spelled bs p n)

-- what two runs of digits spell alike is alike
spelled_at : (n : ℕ) (f g : ℕ → ℕ) → ((i : ℕ) → i < n → f i < 2) → ((i : ℕ) → i < n → g i < 2) → spelled n f ≡ spelled n g → (i : ℕ) → i < n → f i ≡ g i
unfolding spelled
spelled_at zero f g hf hg e i l = absurd (omega arith)
spelled_at (suc n) f g hf hg e i l =
    let a = hf n (omega arith) in
    let b = hg n (omega arith) in
    ⊎_elim (λ k. spelled_at n f g (λ j m. hf j (omega arith)) (λ j m. hg j (omega arith)) (omega arith) i k)
    (λ k. let z : i ≡ n = omega arith in rw z (omega arith)) (lt_or_ge i n)

-- a number spells its digits
digits_front : (v N n k : ℕ) → n + k ≡ N → v < 2 ^ N → spelled n (digit N v) ≡ v / 2 ^ k
unfolding spelled
digits_front v N zero k e h = sym (let z : k ≡ N = omega arith in ap (λ (m : ℕ). v / 2 ^ m) z ∙ div-eq_of_lt h)
digits_front v N (suc n) k e h =
    ap₂ (λ (x y : ℕ). 2 * x + y) (digits_front v N n (suc k) (omega arith) h ∙ half) at ∙ whole (v / 2 ^ k)
  where
    half : v / 2 ^ suc k ≡ v / 2 ^ k / 2
    half = ap (λ (d : ℕ). v / d) (pow-suc 2 k) ∙ sym (div-div-eq-div-mul v (2 ^ k) 2)

    at : v / 2 ^ (N - suc n) % 2 ≡ v / 2 ^ k % 2
    at = let z : N - suc n ≡ k = omega arith in ap (λ (m : ℕ). v / 2 ^ m % 2) z

    whole : (y : ℕ) → 2 * (y / 2) + y % 2 ≡ y
    whole y = omega arith

pub digits : (N v : ℕ) → v < 2 ^ N → spelled N (digit N v) ≡ v
digits N v h = digits_front v N N 0 (omega arith) h ∙ one v
  where
    one : (x : ℕ) → x / 2 ^ 0 ≡ x
    one x = omega arith

digit_small : (N v i : ℕ) → digit N v i < 2
digit_small N v i = go (v / 2 ^ (N - suc i))
  where
    go : (x : ℕ) → x % 2 < 2
    go x = omega arith

module _ (l : Level) where
  pub bit_1 : (p : ℕ) → p < 4 → record_bit l p ≡ digit 4 l.version p
  unfolding record_bit
  bit_1 p h = rw (lt-ltb p 4 h)

  pub bit_2 : (p : ℕ) → 4 ≤ p → p < 9 → record_bit l p ≡ digit 5 l.width (p - 4)
  unfolding record_bit
  bit_2 p a h = rw (le-ltb p 4 a, lt-ltb p 9 h)

  pub bit_3 : (p : ℕ) → 9 ≤ p → p < 14 → record_bit l p ≡ digit 5 l.height (p - 9)
  unfolding record_bit
  bit_3 p a h = let b : 4 ≤ p = omega arith in rw (le-ltb p 4 b, le-ltb p 9 a, lt-ltb p 14 h)

  pub bit_4 : (p : ℕ) → 14 ≤ p → p < 24 → record_bit l p ≡ digit 10 l.par (p - 14)
  unfolding record_bit
  bit_4 p a h = let b : 4 ≤ p = omega arith in let d : 9 ≤ p = omega arith in rw (le-ltb p 4 b, le-ltb p 9 d, le-ltb p 14 a, lt-ltb p 24 h)

  pub bit_5 : (p : ℕ) → 24 ≤ p → record_bit l p ≡ digit 3 (get_or l.tiles ((p - 24) / 3) 0) ((p - 24) % 3)
  unfolding record_bit
  bit_5 p a =
      let b : 4 ≤ p = omega arith in let d : 9 ≤ p = omega arith in let e : 14 ≤ p = omega arith in
      rw (le-ltb p 4 b, le-ltb p 9 d, le-ltb p 14 e, le-ltb p 24 a)

  pub bits_small : (p : ℕ) → record_bit l p < 2
  bits_small p =
      ⊎_elim (λ h. rw (bit_1 p h) (digit_small 4 l.version p)) (λ a.
      ⊎_elim (λ h. rw (bit_2 p a h) (digit_small 5 l.width (p - 4))) (λ b.
      ⊎_elim (λ h. rw (bit_3 p b h) (digit_small 5 l.height (p - 9))) (λ d.
      ⊎_elim (λ h. rw (bit_4 p d h) (digit_small 10 l.par (p - 14))) (λ e.
      rw (bit_5 p e) (digit_small 3 (get_or l.tiles ((p - 24) / 3) 0) ((p - 24) % 3)))
      (lt_or_ge p 24)) (lt_or_ge p 14)) (lt_or_ge p 9)) (lt_or_ge p 4)

  -- past the tiles
  pub bit_past : (p : ℕ) → 24 ≤ p → length l.tiles ≤ (p - 24) / 3 → record_bit l p ≡ 0
  bit_past p a h =
      bit_5 p a ∙ ap (λ (x : ℕ). digit 3 x ((p - 24) % 3)) (get_d_past l.tiles ((p - 24) / 3) h)
      ∙ ap (λ (x : ℕ). x % 2) (zero-div (2 ^ (3 - suc ((p - 24) % 3))))

  abbrev B : ℕ
  B = record_length l.width l.height

  pub length_record : length (record_of l) ≡ B
  unfolding record_of
  length_record = length_list_of B (record_byte l)

  pub get_d_record : (q : ℕ) → q < B → get_or (record_of l) q 0 ≡ record_byte l q
  unfolding record_of
  get_d_record q h = get_d_list_of B (record_byte l) q h

  pub byte_below : (q : ℕ) → record_byte l q < 256
  unfolding record_byte
  byte_below q = spelled_below 8 (λ i. record_bit l (8 * q + i)) (λ i h. bits_small (8 * q + i))

  -- the bits of the record
  pub bits_record : (p : ℕ) → p < 8 * B → bit_at (record_of l) p ≡ record_bit l p
  unfolding record_byte
  bits_record p h =
      let q : ℕ = p / 8 in
      let e : 8 * (p / 8) + p % 8 ≡ p = omega arith in
      let k : p / 8 < B = omega arith in
      ap (bit_at (record_of l)) (sym e)
      ∙ spelled_at 8 (λ i. bit_at (record_of l) (8 * (p / 8) + i)) (λ i. record_bit l (8 * (p / 8) + i))
      (λ i m. bit_small (record_of l) (8 * (p / 8) + i)) (λ i m. bits_small (8 * (p / 8) + i))
      (sym (field_spelled (record_of l) (8 * (p / 8)) 8) ∙ byte_field (record_of l) (p / 8) (rw (get_d_record (p / 8) k) (byte_below (p / 8)))
      ∙ get_d_record (p / 8) k)
      (p % 8) (omega arith)
      ∙ ap (record_bit l) e

  field_record : (p n v : ℕ) → p + n ≤ 8 * B → v < 2 ^ n → ((i : ℕ) → i < n → record_bit l (p + i) ≡ digit n v i) → field_at (record_of l) p n ≡ v
  field_record p n v h small f =
      field_spelled (record_of l) p n
      ∙ spelled_cong n (λ i. bit_at (record_of l) (p + i)) (digit n v) (λ i k. bits_record (p + i) (omega arith) ∙ f i k)
      ∙ digits n v small

  -- of any board that the layout has room for, whether or not it keeps the rule
  pub record_is : Ranged l → Counted l → Coded l → IsRecord l (record_of l)
  record_is ra co cd = record {
    bytes = record { cell = λ j h. let k : j < B = omega (arith, length_record) in rw (get_d_record j k) (byte_below j) };
    size = length_record;
    version = field_record 0 4 l.version (omega arith) (omega (arith, ra.known.to)) (λ i h. let z : 0 + i ≡ i = omega arith in rw z (bit_1 i h));
    width =
        field_record 4 5 l.width (omega arith) (omega (arith, ra.sized))
        (λ i h. bit_2 (4 + i) (omega arith) (omega arith) ∙ ap (digit 5 l.width) (omega arith));
    height =
        field_record 9 5 l.height (omega arith) (omega (arith, ra.sized))
        (λ i h. bit_3 (9 + i) (omega arith) (omega arith) ∙ ap (digit 5 l.height) (omega arith));
    par =
        field_record 14 10 l.par (omega arith) (omega (arith, ra.par_small))
        (λ i h. bit_4 (14 + i) (omega arith) (omega arith) ∙ ap (digit 10 l.par) (omega arith));
    tile = λ i h. field_record (24 + 3 * i) 3 (get_or l.tiles i 0) (omega (arith, co)) (omega (arith, cd i h, code_most_is l.version)) (λ j k. tiled i j k);
    filling = λ p h k. bits_record p (omega (arith, length_record)) ∙ bit_past p (omega arith) (omega arith);
  }
    where
      tiled : (i j : ℕ) → j < 3 → record_bit l (24 + 3 * i + j) ≡ digit 3 (get_or l.tiles i 0) j
      tiled i j k =
          bit_5 (24 + 3 * i + j) (omega arith)
          ∙ ap₂ (λ (x y : ℕ). digit 3 (get_or l.tiles x 0) y) one two
        where
          one : (24 + 3 * i + j - 24) / 3 ≡ i
          one = omega arith

          two : (24 + 3 * i + j - 24) % 3 ≡ j
          two = omega arith
