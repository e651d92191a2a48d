-- Fields by the bytes that they lie in, and bytes by the fields.
use mathlib.Core.Path.{◌≡◌, refl, sym, ap, ap₂, ◌∙◌}
use mathlib.Core.List.{List}
use Prim.Native.Nat.{ℕ, zero, suc, ◌+◌, ◌*◌, ◌-◌, ◌/◌, ◌%◌, ◌^◌, ◌≤◌, ◌<◌}
use native.Mathlib.Nat.{two-pow-succ, pow-suc, div-div-eq-div-mul, mul-add}
use native.Mathlib.Omega.{arith}
use lib.Pow.{mod-pow-add}
use lib.ListN.{get_or}
use Rattle.level.specs.Record.{bit_at, field_at}
use Rattle.level.proofs.Written.{digit, spelled}
use Rattle.level.proofs.Bits.{bit_of}
use Rattle.level.proofs.Determined.{bit_small}

pub field_below : (bs : List ℕ) (p n : ℕ) → field_at bs p n < 2 ^ n
unfolding field_at
field_below bs p zero = omega arith
field_below bs p (suc n) = omega (arith, field_below bs p n, bit_small bs (p + n), two-pow-succ n)

-- what the n digits from digit p on spell
abbrev pub run : (ℕ → ℕ) → ℕ → ℕ → ℕ
run f p n = spelled n (λ i. f (p + i))

-- two runs side by side
pub run_append : (f : ℕ → ℕ) (p m n : ℕ) → run f p (m + n) ≡ run f p m * 2 ^ n + run f (p + m) n
unfolding spelled
run_append f p m zero = let z : m + 0 ≡ m = omega arith in ap (run f p) z ∙ go (run f p m)
  where
    go : (x : ℕ) → x ≡ x * 2 ^ 0 + 0
    go x = omega arith
run_append f p m (suc n) =
    let z : m + suc n ≡ suc (m + n) = omega arith in
    let y : p + (m + n) ≡ p + m + n = omega arith in
    ap (run f p) z
    ∙ ap₂ (λ (a b : ℕ). 2 * a + b) (run_append f p m n) (ap f y)
    ∙ go (run f p m) (2 ^ n) (2 ^ suc n) (run f (p + m) n) (f (p + m + n)) (two-pow-succ n)
  where
    go : (a t d b e : ℕ) → d ≡ t + t → 2 * (a * t + b) + e ≡ a * d + (2 * b + e)
    go a t d b e h = rw h (omega (arith, mul-add a t t))

-- n digits of the N of v, after the first k and before the last j
pub window : (f : ℕ → ℕ) (N v k n j : ℕ) → k + n + j ≡ N → ((i : ℕ) → i < n → f i ≡ digit N v (k + i)) → spelled n f ≡ v / 2 ^ j % 2 ^ n
unfolding spelled
window f N v k zero j e h = go (v / 2 ^ j)
  where
    go : (y : ℕ) → 0 ≡ y % 2 ^ 0
    go y = omega arith
window f N v k (suc n) j e h =
    ap₂ (λ (x y : ℕ). 2 * x + y) (window f N v k n (suc j) (omega arith) (λ i l. h i (omega arith)) ∙ ap (λ (x : ℕ). x % 2 ^ n) half) (h n (omega arith) ∙ at)
    ∙ go (v / 2 ^ j)
  where
    half : v / 2 ^ suc j ≡ v / 2 ^ j / 2
    half = ap (λ (d : ℕ). v / d) (pow-suc 2 j) ∙ sym (div-div-eq-div-mul v (2 ^ j) 2)

    at : digit N v (k + n) ≡ v / 2 ^ j % 2
    at = let z : N - suc (k + n) ≡ j = omega arith in ap (λ (m : ℕ). v / 2 ^ m % 2) z

    go : (y : ℕ) → 2 * (y / 2 % 2 ^ n) + y % 2 ≡ y % 2 ^ suc n
    go y = let z : n + 1 ≡ suc n = omega arith in omega (arith, mod-pow-add y n 1, ap (λ (d : ℕ). y % 2 ^ d) z)

field_is : (bs : List ℕ) (p n : ℕ) (f : ℕ → ℕ) → ((i : ℕ) → i < n → bit_at bs (p + i) ≡ f i) → field_at bs p n ≡ spelled n f
unfolding field_at spelled
field_is bs p zero f h = refl
field_is bs p (suc n) f h = ap₂ (λ (x y : ℕ). 2 * x + y) (field_is bs p n f (λ i l. h i (omega arith))) (h n (omega arith))

-- a field within a byte
pub within_byte : (bs : List ℕ) (q i n k : ℕ) → i + n + k ≡ 8 → field_at bs (8 * q + i) n ≡ get_or bs q 0 / 2 ^ k % 2 ^ n
within_byte bs q i n k e =
    field_is bs (8 * q + i) n (λ j. digit 8 (get_or bs q 0) (i + j)) at
    ∙ window (λ j. digit 8 (get_or bs q 0) (i + j)) 8 (get_or bs q 0) i n k e (λ j l. refl)
  where
    at : (j : ℕ) → j < n → bit_at bs (8 * q + i + j) ≡ digit 8 (get_or bs q 0) (i + j)
    at j l =
        let z : 8 * q + i + j ≡ 8 * q + (i + j) = omega arith in
        let y : 7 - (i + j) ≡ 8 - suc (i + j) = omega arith in
        ap (bit_at bs) z ∙ bit_of bs q (i + j) (omega arith) ∙ ap (λ (m : ℕ). get_or bs q 0 / 2 ^ m % 2) y

-- two fields side by side
pub field_append : (bs : List ℕ) (p m n : ℕ) → field_at bs p (m + n) ≡ field_at bs p m * 2 ^ n + field_at bs (p + m) n
field_append bs p m n = as_run p (m + n) ∙ run_append (bit_at bs) p m n ∙ sym (ap₂ (λ (x y : ℕ). x * 2 ^ n + y) (as_run p m) (as_run (p + m) n))
  where
    as_run : (q k : ℕ) → field_at bs q k ≡ run (bit_at bs) q k
    as_run q k = field_is bs q k (λ i. bit_at bs (q + i)) (λ i l. refl)

-- a field across the end of a byte
pub across : (bs : List ℕ) (q r i m n k : ℕ) → r ≡ q + 1 → i + m ≡ 8 → n + k ≡ 8
    → field_at bs (8 * q + i) (m + n) ≡ get_or bs q 0 / 2 ^ 0 % 2 ^ m * 2 ^ n + get_or bs r 0 / 2 ^ k % 2 ^ n
across bs q r i m n k e a b =
    field_append bs (8 * q + i) m n
    ∙ ap₂ (λ (x y : ℕ). x * 2 ^ n + y) (within_byte bs q i m 0 (omega arith))
    (let z : 8 * q + i + m ≡ 8 * r + 0 = omega arith in ap (λ (p : ℕ). field_at bs p n) z ∙ within_byte bs r 0 n k (omega arith))

-- the n bytes of a run from byte a on
module _ (bs w : List ℕ) (a n : ℕ) (same : (q : ℕ) → q < n → get_or w q 0 ≡ get_or bs (a + q) 0) where
  pub bit_seen : (p : ℕ) → p < 8 * n → bit_at w p ≡ bit_at bs (8 * a + p)
  unfolding bit_at
  bit_seen p h =
      ap (λ (x : ℕ). x / 2 ^ (7 - p % 8) % 2) (same (p / 8) (omega arith))
      ∙ ap₂ (λ (x y : ℕ). get_or bs x 0 / 2 ^ (7 - y) % 2) (omega arith) (omega arith)

  pub field_seen : (p k : ℕ) → p + k ≤ 8 * n → field_at w p k ≡ field_at bs (8 * a + p) k
  unfolding field_at
  field_seen p zero h = refl
  field_seen p (suc k) h =
      let z : 8 * a + (p + k) ≡ 8 * a + p + k = omega arith in
      ap₂ (λ (x y : ℕ). 2 * x + y) (field_seen p k (omega arith)) (bit_seen (p + k) (omega arith) ∙ ap (bit_at bs) z)

-- all of them from there on
module _ (bs part : List ℕ) (k : ℕ) (same : (q : ℕ) → get_or part q 0 ≡ get_or bs (k + q) 0) where
  pub bit_part : (p : ℕ) → bit_at part p ≡ bit_at bs (8 * k + p)
  bit_part p = bit_seen bs part k (p + 1) (λ q l. same q) p (omega arith)

  pub field_part : (p n : ℕ) → field_at part p n ≡ field_at bs (8 * k + p) n
  field_part p n = field_seen bs part k (p + n) (λ q l. same q) p n (omega arith)

-- the first n
module _ (xs ys : List ℕ) (n : ℕ) (same : (q : ℕ) → q < n → get_or xs q 0 ≡ get_or ys q 0) where
  from_0 : (q : ℕ) → q < n → get_or xs q 0 ≡ get_or ys (0 + q) 0
  from_0 q l = let z : q ≡ 0 + q = omega arith in same q l ∙ ap (λ (i : ℕ). get_or ys i 0) z

  pub bit_front : (p : ℕ) → p < 8 * n → bit_at xs p ≡ bit_at ys p
  bit_front p h = let z : 8 * 0 + p ≡ p = omega arith in bit_seen ys xs 0 n from_0 p h ∙ ap (bit_at ys) z

  pub field_front : (p k : ℕ) → p + k ≤ 8 * n → field_at xs p k ≡ field_at ys p k
  field_front p k h = let z : 8 * 0 + p ≡ p = omega arith in field_seen ys xs 0 n from_0 p k h ∙ ap (λ (i : ℕ). field_at ys i k) z
