-- The laws of the shift-and-xor product, for any degree suc k and polynomial, from five facts that a computed test gives.
use mathlib.Core.Path.{◌≡◌, refl, sym, ap, ap₂, ◌∙◌}
use Prim.Native.Nat.{ℕ, zero, suc, ◌*◌, ◌/◌, ◌%◌, ◌^◌, ◌<◌}
use native.Mathlib.Numerals.{add-one, one-add}
use mathlib.Core.Logic.{◌≢◌}
use native.Mathlib.Nat.{mod-eq_of_lt, zero-div, lt_of_lt_of_le, mod-lt, zero-lt-suc, mul-div_cancel, mul-mod_left}
use native.Mathlib.Omega.{arith}
use lib.Arith.{lt-one}
use lib.Pow.{pow_mono, pow_pos, shr_lt}
use lib.Bits.{bit_xor, xor_comm, xor_self, xor_zero_r, xor_lt, xor_shr, xor_mod}
use Rattle.account.specs.Product.{bit_times, times_t, horner, product, binary}
use Rattle.account.specs.Field.{IsField, power}
use Rattle.account.proofs.Xor.{xor_assoc, xor_swap, xor_double}

bit_of_xor : (c d x : ℕ) → c < 2 → d < 2 → bit_times (bit_xor c d) x ≡ bit_xor (bit_times c x) (bit_times d x)
unfolding bit_times
bit_of_xor zero d x hc hd = refl
bit_of_xor (suc zero) zero x hc hd = sym (xor_zero_r x)
bit_of_xor (suc zero) (suc zero) x hc hd = sym (xor_self x)
bit_of_xor (suc zero) (suc (suc d)) x hc hd = absurd (omega arith)
bit_of_xor (suc (suc c)) d x hc hd = absurd (omega arith)

bit_sum : (c x y : ℕ) → bit_times c (bit_xor x y) ≡ bit_xor (bit_times c x) (bit_times c y)
unfolding bit_times
bit_sum zero x y = refl
bit_sum (suc c) x y = refl

bit_lt : (n c x : ℕ) → 0 < n → x < n → bit_times c x < n
unfolding bit_times
bit_lt n zero x hn hx = hn
bit_lt n (suc c) x hn hx = hx

clear : (x a : ℕ) → bit_xor x (bit_times 0 a) ≡ x
unfolding bit_times
clear x a = xor_zero_r x

bit_zero : (c : ℕ) → bit_times c 0 ≡ 0
unfolding bit_times
bit_zero zero = refl
bit_zero (suc c) = refl

module _ (k poly : ℕ) where
  abbrev pub Size : ℕ
  Size = 2 ^ suc k

  abbrev pub D : ℕ → ℕ
  D = times_t (2 ^ k) poly

  abbrev pub H : ℕ → ℕ → ℕ → ℕ
  H = horner (2 ^ k) poly

  H_suc : (n a b : ℕ) → H (suc n) a b ≡ bit_xor (D (H n a (b / 2))) (bit_times (b % 2) a)
  unfolding horner
  H_suc n a b = refl

  H_none : (a b : ℕ) → H 0 a b ≡ 0
  unfolding horner
  H_none a b = refl

  D_eq : (a : ℕ) → D a ≡ bit_xor (a * 2) (bit_times (a / 2 ^ k) poly)
  unfolding times_t
  D_eq a = refl

  D_zero : D 0 ≡ 0
  unfolding times_t bit_times
  D_zero = ap (λ (x : ℕ). bit_times x poly) (zero-div (2 ^ k))

  top_bit : (a : ℕ) → a < Size → a / 2 ^ k < 2
  top_bit a h = shr_lt 1 k (rw one-add h)

  D_xor : (a b : ℕ) → a < Size → b < Size → D (bit_xor a b) ≡ bit_xor (D a) (D b)
  D_xor a b ha hb =
      D_eq (bit_xor a b)
      ∙ ap₂ (λ (x y : ℕ). bit_xor x (bit_times y poly)) (xor_double a b) (xor_shr a b k)
      ∙ ap (λ (x : ℕ). bit_xor (bit_xor (a * 2) (b * 2)) x) (bit_of_xor (a / 2 ^ k) (b / 2 ^ k) poly (top_bit a ha) (top_bit b hb))
      ∙ xor_swap (a * 2) (b * 2) (bit_times (a / 2 ^ k) poly) (bit_times (b / 2 ^ k) poly)
      ∙ sym (ap₂ bit_xor (D_eq a) (D_eq b))

  module _ (D_lt : (a : ℕ) → a < Size → D a < Size) where
    H_lt : (n a b : ℕ) → a < Size → H n a b < Size
    unfolding horner
    H_lt zero a b ha = pow_pos (suc k)
    H_lt (suc n) a b ha = xor_lt (suc k) _ _ (D_lt _ (H_lt n a (b / 2) ha)) (bit_lt Size (b % 2) a (pow_pos (suc k)) ha)

    H_zero_l : (n b : ℕ) → H n 0 b ≡ 0
    unfolding horner
    H_zero_l zero b = refl
    H_zero_l (suc n) b = rw (H_zero_l n (b / 2), D_zero, bit_zero (b % 2))

    H_zero_r : (n a : ℕ) → H n a 0 ≡ 0
    unfolding horner bit_times
    H_zero_r zero a = refl
    H_zero_r (suc n) a = rw (H_zero_r n a, D_zero)

    H_xor_l : (n a c b : ℕ) → a < Size → c < Size → H n (bit_xor a c) b ≡ bit_xor (H n a b) (H n c b)
    unfolding horner
    H_xor_l zero a c b ha hc = refl
    H_xor_l (suc n) a c b ha hc =
        ap₂ (λ (x y : ℕ). bit_xor (D x) y) (H_xor_l n a c (b / 2) ha hc) (bit_sum (b % 2) a c)
        ∙ ap (λ (x : ℕ). bit_xor x (bit_xor (bit_times (b % 2) a) (bit_times (b % 2) c))) (D_xor _ _ (H_lt n a (b / 2) ha) (H_lt n c (b / 2) hc))
        ∙ xor_swap (D (H n a (b / 2))) (D (H n c (b / 2))) (bit_times (b % 2) a) (bit_times (b % 2) c)

    H_xor_r : (n a b c : ℕ) → a < Size → H n a (bit_xor b c) ≡ bit_xor (H n a b) (H n a c)
    unfolding horner
    H_xor_r zero a b c ha = refl
    H_xor_r (suc n) a b c ha =
        ap₂ (λ (x y : ℕ). bit_xor (D (H n a x)) (bit_times y a)) (xor_shr b c 1) (xor_mod b c 1)
        ∙ ap₂ (λ (x y : ℕ). bit_xor (D x) y) (H_xor_r n a (b / 2) (c / 2) ha) (bit_of_xor (b % 2) (c % 2) a (mod-lt b (zero-lt-suc 1)) (mod-lt c (zero-lt-suc 1)))
        ∙ ap (λ (x : ℕ). bit_xor x (bit_xor (bit_times (b % 2) a) (bit_times (c % 2) a))) (D_xor _ _ (H_lt n a (b / 2) ha) (H_lt n a (c / 2) ha))
        ∙ xor_swap (D (H n a (b / 2))) (D (H n a (c / 2))) (bit_times (b % 2) a) (bit_times (c % 2) a)

    bit_D : (c a : ℕ) → bit_times c (D a) ≡ D (bit_times c a)
    unfolding bit_times
    bit_D zero a = sym D_zero
    bit_D (suc c) a = refl

    H_D_l : (n a b : ℕ) → a < Size → H n (D a) b ≡ D (H n a b)
    unfolding horner
    H_D_l zero a b ha = sym D_zero
    H_D_l (suc n) a b ha =
        H_suc n (D a) b
        ∙ ap₂ (λ (x y : ℕ). bit_xor (D x) y) (H_D_l n a (b / 2) ha) (bit_D (b % 2) a)
        ∙ sym (D_xor _ _ (D_lt _ (H_lt n a (b / 2) ha)) (bit_lt Size (b % 2) a (pow_pos (suc k)) ha))
        ∙ ap D (sym (H_suc n a b))

    H_more : (n a b : ℕ) → b < 2 ^ n → H (suc n) a b ≡ H n a b
    H_more zero a b h = ap (H 1 a) (lt-one h) ∙ H_zero_r 1 a ∙ sym (H_none a b)
    H_more (suc n) a b h =
        H_suc (suc n) a b
        ∙ ap (λ (x : ℕ). bit_xor (D x) (bit_times (b % 2) a)) (H_more n a (b / 2) (shr_lt n 1 (rw add-one h)))
        ∙ sym (H_suc n a b)

    module _ (cancel : (a : ℕ) → a < Size → H (suc (suc k)) a poly ≡ 0)
        (one_l : (b : ℕ) → b < Size → H (suc k) 1 b ≡ b)
        (digit : (a : ℕ) → a < Size → a ≡ bit_xor (D (a / 2)) (a % 2)) where
      H_bit : (n a c x : ℕ) → H n a (bit_times c x) ≡ bit_times c (H n a x)
      unfolding bit_times
      H_bit n a zero x = H_zero_r n a
      H_bit n a (suc c) x = refl

      H_D_r : (a b : ℕ) → a < Size → b < Size → H (suc k) a (D b) ≡ D (H (suc k) a b)
      H_D_r a b ha hb =
          sym (H_more (suc k) a (D b) (D_lt b hb))
          ∙ ap (H (suc (suc k)) a) (D_eq b)
          ∙ H_xor_r (suc (suc k)) a (b * 2) (bit_times (b / 2 ^ k) poly) ha
          ∙ ap (bit_xor (H (suc (suc k)) a (b * 2))) (H_bit (suc (suc k)) a (b / 2 ^ k) poly ∙ ap (bit_times (b / 2 ^ k)) (cancel a ha) ∙ bit_zero (b / 2 ^ k))
          ∙ xor_zero_r (H (suc (suc k)) a (b * 2))
          ∙ H_suc (suc k) a (b * 2)
          ∙ ap₂ (λ (x y : ℕ). bit_xor (D (H (suc k) a x)) (bit_times y a)) (mul-div_cancel b (zero-lt-suc 1)) (mul-mod_left b 2)
          ∙ clear (D (H (suc k) a b)) a

      assoc : (n a b c : ℕ) → a < Size → b < Size → H n (H (suc k) a b) c ≡ H (suc k) a (H n b c)
      assoc zero a b c ha hb = H_none (H (suc k) a b) c ∙ sym (H_zero_r (suc k) a) ∙ ap (H (suc k) a) (sym (H_none b c))
      assoc (suc n) a b c ha hb =
          H_suc n (H (suc k) a b) c
          ∙ ap₂ (λ (x y : ℕ). bit_xor (D x) y) (assoc n a b (c / 2) ha hb) (sym (H_bit (suc k) a (c % 2) b))
          ∙ ap (λ (x : ℕ). bit_xor x (H (suc k) a (bit_times (c % 2) b))) (sym (H_D_r a (H n b (c / 2)) ha (H_lt n b (c / 2) hb)))
          ∙ sym (H_xor_r (suc k) a (D (H n b (c / 2))) (bit_times (c % 2) b) ha)
          ∙ ap (H (suc k) a) (sym (H_suc n b c))

      bit_l : (c b : ℕ) → c < 2 → b < Size → H (suc k) c b ≡ bit_times c b
      unfolding bit_times
      bit_l zero b hc hb = H_zero_l (suc k) b
      bit_l (suc zero) b hc hb = one_l b hb
      bit_l (suc (suc c)) b hc hb = absurd (omega arith)

      half : (a : ℕ) → a < Size → a / 2 < Size
      half a h = omega arith

      comm_at : (n a b : ℕ) → a < 2 ^ n → a < Size → b < Size → H (suc k) a b ≡ H n b a
      comm_at zero a b hn ha hb = ap (λ (x : ℕ). H (suc k) x b) (lt-one hn) ∙ H_zero_l (suc k) b ∙ sym (H_none b a)
      comm_at (suc n) a b hn ha hb =
          ap (λ (x : ℕ). H (suc k) x b) (digit a ha)
          ∙ H_xor_l (suc k) (D (a / 2)) (a % 2) b (D_lt (a / 2) (half a ha))
          (lt_of_lt_of_le (mod-lt a (zero-lt-suc 1)) (pow_mono {i = 1} {j = suc k} (omega arith)))
          ∙ ap₂ bit_xor (H_D_l (suc k) (a / 2) b (half a ha) ∙ ap D (comm_at n (a / 2) b (shr_lt n 1 (rw add-one hn)) (half a ha) hb))
          (bit_l (a % 2) b (mod-lt a (zero-lt-suc 1)) hb)
          ∙ sym (H_suc n b a)

      pub comm : (a b : ℕ) → a < Size → b < Size → H (suc k) a b ≡ H (suc k) b a
      comm a b ha hb = comm_at (suc k) a b ha ha hb

      low : (a : ℕ) → a % Size < Size
      low a = mod-lt a (pow_pos (suc k))

      P_lt : (a b : ℕ) → product k poly a b < Size
      unfolding product
      P_lt a b = H_lt (suc k) (a % Size) (b % Size) (low a)

      P_comm : (a b : ℕ) → product k poly a b ≡ product k poly b a
      unfolding product
      P_comm a b = comm (a % Size) (b % Size) (low a) (low b)

      P_assoc : (a b c : ℕ) → product k poly (product k poly a b) c ≡ product k poly a (product k poly b c)
      unfolding product
      P_assoc a b c =
          ap (λ (x : ℕ). H (suc k) x (c % Size)) (mod-eq_of_lt (P_lt a b))
          ∙ assoc (suc k) (a % Size) (b % Size) (c % Size) (low a) (low b)
          ∙ ap (H (suc k) (a % Size)) (sym (mod-eq_of_lt (P_lt b c)))

      P_add : (a b c : ℕ) → product k poly a (bit_xor b c) ≡ bit_xor (product k poly a b) (product k poly a c)
      unfolding product
      P_add a b c = ap (H (suc k) (a % Size)) (xor_mod b c (suc k)) ∙ H_xor_r (suc k) (a % Size) (b % Size) (c % Size) (low a)

      one_lt : 1 < Size
      one_lt = pow_mono {i = 1} {j = suc k} (omega arith)

      P_one : (a : ℕ) → a < Size → product k poly a 1 ≡ a
      unfolding product
      P_one a h = P_comm a 1 ∙ ap₂ (H (suc k)) (mod-eq_of_lt one_lt) (mod-eq_of_lt h) ∙ one_l a h

      -- the field, by its inverses and the order of α
      pub is_field : (α_inverse n : ℕ) (inv : ℕ → ℕ) → ((a : ℕ) → a < Size → a ≢ 0 → product k poly a (inv a) ≡ 1) → 2 < Size
          → product k poly 2 α_inverse ≡ 1 → ((i : ℕ) → 0 < i → i < n → power (binary k poly α_inverse n) 2 i ≢ 1)
          → power (binary k poly α_inverse n) 2 n ≡ 1 → IsField (binary k poly α_inverse n)
      is_field α_inverse n inv h two ia once around = record {
        inv = inv;
        add_assoc = xor_assoc;
        add_comm = xor_comm;
        add_self = xor_self;
        add_zero = xor_zero_r;
        mul_assoc = P_assoc;
        mul_comm = P_comm;
        mul_add = P_add;
        in_zero = pow_pos (suc k);
        in_one = one_lt;
        in_add = xor_lt (suc k);
        in_mul = P_lt;
        mul_one = P_one;
        mul_inv = h;
        α_in = two;
        α_inverse = ia;
        α_order = once;
        α_around = around;
      }
