-- The nearest whole number: there is exactly one, and how it is had from quotient and remainder.
use mathlib.Core.Path.{◌≡◌, refl, sym, ◌∙◌, subst}
use mathlib.Core.Logic.{◌≢◌, ◌⊎◌, inl, inr, ⊎_elim}
use Prim.Native.Nat.{ℕ, suc, ◌+◌, ◌*◌, ◌-◌, ◌/◌, ◌%◌, ◌≤◌, ◌<◌}
use native.Mathlib.Nat.{mul-suc, mul-add, mul-le-mul_left, div-add-mod, mod-lt}
use native.Mathlib.Omega.{arith}
use borrow.Author.Tests.{lt-ltb, le-ltb}
use lib.Dec.{ltb}
use Rattle.rules.proofs.Numbers.{lt_or_ge}
use Rattle.account.specs.Reach.{one_if}
use Rattle.level.specs.Strip.{distance, Nearest}

-- the quotient, or one more: where more than a half is left, and where a half is left and the quotient is odd
abbrev pub rounded : ℕ → ℕ → ℕ
rounded a b = a / b + one_if (ltb b (2 * (a % b) + a / b % 2))

module _ (a b : ℕ) where
  -- ---- how far a number is

  not_under : (w : ℕ) → a ≤ distance a b w + b * w
  unfolding distance
  not_under w = omega arith

  not_over : (w : ℕ) → b * w ≤ distance a b w + a
  unfolding distance
  not_over w = omega arith

  within : (w d : ℕ) → a ≤ d + b * w → b * w ≤ d + a → distance a b w ≤ d
  unfolding distance
  within w d h k = omega (arith, h, k)

  module _ (some : 0 < b) where
    -- each whole number further on is b more
    ahead : (v w : ℕ) → v < w → b * v + b ≤ b * w
    ahead v w l = omega (arith, mul-suc b v, mul-le-mul_left {m = suc v} {n = w} b l)

    -- ---- it is the quotient, or one more: all others are b or more away

    split : b * (a / b) + a % b ≡ a
    split = div-add-mod a b

    left : a % b < b
    left = mod-lt a some

    next : b * (a / b + 1) ≡ b * (a / b) + b
    next = omega (arith, mul-add b (a / b) 1)

    quotient_off : distance a b (a / b) ≡ a % b
    quotient_off = omega (arith, split, not_under (a / b), within (a / b) (a % b) (omega (arith, split)) (omega (arith, split)))

    next_off : distance a b (a / b + 1) + a % b ≡ b
    next_off =
        omega (arith, split, next, left, not_over (a / b + 1), within (a / b + 1) (b - a % b) (omega (arith, split, next, left)) (omega (arith, split, next, left)))

    three : (P : ℕ → Type 0) → P (a / b) → P (a / b + 1) → ((v : ℕ) → b ≤ distance a b v → P v) → (v : ℕ) → P v
    three P down up away v =
        ⊎_elim (λ l. away v (omega (arith, split, not_under v, ahead v (a / b) l)))
        (λ g. ⊎_elim (λ l. away v (omega (arith, split, next, left, not_over v, ahead (a / b + 1) v l)))
        (λ h. ⊎_elim (λ l. subst P (omega (arith, h, l)) up) (λ k. subst P (omega (arith, g, k)) down) (lt_or_ge (a / b) v))
        (lt_or_ge (a / b + 1) v))
        (lt_or_ge v (a / b))

    -- a number that is as near leaves just a half
    half_down : (v : ℕ) → v ≢ a / b → distance a b v ≡ distance a b (a / b) → 2 * (a % b) ≡ b
    half_down =
        three (λ v. v ≢ a / b → distance a b v ≡ distance a b (a / b) → 2 * (a % b) ≡ b) (λ n e. absurd (n refl))
        (λ n e. omega (arith, e, quotient_off, next_off))
        (λ v f n e. omega (arith, f, e, left, quotient_off))

    half_up : 0 < a % b → (v : ℕ) → v ≢ a / b + 1 → distance a b v ≡ distance a b (a / b + 1) → 2 * (a % b) ≡ b
    half_up h =
        three (λ v. v ≢ a / b + 1 → distance a b v ≡ distance a b (a / b + 1) → 2 * (a % b) ≡ b) (λ n e. omega (arith, e, quotient_off, next_off))
        (λ n e. absurd (n refl))
        (λ v f n e. omega (arith, h, f, e, next_off))

    pub nearest_down : 2 * (a % b) + a / b % 2 ≤ b → Nearest a b (a / b)
    nearest_down h = record {
      closest =
          three (λ v. distance a b (a / b) ≤ distance a b v) (omega arith) (omega (arith, h, quotient_off, next_off))
          (λ v f. omega (arith, f, left, quotient_off));
      even = λ v n e. omega (arith, h, half_down v n e);
    }

    pub nearest_up : b < 2 * (a % b) + a / b % 2 → Nearest a b (a / b + 1)
    nearest_up h = record {
      closest =
          three (λ v. distance a b (a / b + 1) ≤ distance a b v) (omega (arith, h, quotient_off, next_off)) (omega arith)
          (λ v f. omega (arith, f, next_off));
      even = λ v n e. omega (arith, h, half_up (omega (arith, some, h)) v n e);
    }

    -- which of the two
    which : (P : ℕ → Type 0) → (2 * (a % b) + a / b % 2 ≤ b → P (a / b)) → (b < 2 * (a % b) + a / b % 2 → P (a / b + 1)) → P (rounded a b)
    which P down up = ⊎_elim (λ l. rw (lt-ltb b odd l) (up l)) (λ g. rw (le-ltb b odd g) (subst P (omega arith) (down g))) (lt_or_ge b odd)
      where
        odd : ℕ
        odd = 2 * (a % b) + a / b % 2

    pub nearest_rounded : Nearest a b (rounded a b)
    nearest_rounded = which (Nearest a b) nearest_down nearest_up

    pub nearest_half : (v : ℕ) → v ≢ rounded a b → distance a b v ≡ distance a b (rounded a b) → 2 * (a % b) ≡ b
    nearest_half v =
        which (λ w. v ≢ w → distance a b v ≡ distance a b w → 2 * (a % b) ≡ b) (λ _. half_down v) (λ h. half_up (omega (arith, some, h)) v)

    -- ---- one is nearest at the most: were both of them, both would be even

    two : (w : ℕ) → Nearest a b w → (w ≡ a / b) ⊎ (w ≡ a / b + 1)
    two =
        three (λ w. Nearest a b w → (w ≡ a / b) ⊎ (w ≡ a / b + 1)) (λ _. inl refl) (λ _. inr refl)
        (λ w f p. absurd (omega (arith, f, left, quotient_off, p.closest (a / b))))

    not_both : (v w : ℕ) → v ≡ a / b → w ≡ a / b + 1 → Nearest a b v → Nearest a b w → ⊥
    not_both v w e f p q = omega (arith, e, f, p.even w (λ g. omega (arith, e, f, g)) (sym alike), q.even v (λ g. omega (arith, e, f, g)) alike)
      where
        alike : distance a b v ≡ distance a b w
        alike = omega (arith, p.closest w, q.closest v)

    pub nearest_one : (v w : ℕ) → Nearest a b v → Nearest a b w → v ≡ w
    nearest_one v w p q =
        ⊎_elim (λ e. ⊎_elim (λ f. e ∙ sym f) (λ f. absurd (not_both v w e f p q)) (two w q))
        (λ e. ⊎_elim (λ f. absurd (not_both w v f e q p)) (λ f. e ∙ sym f) (two w q))
        (two v p)

    -- ---- it is no more than a over b and a half

    pub nearest_most : (c w : ℕ) → 2 * a < 2 * (b * c) + b → Nearest a b w → w ≤ c
    nearest_most c w h p = ⊎_elim (λ l. absurd (omega (arith, h, p.closest c, not_over w, ahead c w l, near))) (λ g. g) (lt_or_ge c w)
      where
        near : distance a b c ≤ b * c + b - 1 - a
        near = within c (b * c + b - 1 - a) (omega (arith, h, some)) (omega (arith, h, some))
