-- Bits that are not set, byte by byte.
use mathlib.Core.Path.{◌≡◌, refl, sym, ap, ◌∙◌, subst}
use mathlib.Core.Bool.{Bool}
use mathlib.Core.Logic.{⊎_elim}
use mathlib.Core.List.{List}
use Prim.Native.Nat.{ℕ, zero, suc, ◌+◌, ◌*◌, ◌-◌, ◌/◌, ◌%◌, ◌^◌, ◌≤◌, ◌<◌}
use native.Mathlib.Omega.{arith}
use lib.ListN.{length, get_or, take, drop, length-drop}
use lib.Seq.{get_or-drop, take-length}
use Rattle.rules.specs.Says.{Says}
use Rattle.rules.proofs.Numbers.{lt_or_ge}
use Rattle.rules.proofs.Tests.{says_as}
use Rattle.level.specs.Record.{bit_at, field_at}
use Rattle.level.proofs.Windows.{within_byte}

-- a field is zero if its bits are, and no bit is set in a field that is zero
field_zero : (bs : List ℕ) (p n : ℕ) → ((q : ℕ) → p ≤ q → q < p + n → bit_at bs q ≡ 0) → field_at bs p n ≡ 0
unfolding field_at
field_zero bs p zero h = refl
field_zero bs p (suc n) h = omega (arith, field_zero bs p n (λ q a b. h q a (omega arith)), h (p + n) (omega arith) (omega arith))

bits_zero : (bs : List ℕ) (p n : ℕ) → field_at bs p n ≡ 0 → (q : ℕ) → p ≤ q → q < p + n → bit_at bs q ≡ 0
unfolding field_at
bits_zero bs p zero e q a b = absurd (omega arith)
bits_zero bs p (suc n) e q a b =
    ⊎_elim (λ l. bits_zero bs p n (omega (arith, e)) q a l) (λ l.
    let z : p + n ≡ q = omega arith in subst (λ (k : ℕ). bit_at bs k ≡ 0) z (omega (arith, e))) (lt_or_ge q (p + n))

-- the end of a byte, from bit k on
end_is : (bs : List ℕ) (q k : ℕ) → k < 8 → field_at bs (8 * q + k) (8 - k) ≡ get_or bs q 0 % 2 ^ (8 - k)
end_is bs q k h = within_byte bs q k (8 - k) 0 (omega arith) ∙ ap (λ (x : ℕ). x % 2 ^ (8 - k)) (omega arith)

-- 2 ^ (8 - k), as it is shifted
pub shifted : (k : ℕ) → k < 8 → 256 / 2 ^ k ≡ 2 ^ (8 - k)
shifted zero h = refl
shifted (suc zero) h = refl
shifted (suc (suc zero)) h = refl
shifted (suc (suc (suc zero))) h = refl
shifted (suc (suc (suc (suc zero)))) h = refl
shifted (suc (suc (suc (suc (suc zero))))) h = refl
shifted (suc (suc (suc (suc (suc (suc zero)))))) h = refl
shifted (suc (suc (suc (suc (suc (suc (suc zero))))))) h = refl
shifted (suc (suc (suc (suc (suc (suc (suc (suc k)))))))) h = absurd (omega arith)

module _ (bs : List ℕ) (from : ℕ) where
  abbrev Blank : Type 0
  Blank = (p : ℕ) → from ≤ p → p < 8 * length bs → bit_at bs p ≡ 0

  place : 8 * (from / 8) + from % 8 ≡ from
  place = omega arith

  -- in the byte of the place
  pub first_set : from / 8 < length bs → (get_or bs (from / 8) 0 % 2 ^ (8 - from % 8) ≡ 0 → ⊥) → Blank → ⊥
  first_set h n f =
      n (sym (end_is bs (from / 8) (from % 8) (omega arith))
      ∙ field_zero bs (8 * (from / 8) + from % 8) (8 - from % 8) (λ q a b. f q (omega (arith, place)) (omega arith)))

  -- in those after it
  module _ (by : (q : ℕ) → get_or bs q 0 < 256) (h : from / 8 < length bs) where
    rest_blank : get_or bs (from / 8) 0 % 2 ^ (8 - from % 8) ≡ 0 → ((q : ℕ) → from / 8 + 1 ≤ q → q < length bs → get_or bs q 0 ≡ 0) → Blank
    rest_blank e z p a b =
        ⊎_elim (λ l.
        bits_zero bs (8 * (from / 8) + from % 8) (8 - from % 8)
        (end_is bs (from / 8) (from % 8) (omega arith) ∙ e) p (omega (arith, place)) (omega arith)) (λ l.
        bits_zero bs (8 * (p / 8) + 0) 8 (within_byte bs (p / 8) 0 8 0 (omega arith) ∙ omega (arith, z (p / 8) (omega arith) (omega arith))) p
        (omega arith) (omega arith))
        (lt_or_ge p (8 * (from / 8) + 8))

    rest_zero : Blank → (q : ℕ) → from / 8 + 1 ≤ q → q < length bs → get_or bs q 0 ≡ 0
    rest_zero f q a b =
        omega (arith, within_byte bs q 0 8 0 (omega arith), field_zero bs (8 * q + 0) 8 (λ p k l. f p (omega arith) (omega arith)), by q)

    abbrev Rest : List ℕ → Type 0
    Rest t = (q : ℕ) → q < length t → get_or t q 0 ≡ 0

    pub rest_is : (b : Bool) → get_or bs (from / 8) 0 % 2 ^ (8 - from % 8) ≡ 0
        → Says b (Rest (take (length bs - (from / 8 + 1)) (drop (from / 8 + 1) bs))) → Says b Blank
    rest_is b e s =
        says_as (Rest (drop (from / 8 + 1) bs)) Blank b (λ z. rest_blank e (behind z)) (λ f. ahead (rest_zero f))
        (subst (λ (t : List ℕ). Says b (Rest t)) all s)
      where
        all : take (length bs - (from / 8 + 1)) (drop (from / 8 + 1) bs) ≡ drop (from / 8 + 1) bs
        all = ap (λ (n : ℕ). take n (drop (from / 8 + 1) bs)) (sym (length-drop (from / 8 + 1) bs)) ∙ take-length (drop (from / 8 + 1) bs)

        behind : Rest (drop (from / 8 + 1) bs) → (q : ℕ) → from / 8 + 1 ≤ q → q < length bs → get_or bs q 0 ≡ 0
        behind z q a l =
            let e : from / 8 + 1 + (q - (from / 8 + 1)) ≡ q = omega arith in
            ap (λ (i : ℕ). get_or bs i 0) (sym e) ∙ sym (get_or-drop (from / 8 + 1) bs (q - (from / 8 + 1)) 0)
            ∙ z (q - (from / 8 + 1)) (omega (arith, length-drop (from / 8 + 1) bs))

        ahead : ((q : ℕ) → from / 8 + 1 ≤ q → q < length bs → get_or bs q 0 ≡ 0) → Rest (drop (from / 8 + 1) bs)
        ahead f q l = get_or-drop (from / 8 + 1) bs q 0 ∙ f (from / 8 + 1 + q) (omega arith) (omega (arith, length-drop (from / 8 + 1) bs))
