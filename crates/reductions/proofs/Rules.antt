-- The rule of the tables, by a computed test of each: the entries of one bit are tested at the five roots, and each other entry is the sum
-- of those of its bits.
use mathlib.Core.Path.{◌≡◌, sym, subst}
use mathlib.Core.Bool.{Bool, true, false}
use mathlib.Core.List.{List, []}
use Prim.Native.Nat.{ℕ, zero, suc, ◌+◌, ◌/◌, ◌%◌, ◌^◌, ◌<◌}
use native.Mathlib.Omega.{arith}
use lib.Dec.{T, eqb, ltb, eqb→eq, ltb→lt}
use lib.ListN.{get_or}
use lib.Bits.{bit_xor, xor_self}
use Rattle.account.specs.Field.{power}
use Rattle.account.specs.Product.{bit_times, product}
use Rattle.account.specs.Code.{alpha_to}
use Rattle.account.proofs.Words.{five}
use Rattle.account.proofs.Test.{both, both_left, both_right, upto, upto_at}
use Rattle.gf256.specs.Gf256.{gf256, times}
use Rattle.reductions.specs.Packed.{packed_end, at5, Reduced}
use Rattle.reductions.proofs.Packed.{added}

-- x is a at the power 5 + k, seen from y
right : ℕ → ℕ → ℕ → ℕ → Bool
right k a x y = both (ltb x packed_end) (eqb (at5 y x) (times a (power gf256 y (5 + k))))

-- at the five roots
all : ℕ → ℕ → ℕ → Bool
all k a x = both (right k a x 71) (both (right k a x 142) (both (right k a x 1) (both (right k a x 2) (right k a x 4))))

-- those of eight numbers that are bits of v, added
digits : ℕ → (ℕ → ℕ) → ℕ
digits v f =
    bit_xor (bit_xor (bit_xor (bit_times (v % 2) (f 0)) (bit_times (v / 2 % 2) (f 1))) (bit_xor (bit_times (v / 4 % 2) (f 2)) (bit_times (v / 8 % 2) (f 3))))
    (bit_xor (bit_xor (bit_times (v / 16 % 2) (f 4)) (bit_times (v / 32 % 2) (f 5))) (bit_xor (bit_times (v / 64 % 2) (f 6)) (bit_times (v / 128 % 2) (f 7))))

-- the entry of bit j
bit : List ℕ → ℕ → ℕ
bit t j = get_or t (2 ^ j) 0

-- the entry of v is the sum of those of its bits
sum : List ℕ → ℕ → Bool
sum t v = eqb (get_or t v 0) (digits v (bit t))

-- the test of the table for the power 5 + k
unfoldable pub reduces : ℕ → List ℕ → Bool
unfolding all right at5 power product sum digits bit bit_times
reduces k t = both (upto (λ j. all k (2 ^ j) (bit t j)) 8) (upto (sum t) 256)

pub five_of : (a b c d e : Bool) → T (both a (both b (both c (both d e)))) → T a × T b × T c × T d × T e
five_of true true true true e t = (tt, tt, tt, tt, t)
five_of false b c d e t = absurd t
five_of true false c d e t = absurd t
five_of true true false d e t = absurd t
five_of true true true false e t = absurd t

reduced_by : (k a x : ℕ) → T (all k a x) → Reduced k a x
unfolding all right alpha_to power product
reduced_by k a x t =
    record {
      small = ltb→lt x packed_end (small 71 s.0);
      roots =
          five (λ j. at5 (alpha_to gf256 j) x ≡ times a (power gf256 (alpha_to gf256 j) (5 + k)))
          (at 71 s.0) (at 142 s.1) (at 1 s.2) (at 2 s.3) (at 4 s.4);
    }
  where
    s : T (right k a x 71) × T (right k a x 142) × T (right k a x 1) × T (right k a x 2) × T (right k a x 4)
    s = five_of (right k a x 71) (right k a x 142) (right k a x 1) (right k a x 2) (right k a x 4) t

    small : (y : ℕ) → T (right k a x y) → T (ltb x packed_end)
    small y u = both_left (ltb x packed_end) (eqb (at5 y x) (times a (power gf256 y (5 + k)))) u

    at : (y : ℕ) → T (right k a x y) → at5 y x ≡ times a (power gf256 y (5 + k))
    at y u = eqb→eq (at5 y x) (times a (power gf256 y (5 + k))) (both_right (ltb x packed_end) (eqb (at5 y x) (times a (power gf256 y (5 + k)))) u)

-- ---- from bits to bytes

bit_reduced : (k p a c : ℕ) → Reduced k p a → Reduced k (bit_times c p) (bit_times c a)
unfolding bit_times
bit_reduced k p a zero R =
    subst (λ (b : ℕ). Reduced k b 0) (xor_self p) (subst (Reduced k (bit_xor p p)) (xor_self a) (added k p p a a R R))
bit_reduced k p a (suc c) R = R

digits_right : (k v : ℕ) (f g : ℕ → ℕ) → ((j : ℕ) → j < 8 → Reduced k (f j) (g j)) → Reduced k (digits v f) (digits v g)
unfolding digits
digits_right k v f g h =
    added k _ _ _ _
    (added k _ _ _ _ (added k _ _ _ _ (at 0 (v % 2) (omega arith)) (at 1 (v / 2 % 2) (omega arith)))
    (added k _ _ _ _ (at 2 (v / 4 % 2) (omega arith)) (at 3 (v / 8 % 2) (omega arith))))
    (added k _ _ _ _ (added k _ _ _ _ (at 4 (v / 16 % 2) (omega arith)) (at 5 (v / 32 % 2) (omega arith)))
    (added k _ _ _ _ (at 6 (v / 64 % 2) (omega arith)) (at 7 (v / 128 % 2) (omega arith))))
  where
    at : (j c : ℕ) → j < 8 → Reduced k (bit_times c (f j)) (bit_times c (g j))
    at j c l = bit_reduced k (f j) (g j) c (h j l)

-- a byte is the sum of its bits
own_digits : (v : ℕ) → v < 256 → digits v (λ j. 2 ^ j) ≡ v
unfolding digits bit_times
own_digits v h = eqb→eq (digits v (λ j. 2 ^ j)) v (upto_at (λ x. eqb (digits x (λ j. 2 ^ j)) x) 256 tt v h)

pub reduction_right : (k : ℕ) (t : List ℕ) → T (reduces k t) → (v : ℕ) → v < 256 → Reduced k v (get_or t v 0)
unfolding reduces sum bit
reduction_right k t ok v h =
    subst (λ (b : ℕ). Reduced k b (get_or t v 0)) (own_digits v h)
    (subst (Reduced k (digits v (λ j. 2 ^ j))) (sym (eqb→eq (get_or t v 0) (digits v (bit t)) (upto_at (sum t) 256 (both_right bits sums ok) v h)))
    (digits_right k v (λ j. 2 ^ j) (bit t) (λ j l. reduced_by k (2 ^ j) (bit t j) (upto_at (λ i. all k (2 ^ i) (bit t i)) 8 (both_left bits sums ok) j l))))
  where
    bits : Bool
    bits = upto (λ j. all k (2 ^ j) (bit t j)) 8

    sums : Bool
    sums = upto (sum t) 256

-- the tables of the powers 5 to 9
unfoldable pub reductions_right : List (List ℕ) → Bool
unfolding reduces
reductions_right t = upto (λ k. reduces k (get_or t k [])) 5

pub reduction_at : (t : List (List ℕ)) → T (reductions_right t) → (k v : ℕ) → k < 5 → v < 256 → Reduced k v (get_or (get_or t k []) v 0)
unfolding reductions_right
reduction_at t ok k v lk lv = reduction_right k (get_or t k []) (upto_at (λ i. reduces i (get_or t i [])) 5 ok k lk) v lv
