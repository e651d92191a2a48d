-- The rule of the table of half bytes, by a computed test of each entry at the five roots.
use mathlib.Core.Bool.{Bool}
use mathlib.Core.List.{List, []}
use Prim.Native.Nat.{ℕ, ◌*◌, ◌/◌, ◌%◌, ◌^◌, ◌<◌}
use lib.Dec.{T, eqb, ltb, eqb→eq, ltb→lt}
use lib.ListN.{get_or}
use Rattle.account.specs.Field.{power}
use Rattle.account.specs.Product.{product}
use Rattle.account.proofs.Test.{both, both_left, both_right, upto, upto_at}
use Rattle.reductions.specs.Packed.{packed_end, at5, SumsOf}
use Rattle.reductions.proofs.Rules.{five_of}

-- entry x is for v
right : ℕ → ℕ → Bool
right x v =
    both (eqb (x / 4294967296 % 256) (at5 71 v)) (both (eqb (x / 16777216 % 256) (at5 142 v)) (both (eqb (x / 65536 % 256) (at5 1 v))
    (both (eqb (x / 256 % 256) (at5 2 v)) (eqb (x % 256) (at5 4 v)))))

right_sums : (x v : ℕ) → T (right x v) → SumsOf v x
unfolding right
right_sums x v t =
    let s = five_of (eqb (x / 4294967296 % 256) (at5 71 v)) (eqb (x / 16777216 % 256) (at5 142 v)) (eqb (x / 65536 % 256) (at5 1 v))
    (eqb (x / 256 % 256) (at5 2 v)) (eqb (x % 256) (at5 4 v)) t in
    rw (
      eqb→eq (x / 4294967296 % 256) (at5 71 v) s.0,
      eqb→eq (x / 16777216 % 256) (at5 142 v) s.1,
      eqb→eq (x / 65536 % 256) (at5 1 v) s.2,
      eqb→eq (x / 256 % 256) (at5 2 v) s.3,
      eqb→eq (x % 256) (at5 4 v) s.4,
    )

-- and is five bytes
tested : ℕ → ℕ → Bool
tested x v = both (ltb x packed_end) (right x v)

-- a table of a row for each half byte
unfoldable pub sums_right : List (List ℕ) → Bool
unfolding tested right at5 power product
sums_right t = upto (λ k. upto (λ h. tested (get_or (get_or t k []) h 0) (h * 2 ^ (4 * k))) 16) 10

pub half_sums : (t : List (List ℕ)) → T (sums_right t) → (k h : ℕ) → k < 10 → h < 16
    → SumsOf (h * 2 ^ (4 * k)) (get_or (get_or t k []) h 0) × (get_or (get_or t k []) h 0 < packed_end)
unfolding sums_right tested
half_sums t ok k h lk lh = (right_sums x v (both_right (ltb x packed_end) (right x v) both_hold), ltb→lt x packed_end (both_left (ltb x packed_end) (right x v) both_hold))
  where
    x : ℕ
    x = get_or (get_or t k []) h 0

    v : ℕ
    v = h * 2 ^ (4 * k)

    both_hold : T (tested x v)
    both_hold =
        upto_at (λ j. tested (get_or (get_or t k []) j 0) (j * 2 ^ (4 * k))) 16
        (upto_at (λ i. upto (λ j. tested (get_or (get_or t i []) j 0) (j * 2 ^ (4 * i))) 16) 10 ok k lk) h lh
