-- Tiles are the digits of a number, three bits each; what they add is the same by pairs and by threes.
use mathlib.Core.Path.{◌≡◌, refl, ap, ◌∙◌}
use Prim.Native.Nat.{ℕ, zero, suc, ◌+◌, ◌*◌, ◌/◌, ◌%◌, ◌<◌}
use native.Mathlib.Omega.{arith}
use Rattle.tiles.specs.Sum.{triples_of, pairs_of}

module _ (w : ℕ → ℕ) where
  -- what the lowest n digits add
  unfoldable digits : ℕ → ℕ → ℕ
  digits zero v = 0
  digits (suc n) v = w (v % 8) + digits n (v / 8)

  unfoldable twice : ℕ → ℕ
  twice zero = 0
  twice (suc n) = suc (suc (twice n))

  pairs_digits : (n v : ℕ) → pairs_of w n v ≡ digits (twice n) v
  unfolding pairs_of digits twice
  pairs_digits zero v = refl
  pairs_digits (suc n) v =
      let first : v % 64 / 8 ≡ v / 8 % 8 = omega arith in
      let last : v % 64 % 8 ≡ v % 8 = omega arith in
      let left : v / 64 ≡ v / 8 / 8 = omega arith in
      omega (arith, pairs_digits n (v / 64), ap (digits (twice n)) left, ap w first, ap w last)

  unfoldable thrice : ℕ → ℕ
  thrice zero = 0
  thrice (suc n) = suc (suc (suc (thrice n)))

  triples_digits : (n v : ℕ) → triples_of w n v ≡ digits (thrice n) v
  unfolding triples_of digits thrice
  triples_digits zero v = refl
  triples_digits (suc n) v =
      let first : v % 512 / 64 ≡ v / 8 / 8 % 8 = omega arith in
      let middle : v % 512 / 8 % 8 ≡ v / 8 % 8 = omega arith in
      let last : v % 512 % 8 ≡ v % 8 = omega arith in
      let left : v / 512 ≡ v / 8 / 8 / 8 = omega arith in
      omega (arith, triples_digits n (v / 512), ap (digits (thrice n)) left, ap w first, ap w middle, ap w last)

  unfoldable plus : ℕ → ℕ → ℕ
  plus zero m = m
  plus (suc n) m = suc (plus n m)

  -- x with n zero digits after it; the lowest n digits are what is put there, and above them is x
  unfoldable raised : ℕ → ℕ → ℕ
  raised zero x = x
  raised (suc n) x = 8 * raised n x

  digits_split : (n m x c : ℕ) → c < raised n 1 → digits (plus n m) (raised n x + c) ≡ digits n c + digits m x
  unfolding digits raised plus
  digits_split zero m x c h = let e : x + c ≡ x = omega arith in omega (arith, ap (digits m) e)
  digits_split (suc n) m x c h =
      let last : (8 * raised n x + c) % 8 ≡ c % 8 = omega arith in
      let left : (8 * raised n x + c) / 8 ≡ raised n x + c / 8 = omega arith in
      omega (arith, digits_split n m x (c / 8) (omega arith), ap (digits (plus n m)) left, ap w last)

  -- nine bytes are three groups of eight tiles
  eight_more : (m x c : ℕ) → c < 16777216 → digits (plus 8 m) (x * 16777216 + c) ≡ digits 8 c + digits m x
  unfolding raised
  eight_more m x c h =
      let e : x * 16777216 + c ≡ raised 8 x + c = omega arith in
      ap (digits (plus 8 m)) e ∙ digits_split 8 m x c (omega arith)

  pub three_groups : (a b c : ℕ) → b < 16777216 → c < 16777216
      → triples_of w 8 ((a * 16777216 + b) * 16777216 + c) ≡ pairs_of w 4 a + pairs_of w 4 b + pairs_of w 4 c
  unfolding twice thrice plus
  three_groups a b c hb hc =
      omega (
        arith,
        triples_digits 8 ((a * 16777216 + b) * 16777216 + c),
        eight_more 16 (a * 16777216 + b) c hc,
        eight_more 8 a b hb,
        pairs_digits 4 a,
        pairs_digits 4 b,
        pairs_digits 4 c,
      )
