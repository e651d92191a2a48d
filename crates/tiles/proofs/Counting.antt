-- Tiles counted from their bytes.
use mathlib.Core.Path.{◌≡◌, refl, sym, ap, ◌∙◌}
use mathlib.Core.Logic.{⊎_elim}
use mathlib.Core.List.{List}
use Prim.Native.Nat.{ℕ, zero, suc, ◌+◌, ◌*◌, ◌-◌, ◌/◌, ◌%◌, ◌^◌, ◌≤◌, ◌<◌}
use native.Mathlib.Numerals.{unary_clauses, add-one}
use native.Mathlib.Nat.{zero-div}
use native.Mathlib.Omega.{arith}
use lib.ListN.{length, get_or}
use Rattle.rules.proofs.Numbers.{lt_or_ge}
use Rattle.account.specs.Lists.{list_of, sum_of}
use Rattle.account.proofs.Lanes.{get_d_past}
use Rattle.level.specs.Record.{bit_at, field_at}
use Rattle.triples.specs.Weights.{tripled}
use Rattle.tiles.specs.Part.{tiles_from, three_at}
use Rattle.tiles.specs.Sum.{weighed, weight, PartSummed, adds_at, Counted, pairs_of, triples_of}
use Rattle.tiles.specs.Word.{word_at}
use Rattle.tiles.proofs.Digits.{three_groups}
use Rattle.tiles.proofs.Rows.{weighed_small}
use Rattle.tiles.proofs.Eight.{eight, eight_at, four_pairs}

-- eight tiles are two, and twice three
pub two_three_three : (v : ℕ) → (tripled (v / 262144 % 64) + tripled (v / 512 % 512) + tripled (v % 512) ≡ pairs_of weighed 4 v)
    × (tripled (v / 262144 % 64) + tripled (v / 512 % 512) + tripled (v % 512) ≤ 9007199254740992)
unfolding pairs_of
two_three_three v =
    let none : weighed (v / 262144 % 64 / 64) ≡ 0 = ap weighed (at (v / 262144 % 64 / 64) 0 (omega arith)) in (
      omega (
        arith,
        none,
        ap weighed (at (v / 262144 % 64 / 8 % 8) (v / 64 / 64 / 64 % 64 / 8) (omega arith)),
        ap weighed (at (v / 262144 % 64 % 8) (v / 64 / 64 / 64 % 64 % 8) (omega arith)),
        ap weighed (at (v / 512 % 512 / 64) (v / 64 / 64 % 64 / 8) (omega arith)),
        ap weighed (at (v / 512 % 512 / 8 % 8) (v / 64 / 64 % 64 % 8) (omega arith)),
        ap weighed (at (v / 512 % 512 % 8) (v / 64 % 64 / 8) (omega arith)),
        ap weighed (at (v % 512 / 64) (v / 64 % 64 % 8) (omega arith)),
        ap weighed (at (v % 512 / 8 % 8) (v % 64 / 8) (omega arith)),
        ap weighed (at (v % 512 % 8) (v % 64 % 8) (omega arith)),
      ),
      omega (
        arith,
        none,
        weighed_small (v / 262144 % 64 / 8 % 8),
        weighed_small (v / 262144 % 64 % 8),
        weighed_small (v / 512 % 512 / 64),
        weighed_small (v / 512 % 512 / 8 % 8),
        weighed_small (v / 512 % 512 % 8),
        weighed_small (v % 512 / 64),
        weighed_small (v % 512 / 8 % 8),
        weighed_small (v % 512 % 8),
      ),
    )
  where
    at : (a b : ℕ) → a ≡ b → a ≡ b
    at a b e = e

-- three more
pub triples_next : (w : ℕ → ℕ) (n m t u : ℕ) → n ≡ m + 1
    → triples_of w n (u * 512 + t % 512)
    ≡ w (t % 512 / 64) + w (t % 512 / 8 % 8) + w (t % 512 % 8) + triples_of w m (u / 512 * 512 + u % 512)
unfolding triples_of
triples_next w n m t u e =
    let low : (u * 512 + t % 512) % 512 ≡ t % 512 = omega arith in
    let high : (u * 512 + t % 512) / 512 ≡ u / 512 * 512 + u % 512 = omega arith in
    rw (e, add-one, low, high)

pub triples_none : (w : ℕ → ℕ) (n v : ℕ) → n ≡ 0 → triples_of w n v ≡ 0
unfolding triples_of
triples_none w n v e = rw e

-- the four pairs of three bytes are their eight tiles
pairs_eight : (w : ℕ → ℕ) (x y z : ℕ) → x < 256 → y < 256 → z < 256
    → pairs_of w 4 (x * 65536 + y * 256 + z)
    ≡ w (x / 32) + w (x / 4 % 8) + w (x % 4 * 2 + y / 128) + w (y / 16 % 8) + w (y / 2 % 8) + w (y % 2 * 4 + z / 64) + w (z / 8 % 8) + w (z % 8)
unfolding pairs_of
pairs_eight w x y z hx hy hz =
    four_pairs (λ a b c d e f g h. w a + w b + (w c + w d + (w e + w f + (w g + w h + 0)))) x y z hx hy hz ∙ omega arith

sum_eight : (f : ℕ → ℕ) (n : ℕ)
    → sum_of (n + 8) f ≡ sum_of n f + (f (n + 0) + f (n + 1) + f (n + 2) + f (n + 3) + f (n + 4) + f (n + 5) + f (n + 6) + f (n + 7))
unfolding sum_of
sum_eight f n = simp unary_clauses (omega arith)

-- eight tiles more
sum_three : (w : ℕ → ℕ) (part : List ℕ) (g x y z : ℕ) → x ≡ get_or part (3 * g) 0 → y ≡ get_or part (3 * g + 1) 0 → z ≡ get_or part (3 * g + 2) 0
    → x < 256 → y < 256 → z < 256
    → sum_of (8 * (g + 1)) (λ t. w (field_at part (3 * t) 3)) ≡ sum_of (8 * g) (λ t. w (field_at part (3 * t) 3)) + pairs_of w 4 (x * 65536 + y * 256 + z)
sum_three w part g x y z ex ey ez hx hy hz =
    let e : 8 * (g + 1) ≡ 8 * g + 8 = omega arith in
    ap (λ (k : ℕ). sum_of k (λ t. w (field_at part (3 * t) 3))) e
    ∙ sum_eight (λ t. w (field_at part (3 * t) 3)) (8 * g)
    ∙ omega (
      arith,
      pairs_eight w x y z hx hy hz,
      at 0 (omega arith),
      at 1 (omega arith),
      at 2 (omega arith),
      at 3 (omega arith),
      at 4 (omega arith),
      at 5 (omega arith),
      at 6 (omega arith),
      at 7 (omega arith),
    )
  where
    at : (j : ℕ) → j < 8 → w (get_or (eight x y z) j 0) ≡ w (field_at part (3 * (8 * g + j)) 3)
    at j h = ap w (eight_at part g x y z ex ey ez hx hy hz j h)

pub sum_next : (w : ℕ → ℕ) (part : List ℕ) (g : ℕ) → ((q : ℕ) → get_or part q 0 < 256)
    → sum_of (8 * (g + 1)) (λ t. w (field_at part (3 * t) 3)) ≡ sum_of (8 * g) (λ t. w (field_at part (3 * t) 3)) + pairs_of w 4 (three_at part g)
sum_next w part g by =
    sum_three w part g (get_or part (3 * g) 0) (get_or part (3 * g + 1) 0) (get_or part (3 * g + 2) 0) refl refl refl
    (by (3 * g)) (by (3 * g + 1)) (by (3 * g + 2))

-- 24 tiles more, of nine bytes
pub nine_next : (w : ℕ → ℕ) (part : List ℕ) (k : ℕ) → ((q : ℕ) → get_or part q 0 < 256)
    → sum_of (8 * (3 * (k + 1))) (λ t. w (field_at part (3 * t) 3))
    ≡ sum_of (8 * (3 * k)) (λ t. w (field_at part (3 * t) 3)) + triples_of w 8 (word_at part (9 * k) * 256 + get_or part (9 * k + 8) 0)
nine_next w part k by =
    let n : 3 * (k + 1) ≡ 3 * k + 1 + 1 + 1 = omega arith in
    omega (
      arith,
      ap (λ (g : ℕ). sum_of (8 * g) (λ t. w (field_at part (3 * t) 3))) n,
      sum_next w part (3 * k) by,
      sum_next w part (3 * k + 1) by,
      sum_next w part (3 * k + 1 + 1) by,
      three_groups w (three_at part (3 * k)) (three_at part (3 * k + 1)) (three_at part (3 * k + 1 + 1)) (small (3 * k + 1)) (small (3 * k + 1 + 1)),
      ap (triples_of w 8) joined,
    )
  where
    small : (g : ℕ) → three_at part g < 16777216
    small g = omega (arith, by (3 * g), by (3 * g + 1), by (3 * g + 2))

    joined : word_at part (9 * k) * 256 + get_or part (9 * k + 8) 0
        ≡ (three_at part (3 * k) * 16777216 + three_at part (3 * k + 1)) * 16777216 + three_at part (3 * k + 1 + 1)
    joined =
        let at : (i j : ℕ) → i ≡ j → get_or part i 0 ≡ get_or part j 0 = λ i j e. ap (λ (q : ℕ). get_or part q 0) e in
        omega (
          arith,
          at (9 * k) (3 * (3 * k)) (omega arith),
          at (9 * k + 1) (3 * (3 * k) + 1) (omega arith),
          at (9 * k + 2) (3 * (3 * k) + 2) (omega arith),
          at (9 * k + 3) (3 * (3 * k + 1)) (omega arith),
          at (9 * k + 4) (3 * (3 * k + 1) + 1) (omega arith),
          at (9 * k + 5) (3 * (3 * k + 1) + 2) (omega arith),
          at (9 * k + 6) (3 * (3 * k + 1 + 1)) (omega arith),
          at (9 * k + 7) (3 * (3 * k + 1 + 1) + 1) (omega arith),
          at (9 * k + 8) (3 * (3 * k + 1 + 1) + 2) (omega arith),
        )

-- sums of numbers
sum_first : (n : ℕ) (f : ℕ → ℕ) → sum_of (suc n) f ≡ f 0 + sum_of n (λ i. f (suc i))
unfolding sum_of
sum_first zero f = omega arith
sum_first (suc n) f = omega (arith, sum_first n f)

pub sum_append : (k n : ℕ) (f : ℕ → ℕ) → sum_of (k + n) f ≡ sum_of k f + sum_of n (λ i. f (k + i))
unfolding sum_of
sum_append k zero f = let e : k + 0 ≡ k = omega arith in omega (arith, ap (λ (j : ℕ). sum_of j f) e)
sum_append k (suc n) f = let e : k + suc n ≡ suc (k + n) = omega arith in omega (arith, ap (λ (j : ℕ). sum_of j f) e, sum_append k n f)

pub sum_none : (n : ℕ) (f : ℕ → ℕ) → ((i : ℕ) → f i ≡ 0) → sum_of n f ≡ 0
unfolding sum_of
sum_none zero f h = refl
sum_none (suc n) f h = omega (arith, sum_none n f h, h n)

weight_list : (n : ℕ) (f : ℕ → ℕ) → weight (list_of n f) ≡ sum_of n (λ i. weighed (f i))
unfolding weight list_of sum_of
weight_list zero f = refl
weight_list (suc n) f = ap (λ (k : ℕ). weighed (f 0) + k) (weight_list n (λ i. f (suc i))) ∙ sym (sum_first n (λ i. weighed (f i)))

-- bits past the end, and fields of none
pub bit_past : (part : List ℕ) (p : ℕ) → 8 * length part ≤ p → bit_at part p ≡ 0
unfolding bit_at
bit_past part p h = ap (λ (x : ℕ). x / 2 ^ (7 - p % 8) % 2) (get_d_past part (p / 8) (omega arith)) ∙ ap (λ (x : ℕ). x % 2) (zero-div (2 ^ (7 - p % 8)))

pub field_none : (part : List ℕ) (p n : ℕ) → ((q : ℕ) → p ≤ q → bit_at part q ≡ 0) → field_at part p n ≡ 0
unfolding field_at
field_none part p zero h = refl
field_none part p (suc n) h = omega (arith, field_none part p n h, h (p + n) (omega arith))

-- past the end nothing is added
pub ended : (part : List ℕ) (h : ℕ) → length part ≤ 3 * h → h ≤ length part / 3 + 1
    → sum_of (8 * h) (adds_at part) ≡ sum_of (8 * (length part / 3 + 1)) (adds_at part)
ended part h all most = ⊎_elim (λ a.
    let e : 8 * (length part / 3 + 1) ≡ 8 * h + 8 = omega arith in
    omega (arith, ap (λ (k : ℕ). sum_of k (adds_at part)) e, sum_append (8 * h) 8 (adds_at part), sum_none 8 (λ i. adds_at part (8 * h + i)) past)) (λ b.
    let e : h ≡ length part / 3 + 1 = omega arith in ap (λ (k : ℕ). sum_of (8 * k) (adds_at part)) e) (lt_or_ge h (length part / 3 + 1))
  where
    past : (i : ℕ) → adds_at part (8 * h + i) ≡ 0
    past i = ap weighed (field_none part (3 * (8 * h + i)) 3 (λ q l. bit_past part q (omega arith)))

-- the sum over all groups of three bytes is that of the tiles
module _ (part : List ℕ) (m : ℕ) (room : 3 * m ≤ 8 * length part) (none : (p : ℕ) → 3 * m ≤ p → p < 8 * length part → bit_at part p ≡ 0) where
  blank : (p : ℕ) → 3 * m ≤ p → bit_at part p ≡ 0
  blank p h = ⊎_elim (λ a. none p h a) (λ b. bit_past part p b) (lt_or_ge p (8 * length part))

  past : (i : ℕ) → adds_at part (m + i) ≡ 0
  past i = ap weighed (field_none part (3 * (m + i)) 3 (λ q h. blank q (omega arith)))

  tiles : sum_of m (adds_at part) ≡ weight (tiles_from part m)
  unfolding tiles_from
  tiles = sym (weight_list m (λ i. field_at part (3 * i) 3))

  all_tiles : (x g : ℕ) → length part ≤ 3 * g → x ≡ sum_of (8 * g) (adds_at part) → x ≡ weight (tiles_from part m)
  all_tiles x g all e =
      let n : 8 * g ≡ m + (8 * g - m) = omega arith in
      omega (
        arith,
        ap (λ (k : ℕ). sum_of k (adds_at part)) n,
        sum_append m (8 * g - m) (adds_at part),
        sum_none (8 * g - m) (λ i. adds_at part (m + i)) past,
        tiles,
      )

pub part_summed : (part : List ℕ) (x g : ℕ) → length part ≤ 3 * g → x ≡ sum_of (8 * g) (adds_at part) → PartSummed part x
part_summed part x g all e = record { sum = λ m room none. all_tiles part m room none x g all e }

pub counted_summed : (part : List ℕ) (x : ℕ) → Counted part x → PartSummed part x
counted_summed part x C = part_summed part x (length part / 3 + 1) (omega arith) C.all
