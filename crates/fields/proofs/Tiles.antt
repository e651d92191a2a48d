-- Tiles, and what they add.
use mathlib.Core.Path.{◌≡◌, refl, sym, subst, ◌∙◌}
use mathlib.Core.Bool.{cond}
use mathlib.Core.Logic.{◌⊎◌, inl, inr, ⊎_elim}
use mathlib.Core.List.{List, [], ◌∷◌}
use Prim.Native.Nat.{ℕ, zero, suc, ◌+◌, ◌*◌, ◌/◌, ◌%◌, ◌≤◌, ◌<◌}
use native.Mathlib.Nat.{mul-le-mul}
use native.Mathlib.Omega.{arith}
use lib.Dec.{ltb}
use lib.ListN.{length, get_or}
use borrow.Author.Tests.{lt-ltb, le-ltb}
use Rattle.rules.proofs.Numbers.{lt_or_ge}
use Rattle.level.specs.Tile.{adds, totals}
use Rattle.level.specs.Level.{AllTiles, Playable}
use Rattle.fields.specs.Sum.{SumCode, SumFair, sum_most}
use Rattle.level.proofs.Versions.{code_early, code_late}
use Rattle.tiles.specs.Sum.{packed, weighed, weight}
use Rattle.tiles.proofs.Rows.{adds_small, adds_none, weighed_in, weighed_pit, weighed_out}

-- 1 for a tile code above m
over : ℕ → ℕ → ℕ
over m t = cond (ltb m t) 1 0

-- how many are
above : ℕ → List ℕ → ℕ
above m [] = 0
above m (t ∷ ts) = over m t + above m ts

-- there are none exactly where each is at most m
module _ (m : ℕ) where
  abbrev UpTo : List ℕ → Type 0
  UpTo ts = (i : ℕ) → i < length ts → get_or ts i 0 ≤ m

  none_above : (ts : List ℕ) → UpTo ts → above m ts ≡ 0
  unfolding above over
  none_above [] f = refl
  none_above (t ∷ ts) f = let h : t ≤ m = f 0 (omega arith) in rw (le-ltb m t h) (omega (arith, none_above ts (λ i l. f (suc i) (omega arith))))

  at_most : (ts : List ℕ) → above m ts ≡ 0 → UpTo ts
  unfolding above over
  at_most [] z = λ i l. absurd (omega arith)
  at_most (t ∷ ts) z = go (lt_or_ge m t) (at_most ts (omega (arith, z)))
    where
      go : (m < t) ⊎ (t ≤ m) → UpTo ts → UpTo (t ∷ ts)
      go (inl h) f i l = absurd (omega (arith, rw (lt-ltb m t h) at z))
      go (inr h) f zero l = h
      go (inr h) f (suc i) l = f i (omega arith)

-- what the sum is made of
record Counts (ts : List ℕ) : Type 0 where
  sum : weight ts + 1099511627776 * above 7 ts ≡ packed (totals ts) + 1099511627776 * above 6 ts + 1125899906842624 * above 7 ts
  fewer : above 7 ts ≤ above 6 ts
  short : above 6 ts ≤ length ts
  few : ((totals ts).player ≤ length ts) × ((totals ts).crate' ≤ length ts) × ((totals ts).goal ≤ length ts) × ((totals ts).off ≤ (totals ts).crate')

-- what a tile adds to it
record TileCounts (t : ℕ) : Type 0 where
  sum : weighed t + 1099511627776 * over 7 t ≡ packed (adds t) + 1099511627776 * over 6 t + 1125899906842624 * over 7 t
  fewer : over 7 t ≤ over 6 t
  one : over 6 t ≤ 1

tile_counts : (t : ℕ) → TileCounts t
unfolding over
tile_counts t = go (lt_or_ge t 7) (lt_or_ge t 8)
  where
    go : (t < 7) ⊎ (7 ≤ t) → (t < 8) ⊎ (8 ≤ t) → TileCounts t
    go (inl h) k =
        let a : t ≤ 6 = omega arith in let b : t ≤ 7 = omega arith in
        record { sum = rw (le-ltb 6 t a, le-ltb 7 t b) (omega (arith, weighed_in t h)); fewer = rw (le-ltb 6 t a, le-ltb 7 t b) (omega arith); one = rw (le-ltb 6 t a) (omega arith) }
    go (inr h) (inl k) =
        let a : 6 < t = omega arith in let b : t ≤ 7 = omega arith in
        record { sum = rw (lt-ltb 6 t a, le-ltb 7 t b) (omega (arith, weighed_pit t h k, adds_none t h)); fewer = rw (lt-ltb 6 t a, le-ltb 7 t b) (omega arith); one = rw (lt-ltb 6 t a) (omega arith) }
    go (inr h) (inr k) =
        let a : 6 < t = omega arith in let b : 7 < t = omega arith in
        record { sum = rw (lt-ltb 6 t a, lt-ltb 7 t b) (omega (arith, weighed_out t k, adds_none t h)); fewer = rw (lt-ltb 6 t a, lt-ltb 7 t b) (omega arith); one = rw (lt-ltb 6 t a) (omega arith) }

counts : (ts : List ℕ) → Counts ts
unfolding weight totals above
counts [] = record { sum = refl; fewer = omega arith; short = omega arith; few = (omega arith, omega arith, omega arith, omega arith) }
counts (t ∷ ts) =
    let r = counts ts in
    let c = tile_counts t in
    record {
      sum = omega (arith, r.sum, c.sum);
      fewer = omega (arith, r.fewer, c.fewer);
      short = omega (arith, r.short, c.one);
      few = (omega (arith, adds_small t, r.few), omega (arith, adds_small t, r.few), omega (arith, adds_small t, r.few), omega (arith, adds_small t, r.few));
    }

-- a tile adds at most one crate and one goal
pub at_most_each : (ts : List ℕ) → ((totals ts).crate' ≤ length ts) × ((totals ts).goal ≤ length ts)
at_most_each ts = ((counts ts).few.1, (counts ts).few.2)

module _ (ts : List ℕ) (x : ℕ) (short : length ts ≤ 961) (e : x ≡ weight ts) where
  -- each code is one of the version exactly where no more is counted than the four sums, or the pits beside them
  pub early_tiles : (v : ℕ) → v < 2 → (x < 1099511627776 → AllTiles v ts) × (AllTiles v ts → x < 1099511627776)
  early_tiles v h = (
    λ z. subst (λ (m : ℕ). UpTo m ts) (sym (code_early v h)) (at_most 6 ts (omega (arith, e, (counts ts).sum, (counts ts).fewer, z))),
    λ f. omega (arith, e, (counts ts).sum, (counts ts).fewer, (counts ts).few, none_above 6 ts (subst (λ (m : ℕ). UpTo m ts) (code_early v h) f)),
  )

  pub late_tiles : (v : ℕ) → 2 ≤ v → (x < 1125899906842624 → AllTiles v ts) × (AllTiles v ts → x < 1125899906842624)
  late_tiles v h = (
    λ z. subst (λ (m : ℕ). UpTo m ts) (sym (code_late v h)) (at_most 7 ts (omega (arith, e, (counts ts).sum, (counts ts).fewer, z))),
    λ f. omega (arith, e, (counts ts).sum, (counts ts).fewer, (counts ts).short, (counts ts).few, none_above 7 ts (subst (λ (m : ℕ). UpTo m ts) (code_late v h) f)),
  )

  -- so of the bound for either version
  most_early : (v : ℕ) → v < 2 → sum_most v ≡ 1099511627776
  most_early v h = rw (lt-ltb v 2 h)

  most_late : (v : ℕ) → 2 ≤ v → sum_most v ≡ 1125899906842624
  most_late v h = rw (le-ltb v 2 h)

  coded_tiles : (v : ℕ) → (x < sum_most v → AllTiles v ts) × (AllTiles v ts → x < sum_most v)
  coded_tiles v = ⊎_elim (λ l. let q = early_tiles v l in subst (λ (m : ℕ). (x < m → AllTiles v ts) × (AllTiles v ts → x < m)) (sym (most_early v l)) q) (λ g. subst (λ (m : ℕ). (x < m → AllTiles v ts) × (AllTiles v ts → x < m)) (sym (most_late v g)) (late_tiles v g)) (lt_or_ge v 2)

  -- the four sums, each in its place
  pub record Sums : Type 0 where
    pub player_is : x % 1024 ≡ (totals ts).player
    pub crate_is : x / 1024 % 1024 ≡ (totals ts).crate'
    pub goal_is : x / 1048576 % 1024 ≡ (totals ts).goal
    pub off_is : x / 1073741824 % 1024 ≡ (totals ts).off
    pub off_crates : (totals ts).off ≤ (totals ts).crate'

  pub sums : Sums
  sums = record {
    player_is = omega (arith, e, (counts ts).sum, (counts ts).fewer, (counts ts).few);
    crate_is = omega (arith, e, (counts ts).sum, (counts ts).fewer, (counts ts).few);
    goal_is = omega (arith, e, (counts ts).sum, (counts ts).fewer, (counts ts).few);
    off_is = omega (arith, e, (counts ts).sum, (counts ts).fewer, (counts ts).few);
    off_crates = omega (arith, (counts ts).few);
  }

-- refusals 9 and 10, and none
module _ (v x : ℕ) where
  pub sum_9 : (x < sum_most v → ⊥) → SumCode v x 9
  sum_9 n = record { code_of = λ ts h e. inl (λ f. n ((coded_tiles ts x h e v).1 f), refl) }

  pub sum_10 : x < sum_most v → (SumFair v x → ⊥) → SumCode v x 10
  sum_10 k n = record {
    code_of = λ ts h e. (
        let s = sums ts x h e in
        let fair : Playable v (totals ts) → SumFair v x = λ p. record {
          one_player = omega (arith, p.one_player, s.player_is);
          unfinished = omega (arith, p.unfinished, s.off_is);
          matched = record { enough = omega (arith, p.enough, s.crate_is, s.goal_is); as_many = λ early. s.crate_is ∙ p.as_many early ∙ sym s.goal_is };
        } in
        inr ((coded_tiles ts x h e v).0 k, inl (λ p. n (fair p), refl)));
  }

  pub sum_0 : x < sum_most v → SumFair v x → SumCode v x 0
  sum_0 k f = record {
    code_of = λ ts h e. (
        let s = sums ts x h e in
        let p : Playable v (totals ts) = record {
          one_player = omega (arith, f.one_player, s.player_is);
          some_crate = omega (arith, f.unfinished, s.off_is, s.off_crates);
          enough = omega (arith, f.matched.enough, s.crate_is, s.goal_is);
          as_many = λ early. sym s.crate_is ∙ f.matched.as_many early ∙ s.goal_is;
          unfinished = omega (arith, f.unfinished, s.off_is);
        } in
        inr ((coded_tiles ts x h e v).0 k, inr (p, refl)));
  }

-- a board has at most 961 tiles
pub area_small : (w h : ℕ) → w ≤ 31 → h ≤ 31 → w * h ≤ 961
area_small w h a b = mul-le-mul a b
