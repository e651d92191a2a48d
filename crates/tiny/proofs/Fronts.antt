-- First tiles that no legal board begins with.
use mathlib.Core.Path.{◌≡◌, refl, sym, ap, subst, ◌∙◌}
use mathlib.Core.List.{List, [], ◌∷◌, ◌++◌}
use Prim.Native.Nat.{ℕ, suc, ◌+◌, ◌/◌, ◌%◌, ◌≤◌, ◌<◌}
use native.Mathlib.Omega.{arith}
use lib.ListN.{length, get_or, take, drop, length-take, length-drop, take-append-drop}
use lib.Seq.{take-suc, get_or-take, length-take-le, ext_get_or}
use Rattle.level.specs.Tile.{totals}
use Rattle.level.specs.Level.{AllTiles, Playable}
use Rattle.tiles.specs.Sum.{weighed, weight}
use Rattle.fields.proofs.Tiles.{at_most_each, sums}
use Rattle.lending.proofs.Writing.{codes_all}
use Rattle.tiny.specs.Parts.{Lost, StuckAt}

-- ---- what two parts of a board add

pub record Joined (a b : List ℕ) : Type 0 where
  pub player_is : (totals (a ++ b)).player ≡ (totals a).player + (totals b).player
  pub crate_is : (totals (a ++ b)).crate' ≡ (totals a).crate' + (totals b).crate'
  pub goal_is : (totals (a ++ b)).goal ≡ (totals a).goal + (totals b).goal

joined : (a b : List ℕ) → Joined a b
unfolding totals
joined [] b = record { player_is = omega arith; crate_is = omega arith; goal_is = omega arith }
joined (t ∷ a) b =
    let r = joined a b in
    record { player_is = omega (arith, r.player_is); crate_is = omega (arith, r.crate_is); goal_is = omega (arith, r.goal_is) }

-- ---- beginnings that are lost

module _ (x left : ℕ) where
  -- no board that begins so keeps the rule, if what it adds does not
  lost_by : ((front back : List ℕ) → (x % 1024 ≡ (totals front).player) → (x / 1024 % 1024 ≡ (totals front).crate') → (x / 1048576 % 1024 ≡ (totals front).goal)
      → length back ≡ left → Playable 1 (totals (front ++ back)) → ⊥) → Lost x left
  lost_by f = record {
    never = λ front back e c s l p.
        let q = sums front x s e in
        f front back q.player_is q.crate_is q.goal_is l p;
  }

  pub two_players : 1 < x % 1024 → Lost x left
  two_players h = lost_by (λ front back p c g l k. omega (arith, h, p, (joined front back).player_is, k.one_player))

  pub crates_behind : x / 1048576 % 1024 + left < x / 1024 % 1024 → Lost x left
  crates_behind h = lost_by (λ front back p c g l k.
      omega (arith, h, c, g, l, (joined front back).crate_is, (joined front back).goal_is, at_most_each back, k.as_many (omega arith)))

  pub goals_behind : x / 1024 % 1024 + left < x / 1048576 % 1024 → Lost x left
  goals_behind h = lost_by (λ front back p c g l k.
      omega (arith, h, c, g, l, (joined front back).crate_is, (joined front back).goal_is, at_most_each back, k.as_many (omega arith)))

-- ---- the sum of the first tiles

weight_more : (a : List ℕ) (t : ℕ) → weight (a ++ t ∷ []) ≡ weight a + weighed t
unfolding weight
weight_more [] t = omega arith
weight_more (u ∷ a) t = omega (arith, weight_more a t)

pub weight_none : (b : List ℕ) → 0 ≡ weight (take 0 b)
unfolding weight
weight_none b = refl

pub weight_front : (b : List ℕ) (i : ℕ) → i < length b → weight (take (i + 1) b) ≡ weight (take i b) + weighed (get_or b i 0)
weight_front b i h = ap (λ (k : ℕ). weight (take k b)) one ∙ ap weight (take-suc b i 0 h) ∙ weight_more (take i b) (get_or b i 0)
  where
    one : i + 1 ≡ suc i
    one = omega arith

-- ---- beginnings of a board

codes_front : (b : List ℕ) (k : ℕ) → AllTiles 1 b → AllTiles 1 (take k b)
codes_front b k f i h =
    let l : i < k = omega (arith, h, length-take k b) in
    omega (arith, get_or-take k b i 0 l, codes_all 1 b f i)

same_front : (b c : List ℕ) (k : ℕ) → k ≤ length b → length c ≡ length b → ((i : ℕ) → i < k → get_or c i 0 ≡ get_or b i 0) → take k c ≡ take k b
same_front b c k h l f = ext_get_or 0 (take k c) (take k b) (in_c ∙ sym in_b) at
  where
    in_b : length (take k b) ≡ k
    in_b = length-take-le k b h

    in_c : length (take k c) ≡ k
    in_c = length-take-le k c (omega (arith, h, l))

    at : (i : ℕ) → i < length (take k c) → get_or (take k c) i 0 ≡ get_or (take k b) i 0
    at i g = let m : i < k = omega (arith, g, in_c) in get_or-take k c i 0 m ∙ f i m ∙ sym (get_or-take k b i 0 m)

module _ (b : List ℕ) (codes : AllTiles 1 b) (short : length b ≤ 6) where
  -- some first tiles are lost
  pub stuck_front : (k x left : ℕ) → k ≤ length b → x ≡ weight (take k b) → k + left ≡ length b → Lost x left → StuckAt b k
  stuck_front k x left h e s lost = record {
    within = h;
    never = λ c R f.
        lost.never (take k b) (drop k c) e (codes_front b k codes) (omega (arith, length-take-le k b h, short)) (omega (arith, length-drop k c, R.long, s))
        (subst (λ (d : List ℕ). Playable 1 (totals d))
        (sym (take-append-drop k c) ∙ ap (λ (d : List ℕ). d ++ drop k c) (same_front b c k h R.long f)) R.fair);
  }

  -- all of them are as they should be, and it does not keep the rule
  pub stuck_whole : (Playable 1 (totals b) → ⊥) → StuckAt b (length b)
  stuck_whole f = record {
    within = omega arith;
    never = λ c R g. f (subst (λ (d : List ℕ). Playable 1 (totals d)) (ext_get_or 0 c b R.long (λ i h. g i (omega (arith, h, R.long)))) R.fair);
  }
