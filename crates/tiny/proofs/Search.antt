-- The search for the next legal board.
use mathlib.Core.Path.{◌≡◌, refl, sym, ap, subst, ◌∙◌}
use mathlib.Core.Logic.{◌⊎◌, inl, inr}
use mathlib.Core.Bool.{true}
use mathlib.Core.List.{List}
use Prim.Native.Nat.{ℕ, ◌-◌, ◌^◌, ◌≤◌, ◌<◌}
use native.Mathlib.Nat.{eq-or-lt_of_le}
use native.Mathlib.Omega.{arith}
use lib.ListN.{length}
use Rattle.tiny.specs.Tiny.{digits, number}
use Rattle.level.specs.Level.{AllTiles}
use Rattle.tiny.specs.Parts.{Ruled, Passed, StuckAt, NoneBetween}
use Rattle.tiny.proofs.Digits.{same_tiles, digits_below, front_less, front_kept, floor_least}

-- digits by the length of another board
sized_digits : (a b : List ℕ) → length b ≡ length a → digits (length a) b ≡ number b
sized_digits a b l = ap (λ (n : ℕ). digits n b) (sym l)

-- ---- steps

-- the search from old on stands at b: boards that are later than old have first k tiles with a greater number
pub record Ahead (old b : List ℕ) (k : ℕ) : Type 0 where
  pub long : length b ≡ length old
  pub codes : AllTiles 1 b
  pub within : k ≤ length b
  pub reached : number old ≤ number b
  pub beyond : (c : List ℕ) → Ruled (length old) c → number old < number c → digits k b < digits k c

-- it begins over all places
pub begins : (old : List ℕ) (k : ℕ) → k ≡ length old → AllTiles 1 old → Ahead old old k
begins old k e s = record {
  long = refl;
  codes = s;
  within = omega (arith, e);
  reached = omega arith;
  beyond = λ c R h. rw e (omega (arith, sized_digits old c R.long, h));
}

module _ (old b new : List ℕ) (k : ℕ) (r : Ahead old b k) (same : length new ≡ length b) where
  new_long : length new ≡ length old
  new_long = same ∙ r.long

  within : k ≤ length old
  within = omega (arith, r.within, r.long)

  pub greater : Passed k b new true → number b < number new
  greater s = omega (
    arith,
    sized_digits old b r.long,
    sized_digits old new new_long,
    front_less (length old) k b new r.codes within (omega (arith, s.more.up refl)),
  )

  -- the next number with other first tiles is not past the next legal board
  pub passes : Passed k b new true → NoneBetween old new
  passes s = record {
    codes = s.more.codes;
    later = omega (arith, r.reached, greater s);
    least = λ c R h. omega (
      arith,
      sized_digits old new new_long,
      sized_digits old c R.long,
      floor_least (length old) k new c s.floor within (omega (arith, s.more.up refl, r.beyond c R h)),
    );
  }

  -- so many numbers are left
  pub fewer_ahead : Passed k b new true → 7 ^ length new - number new < 7 ^ length b - number b
  fewer_ahead s =
      let e : 7 ^ length new ≡ 7 ^ length b = ap (λ (n : ℕ). 7 ^ n) same in
      omega (arith, greater s, e, digits_below (length new) new s.more.codes)

  -- where no legal board begins with its first tiles, it goes on over these
  pub goes_on : Passed k b new true → (n : ℕ) → StuckAt new n → Ahead old new n
  goes_on s n t = record {
    long = new_long;
    codes = s.more.codes;
    within = t.within;
    reached = omega (arith, r.reached, greater s);
    beyond = λ c R h. go c R (eq-or-lt_of_le (front_kept (length old) n new c R.codes (omega (arith, t.within, new_long))
        (omega (arith, (passes s).least c R h, sized_digits old new new_long, sized_digits old c R.long))));
  }
    where
      go : (c : List ℕ) → Ruled (length old) c → (digits n new ≡ digits n c) ⊎ (digits n new < digits n c) → digits n new < digits n c
      go c R (inl e) = absurd (t.never c (subst (λ (m : ℕ). Ruled m c) (sym new_long) R) (same_tiles n c new R.codes s.more.codes (sym e)))
      go c R (inr l) = l
