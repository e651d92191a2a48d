-- FORMAT 16.10: the walks of one tile and of two, worked.
use mathlib.Core.Path.{◌≡◌, refl, sym, ap, ap₂, subst, ◌∙◌}
use mathlib.Core.Logic.{◌⊎◌, inl, inr}
use mathlib.Core.List.{List, [], ◌∷◌}
use Prim.Native.Nat.{ℕ, zero, suc, ◌+◌, ◌*◌, ◌≤◌, ◌<◌}
use native.Mathlib.Omega.{arith}
use lib.ListN.{get_or}
use Rattle.level.specs.Tile.{adds, totals}
use Rattle.level.specs.Level.{Playable}
use Rattle.level.proofs.Unfinished.{some_two}
use Rattle.tiny.specs.Tiny.{Tiny, LegalBoard, digits, number, start, after, IsNext, NoneLeft, WholeWalk}
use Rattle.tiny.proofs.Answering.{board}
use Rattle.tiny.proofs.Theorems.{gave_next, next_fixed}

-- ---- one tile

alone : (t : ℕ) → t ≡ 2 → Playable 1 (totals (t ∷ [])) → ⊥
unfolding totals
alone t e p = omega (arith, subst (λ (u : ℕ). (totals (u ∷ [])).player ≡ 1) e p.one_player)

pub one_tile : NoneLeft 1 1 start
one_tile [] l k = omega (arith, l.count)
one_tile (t ∷ []) l k = go (some_two (t ∷ []) l.playable.unfinished)
  where
    go : (i : ℕ) × (i < 1) × (get_or (t ∷ []) i 0 ≡ 2) → ⊥
    go (zero, m, e) = alone t e l.playable
    go (suc i, m, e) = omega (arith, m)
one_tile (t ∷ u ∷ c) l k = omega (arith, l.count)

-- ---- two tiles: a crate, and the player on its goal

abbrev pub crate_first : List ℕ
crate_first = 2 ∷ 6 ∷ []

abbrev pub player_first : List ℕ
player_first = 6 ∷ 2 ∷ []

pub worked_numbers : (number crate_first ≡ 20) × (number player_first ≡ 44)
unfolding digits
worked_numbers = (refl, refl)

-- what adds a player and one goal more than crates
fellow : (u : ℕ) → (adds u).player ≡ 1 → (adds u).crate' + 1 ≡ (adds u).goal → u ≡ 6
fellow zero p g = absurd (omega (arith, p))
fellow (suc zero) p g = absurd (omega (arith, p))
fellow (suc (suc zero)) p g = absurd (omega (arith, p))
fellow (suc (suc (suc zero))) p g = absurd (omega (arith, p))
fellow (suc (suc (suc (suc zero)))) p g = absurd (omega (arith, p))
fellow (suc (suc (suc (suc (suc zero))))) p g = absurd (omega (arith, g))
fellow (suc (suc (suc (suc (suc (suc zero)))))) p g = refl
fellow (suc (suc (suc (suc (suc (suc (suc u))))))) p g = absurd (omega (arith, p))

behind : (u : ℕ) → Playable 1 (totals (2 ∷ u ∷ [])) → u ≡ 6
unfolding totals
behind u p = fellow u (omega (arith, p.one_player)) (omega (arith, p.as_many (omega arith)))

in_front : (u : ℕ) → Playable 1 (totals (u ∷ 2 ∷ [])) → u ≡ 6
unfolding totals
in_front u p = fellow u (omega (arith, p.one_player)) (omega (arith, p.as_many (omega arith)))

-- a size of two tiles, 2 by 1 or 1 by 2
module _ (w h : ℕ) (t : Tiny w h) (two : w * h ≡ 2) where
  pair_board : (x y : ℕ) → x ≤ 6 → y ≤ 6 → Playable 1 (totals (x ∷ y ∷ [])) → LegalBoard w h (x ∷ y ∷ [])
  pair_board x y a b p = board w h t (x ∷ y ∷ []) (record { long = sym two; codes = codes; fair = p })
    where
      codes : (i : ℕ) → i < 2 → get_or (x ∷ y ∷ []) i 0 ≤ 6
      codes zero m = a
      codes (suc zero) m = b
      codes (suc (suc i)) m = absurd (omega (arith, m))

  is_crate_first : LegalBoard w h crate_first
  unfolding totals
  is_crate_first =
      pair_board 2 6 (omega arith) (omega arith) (record { one_player = refl; some_crate = omega arith; enough = omega arith; as_many = λ _. refl; unfinished = omega arith })

  is_player_first : LegalBoard w h player_first
  unfolding totals
  is_player_first =
      pair_board 6 2 (omega arith) (omega arith) (record { one_player = refl; some_crate = omega arith; enough = omega arith; as_many = λ _. refl; unfinished = omega arith })

  pub two_tiles : (c : List ℕ) → LegalBoard w h c → (c ≡ crate_first) ⊎ (c ≡ player_first)
  two_tiles [] l = absurd (omega (arith, l.count, two))
  two_tiles (x ∷ []) l = absurd (omega (arith, l.count, two))
  two_tiles (x ∷ y ∷ z ∷ c) l = absurd (omega (arith, l.count, two))
  two_tiles (x ∷ y ∷ []) l = go (some_two (x ∷ y ∷ []) l.playable.unfinished)
    where
      pair : ℕ → ℕ → List ℕ
      pair a b = a ∷ b ∷ []

      go : (i : ℕ) × (i < 2) × (get_or (x ∷ y ∷ []) i 0 ≡ 2) → (pair x y ≡ crate_first) ⊎ (pair x y ≡ player_first)
      go (zero, m, e) = inl (ap₂ pair e (behind y (subst (λ (a : ℕ). Playable 1 (totals (pair a y))) e l.playable)))
      go (suc zero, m, e) = inr (ap₂ pair (in_front x (subst (λ (b : ℕ). Playable 1 (totals (pair x b))) e l.playable)) e)
      go (suc (suc i), m, e) = absurd (omega (arith, m))

  -- ---- their walk

  by_number : (c : List ℕ) → LegalBoard w h c → ((number c ≡ 20) × (c ≡ crate_first)) ⊎ ((number c ≡ 44) × (c ≡ player_first))
  by_number c l = go (two_tiles c l)
    where
      go : (c ≡ crate_first) ⊎ (c ≡ player_first) → ((number c ≡ 20) × (c ≡ crate_first)) ⊎ ((number c ≡ 44) × (c ≡ player_first))
      go (inl e) = inl (ap number e ∙ worked_numbers.0, e)
      go (inr e) = inr (ap number e ∙ worked_numbers.1, e)

  first : IsNext w h start crate_first
  first = record { board = is_crate_first; later = tt; least = λ c l m. go c (by_number c l) }
    where
      go : (c : List ℕ) → ((number c ≡ 20) × (c ≡ crate_first)) ⊎ ((number c ≡ 44) × (c ≡ player_first)) → number crate_first ≤ number c
      go c (inl e) = omega (arith, e.0, worked_numbers.0)
      go c (inr e) = omega (arith, e.0, worked_numbers.0)

  second : IsNext w h (after crate_first) player_first
  second = record { board = is_player_first; later = omega (arith, worked_numbers); least = λ c l m. go c m (by_number c l) }
    where
      go : (c : List ℕ) → number crate_first < number c → ((number c ≡ 20) × (c ≡ crate_first)) ⊎ ((number c ≡ 44) × (c ≡ player_first))
          → number player_first ≤ number c
      go c m (inl e) = absurd (omega (arith, e.0, worked_numbers.0, m))
      go c m (inr e) = omega (arith, e.0, worked_numbers.1)

  third : NoneLeft w h (after player_first)
  third c l m = go (by_number c l)
    where
      go : ((number c ≡ 20) × (c ≡ crate_first)) ⊎ ((number c ≡ 44) × (c ≡ player_first)) → ⊥
      go (inl e) = omega (arith, e.0, worked_numbers.1, m)
      go (inr e) = omega (arith, e.0, worked_numbers.1, m)

  pub worked : (bs : List (List ℕ)) → WholeWalk w h start bs → bs ≡ crate_first ∷ player_first ∷ []
  worked [] W = absurd (W.promise.none W.done W.none crate_first is_crate_first tt)
  worked (b ∷ []) W =
      let e = next_fixed w h start b crate_first (gave_next w h start b W.0) first in
      absurd (W.1.promise.none W.1.done W.1.none player_first is_player_first (omega (arith, ap number e, worked_numbers)))
  worked (b ∷ c ∷ bs) W = go bs W.1.1
    where
      e : b ≡ crate_first
      e = next_fixed w h start b crate_first (gave_next w h start b W.0) first

      f : c ≡ player_first
      f =
          next_fixed w h (after crate_first) c player_first
          (subst (λ (x : List ℕ). IsNext w h (after x) c) e (gave_next w h (after b) c W.1.0)) second

      go : (ds : List (List ℕ)) → WholeWalk w h (after c) ds → b ∷ c ∷ ds ≡ crate_first ∷ player_first ∷ []
      go [] r = ap₂ (λ (x y : List ℕ). x ∷ y ∷ []) e f
      go (d ∷ ds) r =
          let n = subst (λ (x : List ℕ). IsNext w h (after x) d) f (gave_next w h (after c) d r.0) in
          absurd (third d n.board n.later)
