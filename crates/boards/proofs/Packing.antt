-- Tiles packed, eight in three bytes.
use mathlib.Core.Path.{◌≡◌, refl, ap, ◌∙◌, subst}
use mathlib.Core.Logic.{⊎_elim}
use mathlib.Core.List.{List}
use Prim.Native.Nat.{ℕ, zero, suc, ◌+◌, ◌*◌, ◌-◌, ◌/◌, ◌%◌, ◌≤◌, ◌<◌}
use native.Mathlib.Numerals.{add-one}
use native.Mathlib.Omega.{arith}
use lib.ListN.{get_or}
use Rattle.rules.proofs.Numbers.{lt_or_ge}
use Rattle.boards.specs.Pack.{three_of, tile_byte, joined, joined_at, turned_of}
use Rattle.tiles.specs.Put.{byte_of, Puts}

middle : (a b c : ℕ) → a < 256 → b < 256 → (a + b * 256 + c * 65536) / 256 % 256 ≡ b
middle a b c ha hb = omega arith

highest : (a b c : ℕ) → a < 256 → b < 256 → c < 256 → (a + b * 256 + c * 65536) / 256 / 256 % 256 ≡ c
highest a b c ha hb hc = omega arith

module _ (t : ℕ → ℕ) where
  pub joined_next : (n : ℕ) → joined (n + 1) t ≡ joined n t * 8 + t n
  unfolding joined
  joined_next n = rw add-one refl

  pub joined_none : joined 0 t ≡ 0
  unfolding joined
  joined_none = refl

  pub joined_eight : joined 8 t ≡ (((t 0 * 8 + t 1) * 64 + (t 2 * 8 + t 3)) * 64 + (t 4 * 8 + t 5)) * 64 + (t 6 * 8 + t 7)
  unfolding joined
  joined_eight = omega arith

  grows : (n d : ℕ) → joined n t ≤ joined (d + n) t
  unfolding joined
  grows n zero = let e : 0 + n ≡ n = omega arith in omega (arith, ap (λ (k : ℕ). joined k t) e)
  grows n (suc d) = let e : suc d + n ≡ suc (d + n) = omega arith in omega (arith, ap (λ (k : ℕ). joined k t) e, grows n d)

  module _ (small : (j : ℕ) → t j ≤ 7) where
    top_7 : joined 7 t < 2097152
    unfolding joined
    top_7 = omega (arith, small 0, small 1, small 2, small 3, small 4, small 5, small 6)

    pub room : (n : ℕ) → n < 8 → joined n t < 2097152
    room n h = let e : 7 - n + n ≡ 7 = omega arith in omega (arith, grows n (7 - n), ap (λ (k : ℕ). joined k t) e, top_7)

    top_8 : joined 8 t < 16777216
    unfolding joined
    top_8 = omega (arith, top_7, small 7)

    first : joined 8 t / 65536 ≡ three_of t 0
    unfolding joined
    first = omega (arith, small 0, small 1, small 2, small 3, small 4, small 5, small 6, small 7)

    second : joined 8 t / 256 % 256 ≡ three_of t 1
    unfolding joined
    second = omega (arith, small 0, small 1, small 2, small 3, small 4, small 5, small 6, small 7)

    third : joined 8 t % 256 ≡ three_of t 2
    unfolding joined
    third = omega (arith, small 0, small 1, small 2, small 3, small 4, small 5, small 6, small 7)

    -- the bytes of the number, turned
    pub byte_three : (j : ℕ) → j < 3 → byte_of j (turned_of (joined 8 t)) ≡ three_of t j
    unfolding byte_of
    byte_three zero h = omega (arith, first, top_8)
    byte_three (suc zero) h =
        let v = joined 8 t in middle (v / 65536) (v / 256 % 256) (v % 256) (omega (arith, top_8)) (omega arith) ∙ second
    byte_three (suc (suc zero)) h =
        let v = joined 8 t in highest (v / 65536) (v / 256 % 256) (v % 256) (omega (arith, top_8)) (omega arith) (omega arith) ∙ third
    byte_three (suc (suc (suc j))) h = absurd (omega arith)

pub joined_small : (tiles : List ℕ) (g : ℕ) → ((q : ℕ) → get_or tiles q 0 ≤ 7) → joined_at tiles g < 16777216
joined_small tiles g small = top_8 (λ i. get_or tiles (8 * g + i) 0) (λ i. small (8 * g + i))

-- the bytes of a group
three_at : (tiles : List ℕ) (g : ℕ) → ((q : ℕ) → get_or tiles q 0 ≤ 7) → (j : ℕ) → j < 3
    → byte_of j (turned_of (joined_at tiles g)) ≡ tile_byte tiles (3 * g + j)
three_at tiles g small j h =
    let d : 8 * g ≡ (3 * g + j) / 3 * 8 = omega arith in
    let m : j ≡ (3 * g + j) % 3 = omega arith in
    byte_three (λ i. get_or tiles (8 * g + i) 0) (λ i. small (8 * g + i)) j h
    ∙ ap (λ (k : ℕ). three_of (λ i. get_or tiles (k + i) 0) j) d
    ∙ ap (three_of (λ i. get_or tiles ((3 * g + j) / 3 * 8 + i) 0)) m

-- eight tiles more, as far as their bytes go before the one numbered n
pub bytes_next : (tiles old new : List ℕ) (g n w : ℕ) → ((q : ℕ) → get_or tiles q 0 ≤ 7)
    → w ≡ turned_of (joined_at tiles g) → Puts old new (3 + 3 * g) n w
    → ((b : ℕ) → b < 3 * g → 3 + b < n → get_or old (3 + b) 0 ≡ tile_byte tiles b)
    → (b : ℕ) → b < 3 * (g + 1) → 3 + b < n → get_or new (3 + b) 0 ≡ tile_byte tiles b
bytes_next tiles old new g n w small ew p h b a l =
    ⊎_elim (λ c. p.before (3 + b) (omega arith) ∙ h b c l) (λ c.
    let e : 3 * g + (b - 3 * g) ≡ b = omega arith in
    subst (λ (q : ℕ). get_or new (3 + q) 0 ≡ tile_byte tiles q) e (at (b - 3 * g) (omega arith) (omega arith)))
    (lt_or_ge b (3 * g))
  where
    at : (j : ℕ) → j < 3 → 3 + 3 * g + j < n → get_or new (3 + (3 * g + j)) 0 ≡ tile_byte tiles (3 * g + j)
    at j k r =
        let e : 3 + (3 * g + j) ≡ 3 + 3 * g + j = omega arith in
        ap (λ (q : ℕ). get_or new q 0) e ∙ p.put j (omega arith) r ∙ ap (byte_of j) ew ∙ three_at tiles g small j k
