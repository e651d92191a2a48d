-- A lane gathered by value.
use mathlib.Core.Path.{◌≡◌, sym, ◌∙◌}
use mathlib.Core.List.{List}
use Prim.Native.Nat.{ℕ, ◌+◌, ◌*◌, ◌/◌, ◌≤◌, ◌<◌}
use native.Mathlib.Omega.{arith}
use lib.ListN.{length, get_or, take}
use lib.Seq.{ext_get_or, get_or-take, length-take-le}
use Rattle.account.specs.Lanes.{lane}
use Rattle.account.proofs.Lanes.{length_lane, get_d_lane, columns_of}
use Rattle.code.specs.Lane.{lane_most}
use Rattle.dealt.specs.Lanes.{LaneOf}

-- the first k bytes of lane l of R are in t
pub record Gathering (R l : ℕ) (s t : List ℕ) (k : ℕ) : Type 0 where
  pub room : length t ≡ lane_most
  pub same : (j : ℕ) → j < k → get_or t j 0 ≡ get_or s (R * j + l) 0

module _ (R l n : ℕ) (s : List ℕ) (L : LaneOf R l n s) where
  some : 0 < R
  some = omega (arith, L.inside)

  columns : length s / R ≡ n
  columns = columns_of R some s n L.full

  pub gathered : (t : List ℕ) (k : ℕ) → n ≤ k → Gathering R l s t k → take n t ≡ lane R l s
  gathered t k h G =
      ext_get_or 0 (take n t) (lane R l s) (long ∙ sym (length_lane R some l s ∙ columns)) (λ i b.
      let j : i < n = omega (arith, long) in
      get_or-take n t i 0 j ∙ G.same i (omega arith) ∙ sym (get_d_lane R some l s i (omega (arith, columns))))
    where
      long : length (take n t) ≡ n
      long = length-take-le n t (omega (arith, G.room, L.short))
