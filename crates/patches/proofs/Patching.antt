-- Laws of cells put right.
use mathlib.Core.Path.{◌≡◌, refl, ◌∙◌}
use mathlib.Core.List.{List}
use Prim.Native.Nat.{ℕ, zero, suc, ◌+◌, ◌<◌}
use native.Mathlib.Numerals.{add-one}
use native.Mathlib.Omega.{arith}
use lib.ListN.{length, get_or, set, length-set}
use lib.Seq.{get_or-set_same, get_or-set_other}
use Rattle.patches.specs.Patched.{patched}

pub patched_0 : (cs bs w : List ℕ) → patched cs bs 0 w ≡ w
unfolding patched
patched_0 cs bs w = refl

pub patched_more : (cs bs w : List ℕ) (k : ℕ) → patched cs bs (k + 1) w ≡ set (patched cs bs k w) (get_or cs k 0) (get_or bs k 0)
unfolding patched
patched_more cs bs w k = rw add-one

pub length_patched : (cs bs w : List ℕ) (k : ℕ) → length (patched cs bs k w) ≡ length w
unfolding patched
length_patched cs bs w zero = refl
length_patched cs bs w (suc k) = length-set (patched cs bs k w) (get_or cs k 0) (get_or bs k 0) ∙ length_patched cs bs w k

-- only the first k count
pub patched_same : (cs cs' bs bs' w : List ℕ) (k : ℕ) → ((i : ℕ) → i < k → get_or cs' i 0 ≡ get_or cs i 0) → ((i : ℕ) → i < k → get_or bs' i 0 ≡ get_or bs i 0)
    → patched cs' bs' k w ≡ patched cs bs k w
unfolding patched
patched_same cs cs' bs bs' w zero hc hb = refl
patched_same cs cs' bs bs' w (suc k) hc hb =
    rw (patched_same cs cs' bs bs' w k (λ i l. hc i (omega arith)) (λ i l. hb i (omega arith)), hc k (omega arith), hb k (omega arith))

-- one more after the first k, in room that is left
pub patched_pushed : (cs bs w : List ℕ) (k p b : ℕ) → k < length cs → k < length bs
    → patched (set cs k p) (set bs k b) (k + 1) w ≡ set (patched cs bs k w) p b
patched_pushed cs bs w k p b hc hb =
    patched_more (set cs k p) (set bs k b) w k
    ∙ rw (
      get_or-set_same cs k p 0 hc,
      get_or-set_same bs k b 0 hb,
      patched_same cs (set cs k p) bs (set bs k b) w k
          (λ i l. get_or-set_other cs k i p 0 (λ q. omega (arith, q)))
          (λ i l. get_or-set_other bs k i b 0 (λ q. omega (arith, q))),
    )
