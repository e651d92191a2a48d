-- Lists by their elements.
use mathlib.Core.Path.{◌≡◌, refl, ap}
use Prim.Native.Nat.{ℕ, zero, suc, ◌<◌}
use native.Mathlib.Omega.{arith}
use lib.ListN.{length, get_or}
use Rattle.account.specs.Lists.{list_of}

pub length_list_of : (n : ℕ) (f : ℕ → ℕ) → length (list_of n f) ≡ n
unfolding list_of
length_list_of zero f = refl
length_list_of (suc n) f = ap suc (length_list_of n (λ i. f (suc i)))

pub get_d_list_of : (n : ℕ) (f : ℕ → ℕ) (i : ℕ) → i < n → get_or (list_of n f) i 0 ≡ f i
unfolding list_of
get_d_list_of zero f i h = absurd (omega arith)
get_d_list_of (suc n) f zero h = refl
get_d_list_of (suc n) f (suc i) h = get_d_list_of n (λ j. f (suc j)) i (omega arith)
