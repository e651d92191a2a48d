-- The table is what its bytes have, one by one.
use mathlib.Core.Path.{◌≡◌}
use mathlib.Core.List.{List, [], ◌∷◌, map}
use Prim.Native.Nat.{ℕ, zero, suc, ◌<◌}
use native.Mathlib.Omega.{arith}
use lib.ListN.{get_or}
use Rattle.std.specs.List.{range_with_len}
use Rattle.std.proofs.lemmas.List.FromFn.{get_or-map-range_with_len}
use Rattle.spreads.specs.Spread.{first_of, second_of, third_of, bits_of}

abbrev pub row : (ℕ → ℕ) → List ℕ
row f = map f (range_with_len 0 256)

pub spread_at : (k x y : ℕ) → k < 3 → x < 256 → y ≡ x → get_or (get_or (row first_of ∷ row second_of ∷ row third_of ∷ []) k []) y 0 ≡ bits_of k x
spread_at zero x y h l e = get_or-map-range_with_len first_of 0 256 y x 0 (omega arith) (omega arith)
spread_at (suc zero) x y h l e = get_or-map-range_with_len second_of 0 256 y x 0 (omega arith) (omega arith)
spread_at (suc (suc zero)) x y h l e = get_or-map-range_with_len third_of 0 256 y x 0 (omega arith) (omega arith)
spread_at (suc (suc (suc k))) x y h l e = absurd (omega arith)
