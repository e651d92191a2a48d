-- A signed exponent, by its sign.
use mathlib.Core.Path.{◌≡◌, refl, sym, subst}
use mathlib.Core.Bool.{true, false}
use Prim.Native.Nat.{◌<◌}
use native.Mathlib.Omega.{arith}
use lib.Dec.{T, ltb→lt}
use lib.IntN.{ℤ, pos, negsuc, nat_abs}
use lib.Signed.{lt_z}
use Rattle.account.specs.Field.{power}
use Rattle.account.specs.Code.{alpha_to}
use Rattle.gf256.specs.Gf256.{gf256}

pub negative : (x : ℤ) → lt_z x (pos 0) ≡ true → power gf256 0x8E (nat_abs x) ≡ alpha_to gf256 x
unfolding alpha_to
negative (pos n) e = let h : n < 0 = ltb→lt n 0 (subst T (sym e) tt) in absurd (omega arith)
negative (negsuc n) e = refl

pub positive : (x : ℤ) → lt_z x (pos 0) ≡ false → power gf256 2 (nat_abs x) ≡ alpha_to gf256 x
unfolding alpha_to
positive (pos n) e = refl
positive (negsuc n) e = absurd (subst T e tt)
