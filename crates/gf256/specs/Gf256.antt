-- FORMAT 1: GF(256), polynomials modulo t^8 + t^4 + t^3 + t^2 + 1. α is 02, its inverse is 8E, and it has 255 powers.
use Rattle.std.specs.Prelude.{◌≡◌, ℕ, ◌<◌}
use Rattle.account.specs.Field.{Ops, power}
use Rattle.account.specs.Product.{product, binary}

abbrev pub gf256 : Ops
gf256 = binary 7 0x11D 0x8E 255

-- FORMAT 1.3: the product of two bytes
abbrev pub times : ℕ → ℕ → ℕ
times = product 7 0x11D

-- FORMAT 1.11: r is the logarithm of x
pub record IsLog (x r : ℕ) : Type 0 where
  pub small : r < 255
  pub is : power gf256 2 r ≡ x
