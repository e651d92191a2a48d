-- Lane counts, and the lengths that strips of R lanes have.
use mathlib.Core.Path.{◌≡◌, refl, sym, ap, ◌∙◌, subst}
use mathlib.Core.Logic.{inl, inr}
use Prim.Native.Nat.{ℕ, ◌+◌, ◌*◌, ◌-◌, ◌/◌, ◌%◌, ◌≤◌, ◌<◌}
use native.Mathlib.Nat.{mul-le-mul_left, div-add-mod, mul-add, mul_comm, add-mul, mul-mod_right, div-lt_iff_lt-mul, le-div_iff_mul-le, div-mul-le_self}
use native.Mathlib.Omega.{arith}
use Rattle.rules.specs.Refusal.{Within}
use Rattle.level.specs.Strip.{LaneCount, columns, Legal}
use Rattle.level.proofs.Dealing.{within, columns_more, lanes_short}

-- the counts that can be named are two to sixteen
pub lanes_within : (R : ℕ) → LaneCount R → Within 2 16 R
lanes_within R (inl e) = record { from = omega (arith, e); to = omega (arith, e) }
lanes_within R (inr (inl e)) = record { from = omega (arith, e); to = omega (arith, e) }
lanes_within R (inr (inr (inl e))) = record { from = omega (arith, e); to = omega (arith, e) }
lanes_within R (inr (inr (inr e))) = record { from = omega (arith, e); to = omega (arith, e) }

module _ (R : ℕ) (some : 0 < R) where
  -- data cells for a record of four bytes at least, and less than a column more than for one of 364
  pub legal_is : (n : ℕ) → n % R ≡ 0 → 5 * R + 4 ≤ n → n < 6 * R + 364 → Legal R n
  legal_is n whole least most = record {
    k = n / R - 5;
    from = from;
    to = (le-div_iff_mul-le some).1 (omega (arith, mul_comm (n / R - 5) R, size));
    cells = cells;
  }
    where
      five : 5 ≤ n / R
      five = (le-div_iff_mul-le some).1 (omega arith)

      cells : n ≡ R * (n / R - 5 + 5)
      cells = let e : n / R - 5 + 5 ≡ n / R = omega (arith, five) in omega (arith, div-add-mod n R, ap (λ (q : ℕ). R * q) e)

      size : n ≡ R * (n / R - 5) + R * 5
      size = cells ∙ mul-add R (n / R - 5) 5

      below : 4 + (R - 1) < (n / R - 5 + 1) * R
      below = omega (arith, size, add-mul (n / R - 5) 1 R, mul_comm (n / R - 5) R)

      from : columns R 4 ≤ n / R - 5
      from = let b : columns R 4 < n / R - 5 + 1 = (div-lt_iff_lt-mul some).1 below in omega arith

  module _ (n : ℕ) (l : Legal R n) where
    cells : n ≡ R * l.k + R * 5
    cells = l.cells ∙ mul-add R l.k 5

    pub legal_whole : n % R ≡ 0
    legal_whole = ap (λ (m : ℕ). m % R) l.cells ∙ mul-mod_right R (l.k + 5)

    pub legal_least : 5 * R + 4 ≤ n
    legal_least = omega (arith, cells, within R some 4, mul-le-mul_left R l.from)

    pub legal_most : n < 6 * R + 364
    legal_most = omega (arith, cells, some, div-mul-le_self (364 + (R - 1)) R, mul_comm (columns R 364) R, mul-le-mul_left R l.to)

-- so many cells has the longest strip of each count, and the longest of all
pub cells_most : (R : ℕ) → LaneCount R → (n : ℕ) → Legal R n → n ≤ 448
cells_most R (inl e) n = subst (λ (r : ℕ). Legal r n → n ≤ 448) (sym e) (λ l. omega (arith, l.to, l.cells))
cells_most R (inr (inl e)) n = subst (λ (r : ℕ). Legal r n → n ≤ 448) (sym e) (λ l. omega (arith, l.to, l.cells))
cells_most R (inr (inr (inl e))) n = subst (λ (r : ℕ). Legal r n → n ≤ 448) (sym e) (λ l. omega (arith, l.to, l.cells))
cells_most R (inr (inr (inr e))) n = subst (λ (r : ℕ). Legal r n → n ≤ 448) (sym e) (λ l. omega (arith, l.to, l.cells))

-- the strip of a record of b bytes
module _ (R : ℕ) (lanes : LaneCount R) (b : ℕ) (least : 4 ≤ b) (most : b ≤ 364) where
  two : 2 ≤ R
  two = (lanes_within R lanes).from

  pub columns_few : columns R b + 5 ≤ 187
  columns_few = omega (arith, lanes_short R two, columns_more R (omega (arith, two)) b 364 most)

  pub strip_legal : Legal R (R * (columns R b + 5))
  strip_legal =
      record { k = columns R b; from = columns_more R (omega (arith, two)) 4 b least; to = columns_more R (omega (arith, two)) b 364 most; cells = refl }

  pub strip_short : R * (columns R b + 5) ≤ 448
  strip_short = cells_most R lanes (R * (columns R b + 5)) strip_legal
