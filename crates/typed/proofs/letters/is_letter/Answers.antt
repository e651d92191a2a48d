use mathlib.Core.Path.{sym, subst}
use Prim.Native.Nat.{ℕ, ◌≤◌}
use native.Mathlib.Omega.{arith}
use Rattle.typed.specs.Letters.{tile_of}
use Rattle.typed.proofs.Tiles.{no_letter}
use Rattle.typed.proofs.letters.is_letter.Goals as goal

pub returns-in-45 : goal.returns-in-45
unfolding tile_of
returns-in-45 c = subst (λ (n : ℕ). tile_of n ≤ 6) (sym c.in-45.is) (omega arith)

pub returns-in-35 : goal.returns-in-35
unfolding tile_of
returns-in-35 c = subst (λ (n : ℕ). tile_of n ≤ 6) (sym c.in-35.is) (omega arith)

pub returns-in-36 : goal.returns-in-36
unfolding tile_of
returns-in-36 c = subst (λ (n : ℕ). tile_of n ≤ 6) (sym c.in-36.is) (omega arith)

pub returns-in-46 : goal.returns-in-46
unfolding tile_of
returns-in-46 c = subst (λ (n : ℕ). tile_of n ≤ 6) (sym c.in-46.is) (omega arith)

pub returns-in-42 : goal.returns-in-42
unfolding tile_of
returns-in-42 c = subst (λ (n : ℕ). tile_of n ≤ 6) (sym c.in-42.is) (omega arith)

pub returns-in-64 : goal.returns-in-64
unfolding tile_of
returns-in-64 c = subst (λ (n : ℕ). tile_of n ≤ 6) (sym c.in-64.is) (omega arith)

pub returns-in-43 : goal.returns-in-43
unfolding tile_of
returns-in-43 c = subst (λ (n : ℕ). tile_of n ≤ 6) (sym c.in-43.is) (omega arith)

pub returns-in-32 : goal.returns-in-32
unfolding tile_of
returns-in-32 c = subst (λ (n : ℕ). tile_of n ≤ 6) (sym c.in-32.is) (omega arith)

pub returns-in_default : goal.returns-in_default
returns-in_default c =
    λ h. omega (arith, h, no_letter c.args.c ((((((((tt, (λ e. omega arith)), (λ e. omega arith)), (λ e. omega arith)), (λ e. omega arith)), (λ e. omega arith)), (λ e. omega arith)), (λ e. omega arith)), (λ e. omega arith)))
