-- A record read: its fields from its bytes.
use mathlib.Core.Path.{◌≡◌, sym, ap, ◌∙◌}
use mathlib.Core.Bool.{Bool}
use mathlib.Core.List.{List}
use Prim.Native.Nat.{ℕ, ◌+◌, ◌*◌, ◌-◌, ◌/◌, ◌%◌, ◌≤◌, ◌<◌}
use native.Mathlib.Nat.{mul-le-mul, le_trans, div-le_self}
use native.Mathlib.Omega.{arith}
use lib.ListN.{length, get_or}
use Rattle.rules.specs.Says.{Says}
use Rattle.rules.proofs.Tests.{says_as}
use Rattle.level.specs.Record.{bit_at, field_at}
use Rattle.level.specs.Strip.{columns}
use Rattle.level.specs.Reading.{Shaped}
use Rattle.level.proofs.Windows.{field_below, within_byte, across}
use Rattle.fields.specs.Head.{Heads}

-- five bits
pub field_5 : (bs : List ℕ) (p : ℕ) → field_at bs p 5 ≤ 31
field_5 bs p = omega (arith, field_below bs p 5)

-- the fields in front
pub heads : (bs : List ℕ) (a b c : ℕ) → a ≡ get_or bs 0 0 → b ≡ get_or bs 1 0 → c ≡ get_or bs 2 0 → a < 256 → b < 256 → c < 256
    → Heads bs (record { version = a / 16; width = a % 16 * 2 + b / 128; height = b / 4 % 32; par = b % 4 * 256 + c })
heads bs a b c ea eb ec ha hb hc = record {
  version = omega (arith, within_byte bs 0 0 4 4 (omega arith));
  width = omega (arith, across bs 0 1 4 4 1 7 (omega arith) (omega arith) (omega arith));
  height = omega (arith, within_byte bs 1 1 5 2 (omega arith));
  par = omega (arith, across bs 1 2 6 2 8 0 (omega arith) (omega arith) (omega arith));
}

-- the blank part
pub blank_is : (b : Bool) (R m : ℕ) (bs : List ℕ) → m ≡ field_at bs 4 5 * field_at bs 9 5 → length bs ≡ R * columns R (3 + (3 * m + 7) / 8)
    → Says b ((p : ℕ) → 24 + 3 * m ≤ p → p < 8 * length bs → bit_at bs p ≡ 0) → Says b (Shaped R bs)
blank_is b R m bs e f =
    says_as ((p : ℕ) → 24 + 3 * m ≤ p → p < 8 * length bs → bit_at bs p ≡ 0) (Shaped R bs) b
    (λ h. record { fits = f ∙ ap (λ (n : ℕ). R * columns R (3 + (3 * n + 7) / 8)) e; filling = λ p a l. h p (omega arith) l })
    (λ s p a l. s.filling p (omega arith) l)

pub misfits : (R m : ℕ) (bs : List ℕ) → m ≡ field_at bs 4 5 * field_at bs 9 5 → (length bs ≡ R * columns R (3 + (3 * m + 7) / 8) → ⊥) → Shaped R bs → ⊥
misfits R m bs e n s = n (s.fits ∙ ap (λ (k : ℕ). R * columns R (3 + (3 * k + 7) / 8)) (sym e))

-- a record's columns are few
pub few : (R m : ℕ) → R ≤ 16 → m ≤ 961 → R * columns R (3 + (3 * m + 7) / 8) ≤ 6064
few R m b h = mul-le-mul {m₂ = 379} b (le_trans (div-le_self (3 + (3 * m + 7) / 8 + (R - 1)) R) (omega arith))
