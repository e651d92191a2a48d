-- A level is read off its record's fields.
use mathlib.Core.Path.{◌≡◌, refl, sym, ap, ap₂, ◌∙◌}
use Prim.Native.Nat.{ℕ, zero, suc, ◌+◌, ◌*◌, ◌-◌, ◌/◌, ◌%◌, ◌^◌}
use native.Mathlib.Omega.{arith}
use mathlib.Core.List.{List}
use lib.ListN.{length, get_or}
use lib.Seq.{ext_get_or}
use Rattle.level.specs.Level.{Level, IsLevel}
use Rattle.level.specs.Record.{bit_at, field_at, IsRecord}

module _ (xs ys : List ℕ) (same : (q : ℕ) → get_or xs q 0 ≡ get_or ys q 0) where
  pub bit_cong : (p : ℕ) → bit_at xs p ≡ bit_at ys p
  unfolding bit_at
  bit_cong p = ap (λ (x : ℕ). x / 2 ^ (7 - p % 8) % 2) (same (p / 8))

  pub field_cong : (p n : ℕ) → field_at xs p n ≡ field_at ys p n
  unfolding field_at
  field_cong p zero = refl
  field_cong p (suc n) = ap₂ (λ (x y : ℕ). 2 * x + y) (field_cong p n) (bit_cong (p + n))

-- levels that agree in all that they have are one
pub same_level : (l m : Level) → l.version ≡ m.version → l.width ≡ m.width → l.height ≡ m.height → l.par ≡ m.par → l.tiles ≡ m.tiles → l ≡ m
same_level l m v a b c d =
    ap (λ (x : ℕ). of x l.width l.height l.par l.tiles) v
    ∙ ap₂ (λ (x y : ℕ). of m.version x y l.par l.tiles) a b ∙ ap₂ (λ (x : ℕ) (y : List ℕ). of m.version m.width m.height x y) c d
  where
    of : ℕ → ℕ → ℕ → ℕ → List ℕ → Level
    of v w h p ts = record { version = v; width = w; height = h; par = p; tiles = ts }

-- two levels whose records have the same bytes are the same level
pub same_bytes : (l m : Level) (xs ys : List ℕ) → IsLevel l → IsLevel m → IsRecord l xs → IsRecord m ys
    → ((q : ℕ) → get_or xs q 0 ≡ get_or ys q 0) → l ≡ m
same_bytes l m xs ys il im ra rb same =
    let w : l.width ≡ m.width = sym ra.width ∙ field_cong xs ys same 4 5 ∙ rb.width in
    let h : l.height ≡ m.height = sym ra.height ∙ field_cong xs ys same 9 5 ∙ rb.height in
    let n : length l.tiles ≡ length m.tiles = il.count ∙ ap₂ (λ (x y : ℕ). x * y) w h ∙ sym im.count in
    same_level l m (sym ra.version ∙ field_cong xs ys same 0 4 ∙ rb.version) w h
    (sym ra.par ∙ field_cong xs ys same 14 10 ∙ rb.par)
    (ext_get_or 0 l.tiles m.tiles n (λ i k. sym (ra.tile i k) ∙ field_cong xs ys same (24 + 3 * i) 3 ∙ rb.tile i (omega arith)))

-- two levels with the same record are the same level
pub record_injective : (l m : Level) (bs : List ℕ) → IsLevel l → IsLevel m → IsRecord l bs → IsRecord m bs → l ≡ m
record_injective l m bs il im ra rb = same_bytes l m bs bs il im ra rb (λ q. refl)
