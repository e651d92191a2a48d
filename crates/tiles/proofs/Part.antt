-- A record's tiles are those of its part from byte 3.
use mathlib.Core.Path.{◌≡◌, sym, ap, ◌∙◌}
use mathlib.Core.List.{List}
use Prim.Native.Nat.{ℕ, ◌+◌, ◌*◌, ◌-◌, ◌<◌}
use native.Mathlib.Omega.{arith}
use lib.ListN.{length, get_or, take, drop, length-drop}
use lib.Seq.{get_or-drop, take_all, ext_get_or}
use Rattle.account.proofs.Lists.{length_list_of, get_d_list_of}
use Rattle.level.specs.Record.{bit_at, field_at}
use Rattle.level.specs.Reading.{tiles_in}
use Rattle.level.proofs.Judged.{length_tiles, get_d_tiles}
use Rattle.level.proofs.Windows.{bit_part, field_part}
use Rattle.tiles.specs.Part.{tiles_from}

pub length_tiles_from : (part : List ℕ) (m : ℕ) → length (tiles_from part m) ≡ m
unfolding tiles_from
length_tiles_from part m = length_list_of m (λ i. field_at part (3 * i) 3)

pub get_d_tiles_from : (part : List ℕ) (m i : ℕ) → i < m → get_or (tiles_from part m) i 0 ≡ field_at part (3 * i) 3
unfolding tiles_from
get_d_tiles_from part m i h = get_d_list_of m (λ k. field_at part (3 * k) 3) i h

-- the part as it is lent
module _ (bs : List ℕ) where
  abbrev pub part_of : List ℕ
  part_of = take (length bs - 3) (drop 3 bs)

  all : part_of ≡ drop 3 bs
  all = take_all (length bs - 3) (drop 3 bs) (omega (arith, length-drop 3 bs))

  pub length_part : length part_of ≡ length bs - 3
  length_part = ap length all ∙ length-drop 3 bs

  pub part_same : (q : ℕ) → get_or part_of q 0 ≡ get_or bs (3 + q) 0
  part_same q = ap (λ (s : List ℕ). get_or s q 0) all ∙ get_or-drop 3 bs q 0

  pub bit_on : (p : ℕ) → bit_at part_of p ≡ bit_at bs (24 + p)
  bit_on p = bit_part bs part_of 3 part_same p

  pub tiles_from_part : (m : ℕ) → tiles_from part_of m ≡ tiles_in bs m
  tiles_from_part m =
      ext_get_or 0 (tiles_from part_of m) (tiles_in bs m) (length_tiles_from part_of m ∙ sym (length_tiles bs m)) (λ i l.
      let k : i < m = omega (arith, length_tiles_from part_of m) in
      get_d_tiles_from part_of m i k ∙ field_part bs part_of 3 part_same (3 * i) 3 ∙ sym (get_d_tiles bs m i k))
