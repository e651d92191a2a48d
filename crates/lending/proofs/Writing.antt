-- A record written: its fields, then its tiles.
use mathlib.Core.Path.{◌≡◌, refl, sym, ap, ap₂, ◌∙◌, subst}
use mathlib.Core.Logic.{⊎_elim}
use mathlib.Core.List.{List, ◌++◌}
use Prim.Native.Nat.{ℕ, zero, suc, ◌+◌, ◌*◌, ◌-◌, ◌/◌, ◌%◌, ◌^◌, ◌≤◌, ◌<◌}
use native.Mathlib.Omega.{arith}
use lib.ListN.{length, get_or, take, drop}
use lib.Seq.{sets, take_at, drop_at}
use Rattle.account.specs.Lists.{list_of}
use Rattle.account.proofs.Lanes.{get_d_past}
use Rattle.account.proofs.Lists.{length_list_of}
use Rattle.level.specs.Level.{Level, code_most, AllTiles, Coded, IsLevel}
use Rattle.level.specs.Record.{record_length, IsRecord}
use Rattle.level.proofs.Written.{digit, record_bit, record_byte, record_of}
use Rattle.rules.proofs.Numbers.{lt_or_ge}
use Rattle.level.proofs.Versions.{code_most_is}
use Rattle.level.proofs.RecordOf.{bit_1, bit_2, bit_3, bit_4, bit_5, record_is}
use Rattle.level.proofs.Windows.{run, run_append, window}
use Rattle.boards.specs.Pack.{three_of, tile_byte, PackedIn}
use Rattle.tiles.proofs.Putting.{sets_at, sets_past, filled}
use Rattle.fields.specs.declared.head.Head.{Head}
use Rattle.lending.specs.Lending.{head_bytes, RecordPut}

-- past the tiles are zeros
pub codes_all : (v : ℕ) (ts : List ℕ) → AllTiles v ts → (q : ℕ) → get_or ts q 0 ≤ code_most v
codes_all v ts f q = ⊎_elim (λ h. f q h) (λ h. omega (arith, get_d_past ts q h)) (lt_or_ge q (length ts))

-- the fields of a level
abbrev fields_of : Level → Head
fields_of l = record { version = l.version; width = l.width; height = l.height; par = l.par }

module _ (l : Level) where
  join : (p m n a b : ℕ) → run (record_bit l) p m ≡ a → run (record_bit l) (p + m) n ≡ b → run (record_bit l) p (m + n) ≡ a * 2 ^ n + b
  join p m n a b ea eb = run_append (record_bit l) p m n ∙ ap₂ (λ (x y : ℕ). x * 2 ^ n + y) ea eb

  -- n bits of tile t, after its first k and before its last j
  tile_run : (p t k n j v : ℕ) → p ≡ 24 + (3 * t + k) → k + n + j ≡ 3 → get_or l.tiles t 0 / 2 ^ j % 2 ^ n ≡ v → run (record_bit l) p n ≡ v
  tile_run p t k n j v ep e is = window (λ i. record_bit l (p + i)) 3 (get_or l.tiles t 0) k n j e at ∙ is
    where
      at : (i : ℕ) → i < n → record_bit l (p + i) ≡ digit 3 (get_or l.tiles t 0) (k + i)
      at i m =
          let x : (p + i - 24) / 3 ≡ t = omega arith in
          let y : (p + i - 24) % 3 ≡ k + i = omega arith in
          bit_5 l (p + i) (omega arith) ∙ ap₂ (λ (a b : ℕ). digit 3 (get_or l.tiles a 0) b) x y

  -- eight tiles make three bytes
  module _ (g : ℕ) (small : (q : ℕ) → get_or l.tiles q 0 ≤ 7) where
    abbrev tile : ℕ → ℕ
    tile j = get_or l.tiles (8 * g + j) 0

    whole : (t : ℕ) → tile t / 2 ^ 0 % 2 ^ 3 ≡ tile t
    whole t = omega (arith, small (8 * g + t))

    pub first_byte : record_byte l (3 + 3 * g) ≡ tile 0 * 32 + tile 1 * 4 + tile 2 / 2
    unfolding record_byte
    first_byte =
        join (8 * (3 + 3 * g)) 3 5 (tile 0) (tile 1 * 4 + (tile 2 / 2))
        (tile_run (8 * (3 + 3 * g)) (8 * g + 0) 0 3 0 (tile 0) (omega arith) (omega arith) (whole 0))
        (join (8 * (3 + 3 * g) + 3) 3 2 (tile 1) (tile 2 / 2)
        (tile_run (8 * (3 + 3 * g) + 3) (8 * g + 1) 0 3 0 (tile 1) (omega arith) (omega arith) (whole 1))
        (tile_run (8 * (3 + 3 * g) + 3 + 3) (8 * g + 2) 0 2 1 (tile 2 / 2) (omega arith) (omega arith) (omega (arith, small (8 * g + 2)))))
        ∙ omega arith

    pub second_byte : record_byte l (3 + (3 * g + 1)) ≡ tile 2 % 2 * 128 + tile 3 * 16 + tile 4 * 2 + tile 5 / 4
    unfolding record_byte
    second_byte =
        join (8 * (3 + (3 * g + 1))) 1 7 (tile 2 % 2) (tile 3 * 16 + (tile 4 * 2 + (tile 5 / 4)))
        (tile_run (8 * (3 + (3 * g + 1))) (8 * g + 2) 2 1 0 (tile 2 % 2) (omega arith) (omega arith) (omega arith))
        (join (8 * (3 + (3 * g + 1)) + 1) 3 4 (tile 3) (tile 4 * 2 + (tile 5 / 4))
        (tile_run (8 * (3 + (3 * g + 1)) + 1) (8 * g + 3) 0 3 0 (tile 3) (omega arith) (omega arith) (whole 3))
        (join (8 * (3 + (3 * g + 1)) + 1 + 3) 3 1 (tile 4) (tile 5 / 4)
        (tile_run (8 * (3 + (3 * g + 1)) + 1 + 3) (8 * g + 4) 0 3 0 (tile 4) (omega arith) (omega arith) (whole 4))
        (tile_run (8 * (3 + (3 * g + 1)) + 1 + 3 + 3) (8 * g + 5) 0 1 2 (tile 5 / 4) (omega arith) (omega arith) (omega (arith, small (8 * g + 5))))))
        ∙ omega arith

    pub third_byte : record_byte l (3 + (3 * g + 2)) ≡ tile 5 % 4 * 64 + tile 6 * 8 + tile 7
    unfolding record_byte
    third_byte =
        join (8 * (3 + (3 * g + 2))) 2 6 (tile 5 % 4) (tile 6 * 8 + (tile 7))
        (tile_run (8 * (3 + (3 * g + 2))) (8 * g + 5) 1 2 0 (tile 5 % 4) (omega arith) (omega arith) (omega arith))
        (join (8 * (3 + (3 * g + 2)) + 2) 3 3 (tile 6) (tile 7)
        (tile_run (8 * (3 + (3 * g + 2)) + 2) (8 * g + 6) 0 3 0 (tile 6) (omega arith) (omega arith) (whole 6))
        (tile_run (8 * (3 + (3 * g + 2)) + 2 + 3) (8 * g + 7) 0 3 0 (tile 7) (omega arith) (omega arith) (whole 7)))
        ∙ omega arith

  -- the bytes in front of the tiles
  module _ (v : l.version ≤ 15) (w : l.width ≤ 31) (h : l.height ≤ 31) (p : l.par ≤ 1023) where
    -- n bits of a field v of N bits that starts with bit o
    in_field : (N v o q k n j r : ℕ) → ((i : ℕ) → o ≤ i → i < o + N → record_bit l i ≡ digit N v (i - o)) → q ≡ o + k → k + n + j ≡ N
        → v / 2 ^ j % 2 ^ n ≡ r → run (record_bit l) q n ≡ r
    in_field N v o q k n j r f eq e is =
        window (λ i. record_bit l (q + i)) N v k n j e
        (λ i m. let z : q + i - o ≡ k + i = omega arith in f (q + i) (omega arith) (omega arith) ∙ ap (digit N v) z) ∙ is

    wide : (q k n j r : ℕ) → q ≡ 4 + k → k + n + j ≡ 5 → l.width / 2 ^ j % 2 ^ n ≡ r → run (record_bit l) q n ≡ r
    wide q k n j r = in_field 5 l.width 4 q k n j r (λ i a b. bit_2 l i a b)

    high : (q k n j r : ℕ) → q ≡ 9 + k → k + n + j ≡ 5 → l.height / 2 ^ j % 2 ^ n ≡ r → run (record_bit l) q n ≡ r
    high q k n j r = in_field 5 l.height 9 q k n j r (λ i a b. bit_3 l i a b)

    paired : (q k n j r : ℕ) → q ≡ 14 + k → k + n + j ≡ 10 → l.par / 2 ^ j % 2 ^ n ≡ r → run (record_bit l) q n ≡ r
    paired q k n j r = in_field 10 l.par 14 q k n j r (λ i a b. bit_4 l i a b)

    head_0 : record_byte l 0 ≡ l.version * 16 + l.width / 2
    unfolding record_byte
    head_0 =
        join 0 4 4 l.version (l.width / 2)
        (in_field 4 l.version 0 0 0 4 0 l.version (λ i a b. let z : i ≡ i - 0 = omega arith in bit_1 l i b ∙ ap (digit 4 l.version) z) (omega arith)
        (omega arith) (omega (arith, v)))
        (wide 4 0 4 1 (l.width / 2) (omega arith) (omega arith) (omega arith))

    head_1 : record_byte l 1 ≡ l.width % 2 * 128 + l.height * 4 + l.par / 256
    unfolding record_byte
    head_1 =
        join 8 1 7 (l.width % 2) (l.height * 4 + l.par / 256)
        (wide 8 4 1 0 (l.width % 2) (omega arith) (omega arith) (omega arith))
        (join 9 5 2 l.height (l.par / 256)
        (high 9 0 5 0 l.height (omega arith) (omega arith) (omega arith))
        (paired 14 0 2 8 (l.par / 256) (omega arith) (omega arith) (omega arith)))
        ∙ omega arith

    head_2 : record_byte l 2 ≡ l.par % 256
    unfolding record_byte
    head_2 = paired 16 2 8 0 (l.par % 256) (omega arith) (omega arith) (omega arith)

    abbrev head : List ℕ
    head = head_bytes (fields_of l)

    head_is : (i : ℕ) → i < 3 → get_or head i 0 ≡ record_byte l i
    head_is zero h = sym head_0
    head_is (suc zero) h = sym head_1
    head_is (suc (suc zero)) h = sym head_2
    head_is (suc (suc (suc i))) h = absurd (omega arith)

    head_in : (o : List ℕ) → 3 ≤ length o → (i : ℕ) → i < 3 → get_or (sets o 0 head) i 0 ≡ record_byte l i
    head_in o room i h = let e : i ≡ 0 + i = omega arith in ap (λ (k : ℕ). get_or (sets o 0 head) k 0) e ∙ sets_at o head 0 room i h ∙ head_is i h

    head_out : (o : List ℕ) → 3 ≤ length o → (i : ℕ) → 3 ≤ i → get_or (sets o 0 head) i 0 ≡ get_or o i 0
    head_out o room i h = sets_past o head 0 room i h

-- the same, byte for byte
pub byte_is : (l : Level) (b : ℕ) → Coded l → tile_byte l.tiles b ≡ record_byte l (3 + b)
byte_is l b codes = go (b % 3) refl
  where
    small : (q : ℕ) → get_or l.tiles q 0 ≤ 7
    small q = omega (arith, codes_all l.version l.tiles codes q, code_most_is l.version)

    same : (i : ℕ) → three_of (λ j. get_or l.tiles (b / 3 * 8 + j) 0) i ≡ three_of (λ j. get_or l.tiles (8 * (b / 3) + j) 0) i
    same i = let z : b / 3 * 8 ≡ 8 * (b / 3) = omega arith in ap (λ (k : ℕ). three_of (λ j. get_or l.tiles (k + j) 0) i) z

    at : (i : ℕ) → b ≡ 3 * (b / 3) + i → record_byte l (3 + (3 * (b / 3) + i)) ≡ record_byte l (3 + b)
    at i e = ap (λ (k : ℕ). record_byte l (3 + k)) (sym e)

    go : (i : ℕ) → b % 3 ≡ i → three_of (λ j. get_or l.tiles (b / 3 * 8 + j) 0) i ≡ record_byte l (3 + b)
    go zero e =
        let z : 3 * (b / 3) ≡ 3 * (b / 3) + 0 = omega arith in
        same 0 ∙ sym (first_byte l (b / 3) small) ∙ ap (λ (k : ℕ). record_byte l (3 + k)) z ∙ at 0 (omega arith)
    go (suc zero) e = same 1 ∙ sym (second_byte l (b / 3) small) ∙ at 1 (omega arith)
    go (suc (suc zero)) e = same 2 ∙ sym (third_byte l (b / 3) small) ∙ at 2 (omega arith)
    go (suc (suc (suc i))) e = absurd (omega arith)

-- the record in front, and what is past it
module _ (l : Level) (il : IsLevel l) (old new : List ℕ) (n : ℕ) (e : n ≡ record_length l.width l.height) where
  front_put : n ≤ 364 → new ≡ list_of n (record_byte l) ++ drop n old → RecordPut l old new n
  unfolding record_of
  front_put short is = record {
    size = e;
    short = short;
    is_record =
        subst (IsRecord l) (sym (ap (take n) is ∙ take_at (list_of n (record_byte l)) (drop n old) n size ∙ ap (λ (k : ℕ). list_of k (record_byte l)) e))
        (record_is l il.ranged il.count il.codes);
    past = ap (drop n) is ∙ drop_at (list_of n (record_byte l)) (drop n old) n size;
  }
    where
      size : length (list_of n (record_byte l)) ≡ n
      size = length_list_of n (record_byte l)

  -- the fields first, then the tiles
  module _ (room : n ≤ length old) (p : PackedIn l.tiles (sets old 0 (head_bytes (fields_of l))) new) where
    v : l.version ≤ 15
    v = omega (arith, il.ranged.known.to)

    long : 3 ≤ length old
    long = omega (arith, e)

    at : (i : ℕ) → i < n → get_or new i 0 ≡ record_byte l i
    at i h =
        ⊎_elim (λ a. p.before i a ∙ head_in l v il.ranged.sized.not_wider il.ranged.sized.not_higher il.ranged.par_small old long i a) (λ b.
        let k : 3 + (i - 3) ≡ i = omega arith in
        subst (λ (q : ℕ). get_or new q 0 ≡ record_byte l q) k (p.put (i - 3) (omega (arith, e, il.count)) ∙ byte_is l (i - 3) il.codes)) (lt_or_ge i 3)

    past : (i : ℕ) → n ≤ i → get_or new i 0 ≡ get_or old i 0
    past i h =
        p.past i (omega (arith, e, il.count))
        ∙ head_out l v il.ranged.sized.not_wider il.ranged.sized.not_higher il.ranged.par_small old long i (omega (arith, e))

    pub record_put : n ≤ 364 → length new ≡ length old → RecordPut l old new n
    record_put short same = front_put short (filled (record_byte l) old new n room same at past)
