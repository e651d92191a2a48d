-- The numbers of an answer have room in the packed number.
use mathlib.Core.Path.{◌≡◌, ap, ap₂, ◌∙◌}
use Prim.Native.Nat.{ℕ, ◌+◌, ◌*◌, ◌/◌, ◌%◌, ◌^◌, ◌<◌}
use native.Mathlib.Omega.{arith}
use Rattle.rules.specs.Refusal.{Numbers}
use Rattle.code.specs.Repair.{RepairNumbers}
use Rattle.level.specs.Reading.{ReadNumbers}
use Rattle.pool.specs.Pooled.{PoolNumbers}
use Rattle.packing.specs.Packed.{packed_length, packed_read, as_read, packed_repair, packed_pool, unpacked_length, unpacked_read, unpacked_repair, unpacked_pool}

-- ---- packing and unpacking lose nothing

pub record Room (n : Numbers) : Type 0 where
  pub code : n.code < 32
  pub value : n.value < 65536

pub record ReadRoom (n : ReadNumbers) : Type 0 where
  pub code : n.code < 32
  pub lane : n.lane < 16
  pub version : n.version < 4
  pub width : n.width < 32
  pub height : n.height < 32
  pub par : n.par < 1024
  pub mended : n.mended < 64
  pub repainted : n.repainted < 128
  pub wear : n.wear < 64
  pub lanes : n.lanes < 32

pub record PoolRoom (n : PoolNumbers) : Type 0 where
  pub code : n.code < 32
  pub agreed : n.agreed < 512
  pub taken : n.taken < 512
  pub conflict : n.conflict < 512
  pub both : n.both < 512

abbrev numbers : ℕ → ℕ → Numbers
numbers c v = record { code = c; value = v }

pub back_length : (n : Numbers) → Room n → unpacked_length (packed_length n) ≡ n
back_length n h = ap₂ (λ (c v : ℕ). numbers c v) low high
  where
    low : (n.code % 32 + n.value % 65536 * 2 ^ 48) % 32 ≡ n.code
    low = omega (arith, h.code)

    high : (n.code % 32 + n.value % 65536 * 2 ^ 48) / 2 ^ 48 % 65536 ≡ n.value
    high = omega (arith, h.code, h.value)

abbrev reads : ℕ → ℕ → ℕ → ℕ → ℕ → ℕ → ℕ → ℕ → ℕ → ℕ → ReadNumbers
reads c l n w h p m d v r = record {
  code = c;
  lane = l;
  version = n;
  width = w;
  height = h;
  par = p;
  mended = m;
  repainted = d;
  wear = v;
  lanes = r;
}

module _ (n : ReadNumbers) (h : ReadRoom n) where
  -- what is packed, with no remainders taken
  plain : packed_read n
      ≡ n.code + n.lane * 32 + n.version * 512 + n.width * 2048 + n.height * 65536 + n.par * 2097152 + n.mended * 2147483648 + n.repainted * 137438953472
      + n.wear * 17592186044416 + n.lanes * 1125899906842624
  plain = omega (arith, h.code, h.lane, h.version, h.width, h.height, h.par, h.mended, h.repainted, h.wear, h.lanes)

  pub back_read : unpacked_read (packed_read n) ≡ n
  back_read =
      ap₂ (λ (c l : ℕ). reads c l (packed_read n / 2 ^ 9 % 4) (packed_read n / 2 ^ 11 % 32) (packed_read n / 2 ^ 16 % 32) (packed_read n / 2 ^ 21 % 1024)
      (packed_read n / 2 ^ 31 % 64) (packed_read n / 2 ^ 37 % 128) (packed_read n / 2 ^ 44 % 64) (packed_read n / 2 ^ 50 % 32)) c l
      ∙ ap₂ (λ (x w : ℕ). reads n.code n.lane x w (packed_read n / 2 ^ 16 % 32) (packed_read n / 2 ^ 21 % 1024) (packed_read n / 2 ^ 31 % 64)
      (packed_read n / 2 ^ 37 % 128) (packed_read n / 2 ^ 44 % 64) (packed_read n / 2 ^ 50 % 32)) x w
      ∙ ap₂ (λ (k p : ℕ). reads n.code n.lane n.version n.width k p (packed_read n / 2 ^ 31 % 64) (packed_read n / 2 ^ 37 % 128)
      (packed_read n / 2 ^ 44 % 64) (packed_read n / 2 ^ 50 % 32)) k p
      ∙ ap₂ (λ (m d : ℕ). reads n.code n.lane n.version n.width n.height n.par m d (packed_read n / 2 ^ 44 % 64) (packed_read n / 2 ^ 50 % 32)) m d
      ∙ ap₂ (reads n.code n.lane n.version n.width n.height n.par n.mended n.repainted) v r
    where
      c : packed_read n % 32 ≡ n.code
      c = ap (λ (x : ℕ). x % 32) plain ∙ omega (arith, h.code)

      l : packed_read n / 2 ^ 5 % 16 ≡ n.lane
      l = ap (λ (x : ℕ). x / 32 % 16) plain ∙ omega (arith, h.code, h.lane)

      x : packed_read n / 2 ^ 9 % 4 ≡ n.version
      x = ap (λ (y : ℕ). y / 512 % 4) plain ∙ omega (arith, h.code, h.lane, h.version)

      w : packed_read n / 2 ^ 11 % 32 ≡ n.width
      w = ap (λ (x : ℕ). x / 2048 % 32) plain ∙ omega (arith, h.code, h.lane, h.version, h.width)

      k : packed_read n / 2 ^ 16 % 32 ≡ n.height
      k = ap (λ (x : ℕ). x / 65536 % 32) plain ∙ omega (arith, h.code, h.lane, h.version, h.width, h.height)

      p : packed_read n / 2 ^ 21 % 1024 ≡ n.par
      p = ap (λ (x : ℕ). x / 2097152 % 1024) plain ∙ omega (arith, h.code, h.lane, h.version, h.width, h.height, h.par)

      m : packed_read n / 2 ^ 31 % 64 ≡ n.mended
      m = ap (λ (x : ℕ). x / 2147483648 % 64) plain ∙ omega (arith, h.code, h.lane, h.version, h.width, h.height, h.par, h.mended)

      d : packed_read n / 2 ^ 37 % 128 ≡ n.repainted
      d =
          ap (λ (x : ℕ). x / 137438953472 % 128) plain
          ∙ omega (arith, h.code, h.lane, h.version, h.width, h.height, h.par, h.mended, h.repainted)

      v : packed_read n / 2 ^ 44 % 64 ≡ n.wear
      v =
          ap (λ (x : ℕ). x / 17592186044416 % 64) plain
          ∙ omega (arith, h.code, h.lane, h.version, h.width, h.height, h.par, h.mended, h.repainted, h.wear)

      r : packed_read n / 2 ^ 50 % 32 ≡ n.lanes
      r =
          ap (λ (x : ℕ). x / 1125899906842624 % 32) plain
          ∙ omega (arith, h.code, h.lane, h.version, h.width, h.height, h.par, h.mended, h.repainted, h.wear, h.lanes)

-- a repair's numbers are taken out of what a reader's would be
pub back_repair : (n : RepairNumbers) → n.code < 32 → n.mended < 64 → n.repainted < 128 → unpacked_repair (packed_repair n) ≡ n
back_repair n c m d = ap (λ (x : ReadNumbers). repair x.code x.mended x.repainted) (back_read (as_read n) room)
  where
    repair : ℕ → ℕ → ℕ → RepairNumbers
    repair i j k = record { code = i; mended = j; repainted = k }

    room : ReadRoom (as_read n)
    room = record {
      code = c;
      lane = omega arith;
      version = omega arith;
      width = omega arith;
      height = omega arith;
      par = omega arith;
      mended = m;
      repainted = d;
      wear = omega arith;
      lanes = omega arith;
    }

abbrev counts : ℕ → ℕ → ℕ → ℕ → ℕ → PoolNumbers
counts c a t k m = record { code = c; agreed = a; taken = t; conflict = k; both = m }

module _ (n : PoolNumbers) (h : PoolRoom n) where
  plain_pool : packed_pool n ≡ n.code + n.agreed * 32 + n.taken * 16384 + n.conflict * 8388608 + n.both * 4294967296
  plain_pool = omega (arith, h.code, h.agreed, h.taken, h.conflict, h.both)

  pub back_pool : unpacked_pool (packed_pool n) ≡ n
  back_pool =
      ap₂ (λ (x y : ℕ). counts x y (packed_pool n / 2 ^ 14 % 512) (packed_pool n / 2 ^ 23 % 512) (packed_pool n / 2 ^ 32 % 512)) c a
      ∙ ap₂ (λ (x y : ℕ). counts n.code n.agreed x y (packed_pool n / 2 ^ 32 % 512)) t k
      ∙ ap (counts n.code n.agreed n.taken n.conflict) m
    where
      c : packed_pool n % 32 ≡ n.code
      c = ap (λ (x : ℕ). x % 32) plain_pool ∙ omega (arith, h.code)

      a : packed_pool n / 2 ^ 5 % 512 ≡ n.agreed
      a = ap (λ (x : ℕ). x / 32 % 512) plain_pool ∙ omega (arith, h.code, h.agreed)

      t : packed_pool n / 2 ^ 14 % 512 ≡ n.taken
      t = ap (λ (x : ℕ). x / 16384 % 512) plain_pool ∙ omega (arith, h.code, h.agreed, h.taken)

      k : packed_pool n / 2 ^ 23 % 512 ≡ n.conflict
      k = ap (λ (x : ℕ). x / 8388608 % 512) plain_pool ∙ omega (arith, h.code, h.agreed, h.taken, h.conflict)

      m : packed_pool n / 2 ^ 32 % 512 ≡ n.both
      m = ap (λ (x : ℕ). x / 4294967296 % 512) plain_pool ∙ omega (arith, h.code, h.agreed, h.taken, h.conflict, h.both)
