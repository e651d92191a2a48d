-- The numbers of an answer, packed in one as docs/C-INTERFACE.md has it.
use Rattle.std.specs.Prelude.{List, ℕ, ◌+◌, ◌*◌, ◌/◌, ◌%◌, ◌^◌, get_or}
use Rattle.rules.specs.Refusal.{Numbers}
use Rattle.code.specs.Repair.{RepairNumbers}
use Rattle.level.specs.Reading.{ReadNumbers}
use Rattle.pool.specs.Pooled.{PoolNumbers}

-- code in bits 0 to 4, and a length, whether a word is clean, or the tiles of a next board, in bits 48 to 63
abbrev pub packed_length : Numbers → ℕ
packed_length n = n.code % 32 + n.value % 65536 * 2 ^ 48

-- a reader's numbers: code in bits 0 to 4, lane from 5, version from 9, width from 11, height from 16, par from 21, mended from 31, repainted from 37, wear from 44,
-- lanes from 50
abbrev pub packed_read : ReadNumbers → ℕ
packed_read n =
    n.code % 32 + n.lane % 16 * 2 ^ 5 + n.version % 4 * 2 ^ 9 + n.width % 32 * 2 ^ 11 + n.height % 32 * 2 ^ 16 + n.par % 1024 * 2 ^ 21
    + n.mended % 64 * 2 ^ 31 + n.repainted % 128 * 2 ^ 37 + n.wear % 64 * 2 ^ 44 + n.lanes % 32 * 2 ^ 50

-- a repair's numbers, in the places of a reader's
abbrev pub as_read : RepairNumbers → ReadNumbers
as_read n = record { code = n.code; lane = 0; version = 0; width = 0; height = 0; par = 0; mended = n.mended; repainted = n.repainted; wear = 0; lanes = 0 }

abbrev pub packed_repair : RepairNumbers → ℕ
packed_repair n = packed_read (as_read n)

-- the numbers of pooling: code in bits 0 to 4, agreed from 5, taken from 14, conflict from 23, both from 32
abbrev pub packed_pool : PoolNumbers → ℕ
packed_pool n = n.code % 32 + n.agreed % 512 * 2 ^ 5 + n.taken % 512 * 2 ^ 14 + n.conflict % 512 * 2 ^ 23 + n.both % 512 * 2 ^ 32

-- the numbers taken out again, as the header does
abbrev pub unpacked_length : ℕ → Numbers
unpacked_length r = record { code = r % 32; value = r / 2 ^ 48 % 65536 }

abbrev pub unpacked_repair : ℕ → RepairNumbers
unpacked_repair r = record { code = r % 32; mended = r / 2 ^ 31 % 64; repainted = r / 2 ^ 37 % 128 }

abbrev pub unpacked_read : ℕ → ReadNumbers
unpacked_read r = record {
  code = r % 32;
  lane = r / 2 ^ 5 % 16;
  version = r / 2 ^ 9 % 4;
  width = r / 2 ^ 11 % 32;
  height = r / 2 ^ 16 % 32;
  par = r / 2 ^ 21 % 1024;
  mended = r / 2 ^ 31 % 64;
  repainted = r / 2 ^ 37 % 128;
  wear = r / 2 ^ 44 % 64;
  lanes = r / 2 ^ 50 % 32;
}

abbrev pub unpacked_pool : ℕ → PoolNumbers
unpacked_pool r = record {
  code = r % 32;
  agreed = r / 2 ^ 5 % 512;
  taken = r / 2 ^ 14 % 512;
  conflict = r / 2 ^ 23 % 512;
  both = r / 2 ^ 32 % 512;
}

-- five bytes, the first in the lowest place
abbrev pub packed_sums : List ℕ → ℕ
packed_sums s = get_or s 0 0 + get_or s 1 0 * 256 + get_or s 2 0 * 65536 + get_or s 3 0 * 16777216 + get_or s 4 0 * 4294967296
