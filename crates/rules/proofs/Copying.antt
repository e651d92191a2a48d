-- Bytes copied one after the other.
use mathlib.Core.Path.{◌≡◌, sym, ap, ap₂, ◌∙◌}
use mathlib.Core.List.{List, ◌++◌}
use Prim.Native.Nat.{ℕ, ◌+◌, ◌≤◌, ◌<◌}
use native.Mathlib.Numerals.{add-one}
use native.Mathlib.Omega.{arith}
use lib.ListN.{length, get_or, drop, set}
use lib.Seq.{paste, paste-suc, length-paste, take-length}

pub copy_goes : (d w : List ℕ) (i : ℕ) → i < length d → length d ≤ length w → set (paste w 0 d i) i (get_or d i 0) ≡ paste w 0 d (i + 1)
copy_goes d w i l h =
    ap (λ (j : ℕ). set (paste w 0 d i) j (get_or d i 0)) (sym (from_zero i)) ∙ paste-suc w 0 d i 0 (omega arith) l ∙ ap (paste w 0 d) (sym (add-one i))
  where
    from_zero : (j : ℕ) → 0 + j ≡ j
    from_zero j = omega arith

pub copy_long : (d w : List ℕ) (i : ℕ) → i ≤ length d → length d ≤ length w → length (paste w 0 d i) ≡ length w
copy_long d w i l h = length-paste w 0 d i (omega arith) l

pub copy_ends : (d w : List ℕ) (i : ℕ) → i ≡ length d → paste w 0 d i ≡ d ++ drop (length d) w
copy_ends d w i e =
    ap (paste w 0 d) e ∙ ap₂ (λ (a : List ℕ) (j : ℕ). a ++ drop j w) (take-length d) (from_zero (length d))
  where
    from_zero : (j : ℕ) → 0 + j ≡ j
    from_zero j = omega arith
