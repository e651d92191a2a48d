-- Errata applied, one after the other.
use mathlib.Core.Path.{◌≡◌, refl, sym, ap, ap₂, ◌∙◌, subst}
use mathlib.Core.Logic.{◌≢◌}
use mathlib.Core.List.{List, [], ◌∷◌, ◌++◌}
use Prim.Native.Nat.{ℕ, zero, suc, ◌+◌, ◌≤◌, ◌<◌}
use native.Mathlib.Decide.{ℕ_discrete}
use native.Mathlib.Omega.{arith}
use lib.Bits.{bit_xor}
use lib.ListN.{length, get_or, take, set, length-set}
use lib.Seq.{get_or-set_same, get_or-set_other, length-take-le}
use Rattle.account.specs.Errata.{Outside, Distinct, added, only, Applied}
use Rattle.account.proofs.Laws as laws
use Rattle.account.proofs.Solve as solve
use Rattle.account.proofs.Solve.{only_here, only_off}
use Rattle.gf256.specs.Gf256.{gf256}
use Rattle.gf256.proofs.Field256.{field256}
use Rattle.values.specs.declared.Errata.{Errata}
use Rattle.values.specs.Values.{ErrataFor}
use Rattle.marks.proofs.Counting.{take_next}

added_last : (ps vs : List ℕ) (p v j : ℕ) → length vs ≡ length ps → added gf256 (ps ++ p ∷ []) (vs ++ v ∷ []) j ≡ bit_xor (added gf256 ps vs j) (only p v j)
added_last [] [] p v j e = field256.add_comm (only p v j) 0
added_last [] (w ∷ vs) p v j e = absurd (omega arith)
added_last (q ∷ ps) [] p v j e = absurd (omega arith)
added_last (q ∷ ps) (w ∷ vs) p v j e =
    ap (bit_xor (only q w j)) (added_last ps vs p v j (omega arith)) ∙ sym (field256.add_assoc (only q w j) (added gf256 ps vs j) (only p v j))

-- there are as many values as cells
pub alike : (n : ℕ) (e : Errata) → ErrataFor n e → (i : ℕ) → i ≤ e.count → length (take i e.values) ≡ length (take i e.cells)
alike n e F i h =
    length-take-le i e.values (omega (arith, F.few, F.values_room)) ∙ sym (length-take-le i e.cells (omega (arith, F.few, F.room)))

-- a cell that comes later is none of those before
pub outside_before : (xs : List ℕ) (n i : ℕ) → i < n → i < length xs → Distinct (take n xs) → Outside (take i xs) (get_or xs i 0)
outside_before [] n i h l d = absurd (omega arith)
outside_before (x ∷ xs) zero i h l d = absurd (omega arith)
outside_before (x ∷ xs) (suc n) zero h l d = tt
outside_before (x ∷ xs) (suc n) (suc i) h l d = (apart xs n i (omega arith) (omega arith) d.0, outside_before xs n i (omega arith) (omega arith) d.1)
  where
    apart : (ys : List ℕ) (m j : ℕ) → j < m → j < length ys → Outside (take m ys) x → get_or ys j 0 ≢ x
    apart [] m j h l o = absurd (omega arith)
    apart (y ∷ ys) zero j h l o = absurd (omega arith)
    apart (y ∷ ys) (suc m) zero h l o = λ e. o.0 (sym e)
    apart (y ∷ ys) (suc m) (suc j) h l o = apart ys m j (omega arith) (omega arith) o.1

pub applied_none : (w : List ℕ) → Applied gf256 [] [] w w
applied_none w = record { same_length = refl; cell = λ p l. sym (field256.add_zero (get_or w p 0)) }

pub applied_last : (ps vs r w : List ℕ) (p v : ℕ) → length vs ≡ length ps → Outside ps p → p < length r → Applied gf256 ps vs r w
    → Applied gf256 (ps ++ p ∷ []) (vs ++ v ∷ []) r (set w p (bit_xor (get_or r p 0) v))
applied_last ps vs r w p v e o h A = record {
  same_length = length-set w p b ∙ A.same_length;
  cell = λ j l. at j l (ℕ_discrete j p) ∙ ap (bit_xor (get_or r j 0)) (sym (added_last ps vs p v j e));
}
  where
    b : ℕ
    b = bit_xor (get_or r p 0) v

    at : (j : ℕ) → j < length r → Dec (j ≡ p) → get_or (set w p b) j 0 ≡ bit_xor (get_or r j 0) (bit_xor (added gf256 ps vs j) (only p v j))
    at j l (yes q) =
        subst (λ (i : ℕ). get_or (set w p b) i 0 ≡ bit_xor (get_or r i 0) (bit_xor (added gf256 ps vs i) (only p v i))) (sym q)
        (get_or-set_same w p b 0 (omega (arith, A.same_length))
        ∙ ap (bit_xor (get_or r p 0)) (sym (ap₂ bit_xor (solve.added_off gf256 field256 ps vs p o) (only_here p v) ∙ laws.zero_add gf256 field256 v)))
    at j l (no n) =
        get_or-set_other w p j b 0 n ∙ A.cell j l
        ∙ ap (bit_xor (get_or r j 0)) (sym (ap (bit_xor (added gf256 ps vs j)) (only_off p v j n) ∙ field256.add_zero (added gf256 ps vs j)))

-- the first i errata, and the next
pub applied_next : (n : ℕ) (e : Errata) → ErrataFor n e → (i : ℕ) → i < e.count → (r w : List ℕ) → get_or e.cells i 0 < length r
    → Applied gf256 (take i e.cells) (take i e.values) r w
    → Applied gf256 (take (i + 1) e.cells) (take (i + 1) e.values) r
    (set w (get_or e.cells i 0) (bit_xor (get_or w (get_or e.cells i 0) 0) (get_or e.values i 0)))
applied_next n e F i h r w l A =
    subst (λ (ps : List ℕ). Applied gf256 ps (take (i + 1) e.values) r new) (sym (take_next e.cells i (omega (arith, F.few, F.room))))
    (subst (λ (vs : List ℕ). Applied gf256 (take i e.cells ++ p ∷ []) vs r new) (sym (take_next e.values i (omega (arith, F.few, F.values_room))))
    (subst (λ (x : ℕ). Applied gf256 (take i e.cells ++ p ∷ []) (take i e.values ++ v ∷ []) r (set w p (bit_xor x v))) (sym same)
    (applied_last (take i e.cells) (take i e.values) r w p v (alike n e F i (omega arith)) outside l A)))
  where
    p : ℕ
    p = get_or e.cells i 0

    v : ℕ
    v = get_or e.values i 0

    new : List ℕ
    new = set w p (bit_xor (get_or w p 0) v)

    outside : Outside (take i e.cells) p
    outside = outside_before e.cells e.count i h (omega (arith, F.few, F.room)) F.distinct

    -- the cell is as it was
    same : get_or w p 0 ≡ get_or r p 0
    same =
        A.cell p l ∙ ap (bit_xor (get_or r p 0)) (solve.added_off gf256 field256 (take i e.cells) (take i e.values) p outside)
        ∙ field256.add_zero (get_or r p 0)
