-- Two pictures poured into one, cell by cell.
use mathlib.Core.Path.{◌≡◌, refl, sym, ap, ap₂, ◌∙◌, subst}
use mathlib.Core.List.{List}
use Prim.Native.Nat.{ℕ, zero, suc, ◌+◌, ◌-◌, ◌≤◌, ◌<◌}
use Rattle.std.specs.Prelude.{Ok}
use native.Mathlib.Numerals.{add-one}
use native.Mathlib.Omega.{arith}
use lib.ListN.{length, set}
use lib.Seq.{ext_get_or}
use Rattle.rules.specs.Placed.{Placed}
use Rattle.rules.proofs.Placing.{placed_0, placed_more}
use Rattle.account.specs.Lists.{list_of}
use Rattle.account.specs.Reach.{count_to, one_if}
use Rattle.account.proofs.Lists.{length_list_of, get_d_list_of}
use Rattle.pool.specs.Pooled.{Picture, photo, Kind, agreed, taken, conflict, both, mark_of, is, kind_at, byte_at, count_of, pool_numbers, told, AsLong, PoursAs}
use Rattle.pool.proofs.OneCell.{mark_is, one_kind}

-- FORMAT 15.4: the four counts of cells add up
pub total : (k : ℕ → Kind) (n : ℕ)
    → count_to (λ p. is agreed (k p)) n + count_to (λ p. is taken (k p)) n + count_to (λ p. is conflict (k p)) n + count_to (λ p. is both (k p)) n ≡ n
unfolding count_to
total k zero = refl
total k (suc n) = omega (arith, total k n, one_kind (k n))

-- what was placed over all of a buffer
pub placed_all : (n : ℕ) (f : ℕ → ℕ) (o x : List ℕ) → length o ≡ n → Placed 0 n f o x → x ≡ list_of n f
placed_all n f o x e P =
    ext_get_or 0 x (list_of n f) (P.long ∙ e ∙ sym (length_list_of n f))
    (λ p h. P.inside p (omega arith) (omega (arith, P.long)) ∙ sym (get_d_list_of n f p (omega (arith, P.long))))

module _ (a b out : Picture) where
  -- the first i cells are poured
  pub record Pouring (out' : Picture) (t c m i : ℕ) : Type 0 where
    pub within : i ≤ length a.cells
    pub cells : Placed 0 i (byte_at a b) out.cells out'.cells
    pub marks : Placed 0 i (λ p. mark_of (kind_at a b p)) out.marks out'.marks
    pub taken_is : t ≡ count_to (λ p. is taken (kind_at a b p)) i
    pub conflict_is : c ≡ count_to (λ p. is conflict (kind_at a b p)) i
    pub both_is : m ≡ count_to (λ p. is both (kind_at a b p)) i
    pub few : t + c + m ≤ i

  pub pour_starts : Pouring out 0 0 0 0
  unfolding count_to
  pour_starts = record {
    within = omega arith;
    cells = placed_0 0 (byte_at a b) out.cells;
    marks = placed_0 0 (λ p. mark_of (kind_at a b p)) out.marks;
    taken_is = refl;
    conflict_is = refl;
    both_is = refl;
    few = omega arith;
  }

  module _ (long : AsLong a b out) where
    pub pour_goes : (xs ms : List ℕ) (t c m i x t' c' m' : ℕ) → i < length a.cells → x ≡ byte_at a b i
        → t' ≡ one_if (is taken (kind_at a b i)) → c' ≡ one_if (is conflict (kind_at a b i)) → m' ≡ one_if (is both (kind_at a b i))
        → Pouring (photo xs ms) t c m i → Pouring (photo (set xs i x) (set ms i (c' + m'))) (t + t') (c + c') (m + m') (i + 1)
    unfolding count_to
    pour_goes xs ms t c m i x t' c' m' l ex et ec em P = record {
      within = omega arith;
      cells = placed_more 0 (byte_at a b) out.cells xs i x (omega arith) (omega (arith, long.room)) ex P.cells;
      marks =
          placed_more 0 (λ p. mark_of (kind_at a b p)) out.marks ms i (c' + m') (omega arith) (omega (arith, long.room'))
          (ap₂ (λ (y z : ℕ). y + z) ec em ∙ sym (mark_is (kind_at a b i))) P.marks;
      taken_is = ap₂ (λ (y z : ℕ). y + z) P.taken_is et ∙ ap (count_to (λ p. is taken (kind_at a b p))) (sym (add-one i));
      conflict_is = ap₂ (λ (y z : ℕ). y + z) P.conflict_is ec ∙ ap (count_to (λ p. is conflict (kind_at a b p))) (sym (add-one i));
      both_is = ap₂ (λ (y z : ℕ). y + z) P.both_is em ∙ ap (count_to (λ p. is both (kind_at a b p))) (sym (add-one i));
      few = omega (arith, P.few, et, ec, em, one_kind (kind_at a b i));
    }

    pub pour_ends : (xs ms : List ℕ) (t c m i : ℕ) → length a.cells ≤ i → Pouring (photo xs ms) t c m i
        → PoursAs a b (photo xs ms) (record { agreed = length a.cells - (t + c + m); taken = t; conflict = c; both = m })
    pour_ends xs ms t c m i h P = record {
      picture = ap₂ photo (all (byte_at a b) out.cells xs long.room P.cells) (all (λ p. mark_of (kind_at a b p)) out.marks ms long.room' P.marks);
      counts = count;
    }
      where
        e : i ≡ length a.cells
        e = omega (arith, P.within)

        all : (f : ℕ → ℕ) (o x : List ℕ) → length o ≡ length a.cells → Placed 0 i f o x → x ≡ list_of (length a.cells) f
        all f o x q L = placed_all (length a.cells) f o x q (subst (λ (n : ℕ). Placed 0 n f o x) e L)

        taken_end : t ≡ count_of a b taken
        taken_end = P.taken_is ∙ ap (count_to (λ p. is taken (kind_at a b p))) e

        conflict_end : c ≡ count_of a b conflict
        conflict_end = P.conflict_is ∙ ap (count_to (λ p. is conflict (kind_at a b p))) e

        both_end : m ≡ count_of a b both
        both_end = P.both_is ∙ ap (count_to (λ p. is both (kind_at a b p))) e

        count : (k : Kind)
            → told (pool_numbers (Ok (record { agreed = length a.cells - (t + c + m); taken = t; conflict = c; both = m }))) k ≡ count_of a b k
        count agreed = omega (arith, taken_end, conflict_end, both_end, total (kind_at a b) (length a.cells))
        count taken = taken_end
        count conflict = conflict_end
        count both = both_end
