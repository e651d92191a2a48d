-- A word's remainder: nothing only where the word is clean; and the check bytes.
use mathlib.Core.Path.{◌≡◌, refl, sym, ap, ◌∙◌}
use mathlib.Core.List.{List, [], ◌∷◌, ◌++◌, append_assoc, append-nil}
use Prim.Native.Nat.{ℕ, zero, suc, ◌/◌, ◌%◌, ◌<◌}
use native.Mathlib.Omega.{arith}
use lib.IntN.{ℤ, pos, negsuc}
use lib.Signed.{◌≤ℤ◌, le_z_yes}
use lib.Bits.{bit_xor}
use lib.ListN.{length, get_or}
use Rattle.account.specs.Field.{power, sum_to}
use Rattle.account.specs.Product.{product}
use Rattle.account.specs.Code.{alpha_to, S, Cells, Clean, syndrome}
use Rattle.account.proofs.Laws as laws
use Rattle.account.proofs.Words as words
use Rattle.account.proofs.Words.{value, five}
use Rattle.account.proofs.Decode as decode
use Rattle.gf256.specs.Gf256.{gf256, times}
use Rattle.gf256.proofs.Field256.{field256}
use Rattle.remainder.specs.Remainder.{packed_end, unpacked, horn, horn_all, at5, Moved, Remains, Checks}
use Rattle.remainder.proofs.Kernel.{AllBytes, bytes5, start}

-- ---- sums by Horner's rule

horn_value : (y : ℕ) (w bs : List ℕ) → AllBytes bs → horn_all y (value gf256 y w) bs ≡ value gf256 y (w ++ bs)
horn_value y w [] h = ap (value gf256 y) (sym (append-nil w))
horn_value y w (b ∷ bs) h =
    ap (λ (u : ℕ). horn_all y u bs) (sym (words.value_snoc gf256 field256 y w b h.0)) ∙ horn_value y (w ++ b ∷ []) bs h.1
    ∙ ap (value gf256 y) (append_assoc w (b ∷ []) bs)

pub at5_value : (y r : ℕ) → at5 y r ≡ value gf256 y (unpacked r)
unfolding at5
at5_value y r = ap (λ (u : ℕ). horn_all y u (unpacked r)) (sym (words.value_none gf256 field256 y)) ∙ horn_value y [] (unpacked r) (bytes5 r)

-- the five packed bytes, at a root
pub at5_sum : (j : ℤ) (r : ℕ) → at5 (alpha_to gf256 j) r ≡ S gf256 j (unpacked r)
at5_sum j r = at5_value (alpha_to gf256 j) r ∙ sym (words.sum_value gf256 field256 j (unpacked r))

-- ---- the loop

pub begins : Remains [] 0
unfolding S sum_to alpha_to power product
begins = record {
  small = omega arith;
  sums = five (λ j. S gf256 j (unpacked 0) ≡ S gf256 j []) refl refl refl refl refl;
}

-- more bytes after a word
pub goes_on : (w bs : List ℕ) (r x : ℕ) → AllBytes bs → Remains w r → Moved r bs x → Remains (w ++ bs) x
goes_on w bs r x h R M = record {
  small = M.small;
  sums = λ j l u.
      sym (at5_sum j x) ∙ M.roots j l u
      ∙ ap (λ (v : ℕ). horn_all (alpha_to gf256 j) v bs) (at5_sum j r ∙ R.sums j l u ∙ words.sum_value gf256 field256 j w)
      ∙ horn_value (alpha_to gf256 j) w bs h ∙ sym (words.sum_value gf256 field256 j (w ++ bs));
}

-- and more after these
horn_more : (y u : ℕ) (bs cs : List ℕ) → horn_all y u (bs ++ cs) ≡ horn_all y (horn_all y u bs) cs
horn_more y u [] cs = refl
horn_more y u (b ∷ bs) cs = horn_more y (horn y u b) bs cs

pub moved_none : (r : ℕ) → r < packed_end → Moved r [] r
moved_none r h = record { small = h; roots = λ j l u. refl }

pub moved_more : (r x z : ℕ) (bs cs : List ℕ) → Moved r bs x → Moved x cs z → Moved r (bs ++ cs) z
moved_more r x z bs cs M N = record {
  small = N.small;
  roots = λ j l u.
      N.roots j l u ∙ ap (λ (v : ℕ). horn_all (alpha_to gf256 j) v cs) (M.roots j l u) ∙ sym (horn_more (alpha_to gf256 j) (at5 (alpha_to gf256 j) r) bs cs);
}

-- ---- nothing, and only there

pub cells_of : (bs : List ℕ) → AllBytes bs → Cells gf256 bs
cells_of bs h = record { cell = at bs h }
  where
    at : (l : List ℕ) → AllBytes l → (p : ℕ) → p < length l → get_or l p 0 < 256
    at [] h p k = absurd (omega arith)
    at (b ∷ l) h zero k = h.0
    at (b ∷ l) h (suc p) k = at l h.1 p (omega arith)

sum_none : (j : ℤ) → S gf256 j [] ≡ 0
unfolding S sum_to
sum_none j = refl

none_clean : Clean gf256 (unpacked 0)
none_clean j l u = begins.sums j l u ∙ sum_none j

unpacked_none : (r : ℕ) → Clean gf256 (unpacked r) → unpacked r ≡ unpacked 0
unpacked_none r c =
    decode.same gf256 field256 5 (omega arith) (0 ∷ 1 ∷ 2 ∷ 3 ∷ 4 ∷ []) (unpacked r) (unpacked 0) refl refl
    (omega arith, (omega arith, (omega arith, (omega arith, (omega arith, tt))))) (omega arith) (cells_of (unpacked r) (bytes5 r))
    (cells_of (unpacked 0) (bytes5 0)) c none_clean
    (λ p l o. absurd (nowhere p l o.0 o.1.0 o.1.1.0 o.1.1.1.0 o.1.1.1.1.0))
  where
    nowhere : (p : ℕ) → p < 5 → (p ≡ 0 → ⊥) → (p ≡ 1 → ⊥) → (p ≡ 2 → ⊥) → (p ≡ 3 → ⊥) → (p ≡ 4 → ⊥) → ⊥
    nowhere zero l a b c d e = a refl
    nowhere (suc zero) l a b c d e = b refl
    nowhere (suc (suc zero)) l a b c d e = c refl
    nowhere (suc (suc (suc zero))) l a b c d e = d refl
    nowhere (suc (suc (suc (suc zero)))) l a b c d e = e refl
    nowhere (suc (suc (suc (suc (suc p))))) l a b c d e = omega arith

cut4 : (r : ℕ) → r < packed_end → r / 4294967296 % 256 ≡ 0 → r < 4294967296
cut4 r h e = omega arith

cut3 : (r : ℕ) → r < 4294967296 → r / 16777216 % 256 ≡ 0 → r < 16777216
cut3 r h e = omega arith

cut2 : (r : ℕ) → r < 16777216 → r / 65536 % 256 ≡ 0 → r < 65536
cut2 r h e = omega arith

cut1 : (r : ℕ) → r < 65536 → r / 256 % 256 ≡ 0 → r < 256
cut1 r h e = omega arith

cut0 : (r : ℕ) → r < 256 → r % 256 ≡ 0 → r ≡ 0
cut0 r h e = omega arith

packed_none : (r : ℕ) → r < packed_end → unpacked r ≡ unpacked 0 → r ≡ 0
packed_none r h e = cut0 r (cut1 r (cut2 r (cut3 r (cut4 r h (at 0)) (at 1)) (at 2)) (at 3)) (at 4)
  where
    at : (i : ℕ) → get_or (unpacked r) i 0 ≡ get_or (unpacked 0) i 0
    at i = ap (λ (l : List ℕ). get_or l i 0) e

pub clean_none : (w : List ℕ) (r : ℕ) → Remains w r → Clean gf256 w → r ≡ 0
clean_none w r R c = packed_none r R.small (unpacked_none r (λ j l u. R.sums j l u ∙ c j l u))

pub none_is_clean : (w : List ℕ) (r : ℕ) → Remains w r → r ≡ 0 → Clean gf256 w
none_is_clean w r R e j l u = sym (R.sums j l u) ∙ ap (λ (x : ℕ). S gf256 j (unpacked x)) e ∙ none_clean j l u

-- the syndrome of the remainder is the word's
pub syndrome_same : (w : List ℕ) (r : ℕ) → Remains w r → syndrome gf256 (unpacked r) ≡ syndrome gf256 w
syndrome_same w r R =
    rw (
      R.sums (negsuc 1) (le_z_yes tt) (le_z_yes tt),
      R.sums (negsuc 0) (le_z_yes tt) (le_z_yes tt),
      R.sums (pos 0) (le_z_yes tt) (le_z_yes tt),
      R.sums (pos 1) (le_z_yes tt) (le_z_yes tt),
      R.sums (pos 2) (le_z_yes tt) (le_z_yes tt),
    )

-- ---- the check bytes

-- the remainder of the data with five zeros after it, put in their place, makes the word clean
pub checked : (d : List ℕ) (r x : ℕ) → Remains d r → Moved r (0 ∷ 0 ∷ 0 ∷ 0 ∷ 0 ∷ []) x → Checks d x
unfolding at5
checked d r x R M = record { small = M.small; clean = λ j l u. at j (alpha_to gf256 j) refl (sum j l u) }
  where
    sum : (j : ℤ) → negsuc 1 ≤ℤ j → j ≤ℤ pos 2 → at5 (alpha_to gf256 j) x ≡ horn_all (alpha_to gf256 j) (value gf256 (alpha_to gf256 j) d) (0 ∷ 0 ∷ 0 ∷ 0 ∷ 0 ∷ [])
    sum j l u =
        M.roots j l u
        ∙ ap (λ (v : ℕ). horn_all (alpha_to gf256 j) v (0 ∷ 0 ∷ 0 ∷ 0 ∷ 0 ∷ [])) (at5_sum j r ∙ R.sums j l u ∙ words.sum_value gf256 field256 j d)

    zeros : (y : ℕ) → horn_all y 0 (0 ∷ 0 ∷ 0 ∷ 0 ∷ 0 ∷ []) ≡ 0
    zeros y = simp (laws.zero_mul gf256 field256)

    at : (j : ℤ) (y : ℕ) → y ≡ alpha_to gf256 j → at5 y x ≡ horn_all y (value gf256 y d) (0 ∷ 0 ∷ 0 ∷ 0 ∷ 0 ∷ []) → S gf256 j (d ++ unpacked x) ≡ 0
    at j y ey e =
        words.sum_value gf256 field256 j (d ++ unpacked x) ∙ ap (λ (z : ℕ). value gf256 z (d ++ unpacked x)) (sym ey)
        ∙ sym (horn_value y d (unpacked x) (bytes5 x))
        ∙ start y v (unpacked x) (words.value_in gf256 field256 y d) (bytes5 x)
        ∙ ap (bit_xor (times v (power gf256 y 5)))
        (e ∙ start y v (0 ∷ 0 ∷ 0 ∷ 0 ∷ 0 ∷ []) (words.value_in gf256 field256 y d) (bytes5 0) ∙ ap (bit_xor (times v (power gf256 y 5))) (zeros y)
        ∙ field256.add_zero (times v (power gf256 y 5)))
        ∙ field256.add_self (times v (power gf256 y 5))
      where
        v : ℕ
        v = value gf256 y d
