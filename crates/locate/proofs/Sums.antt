-- The filter on five sums, and cells filtered out one after the other.
use mathlib.Core.Path.{◌≡◌, refl, sym, ap, ap₂, ◌∙◌, subst}
use mathlib.Core.List.{List, [], ◌∷◌, ◌++◌, map}
use Prim.Native.Nat.{ℕ, suc, ◌+◌, ◌<◌}
use native.Mathlib.Numerals.{add-one}
use native.Mathlib.Omega.{arith}
use native.Mathlib.Decide.{ℕ_discrete}
use lib.Bits.{bit_xor}
use lib.ListN.{length, get_or, take, length-append}
use lib.Seq.{take-suc}
use Rattle.account.specs.Field.{power}
use Rattle.account.specs.Errata.{filt}
use Rattle.account.specs.Search.{Zeros}
use Rattle.account.proofs.Filter as filter
use Rattle.account.proofs.Locate as locate
use Rattle.gf256.specs.Gf256.{gf256, times}
use Rattle.gf256.specs.Tables.{place_of}
use Rattle.gf256.proofs.Field256.{field256}
use Rattle.values.specs.Values.{at}
use Rattle.locate.specs.Places.{Filtered, Ratio, Climbs, Bytes5, Drained}

pub filter_one : (x : ℕ) (s r : List ℕ) → Filtered x s r → (m : ℕ) → m < 4 → at r m ≡ filt gf256 (x ∷ []) (at s) m
filter_one x s r f m l = f.sum m l

-- a test of what is left, as a test of the filter
pub zeros_to : (k : ℕ) (f g : ℕ → ℕ) → ((m : ℕ) → m < k → f m ≡ g m) → Zeros k f → Zeros k g
zeros_to k f g e z m l = sym (e m l) ∙ z m l

pub zeros_from : (k : ℕ) (f g : ℕ → ℕ) → ((m : ℕ) → m < k → f m ≡ g m) → (Zeros k f → ⊥) → Zeros k g → ⊥
zeros_from k f g e n z = n (λ m l. e m l ∙ z m l)

pub zeros_more : (s : ℕ → ℕ) (i : ℕ) → Zeros i s → s i ≡ 0 → Zeros (i + 1) s
zeros_more s i z e m l = go (ℕ_discrete m i)
  where
    go : Dec (m ≡ i) → s m ≡ 0
    go (yes q) = ap s q ∙ e
    go (no ne) = z m (omega arith)

-- ---- each sum a multiple of the one before

module _ (s : List ℕ) (i m : ℕ) (b : Bytes5 s) (some : 0 < at s m) (l : m < 4) where
  next : at s (m + 1) ≡ at s (suc m)
  next = ap (at s) (add-one m)

  pub climb_stops : at s (m + 1) ≡ 0 → Climbs s i → ⊥
  climb_stops e z = locate.no_climb gf256 field256 (at s) i m (b m) (λ q. omega (arith, q)) (sym next ∙ e) (z m l)

  module _ (r : ℕ) (small : i < 255) (R : Ratio (at s m) (at s (m + 1)) r) where
    pub climb_wrong : (r ≡ i → ⊥) → Climbs s i → ⊥
    climb_wrong ne z =
        ne (locate.same_ratio gf256 field256 r i (at s m) (at s (suc m)) R.small small (b m) (λ q. omega (arith, q)) (R.is ∙ next)
        (locate.climbed gf256 field256 (at s) i m (z m l)))

    pub climb_more : r ≡ i → Zeros m (filt gf256 (power gf256 2 i ∷ []) (at s)) → Zeros (m + 1) (filt gf256 (power gf256 2 i ∷ []) (at s))
    climb_more e z =
        zeros_more (filt gf256 (power gf256 2 i ∷ []) (at s)) m z
        (locate.climbs gf256 field256 (at s) i m (ap (λ (j : ℕ). times (power gf256 2 j) (at s m)) (sym e) ∙ R.is ∙ next))

-- ---- cells, one after the other

pub drain_starts : (n : ℕ) (cells s : List ℕ) → Drained n (take 0 cells) s s
drain_starts n cells s = record { sum = λ m l. refl }

pub drain_goes : (n : ℕ) (cells s r u : List ℕ) (i x : ℕ) → i < length cells → Drained n (take i cells) s r → x ≡ place_of n (get_or cells i 0)
    → Filtered x r u → Drained n (take (i + 1) cells) s u
drain_goes n cells s r u i x l D ex f = subst (λ (ps : List ℕ). Drained n ps s u) (sym longer) (record { sum = sum })
  where
    ps : List ℕ
    ps = take i cells

    p : ℕ
    p = get_or cells i 0

    longer : take (i + 1) cells ≡ ps ++ p ∷ []
    longer = ap (λ (k : ℕ). take k cells) (add-one i) ∙ take-suc cells i 0 l

    sum : (m : ℕ) → m + length (ps ++ p ∷ []) < 5 → at u m ≡ filt gf256 (map (place_of n) (ps ++ p ∷ [])) (at s) m
    sum m h =
        f.sum m (omega (arith, length-append ps (p ∷ [])))
        ∙ ap₂ (λ (a b : ℕ). bit_xor a (times x b)) (D.sum (suc m) (omega (arith, length-append ps (p ∷ []))))
        (D.sum m (omega (arith, length-append ps (p ∷ []))))
        ∙ ap (λ (z : ℕ). bit_xor (filt gf256 (map (place_of n) ps) (at s) (suc m)) (times z (filt gf256 (map (place_of n) ps) (at s) m))) ex
        ∙ sym (filter.filt_append gf256 (map (place_of n) ps) (place_of n p ∷ []) (at s) m)
        ∙ ap (λ (l : List ℕ). filt gf256 l (at s) m) (sym (filter.map_append (place_of n) ps (p ∷ [])))
