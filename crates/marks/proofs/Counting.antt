-- Errata counted: what is counted are the cells that differ, unmarked and marked.
use mathlib.Core.Path.{◌≡◌, refl, sym, ap, ap₂, ◌∙◌, subst}
use mathlib.Core.Bool.{Bool, true, false, not}
use mathlib.Core.List.{List, [], ◌∷◌, ◌++◌}
use Prim.Native.Nat.{ℕ, ◌+◌, ◌*◌, ◌/◌, ◌≤◌, ◌<◌}
use native.Mathlib.Decide.{ℕ_discrete}
use native.Mathlib.Numerals.{add-one}
use native.Mathlib.Omega.{arith}
use lib.Bits.{bit_xor}
use lib.Dec.{T, eqb}
use lib.ListN.{length, get_or, take}
use lib.Seq.{take-suc, get_or-take, length-take-le}
use borrow.Author.Tests.{eq-eqb, ne_eqb}
use Rattle.account.specs.Lanes.{lane}
use Rattle.account.proofs.Lanes.{get_d_lane, cell_below}
use Rattle.account.specs.Reach.{count_to, is_marked, is_read, one_if, and, differs, differing, repainted}
use Rattle.account.specs.Errata.{Below, Distinct, added, only, Applied}
use Rattle.account.proofs.Cells.{below_at, one_most, less, less_same, count_less, count_cong, count_none}
use Rattle.account.proofs.Laws as laws
use Rattle.account.proofs.Solve as solve
use Rattle.account.proofs.Solve.{only_here, only_off}
use Rattle.gf256.specs.Gf256.{gf256}
use Rattle.gf256.proofs.Field256.{field256}
use Rattle.values.specs.declared.Errata.{Errata}
use Rattle.values.specs.Values.{cells_of, ErrataFor}
use Rattle.marks.specs.declared.Counts.{Counts}
use Rattle.marks.specs.Marks.{counted_of, CountsOne, CountsAll}

-- ---- counting

-- a cell of a lane, as one of the strip
module _ (R : ℕ) (marks : List ℕ) (l i : ℕ) (hl : l < R) (hi : i < length marks / R) where
  some : 0 < R
  some = omega arith

  pub lane_marked : is_marked marks (R * i + l) ≡ is_marked (lane R l marks) i
  lane_marked = sym (ap (λ (m : ℕ). not (eqb m 0)) (get_d_lane R some l marks i hi))

  pub lane_inside : R * i + l < length marks
  lane_inside = cell_below R some (length marks) i l hl hi

-- and so an erratum there, as one of the lane
pub lane_counts : (R : ℕ) (marks : List ℕ) (l i v : ℕ) (c r : Counts) → l < R → i < length marks / R → CountsOne marks (R * i + l) v c r
    → CountsOne (lane R l marks) i v c r
lane_counts R marks l i v c r hl hi C = record {
  mended = C.mended ∙ ap (λ (b : Bool). c.mended + one_if (and (not b) (not (eqb v 0)))) (lane_marked R marks l i hl hi);
  repainted = C.repainted ∙ ap (λ (b : Bool). c.repainted + one_if (and b (not (eqb v 0)))) (lane_marked R marks l i hl hi);
}

-- no more is counted than there are errata
counted_few : (f : ℕ → Bool) (ps vs : List ℕ) → counted_of f ps vs ≤ length ps
counted_few f [] vs = omega arith
counted_few f (p ∷ ps) [] = omega arith
counted_few f (p ∷ ps) (v ∷ vs) = omega (arith, counted_few f ps vs, one_most (and (f p) (not (eqb v 0))))

pub counts_few : (marks ps vs : List ℕ) (c : Counts) → CountsAll marks ps vs c → (c.mended ≤ length ps) × (c.repainted ≤ length ps)
counts_few marks ps vs c C = (
  omega (arith, C.mended, counted_few (is_read marks) ps vs),
  omega (arith, C.repainted, counted_few (is_marked marks) ps vs),
)

-- one erratum more, at the end
counted_last : (f : ℕ → Bool) (ps vs : List ℕ) (p v : ℕ) → length vs ≡ length ps
    → counted_of f (ps ++ p ∷ []) (vs ++ v ∷ []) ≡ counted_of f ps vs + one_if (and (f p) (not (eqb v 0)))
counted_last f [] [] p v e = swap (one_if (and (f p) (not (eqb v 0))))
  where
    swap : (a : ℕ) → a + 0 ≡ 0 + a
    swap a = omega arith
counted_last f [] (w ∷ vs) p v e = absurd (omega arith)
counted_last f (q ∷ ps) [] p v e = absurd (omega arith)
counted_last f (q ∷ ps) (w ∷ vs) p v e =
    ap (λ (x : ℕ). one q w + x) (counted_last f ps vs p v (omega arith)) ∙ again (one q w) (counted_of f ps vs) (one p v)
  where
    one : ℕ → ℕ → ℕ
    one i x = one_if (and (f i) (not (eqb x 0)))

    again : (a b c : ℕ) → a + (b + c) ≡ a + b + c
    again a b c = omega arith

pub counts_last : (marks ps vs : List ℕ) (p v : ℕ) (c r : Counts) → length vs ≡ length ps → CountsAll marks ps vs c → CountsOne marks p v c r
    → CountsAll marks (ps ++ p ∷ []) (vs ++ v ∷ []) r
counts_last marks ps vs p v c r e C D = record {
  mended = last (is_read marks) c.mended r.mended C.mended D.mended;
  repainted = last (is_marked marks) c.repainted r.repainted C.repainted D.repainted;
}
  where
    last : (f : ℕ → Bool) (x y : ℕ) → x ≡ counted_of f ps vs → y ≡ x + one_if (and (f p) (not (eqb v 0)))
        → y ≡ counted_of f (ps ++ p ∷ []) (vs ++ v ∷ [])
    last f x y ex ey = ey ∙ ap (λ (n : ℕ). n + one_if (and (f p) (not (eqb v 0)))) ex ∙ sym (counted_last f ps vs p v e)

pub take_next : (xs : List ℕ) (i : ℕ) → i < length xs → take (i + 1) xs ≡ take i xs ++ get_or xs i 0 ∷ []
take_next xs i l = ap (λ (n : ℕ). take n xs) (add-one i) ∙ take-suc xs i 0 l

-- the first i errata, and the next
pub counts_next : (marks cells values : List ℕ) (i : ℕ) (c r : Counts) → i < length cells → i < length values
    → CountsAll marks (take i cells) (take i values) c → CountsOne marks (get_or cells i 0) (get_or values i 0) c r
    → CountsAll marks (take (i + 1) cells) (take (i + 1) values) r
counts_next marks cells values i c r lc lv C D =
    subst (λ (ps : List ℕ). CountsAll marks ps (take (i + 1) values) r) (sym (take_next cells i lc))
    (subst (λ (vs : List ℕ). CountsAll marks (take i cells ++ get_or cells i 0 ∷ []) vs r) (sym (take_next values i lv))
    (counts_last marks (take i cells) (take i values) (get_or cells i 0) (get_or values i 0) c r
    (length-take-le i values (omega arith) ∙ sym (length-take-le i cells (omega arith))) C D))

-- ---- what is counted are the cells that differ

-- a cell that f takes, to which something is added
abbrev changed : (ℕ → Bool) → List ℕ → List ℕ → ℕ → Bool
changed f ps vs j = and (f j) (not (eqb (added gf256 ps vs j) 0))

unchanged : (b : Bool) (a : ℕ) → a ≡ 0 → and b (not (eqb a 0)) ≡ false
unchanged true a e = ap not (eq-eqb a 0 e)
unchanged false a e = refl

count_changed : (f : ℕ → Bool) (ps vs : List ℕ) (n : ℕ) → length vs ≡ length ps → Below ps n → Distinct ps → count_to (changed f ps vs) n ≡ counted_of f ps vs
count_changed f [] vs n e b d = count_none (changed f [] vs) n (λ j l. none (f j))
  where
    none : (x : Bool) → T (not (and x false))
    none true = tt
    none false = tt
count_changed f (p ∷ ps) [] n e b d = absurd (omega arith)
count_changed f (p ∷ ps) (v ∷ vs) n e b d =
    count_less (changed f (p ∷ ps) (v ∷ vs)) p n b.0
    ∙ ap₂ (λ (x y : ℕ). x + y)
    (count_cong (less p (changed f (p ∷ ps) (v ∷ vs))) (changed f ps vs) n (λ j l. others j (ℕ_discrete j p))
    ∙ count_changed f ps vs n (omega arith) b.1 d.1)
    (ap (λ (x : ℕ). one_if (and (f p) (not (eqb x 0)))) here)
    ∙ swap (counted_of f ps vs) (one_if (and (f p) (not (eqb v 0))))
  where
    swap : (a c : ℕ) → a + c ≡ c + a
    swap a c = omega arith

    rest : added gf256 ps vs p ≡ 0
    rest = solve.added_off gf256 field256 ps vs p d.0

    here : bit_xor (only p v p) (added gf256 ps vs p) ≡ v
    here = ap₂ bit_xor (only_here p v) rest ∙ field256.add_zero v

    others : (j : ℕ) → Dec (j ≡ p) → less p (changed f (p ∷ ps) (v ∷ vs)) j ≡ changed f ps vs j
    others j (yes q) =
        ap (λ (x : Bool). and (not x) (changed f (p ∷ ps) (v ∷ vs) j)) (eq-eqb j p q)
        ∙ sym (unchanged (f j) (added gf256 ps vs j) (ap (added gf256 ps vs) q ∙ rest))
    others j (no ne) =
        sym (less_same p (changed f (p ∷ ps) (v ∷ vs)) j ne)
        ∙ ap (λ (x : ℕ). and (f j) (not (eqb x 0)))
        (ap (λ (x : ℕ). bit_xor x (added gf256 ps vs j)) (only_off p v j ne) ∙ laws.zero_add gf256 field256 (added gf256 ps vs j))

-- a sum is its first part where nothing is added
same_test : (a x : ℕ) → eqb (bit_xor a x) a ≡ eqb x 0
same_test a x = go (ℕ_discrete x 0)
  where
    go : Dec (x ≡ 0) → eqb (bit_xor a x) a ≡ eqb x 0
    go (yes e) = eq-eqb (bit_xor a x) a (ap (bit_xor a) e ∙ field256.add_zero a) ∙ sym (eq-eqb x 0 e)
    go (no ne) =
        ne_eqb (bit_xor a x) a (λ q. ne (sym (laws.gone gf256 field256 a x) ∙ ap (bit_xor a) q ∙ field256.add_self a)) ∙ sym (ne_eqb x 0 ne)

-- r with the errata is w: the cells that they change are those in which the two differ, unmarked and marked
module _ (marks ps vs r w : List ℕ) (e : length vs ≡ length ps) (b : Below ps (length r)) (d : Distinct ps) (A : Applied gf256 ps vs r w) where
  count_is : (f : ℕ → Bool) → counted_of f ps vs ≡ count_to (λ j. and (f j) (differs r w j)) (length r)
  count_is f =
      sym
      (count_cong (λ j. and (f j) (differs r w j)) (changed f ps vs) (length r)
      (λ j l. ap (λ (x : Bool). and (f j) (not x))
      (ap (λ (x : ℕ). eqb x (get_or r j 0)) (A.cell j l) ∙ same_test (get_or r j 0) (added gf256 ps vs j)))
      ∙ count_changed f ps vs (length r) e b d)

  pub counts_are : (c : Counts) → CountsAll marks ps vs c → (c.mended ≡ differing marks r w) × (c.repainted ≡ repainted marks r w)
  counts_are c C = (C.mended ∙ count_is (is_read marks), C.repainted ∙ count_is (is_marked marks))

-- the i-th cell of errata is one of the word
pub erratum_below : (n : ℕ) (e : Errata) → ErrataFor n e → (i : ℕ) → i < e.count → get_or e.cells i 0 < n
erratum_below n e F i l =
    subst (λ (x : ℕ). x < n) (get_or-take e.count e.cells i 0 l)
    (below_at (cells_of e) n i F.below (omega (arith, length-take-le e.count e.cells (omega (arith, F.few, F.room)))))
