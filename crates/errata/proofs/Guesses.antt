-- Guesses that fit, and what is found from them.
use mathlib.Core.Path.{◌≡◌, refl, sym, ap, ap₂, ◌∙◌, subst}
use mathlib.Core.Logic.{◌≢◌}
use mathlib.Core.List.{List, [], ◌∷◌, ◌++◌, map, append_assoc, append-nil}
use Prim.Native.Nat.{ℕ, zero, suc, ◌+◌, ◌-◌, ◌<◌, ◌≤◌}
use native.Mathlib.Numerals.{add-one}
use native.Mathlib.Omega.{arith}
use lib.Bits.{bit_xor}
use lib.ListN.{length, take, set, length-set}
use lib.Seq.{take-suc-set, length-take-le}
use Rattle.account.specs.Code.{Cells, syndrome}
use Rattle.account.specs.Reach.{is_marked}
use Rattle.account.specs.Errata.{Below, Distinct, filt, solve, unweighed, Applied}
use Rattle.account.specs.Search.{erasures, Zeros, Fits}
use Rattle.account.proofs.Cells.{below_append, below_places}
use Rattle.account.proofs.Filter as filter
use Rattle.account.proofs.Solve.{solve_near}
use Rattle.account.proofs.Locate as locate
use Rattle.account.proofs.Powers as powers
use Rattle.account.proofs.Words.{sums_of}
use Rattle.account.proofs.Decode.{values}
use Rattle.account.proofs.Search as search'
use Rattle.account.proofs.Search.{Ready, distinct_append, distinct_erasures}
use Rattle.gf256.specs.Gf256.{gf256, times}
use Rattle.gf256.specs.Tables.{place_of, inverse_of}
use Rattle.gf256.proofs.Lookups.{same_quotient}
use Rattle.gf256.proofs.Field256.{field256, inv_is}
use Rattle.locate.proofs.Sums.{drain_starts}
use Rattle.values.specs.declared.Errata.{Errata}
use Rattle.errata.specs.Errata.{at, Listed, Drained, Gathered, Guess, NoGuess}
use Rattle.errata.specs.Errata.{Bytes5, Couple, Valued, cells_of, values_of, Corrects, Beyond}

-- ---- cells after the marked ones

module _ (n : ℕ) (cells : List ℕ) (f : ℕ) (L : Listed n cells f) where
  list1 : (p : ℕ) → f < 5 → take (f + 1) (set cells f p) ≡ take f cells ++ p ∷ []
  list1 p h = ap (λ (j : ℕ). take j (set cells f p)) (add-one f) ∙ take-suc-set cells f p (omega (arith, L.room))

  list2 : (p q : ℕ) → f + 1 < 5 → take (f + 2) (set (set cells f p) (f + 1) q) ≡ take f cells ++ p ∷ q ∷ []
  list2 p q h =
      ap (λ (j : ℕ). take j (set (set cells f p) (f + 1) q)) more
      ∙ take-suc-set (set cells f p) (f + 1) q (omega (arith, L.room, length-set cells f p))
      ∙ ap (λ (l : List ℕ). l ++ q ∷ []) (list1 p (omega arith)) ∙ append_assoc (take f cells) (p ∷ []) (q ∷ [])
    where
      more : f + 2 ≡ suc (f + 1)
      more = omega arith

  module _ (t : List ℕ) where
    pub guess0 : f ≤ 5 → Zeros (5 - f) (at t) → Guess n (take f cells) t f f cells
    guess0 h z = record {
      wrong = [];
      below = tt;
      distinct = tt;
      few = omega arith;
      fits = record { free = tt; none = λ m l. z m (omega arith) };
      counted = omega arith;
      room = L.room;
      list = sym (append-nil (take f cells));
    }

    pub guess1 : (p : ℕ) → 2 + f ≤ 5 → p < n → Fits gf256 n (take f cells) (at t) (5 - f - 1) (p ∷ [])
        → Guess n (take f cells) t f (f + 1) (set cells f p)
    guess1 p h l fit = record {
      wrong = p ∷ [];
      below = (l, tt);
      distinct = (tt, tt);
      few = omega arith;
      fits = fit;
      counted = refl;
      room = length-set cells f p ∙ L.room;
      list = list1 p (omega arith);
    }

    pub guess2 : (p q : ℕ) → 4 + f ≤ 5 → p < n → q < n → p ≢ q → Fits gf256 n (take f cells) (at t) (5 - f - 2) (p ∷ q ∷ [])
        → Guess n (take f cells) t f (f + 2) (set (set cells f p) (f + 1) q)
    guess2 p q h lp lq ne fit = record {
      wrong = p ∷ q ∷ [];
      below = (lp, (lq, tt));
      distinct = ((ne, tt), (tt, tt));
      few = omega arith;
      fits = fit;
      counted = refl;
      room = length-set (set cells f p) (f + 1) q ∙ length-set cells f p ∙ L.room;
      list = list2 p q (omega arith);
    }

-- ---- listed cells

pub listed_guess : (n : ℕ) (erased t : List ℕ) (f count : ℕ) (cells : List ℕ) → Listed n erased f → Guess n (take f erased) t f count cells
    → Listed n cells count
listed_guess n erased t f count cells L U = record {
  short = L.short;
  room = U.room;
  few = omega (arith, U.counted, U.few);
  below = subst (λ (l : List ℕ). Below l n) (sym U.list) (below_append (take f erased) U.wrong n L.below U.below);
  distinct = subst Distinct (sym U.list) (distinct_append (take f erased) U.wrong L.distinct U.distinct U.fits.free);
}

pub listed_marks : (marks cells : List ℕ) (f : ℕ) → length marks ≤ 255 → f ≤ 5 → Gathered marks cells f → Listed (length marks) cells f
listed_marks marks cells f short h G = record {
  short = short;
  room = G.room;
  few = h;
  below = subst (λ (l : List ℕ). Below l (length marks)) (sym G.list) (below_places (is_marked marks) (length marks));
  distinct = subst Distinct (sym G.list) (distinct_erasures marks);
}

-- ---- a syndrome and the words that have it

sum_at : (s r : List ℕ) → s ≡ syndrome gf256 r → (m : ℕ) → m < 5 → at s m ≡ sums_of gf256 r m
sum_at s r e zero l = ap (λ (x : List ℕ). at x 0) e
sum_at s r e (suc zero) l = ap (λ (x : List ℕ). at x 1) e
sum_at s r e (suc (suc zero)) l = ap (λ (x : List ℕ). at x 2) e
sum_at s r e (suc (suc (suc zero))) l = ap (λ (x : List ℕ). at x 3) e
sum_at s r e (suc (suc (suc (suc zero)))) l = ap (λ (x : List ℕ). at x 4) e
sum_at s r e (suc (suc (suc (suc (suc m))))) l = absurd (omega arith)

module _ (marks s t r : List ℕ) (n f : ℕ) (erased : List ℕ) (L : Listed n erased f) (D : Drained n (take f erased) s t)
    (en : length marks ≡ n) (G : Gathered marks erased f) (er : length r ≡ length marks) (cr : Cells gf256 r) (es : s ≡ syndrome gf256 r) where
  long : length (take f erased) ≡ f
  long = length-take-le f erased (omega (arith, L.few, L.room))

  ready : Ready gf256 field256 marks r (at t) f
  ready = record {
    matched = er;
    short = omega (arith, L.short);
    cells = cr;
    count = sym long ∙ ap length G.list;
    left = λ m l.
        D.sum m (omega (arith, long))
        ∙ ap₂ (λ (k : ℕ) (ps : List ℕ). filt gf256 (map (place_of k) ps) (at s) m) (sym en) G.list
        ∙ filter.filt_near gf256 (map (place_of (length marks)) (erasures marks)) (at s) (sums_of gf256 r) 5 (sum_at s r es) m
        (rw (filter.length_map (place_of (length marks)) (erasures marks)) (omega (arith, long, ap length G.list)));
  }

  -- what is said of n and the listed cells, said of the marks
  to_marks : (P : ℕ → List ℕ → Type 0) → P n (take f erased) → P (length marks) (erasures marks)
  to_marks P x = subst (P (length marks)) G.list (subst (λ (k : ℕ). P k (take f erased)) (sym en) x)

  pub beyond : NoGuess n (take f erased) t f → Beyond marks r
  beyond N w cw kw hw = search'.refuted gf256 field256 marks r (at t) f ready w cw hw kw M.not_none M.not_one M.not_two
    where
      M : NoGuess (length marks) (erasures marks) t f
      M = to_marks (λ k ps. NoGuess k ps t f) N

  pub corrects : (count : ℕ) (cells : List ℕ) (e : Errata) → Guess n (take f erased) t f count cells → Valued n cells count s e → Corrects marks r e
  corrects count cells e U K = record {
    listed = record {
      few = omega (arith, K.count, U.counted, U.few);
      room = ap length K.same_cells ∙ U.room;
      values_room = K.room;
      below = subst (Below (cells_of e)) (sym same_length) (subst (λ (l : List ℕ). Below l n) (sym same_list) C.below);
      distinct = subst Distinct (sym same_list) C.distinct;
    };
    corrects = λ w a. search'.mended gf256 field256 marks r (at t) f ready U'.wrong U'.below U'.distinct U'.few U'.fits w
        (subst (λ (ps : List ℕ). Applied gf256 ps (values gf256 field256 ps r) r w) (same_list ∙ U'.list)
        (subst (λ (vs : List ℕ). Applied gf256 (cells_of e) vs r w) same_values a));
  }
    where
      C : Listed n cells count
      C = listed_guess n erased t f count cells L U

      U' : Guess (length marks) (erasures marks) t f count cells
      U' = to_marks (λ k ps. Guess k ps t f count cells) U

      same_length : length r ≡ n
      same_length = er ∙ en

      same_list : cells_of e ≡ take count cells
      same_list = ap₂ take K.count K.same_cells

      xs : List ℕ
      xs = map (place_of n) (take count cells)

      same_values : values_of e ≡ values gf256 field256 (cells_of e) r
      same_values =
          ap (λ (m : ℕ). take m e.values) K.count ∙ K.values
          ∙ ap (unweighed gf256 xs)
          (solve_near gf256 field256 inverse_of xs (at s) (sums_of gf256 r)
          (λ m l.
          sum_at s r es m
          (omega (
            arith,
            filter.length_map (place_of n) (take count cells),
            length-take-le count cells (omega (arith, C.few, C.room)),
            C.few,
          ))))
          ∙ ap₂ (λ (k : ℕ) (ps : List ℕ). unweighed gf256 (map (place_of k) ps) (solve gf256 inverse_of (map (place_of k) ps) (sums_of gf256 r)))
          (sym same_length) (sym same_list)
          ∙ ap (λ (inv : ℕ → ℕ). unweighed gf256 (map (place_of (length r)) (cells_of e))
          (solve gf256 inv (map (place_of (length r)) (cells_of e)) (sums_of gf256 r)))
          (sym inv_is)

-- ---- five marks

module _ (n : ℕ) (erased s : List ℕ) (f : ℕ) (L : Listed n erased f) (five : f ≡ 5) where
  pub five_drained : Drained n (take f erased) s s
  five_drained = record { sum = λ m l. absurd (omega (arith, length-take-le f erased (omega (arith, L.few, L.room)))) }

  pub five_guess : Guess n (take f erased) s f f erased
  five_guess = guess0 n erased f L s L.few (λ m l. absurd (omega arith))

-- ---- no marks

module _ (n : ℕ) (s : List ℕ) (short : n ≤ 255) where
  abbrev nowhere : List ℕ
  nowhere = 0 ∷ 0 ∷ 0 ∷ 0 ∷ 0 ∷ []

  none_listed : Listed n nowhere 0
  none_listed = record { short = short; room = refl; few = omega arith; below = tt; distinct = tt }

  none_gathered : (marks : List ℕ) → erasures marks ≡ [] → Gathered marks nowhere 0
  none_gathered marks e = record { room = refl; list = sym e }

  pub none_beyond : NoGuess n [] s 0 → (marks : List ℕ) → length marks ≡ n → erasures marks ≡ [] → (r : List ℕ) → length r ≡ length marks → Cells gf256 r
      → s ≡ syndrome gf256 r → Beyond marks r
  none_beyond N marks en em r er cr es =
      beyond marks s s r n 0 nowhere none_listed (drain_starts n nowhere s) en (none_gathered marks em) er cr es N

  pub none_corrects : (count : ℕ) (cells : List ℕ) (e : Errata) → Guess n [] s 0 count cells → Valued n cells count s e
      → (marks : List ℕ) → length marks ≡ n → erasures marks ≡ [] → (r : List ℕ) → length r ≡ length marks → Cells gf256 r
      → s ≡ syndrome gf256 r → Corrects marks r e
  none_corrects count cells e U K marks en em r er cr es =
      corrects marks s s r n 0 nowhere none_listed (drain_starts n nowhere s) en (none_gathered marks em) er cr es count cells e U K

  -- what is said of none, of one cell or of two
  pub none_wrong : Zeros 5 (at s) → Guess n [] s 0 0 nowhere
  none_wrong z = guess0 n nowhere 0 none_listed s (omega arith) z

  pub one_wrong : (p : ℕ) → p < n → Fits gf256 n [] (at s) 4 (p ∷ []) → Guess n [] s 0 1 (p ∷ 0 ∷ 0 ∷ 0 ∷ 0 ∷ [])
  one_wrong p l fit = guess1 n nowhere 0 none_listed s p (omega arith) l fit

  pub two_wrong : (p q : ℕ) → p < n → q < n → p ≢ q → Fits gf256 n [] (at s) 3 (p ∷ q ∷ []) → Guess n [] s 0 2 (p ∷ q ∷ 0 ∷ 0 ∷ 0 ∷ [])
  two_wrong p q lp lq ne fit = guess2 n nowhere 0 none_listed s p q (omega arith) lp lq ne fit

  pub one_valued : (p : ℕ) → Bytes5 s → Fits gf256 n [] (at s) 4 (p ∷ [])
      → Valued n (p ∷ 0 ∷ 0 ∷ 0 ∷ 0 ∷ []) 1 s (record { count = 1; cells = p ∷ 0 ∷ 0 ∷ 0 ∷ 0 ∷ []; values = at s 2 ∷ 0 ∷ 0 ∷ 0 ∷ 0 ∷ [] })
  one_valued p b fit = record { count = refl; same_cells = refl; room = refl; values = ap (λ (v : ℕ). v ∷ []) value }
    where
      X : ℕ
      X = place_of n p

      first : times X (at s 0) ≡ at s 1
      first = locate.climbed gf256 field256 (at s) (n - suc p) 0 (fit.none 0 (omega arith))

      second : times X (at s 1) ≡ at s 2
      second = locate.climbed gf256 field256 (at s) (n - suc p) 1 (fit.none 1 (omega arith))

      value : at s 2 ≡ times (times (bit_xor (at s 0) 0) X) X
      value =
          sym second ∙ ap (times X) (sym first) ∙ ap (times X) (field256.mul_comm X (at s 0)) ∙ field256.mul_comm X (times (at s 0) X)
          ∙ ap (λ (v : ℕ). times (times v X) X) (sym (field256.add_zero (at s 0)))

  pub none_valued : (cells values : List ℕ) → length values ≡ 5 → Valued n cells 0 s (record { count = 0; cells = cells; values = values })
  none_valued cells values h = record { count = refl; same_cells = refl; room = h; values = refl }

  pub pair_apart : (p q : ℕ) → Couple s 3 n [] p q → 0 < bit_xor (place_of n p) (place_of n q)
  pair_apart p q C = some (bit_xor (place_of n p) (place_of n q)) (filter.apart_some gf256 field256 n short p q C.below_p C.below_q C.apart)
    where
      some : (x : ℕ) → x ≢ 0 → 0 < x
      some zero h = absurd (h refl)
      some (suc x) h = omega arith

  pub pair_valued : (p q v i : ℕ) → Bytes5 s → Couple s 3 n [] p q → times (bit_xor (place_of n p) (place_of n q)) i ≡ 1
      → v ≡ times (bit_xor (at s 3) (times (place_of n q) (at s 2))) i
      → Valued n (p ∷ q ∷ 0 ∷ 0 ∷ 0 ∷ []) 2 s
      (record { count = 2; cells = p ∷ q ∷ 0 ∷ 0 ∷ 0 ∷ []; values = v ∷ bit_xor (at s 2) v ∷ 0 ∷ 0 ∷ 0 ∷ [] })
  pair_valued p q v i b C ei ev = record { count = refl; same_cells = refl; room = refl; values = ap₂ (λ (a c : ℕ). a ∷ c ∷ []) first second }
    where
      X : ℕ
      X = place_of n p

      Y : ℕ
      Y = place_of n q

      g : ℕ
      g = bit_xor (at s 1) (times X (at s 0))

      quotient : times (bit_xor g 0) (inverse_of (bit_xor Y X)) ≡ times g i
      quotient =
          sym (same_quotient (bit_xor g 0) (bit_xor Y X) i (field256.in_add Y X (powers.place_in gf256 field256 n q) (powers.place_in gf256 field256 n p))
          (filter.apart_some gf256 field256 n short q p C.below_q C.below_p (λ e. C.apart (sym e)))
          (ap (λ (a : ℕ). times a i) (field256.add_comm Y X) ∙ ei))
          ∙ ap (λ (a : ℕ). times a i) (field256.add_zero g)

      first : v ≡ times (times (bit_xor (at s 0) (bit_xor (times (bit_xor g 0) (inverse_of (bit_xor Y X))) 0)) X) X
      first =
          ev ∙ sym (locate.pair_first gf256 field256 (at s) X Y i ei b C.fits.none)
          ∙ ap (λ (a : ℕ). times (times (bit_xor (at s 0) a) X) X) (sym quotient ∙ sym (field256.add_zero (times (bit_xor g 0) (inverse_of (bit_xor Y X)))))

      second : bit_xor (at s 2) v ≡ times (times (times (bit_xor g 0) (inverse_of (bit_xor Y X))) Y) Y
      second =
          ap (bit_xor (at s 2)) ev ∙ sym (locate.pair_second gf256 field256 (at s) X Y i ei b C.fits.none)
          ∙ ap (λ (a : ℕ). times (times a Y) Y) (sym quotient)

-- ---- five sums

-- five are all there are
pub same_five : (l : List ℕ) → length l ≡ 5 → at l 0 ∷ at l 1 ∷ at l 2 ∷ at l 3 ∷ at l 4 ∷ [] ≡ l
same_five [] h = absurd (omega arith)
same_five (a ∷ []) h = absurd (omega arith)
same_five (a ∷ b ∷ []) h = absurd (omega arith)
same_five (a ∷ b ∷ c ∷ []) h = absurd (omega arith)
same_five (a ∷ b ∷ c ∷ d ∷ []) h = absurd (omega arith)
same_five (a ∷ b ∷ c ∷ d ∷ e ∷ []) h = refl
same_five (a ∷ b ∷ c ∷ d ∷ e ∷ f ∷ l) h = absurd (omega arith)
