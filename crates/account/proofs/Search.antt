-- The search for what is wrong: a guess is a list of unmarked cells. With the marked cells it holds all that is wrong exactly
-- where it fits: where the sums that are left, with the guess filtered out, are nothing.
use mathlib.Core.Path.{◌≡◌, refl, sym, ap, ◌∙◌, subst}
use mathlib.Core.Bool.{Bool, true, false, not}
use mathlib.Core.List.{List, [], ◌∷◌, ◌++◌, map, append-nil}
use Prim.Native.Nat.{ℕ, ◌+◌, ◌*◌, ◌-◌, ◌≤◌, ◌<◌}
use native.Mathlib.Omega.{arith}
use lib.Dec.{T}
use lib.ListN.{length, get_or, length-append}
use Rattle.account.specs.Field.{Ops, In, IsField}
use Rattle.account.specs.Code.{Cells, Clean}
use Rattle.account.specs.Errata.{Outside, Below, Distinct, place, filt, added, Applied}
use Rattle.account.specs.Search.{places, erasures, Free, Zeros, Fits}
use Rattle.account.specs.Reach.{count_to, is_marked, is_read, differs_at, marked, differing, Reach}
use Rattle.account.proofs.Cells.{outside_left, outside_right, outside_append, outside_places, places_outside}
use Rattle.account.proofs.Cells.{below_append, below_places, distinct_places}
use Rattle.account.proofs.Cells.{Falling, falling_places, count_places, count_most, marked_differs, differs_unmarked, same_at, not_differs}
use Rattle.account.proofs.Filter as filter
use Rattle.account.proofs.Solve as solve
use Rattle.account.proofs.Words.{sums_of}
use Rattle.account.proofs.Decode as decode
use Rattle.account.proofs.Decode.{values}

pub distinct_append : (ps bs : List ℕ) → Distinct ps → Distinct bs → Free ps bs → Distinct (ps ++ bs)
distinct_append [] bs d e f = e
distinct_append (p ∷ ps) bs d e f = (outside_append ps bs p d.0 (away bs f), distinct_append ps bs d.1 e (rest bs f))
  where
    away : (bs : List ℕ) → Free (p ∷ ps) bs → Outside bs p
    away [] f = tt
    away (b ∷ bs) f = ((λ q. f.0.0 (sym q)), away bs f.1)

    rest : (bs : List ℕ) → Free (p ∷ ps) bs → Free ps bs
    rest [] f = tt
    rest (b ∷ bs) f = (f.0.1, rest bs f.1)

pub distinct_erasures : (marks : List ℕ) → Distinct (erasures marks)
distinct_erasures marks =
    subst Distinct (append-nil (erasures marks)) (distinct_places (is_marked marks) (length marks) [] tt (λ i l t. tt))

module _ (O : Ops) (F : IsField O) where
  open O use {◌⊕◌, ◌⊗◌, order}

  infixl 60 ◌⊕◌
  infixl 70 ◌⊗◌
  -- what is known once the f marked cells are filtered out of the sums
  pub record Ready (marks r : List ℕ) (t : ℕ → ℕ) (f : ℕ) : Type 0 where
    pub matched : length r ≡ length marks
    pub short : length marks ≤ order
    pub cells : Cells O r
    pub count : f ≡ length (erasures marks)
    pub left : (m : ℕ) → m + f < 5 → t m ≡ filt O (map (place O (length marks)) (erasures marks)) (sums_of O r) m

  module _ (marks r : List ℕ) (t : ℕ → ℕ) (f : ℕ) (R : Ready marks r t f) where
    abbrev n : ℕ
    n = length marks

    abbrev X : ℕ → ℕ
    X = place O (length marks)

    -- the guess bs, by the sums that are left
    fit_at : (bs : List ℕ) (m : ℕ) → m + length (erasures marks ++ bs) < 5
        → filt O (map X (erasures marks ++ bs)) (sums_of O r) m ≡ filt O (map X bs) t m
    fit_at bs m l =
        ap (λ (xs : List ℕ). filt O xs (sums_of O r) m) (filter.map_append X (erasures marks) bs)
        ∙ filter.filt_append O (map X (erasures marks)) (map X bs) (sums_of O r) m
        ∙ sym (filter.filt_near O (map X bs) t (filt O (map X (erasures marks)) (sums_of O r)) (5 - f) (λ i j. R.left i (omega arith)) m
        (rw (filter.length_map X bs) (omega (arith, length-append (erasures marks) bs, R.count))))

    f_is : marked marks r ≡ f
    f_is = ap (count_to (is_marked marks)) R.matched ∙ sym (count_places (is_marked marks) n) ∙ sym R.count

    -- a guess that fits, with the solved values, gives a clean word within reach
    pub mended : (bs : List ℕ) → Below bs n → Distinct bs → 2 * length bs + f ≤ 5 → Fits O n (erasures marks) t (5 - f - length bs) bs
        → (w : List ℕ) → Applied O (erasures marks ++ bs) (values O F (erasures marks ++ bs) r) r w → Clean O w × Reach marks r w × Cells O w
    mended bs bb db few fit w a = (clean, record { same_length = a.same_length; few = near }, record { cell = cell })
      where
        ps : List ℕ
        ps = erasures marks ++ bs

        below : Below (erasures marks ++ bs) (length r)
        below = subst (Below (erasures marks ++ bs)) (sym R.matched) (below_append (erasures marks) bs n (below_places (is_marked marks) n) bb)

        clean : Clean O w
        clean =
            decode.sound O F r (erasures marks ++ bs) (omega (arith, R.matched, R.short)) below
            (distinct_append (erasures marks) bs (distinct_erasures marks) db fit.free)
            (subst (λ (k : ℕ). (m : ℕ) → m + length (erasures marks ++ bs) < 5 → filt O (map (place O k) (erasures marks ++ bs)) (sums_of O r) m ≡ 0)
            (sym R.matched)
            (λ m l. fit_at bs m l ∙ fit.none m (omega (arith, length-append (erasures marks) bs, R.count))))
            w a

        cell : (p : ℕ) → p < length w → In O (get_or w p 0)
        cell p l =
            subst (In O) (sym (a.cell p (omega (arith, a.same_length))))
            (F.in_add (get_or r p 0) (added O (erasures marks ++ bs) (values O F (erasures marks ++ bs) r) p) (R.cells.cell p (omega (arith, a.same_length)))
            (solve.added_in O F (erasures marks ++ bs) (values O F (erasures marks ++ bs) r) p (decode.values_in O F (erasures marks ++ bs) r)))

        right : (p : ℕ) → p < length r → Outside bs p → T (not (differs_at marks r w p))
        right p l o = go (is_marked marks p) refl
          where
            go : (b : Bool) → is_marked marks p ≡ b → T (not (differs_at marks r w p))
            go true e = marked_differs marks r w p (subst T (sym e) tt)
            go false e =
                not_differs (is_read marks) r w p
                (a.cell p l
                ∙ ap (λ (x : ℕ). get_or r p 0 ⊕ x)
                (solve.added_off O F (erasures marks ++ bs) (values O F (erasures marks ++ bs) r) p
                (outside_append (erasures marks) bs p (places_outside (is_marked marks) n p (subst (λ (b : Bool). T (not b)) (sym e) tt)) o))
                ∙ F.add_zero (get_or r p 0))

        near : 2 * differing marks r w + marked marks r ≤ 5
        near = omega (arith, count_most (differs_at marks r w) (length r) bs right, f_is)

    -- what is within reach has at most two wrong cells, and each guess of as many has failed
    pub refuted : (v : List ℕ) → Cells O v → Reach marks r v → Clean O v
        → (Zeros (5 - f) t → ⊥)
        → (2 + f ≤ 5 → (p : ℕ) → p < n → Fits O n (erasures marks) t (5 - f - 1) (p ∷ []) → ⊥)
        → (4 + f ≤ 5 → (p q : ℕ) → p < n → q < p → Fits O n (erasures marks) t (5 - f - 2) (p ∷ q ∷ []) → ⊥)
        → ⊥
    refuted v cv hv kv e0 e1 e2 =
        go (places wrong n) (falling_places wrong n) few
        (decode.complete O F n r (erasures marks ++ places wrong n) v R.matched
        (record {
          same_length = hv.same_length;
          cells = cv;
          clean = kv;
          rest = λ p l o.
              same_at marks r v p (outside_places (is_marked marks) n p (omega (arith, R.matched)) (outside_left (erasures marks) (places wrong n) p o))
              (outside_places wrong n p (omega (arith, R.matched)) (outside_right (erasures marks) (places wrong n) p o));
        }))
      where
        wrong : ℕ → Bool
        wrong = differs_at marks r v

        few : 2 * length (places wrong n) + f ≤ 5
        few =
            omega (arith, count_places wrong n, f_is, ap (count_to wrong) R.matched, hv.few)

        plain : (p : ℕ) → T (wrong p) → Outside (erasures marks) p
        plain p u = places_outside (is_marked marks) n p (differs_unmarked marks r v p u)

        go : (ws : List ℕ) → Falling wrong ws n → 2 * length ws + f ≤ 5
            → ((m : ℕ) → m + length (erasures marks ++ ws) < 5 → filt O (map X (erasures marks ++ ws)) (sums_of O r) m ≡ 0) → ⊥
        go [] d l z = e0 (λ m h. sym (fit_at [] m (near m h)) ∙ z m (near m h))
          where
            near : (m : ℕ) → m < 5 - f → m + length (erasures marks ++ []) < 5
            near m h = omega (arith, length-append (erasures marks) [], R.count)
        go (p ∷ []) d l z =
            e1 (omega arith) p d.0 (record { free = (plain p d.1, tt); none = λ m h. sym (fit_at (p ∷ []) m (near m h)) ∙ z m (near m h) })
          where
            near : (m : ℕ) → m < 5 - f - 1 → m + length (erasures marks ++ p ∷ []) < 5
            near m h = omega (arith, length-append (erasures marks) (p ∷ []), R.count)
        go (p ∷ q ∷ []) d l z =
            e2 (omega arith) p q d.0 d.2.0
            (record { free = (plain p d.1, (plain q d.2.1, tt)); none = λ m h. sym (fit_at (p ∷ q ∷ []) m (near m h)) ∙ z m (near m h) })
          where
            near : (m : ℕ) → m < 5 - f - 2 → m + length (erasures marks ++ p ∷ q ∷ []) < 5
            near m h = omega (arith, length-append (erasures marks) (p ∷ q ∷ []), R.count)
        go (p ∷ q ∷ x ∷ ws) d l z = omega arith
