-- Lists of cells, and counting.
use mathlib.Core.Path.{◌≡◌, refl, sym, ap, ap₂, ◌∙◌, subst}
use mathlib.Core.Logic.{◌≢◌}
use mathlib.Core.Bool.{Bool, true, false, not}
use mathlib.Core.List.{List, [], ◌∷◌, ◌++◌}
use Prim.Native.Nat.{ℕ, zero, suc, ◌+◌, ◌≤◌, ◌<◌}
use native.Mathlib.Omega.{arith}
use native.Mathlib.Decide.{ℕ_discrete}
use lib.Dec.{T, eqb, eqb→eq, eqb_refl}
use lib.ListN.{length, get_or}
use Rattle.account.specs.Reach.{one_if, and, count_to, is_marked, differs, differs_at}
use Rattle.account.specs.Errata.{Outside, Below, Distinct}
use Rattle.account.specs.Search.{add_if, places}

pub outside_left : (ps qs : List ℕ) (i : ℕ) → Outside (ps ++ qs) i → Outside ps i
outside_left [] qs i o = tt
outside_left (p ∷ ps) qs i o = (o.0, outside_left ps qs i o.1)

pub outside_right : (ps qs : List ℕ) (i : ℕ) → Outside (ps ++ qs) i → Outside qs i
outside_right [] qs i o = o
outside_right (p ∷ ps) qs i o = outside_right ps qs i o.1

pub outside_append : (ps qs : List ℕ) (i : ℕ) → Outside ps i → Outside qs i → Outside (ps ++ qs) i
outside_append [] qs i o u = u
outside_append (p ∷ ps) qs i o u = (o.0, outside_append ps qs i o.1 u)

pub below_append : (ps qs : List ℕ) (n : ℕ) → Below ps n → Below qs n → Below (ps ++ qs) n
below_append [] qs n b c = c
below_append (p ∷ ps) qs n b c = (b.0, below_append ps qs n b.1 c)

below_more : (ps : List ℕ) (n : ℕ) → Below ps n → Below ps (suc n)
below_more [] n b = tt
below_more (p ∷ ps) n b = (omega arith, below_more ps n b.1)

pub below_at : (ps : List ℕ) (n i : ℕ) → Below ps n → i < length ps → get_or ps i 0 < n
below_at [] n i b h = absurd (omega arith)
below_at (p ∷ ps) n zero b h = b.0
below_at (p ∷ ps) n (suc i) b h = below_at ps n i b.1 (omega arith)

-- ---- the cells at which f passes, the highest first

pub below_places : (f : ℕ → Bool) (n : ℕ) → Below (places f n) n
below_places f zero = tt
below_places f (suc n) = go (f n) (below_places f n)
  where
    go : (t : Bool) → Below (places f n) n → Below (add_if t n (places f n)) (suc n)
    go true rec = (omega arith, below_more (places f n) n rec)
    go false rec = below_more (places f n) n rec

pub outside_places : (f : ℕ → Bool) (n i : ℕ) → i < n → Outside (places f n) i → T (not (f i))
outside_places f zero i l o = absurd (omega arith)
outside_places f (suc n) i l o = go (f n) refl o (ℕ_discrete i n) (outside_places f n i)
  where
    go : (t : Bool) → f n ≡ t → Outside (add_if t n (places f n)) i → Dec (i ≡ n)
        → (i < n → Outside (places f n) i → T (not (f i))) → T (not (f i))
    go true e u (yes p) rec = absurd (u.0 p)
    go true e u (no ne) rec = rec (omega arith) u.1
    go false e u (yes p) rec = subst (λ (b : Bool). T (not b)) (sym (ap f p ∙ e)) tt
    go false e u (no ne) rec = rec (omega arith) u

pub places_outside : (f : ℕ → Bool) (n i : ℕ) → T (not (f i)) → Outside (places f n) i
places_outside f zero i t = tt
places_outside f (suc n) i t = go (f n) refl (places_outside f n i t)
  where
    go : (b : Bool) → f n ≡ b → Outside (places f n) i → Outside (add_if b n (places f n)) i
    go true e u = ((λ p. subst (λ (x : Bool). T (not x)) (ap f p ∙ e) t), u)
    go false e u = u

places_above : (f : ℕ → Bool) (n i : ℕ) → n ≤ i → Outside (places f n) i
places_above f zero i h = tt
places_above f (suc n) i h = go (f n) (places_above f n i (omega arith))
  where
    go : (b : Bool) → Outside (places f n) i → Outside (add_if b n (places f n)) i
    go true o = ((λ e. omega arith), o)
    go false o = o

pub distinct_places : (f : ℕ → Bool) (n : ℕ) (qs : List ℕ) → Distinct qs → ((i : ℕ) → i < n → T (f i) → Outside qs i) → Distinct (places f n ++ qs)
distinct_places f zero qs d h = d
distinct_places f (suc n) qs d h = go (f n) refl (distinct_places f n qs d (λ i l. h i (omega arith)))
  where
    go : (b : Bool) → f n ≡ b → Distinct (places f n ++ qs) → Distinct (add_if b n (places f n) ++ qs)
    go true e r = (outside_append (places f n) qs n (places_above f n n (omega arith)) (h n (omega arith) (subst T (sym e) tt)), r)
    go false e r = r

-- cells that pass f, from the highest down
abbrev pub Falling : (ℕ → Bool) → List ℕ → ℕ → Type 0
Falling f [] n = Unit {0}
Falling f (p ∷ ps) n = (p < n) × T (f p) × Falling f ps p

falling_more : (f : ℕ → Bool) (ps : List ℕ) (n : ℕ) → Falling f ps n → Falling f ps (suc n)
falling_more f [] n d = tt
falling_more f (p ∷ ps) n d = (omega (arith, d.0), d.1, d.2)

pub falling_places : (f : ℕ → Bool) (n : ℕ) → Falling f (places f n) n
falling_places f zero = tt
falling_places f (suc n) = go (f n) refl (falling_places f n)
  where
    go : (b : Bool) → f n ≡ b → Falling f (places f n) n → Falling f (add_if b n (places f n)) (suc n)
    go true e d = (omega arith, subst T (sym e) tt, d)
    go false e d = falling_more f (places f n) n d

-- ---- counting

pub count_places : (f : ℕ → Bool) (n : ℕ) → length (places f n) ≡ count_to f n
unfolding count_to
count_places f zero = refl
count_places f (suc n) = go (f n) (count_places f n)
  where
    go : (t : Bool) → length (places f n) ≡ count_to f n → length (add_if t n (places f n)) ≡ count_to f n + one_if t
    go true e = omega arith
    go false e = omega arith

pub one_most : (b : Bool) → one_if b ≤ 1
one_most true = omega arith
one_most false = omega arith

pub count_cong : (f g : ℕ → Bool) (n : ℕ) → ((j : ℕ) → j < n → f j ≡ g j) → count_to f n ≡ count_to g n
unfolding count_to
count_cong f g zero h = refl
count_cong f g (suc n) h = ap₂ (λ (a : ℕ) (b : Bool). a + one_if b) (count_cong f g n (λ j l. h j (omega arith))) (h n (omega arith))

pub count_none : (f : ℕ → Bool) (n : ℕ) → ((j : ℕ) → j < n → T (not (f j))) → count_to f n ≡ 0
unfolding count_to
count_none f zero h = refl
count_none f (suc n) h = ap₂ (λ (a b : ℕ). a + b) (count_none f n (λ j l. h j (omega arith))) (none (f n) (h n (omega arith)))
  where
    none : (b : Bool) → T (not b) → one_if b ≡ 0
    none true t = absurd t
    none false t = refl

-- of two tests, one of which asks more
pub count_both : (f g : ℕ → Bool) (n : ℕ) → count_to (λ j. and (f j) (g j)) n ≤ count_to f n
unfolding count_to
count_both f g zero = omega arith
count_both f g (suc n) = omega (arith, count_both f g n, one (f n))
  where
    one : (b : Bool) → one_if (and b (g n)) ≤ one_if b
    one true = one_most (g n)
    one false = omega arith

-- f, but not at p
abbrev pub less : ℕ → (ℕ → Bool) → ℕ → Bool
less p f j = and (not (eqb j p)) (f j)

pub less_same : (p : ℕ) (f : ℕ → Bool) (j : ℕ) → j ≢ p → f j ≡ less p f j
less_same p f j ne = go (eqb j p) refl
  where
    go : (b : Bool) → eqb j p ≡ b → f j ≡ and (not b) (f j)
    go true e = absurd (ne (eqb→eq j p (subst T (sym e) tt)))
    go false e = refl

-- the cell p counts once, if it passes
pub count_less : (f : ℕ → Bool) (p n : ℕ) → p < n → count_to f n ≡ count_to (less p f) n + one_if (f p)
unfolding count_to
count_less f p zero l = absurd (omega arith)
count_less f p (suc n) l = go (ℕ_discrete n p) (count_less f p n)
  where
    off : (b c : Bool) → T b → one_if (and (not b) c) ≡ 0
    off true c u = refl
    off false c u = absurd u

    go : Dec (n ≡ p) → (p < n → count_to f n ≡ count_to (less p f) n + one_if (f p))
        → count_to f n + one_if (f n) ≡ count_to (less p f) n + one_if (less p f n) + one_if (f p)
    go (yes e) rec =
        omega (
          arith,
          count_cong f (less p f) n (λ j k. less_same p f j (omega arith)),
          ap (λ (x : ℕ). one_if (f x)) e,
          off (eqb n p) (f n) (subst (λ (x : ℕ). T (eqb n x)) e (eqb_refl n)),
        )
    go (no ne) rec = omega (arith, rec (omega arith), ap one_if (less_same p f n ne))

drop_one : (f : ℕ → Bool) (p n : ℕ) → count_to f n ≤ count_to (less p f) n + 1
unfolding count_to
drop_one f p zero = omega arith
drop_one f p (suc n) = go (ℕ_discrete n p) (drop_one f p n)
  where
    go : Dec (n ≡ p) → count_to f n ≤ count_to (less p f) n + 1 → count_to f n + one_if (f n) ≤ count_to (less p f) n + one_if (less p f n) + 1
    go (yes e) rec = omega (arith, count_cong f (less p f) n (λ j l. less_same p f j (omega arith)), one_most (f n))
    go (no ne) rec = omega (arith, ap one_if (less_same p f n ne))

-- what passes only at cells of ps passes no more often than ps is long
pub count_most : (f : ℕ → Bool) (n : ℕ) (ps : List ℕ) → ((j : ℕ) → j < n → Outside ps j → T (not (f j))) → count_to f n ≤ length ps
count_most f n [] h = omega (arith, count_none f n (λ j l. h j l tt))
count_most f n (p ∷ ps) h = omega (arith, drop_one f p n, count_most (less p f) n ps (λ j l o. go j l o (eqb j p) refl))
  where
    go : (j : ℕ) → j < n → Outside ps j → (b : Bool) → eqb j p ≡ b → T (not (and (not b) (f j)))
    go j l o true e = tt
    go j l o false e = h j l ((λ q. subst T (sym (ap (eqb j) (sym q)) ∙ e) (eqb_refl j)), o)

-- ---- marks

pub not_not : (b : Bool) → T (not (not b)) → T b
not_not true t = tt
not_not false t = t

pub twice_not : (b : Bool) → T b → T (not (not b))
twice_not true t = tt
twice_not false t = t

-- an unmarked cell that does not differ is the same
pub same_at : (marks r w : List ℕ) (j : ℕ) → T (not (is_marked marks j)) → T (not (differs_at marks r w j)) → get_or w j 0 ≡ get_or r j 0
same_at marks r w j = go (is_marked marks j) (eqb (get_or w j 0) (get_or r j 0)) refl
  where
    go : (m e : Bool) → eqb (get_or w j 0) (get_or r j 0) ≡ e → T (not m) → T (not (and (not m) (not e))) → get_or w j 0 ≡ get_or r j 0
    go true e q t u = absurd t
    go false e q t u = eqb→eq (get_or w j 0) (get_or r j 0) (subst T (sym q) (not_not e u))

-- a cell that is the same does not differ, marked or not
pub not_differs : (f : ℕ → Bool) (r w : List ℕ) (j : ℕ) → get_or w j 0 ≡ get_or r j 0 → T (not (and (f j) (differs r w j)))
not_differs f r w j e = go (f j)
  where
    go : (b : Bool) → T (not (and b (differs r w j)))
    go true = subst (λ (x : ℕ). T (not (not (eqb x (get_or r j 0))))) (sym e) (twice_not (eqb (get_or r j 0) (get_or r j 0)) (eqb_refl (get_or r j 0)))
    go false = tt

-- and a word differs from itself nowhere
pub none_differ : (f : ℕ → Bool) (r : List ℕ) (n : ℕ) → count_to (λ j. and (f j) (differs r r j)) n ≡ 0
none_differ f r n = count_none (λ j. and (f j) (differs r r j)) n (λ j l. not_differs f r r j refl)

-- a marked cell does not count as one that differs
pub marked_differs : (marks r w : List ℕ) (j : ℕ) → T (is_marked marks j) → T (not (differs_at marks r w j))
marked_differs marks r w j t = go (is_marked marks j) t
  where
    go : (m : Bool) → T m → T (not (and (not m) (not (eqb (get_or w j 0) (get_or r j 0)))))
    go true u = tt
    go false u = absurd u

-- what differs is not marked
pub differs_unmarked : (marks r w : List ℕ) (j : ℕ) → T (differs_at marks r w j) → T (not (is_marked marks j))
differs_unmarked marks r w j t = left (not (is_marked marks j)) (not (eqb (get_or w j 0) (get_or r j 0))) t
  where
    left : (a b : Bool) → T (and a b) → T a
    left true b u = tt
    left false b u = u
