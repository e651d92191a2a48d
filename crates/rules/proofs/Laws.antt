-- Laws of the first refusal, over any list of rules.
use mathlib.Core.Path.{◌≡◌, refl, sym, ap₂, ◌∙◌}
use mathlib.Core.Logic.{◌≢◌, ◌⊎◌, inl, inr}
use mathlib.Core.Bool.{Bool, true, false}
use mathlib.Core.List.{List, [], ◌∷◌, ◌++◌}
use Prim.Native.Nat.{ℕ, zero, suc, ◌≤◌}
use native.Mathlib.Decide.{ℕ_discrete}
use native.Mathlib.Omega.{arith}
use lib.Dec.{T, leb, leb→le}
use Rattle.rules.specs.declared.Refusal.{Refusal}
use Rattle.rules.specs.declared.Refusal.TheVariants as refusal
use Rattle.rules.specs.Refusal.{Rule, First, Hold, Question, asked, Numbers, number_of}

-- ---- refusals have numbers

pub some_number : (r : Refusal) → number_of r ≢ 0
some_number refusal.Length e = omega arith
some_number refusal.MarkCount e = omega arith
some_number refusal.Mark e = omega arith
some_number refusal.Buffer e = omega arith
some_number refusal.Scratch e = omega arith
some_number refusal.OutOfReach e = omega arith
some_number refusal.Fields e = omega arith
some_number refusal.Shape e = omega arith
some_number refusal.TileCode e = omega arith
some_number refusal.Board e = omega arith
some_number refusal.Text e = omega arith
some_number refusal.Rows e = omega arith
some_number refusal.Unequal e = omega arith
some_number refusal.NotTiny e = omega arith
some_number refusal.LaneCount e = omega arith

-- ---- one number

-- a list fixes its number
pub first_fixes : (rs : List Rule) (c d : ℕ) → First rs c → First rs d → c ≡ d
first_fixes [] c d p q = p ∙ sym q
first_fixes (r ∷ rs) c d (inl p) (inl q) = p.1 ∙ sym q.1
first_fixes (r ∷ rs) c d (inl p) (inr q) = absurd (p.0 q.0)
first_fixes (r ∷ rs) c d (inr p) (inl q) = absurd (q.0 p.0)
first_fixes (r ∷ rs) c d (inr p) (inr q) = first_fixes rs c d p.1 q.1

-- ---- all hold

pub hold_first : (rs : List Rule) → Hold rs → First rs 0
hold_first [] h = refl
hold_first (r ∷ rs) h = inr (h.0, hold_first rs h.1)

pub none_first : (rs : List Rule) (c : ℕ) → Hold rs → First rs c → c ≡ 0
none_first rs c h f = first_fixes rs c 0 f (hold_first rs h)

abbrev and : Bool → Bool → Bool
and true b = b
and false b = false

and_left : (a b : Bool) → T (and a b) → T a
and_left true b h = tt
and_left false b h = absurd h

and_right : (a b : Bool) → T (and a b) → T b
and_right true b h = h
and_right false b h = absurd h

-- the numbers of a list lie from a to b: a test that computes
abbrev pub between : ℕ → ℕ → List Rule → Bool
between a b [] = true
between a b (r ∷ rs) = and (leb a r.number) (and (leb r.number b) (between a b rs))

pub numbered : (a b : ℕ) (rs : List Rule) (c : ℕ) → T (between a b rs) → First rs c → c ≢ 0 → (a ≤ c) × (c ≤ b)
numbered a b [] c t f n = absurd (n f)
numbered a b (r ∷ rs) c t (inl p) n =
    let x : a ≤ r.number = leb→le a r.number (and_left (leb a r.number) (and (leb r.number b) (between a b rs)) t) in
    let y : r.number ≤ b = leb→le r.number b (and_left (leb r.number b) (between a b rs)
    (and_right (leb a r.number) (and (leb r.number b) (between a b rs)) t)) in
    (omega (arith, p.1), omega (arith, p.1))
numbered a b (r ∷ rs) c t (inr p) n =
    numbered a b rs c (and_right (leb r.number b) (between a b rs) (and_right (leb a r.number) (and (leb r.number b) (between a b rs)) t)) p.1 n

-- and 0 is at most b too
pub at_most : (b : ℕ) (rs : List Rule) (c : ℕ) → T (between 1 b rs) → First rs c → c ≤ b
at_most b rs c t f = go (ℕ_discrete c 0)
  where
    go : Dec (c ≡ 0) → c ≤ b
    go (yes z) = omega arith
    go (no n) = (numbered 1 b rs c t f n).1

-- where no refusal is told, and 0 is none of the numbers, all rules hold
pub all_hold : (b : ℕ) (rs : List Rule) (c : ℕ) → T (between 1 b rs) → First rs c → c ≡ 0 → Hold rs
all_hold b [] c t f z = tt
all_hold b (r ∷ rs) c t (inl p) z =
    let x : 1 ≤ r.number = leb→le 1 r.number (and_left (leb 1 r.number) (and (leb r.number b) (between 1 b rs)) t) in
    absurd (omega (arith, p.1, z))
all_hold b (r ∷ rs) c t (inr p) z = (
  p.0,
  all_hold b rs c (and_right (leb r.number b) (between 1 b rs) (and_right (leb 1 r.number) (and (leb r.number b) (between 1 b rs)) t))
      p.1 z,
)

-- ---- two lists, one after the other

-- a refusal of the first is one of both
pub before : (rs qs : List Rule) (c : ℕ) → c ≢ 0 → First rs c → First (rs ++ qs) c
before [] qs c n f = absurd (n f)
before (r ∷ rs) qs c n (inl p) = inl p
before (r ∷ rs) qs c n (inr p) = inr (p.0, before rs qs c n p.1)

-- where the first holds, the second decides
pub after : (rs qs : List Rule) (c : ℕ) → Hold rs → First qs c → First (rs ++ qs) c
after [] qs c h f = f
after (r ∷ rs) qs c h f = inr (h.0, after rs qs c h.1 f)

pub rest : (rs qs : List Rule) (c : ℕ) → Hold rs → First (rs ++ qs) c → First qs c
rest [] qs c h f = f
rest (r ∷ rs) qs c h (inl p) = absurd (p.0 h.0)
rest (r ∷ rs) qs c h (inr p) = rest rs qs c h.1 p.1

-- it is the first that refuses, or it holds and the second decides
pub parts : (rs qs : List Rule) (c : ℕ) → First (rs ++ qs) c → ((Hold rs → ⊥) × First rs c) ⊎ (Hold rs × First qs c)
parts [] qs c f = inr (tt, f)
parts (r ∷ rs) qs c (inl p) = inl ((λ h. p.0 h.0), inl p)
parts (r ∷ rs) qs c (inr p) = go (parts rs qs c p.1)
  where
    go : ((Hold rs → ⊥) × First rs c) ⊎ (Hold rs × First qs c) → ((Hold (r ∷ rs) → ⊥) × First (r ∷ rs) c) ⊎ (Hold (r ∷ rs) × First qs c)
    go (inl q) = inl ((λ h. q.0 h.1), inr (p.0, q.1))
    go (inr q) = inr ((p.0, q.0), q.1)

-- where no refusal is told, both hold
pub hold_both : (rs qs : List Rule) → Hold (rs ++ qs) → Hold rs × Hold qs
hold_both [] qs h = (tt, h)
hold_both (r ∷ rs) qs h = let x = hold_both rs qs h.1 in ((h.0, x.0), x.1)

-- ---- one rule at its place

-- rule k of a list, from 0, fails, and those before it hold
abbrev pub Stops : ℕ → List Rule → ℕ → Type 0
Stops k [] c = ⊥
Stops zero (r ∷ rs) c = (r.holds → ⊥) × (c ≡ r.number)
Stops (suc k) (r ∷ rs) c = r.holds × Stops k rs c

pub stops : (k : ℕ) (rs : List Rule) (c : ℕ) → Stops k rs c → First rs c
stops k [] c s = absurd s
stops zero (r ∷ rs) c s = inl s
stops (suc k) (r ∷ rs) c s = inr (s.0, stops k rs c s.1)

-- ---- rules exchanged for others with the same number

-- each rule of the first list says what its fellow of the second does, where those before it hold
abbrev pub Alike : List Rule → List Rule → Type 0
Alike [] [] = Unit {0}
Alike [] (q ∷ qs) = ⊥
Alike (r ∷ rs) [] = ⊥
Alike (r ∷ rs) (q ∷ qs) = (r.number ≡ q.number) × (r.holds → q.holds) × (q.holds → r.holds) × (r.holds → Alike rs qs)

pub first_alike : (rs qs : List Rule) (c : ℕ) → Alike rs qs → First rs c → First qs c
first_alike [] [] c a f = f
first_alike [] (q ∷ qs) c a f = absurd a
first_alike (r ∷ rs) [] c a f = absurd a
first_alike (r ∷ rs) (q ∷ qs) c a (inl p) = inl ((λ h. p.0 (a.2 h)), p.1 ∙ a.0)
first_alike (r ∷ rs) (q ∷ qs) c a (inr p) = inr (a.1 p.0, first_alike rs qs c (a.3 p.0) p.1)

-- the same questions, told in two ways
pub asked_alike : {A : Type 0} (t u : (A → Type 0) → Type 0) (qs : List (Question A)) → ((P : A → Type 0) → t P → u P) → ((P : A → Type 0) → u P → t P)
    → Alike (asked t qs) (asked u qs)
asked_alike t u [] to from = tt
asked_alike t u (q ∷ qs) to from = (refl, to q.asks, from q.asks, λ _. asked_alike t u qs to from)

-- ---- answers

-- what is done or refused, told apart by its number
pub either : (P : Type 0) (c : ℕ) → (c ≡ 0 → P) → (c ≢ 0 → P) → P
either P c f g = go (ℕ_discrete c 0)
  where
    go : Dec (c ≡ 0) → P
    go (yes z) = f z
    go (no n) = g n

pub same_numbers : (a b : Numbers) → a.code ≡ b.code → a.value ≡ b.value → a ≡ b
same_numbers a b e f = ap₂ (λ (c v : ℕ). made c v) e f
  where
    made : ℕ → ℕ → Numbers
    made c v = record { code = c; value = v }

-- numbers that are zero with a refusal agree where the codes do, and the values of what is done
pub decided : (a b : Numbers) → (a.code ≢ 0 → a.value ≡ 0) → (b.code ≢ 0 → b.value ≡ 0) → a.code ≡ b.code → (a.code ≡ 0 → a.value ≡ b.value) → a ≡ b
decided a b za zb e v = either (a ≡ b) a.code (λ z. same_numbers a b e (v z)) (λ n. same_numbers a b e (za n ∙ sym (zb (λ z. n (e ∙ z)))))
