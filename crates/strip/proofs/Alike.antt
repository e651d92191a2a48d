-- Two readings of strips that are the same but for the bytes under marks, by readers of versions up to m and up to n.
use mathlib.Core.Path.{◌≡◌, refl, sym, ap, ap₂, ◌∙◌, subst}
use mathlib.Core.Logic.{◌≢◌, ◌⊎◌, inl, inr, ⊎_elim}
use mathlib.Core.List.{List, [], ◌∷◌, ◌++◌}
use Prim.Native.Nat.{ℕ, ◌+◌, ◌*◌, ◌≤◌, ◌<◌}
use native.Mathlib.Decide.{ℕ_discrete}
use native.Mathlib.Omega.{arith}
use lib.ListN.{length, drop, take-append-drop}
use Rattle.account.specs.Reach.{SameRead}
use Rattle.account.proofs.Theorems.{read_itself, read_turned}
use Rattle.gf256.specs.Gf256.{gf256}
use Rattle.gf256.proofs.Field256.{field256}
use Rattle.rules.specs.Refusal.{Rule, First, Hold}
use Rattle.rules.proofs.Laws.{first_fixes, all_hold, parts, rest, before, after, first_alike, Alike, either}
use Rattle.level.specs.Level.{Level}
use Rattle.level.specs.Record.{field_at}
use Rattle.level.specs.Strip.{columns, Legal, Reached, Mends, Lowest, Mendable, mended_of, repainted_of, IsWear}
use Rattle.level.specs.Reading.{ReadNumbers, refused_at, but_repainted, returned, level_of, data_of, entering_with, naming, mending, OfMended}
use Rattle.rules.proofs.Numbers.{lt_or_ge}
use Rattle.level.proofs.Versions.{TakeAlike, taken_alike, judging_alike}
use Rattle.level.proofs.Dealing.{lanes_short}
use Rattle.level.proofs.Strips.{same_strip, reached_mends}
use Rattle.level.proofs.Mended.{reached_spells}
use Rattle.level.proofs.Counts.{legal_some}
use Rattle.level.proofs.Theorems.{wear_one}
use Rattle.level.proofs.Unread.{same_reached, same_mends, same_mendable, same_mended}
use Rattle.strip.specs.Reading.{Reading, strip_numbers, LevelRead, ReadsWith}
use Rattle.strip.proofs.Reader.{zeros, not_six}

-- ---- the numbers of an answer

abbrev numbers : ℕ → ℕ → ℕ → ℕ → ℕ → ℕ → ℕ → ℕ → ℕ → ℕ → ReadNumbers
numbers c l n w h p m d v r = record {
  code = c;
  lane = l;
  version = n;
  width = w;
  height = h;
  par = p;
  mended = m;
  repainted = d;
  wear = v;
  lanes = r;
}

-- all but repainted
same_numbers : (x y : ReadNumbers) → x.code ≡ y.code → x.lane ≡ y.lane → x.version ≡ y.version → x.width ≡ y.width → x.height ≡ y.height
    → x.par ≡ y.par → x.mended ≡ y.mended → x.wear ≡ y.wear → x.lanes ≡ y.lanes → but_repainted x ≡ but_repainted y
same_numbers x y c l n w h p m v r =
    ap₂ (λ (i j : ℕ). numbers i j x.version x.width x.height x.par x.mended 0 x.wear x.lanes) c l
    ∙ ap₂ (λ (i j : ℕ). numbers y.code y.lane i j x.height x.par x.mended 0 x.wear x.lanes) n w
    ∙ ap₂ (λ (i j : ℕ). numbers y.code y.lane y.version y.width i j x.mended 0 x.wear x.lanes) h p
    ∙ ap₂ (λ (i j : ℕ). numbers y.code y.lane y.version y.width y.height y.par i 0 j x.lanes) m v
    ∙ ap (numbers y.code y.lane y.version y.width y.height y.par y.mended 0 y.wear) r

-- and repainted too
all_numbers : (x y : ReadNumbers) → but_repainted x ≡ but_repainted y → x.repainted ≡ y.repainted → x ≡ y
all_numbers x y e d = ap₂ (λ (n : ReadNumbers) (i : ℕ). numbers n.code n.lane n.version n.width n.height n.par n.mended i n.wear n.lanes) e d

-- ---- two readings

-- two readers take the version of what a strip is mended to alike
abbrev pub VersionAlike : ℕ → ℕ → ℕ → List ℕ → List ℕ → Type 0
VersionAlike m n R marks s = (t : List ℕ) → Mends gf256 R marks s t → TakeAlike m n (field_at (data_of R t) 0 4)

-- what is asked before each picture is looked at: it is the same of both, it asks for a strip of legal length with its marks, and gives no 6
pub record EntersAlike (R : ℕ) (r marks : List ℕ) (early_r early_s : List Rule) : Type 1 where
  pub asks_alike : Alike early_r early_s
  pub asks_back : Hold early_r → Hold early_s
  pub legal : Hold early_r → Legal R (length r)
  pub matched : Hold early_r → length marks ≡ length r
  pub passed : First early_r 0 → Hold early_r
  pub before_six : (c : ℕ) → First early_r c → c ≢ 6

-- two readers ask for at least x and y bytes of scratch: each is lent enough, or neither is
abbrev pub EnoughAlike : ℕ → ℕ → List ℕ → List ℕ → Type 0
EnoughAlike x y u v = (x ≤ length u → y ≤ length v) × (y ≤ length v → x ≤ length u)

-- and then they ask the same
module _ (R x y : ℕ) (r s marks tiles u v : List ℕ) (same : SameRead marks r s) (room : EnoughAlike x y u v) where
  abbrev asked_r : List Rule
  asked_r = entering_with x R r marks (length tiles) (length u)

  abbrev asked_s : List Rule
  asked_s = entering_with y R s marks (length tiles) (length v)

  enter_alike : Alike asked_r asked_s
  enter_alike = (
    refl,
    subst (Legal R) same.same_length,
    subst (Legal R) (sym same.same_length),
    λ _. (
      refl,
      (λ e. e ∙ same.same_length),
      (λ e. e ∙ sym same.same_length),
      λ _. (
        refl,
        (λ g. g),
        (λ g. g),
        λ _. (refl, (λ g. g), (λ g. g), λ _. (refl, room.0, room.1, λ _. tt)),
      ),
    ),
  )

  pub enters_alike : EntersAlike R r marks (naming R ∷ asked_r) (naming R ∷ asked_s)
  enters_alike = record {
    asks_alike = (refl, (λ g. g), (λ g. g), λ _. enter_alike);
    asks_back = λ h. (
      h.0,
      (subst (Legal R) same.same_length h.1.0, (h.1.1.0 ∙ same.same_length, (h.1.1.1.0, (h.1.1.1.1.0, (room.0 h.1.1.1.1.1.0, tt))))),
    );
    legal = λ h. h.1.0;
    matched = λ h. h.1.1.0;
    passed = λ f. all_hold 15 (naming R ∷ asked_r) 0 tt f refl;
    before_six = not_six x R r marks (length tiles) (length u);
  }

module _ (m n R : ℕ) (two : 2 ≤ R) (early_r early_s : List Rule) (r s marks tiles t1 t2 u u' v v' : List ℕ) (same : SameRead marks r s)
    (E : EntersAlike R r marks early_r early_s) (takes : VersionAlike m n R marks r) (a b : Reading) (A : ReadsWith m R early_r r marks tiles t1 u u' a)
    (B : ReadsWith n R early_s s marks tiles t2 v v' b) where
  some : 0 < R
  some = omega (arith, two)

  short : columns R 364 + 5 ≤ 255
  short = omega (arith, lanes_short R two)

  -- and of the pictures
  module _ (h : Hold early_r) where
    legal : Legal R (length r)
    legal = E.legal h

    full : length r ≡ R * (legal.k + 5)
    full = legal.cells

    full' : length s ≡ R * (legal.k + 5)
    full' = sym same.same_length ∙ full

    matched : length marks ≡ length r
    matched = E.matched h

    matched' : length marks ≡ length s
    matched' = E.matched h ∙ same.same_length

    back : SameRead marks s r
    back = read_turned marks r s same

    -- the other strip is mended to the same
    mends_r : (t : List ℕ) → Mends gf256 R marks s t → Mends gf256 R marks r t
    mends_r = same_mends R some marks s r (legal.k + 5) full' matched' back gf256

    mends_s : (t : List ℕ) → Mends gf256 R marks r t → Mends gf256 R marks s t
    mends_s = same_mends R some marks r s (legal.k + 5) full matched same gf256

    mend_alike : Alike (mending gf256 R m r marks) (mending gf256 R n s marks)
    mend_alike = (
      refl,
      (λ f j l. same_mendable R some marks r s (legal.k + 5) full matched same gf256 j (f j l)),
      (λ f j l. same_mendable R some marks s r (legal.k + 5) full' matched' back gf256 j (f j l)),
      λ _. judging_alike m n R (OfMended gf256 R marks r) (OfMended gf256 R marks s) (λ ask f t M. f t (mends_r t M)) (λ ask f t M. f t (mends_s t M))
          (λ f t M. taken_alike m n (level_of (data_of R t)) (takes t (mends_r t M)) (f t (mends_r t M)))
          (λ f t M. let q = takes t M in taken_alike n m (level_of (data_of R t)) (q.1, q.0) (f t (mends_s t M))),
    )

  entered : (strip_numbers a).code ≡ 0 → Hold early_r
  entered z =
      ⊎_elim (λ q. E.passed (subst (First early_r) z q.1)) (λ q. q.0) (parts early_r (mending gf256 R m r marks) (strip_numbers a).code A.code)

  moved : First (early_s ++ mending gf256 R n s marks) (strip_numbers a).code
  moved = go (parts early_r (mending gf256 R m r marks) (strip_numbers a).code A.code)
    where
      go : ((Hold early_r → ⊥) × First early_r (strip_numbers a).code)
          ⊎ (Hold early_r × First (mending gf256 R m r marks) (strip_numbers a).code)
          → First (early_s ++ mending gf256 R n s marks) (strip_numbers a).code
      go (inl q) =
          before early_s (mending gf256 R n s marks) (strip_numbers a).code (λ z. q.0 (entered z))
          (first_alike early_r early_s (strip_numbers a).code E.asks_alike q.1)
      go (inr q) =
          after early_s (mending gf256 R n s marks) (strip_numbers a).code (E.asks_back q.0)
          (first_alike (mending gf256 R m r marks) (mending gf256 R n s marks) (strip_numbers a).code (mend_alike q.0) q.1)

  codes : (strip_numbers a).code ≡ (strip_numbers b).code
  codes = first_fixes (early_s ++ mending gf256 R n s marks) (strip_numbers a).code (strip_numbers b).code moved B.code

  -- the lowest lane is one
  lowest : Hold early_r → (i j : ℕ) → Lowest gf256 R marks r i → Lowest gf256 R marks s j → i ≡ j
  lowest h i j p q =
      ⊎_elim (λ l. absurd (p.beyond (to_r i (q.below i l))))
      (λ g. ⊎_elim (λ l. absurd (q.beyond (to_s j (p.below j l)))) (λ k. omega arith) (lt_or_ge j i)) (lt_or_ge i j)
    where
      to_r : (n : ℕ) → Mendable gf256 R marks s n → Mendable gf256 R marks r n
      to_r n = same_mendable R some marks s r ((legal h).k + 5) (full' h) (matched' h) (back h) gf256 n

      to_s : (n : ℕ) → Mendable gf256 R marks r n → Mendable gf256 R marks s n
      to_s n = same_mendable R some marks r s ((legal h).k + 5) (full h) (matched h) same gf256 n

  -- 6 is told of a picture, not before
  looked_at : (strip_numbers a).code ≡ 6 → Hold early_r
  looked_at e = go (parts early_r (mending gf256 R m r marks) (strip_numbers a).code A.code)
    where
      go : ((Hold early_r → ⊥) × First early_r (strip_numbers a).code)
          ⊎ (Hold early_r × First (mending gf256 R m r marks) (strip_numbers a).code)
          → Hold early_r
      go (inl q) = absurd (E.before_six (strip_numbers a).code q.1 e)
      go (inr q) = q.0

  lanes : (strip_numbers a).lane ≡ (strip_numbers b).lane
  lanes = go (ℕ_discrete (strip_numbers a).code 6)
    where
      go : Dec ((strip_numbers a).code ≡ 6) → (strip_numbers a).lane ≡ (strip_numbers b).lane
      go (yes z) = lowest (looked_at z) (strip_numbers a).lane (strip_numbers b).lane (A.lane z) (B.lane (sym codes ∙ z))
      go (no n) = A.other_lane n ∙ sym (B.other_lane (λ z. n (codes ∙ z)))

  module _ (z : (strip_numbers a).code ≡ 0) where
    za : LevelRead gf256 m R r marks tiles t1 (strip_numbers a)
    za = A.level z

    zb : LevelRead gf256 n R s marks tiles t2 (strip_numbers b)
    zb = B.level (sym codes ∙ z)

    h : Hold early_r
    h = entered z

    -- its version is that of the mended strip, which the other takes too
    spells : level_of (data_of R za.strip) ≡ returned (strip_numbers a) t1
    spells =
        reached_spells gf256 field256 (omega arith) R some marks r za.strip (legal h).k (full h) (omega (arith, (legal h).to, short))
        (reached_mends gf256 field256 R some marks r (returned (strip_numbers a) t1) za.strip za.reached) (returned (strip_numbers a) t1) za.strip
        za.reached

    early : (returned (strip_numbers a) t1).version ≤ n
    early =
        (subst (λ (l : Level). TakeAlike m n l.version) spells
        (takes za.strip (reached_mends gf256 field256 R some marks r (returned (strip_numbers a) t1) za.strip za.reached))).0 za.reached.not_newer

    reached : Reached gf256 R n marks s (returned (strip_numbers a) t1) za.strip
    reached =
        same_reached R some marks r s ((legal h).k + 5) (full h) (matched h) same gf256 (returned (strip_numbers a) t1) za.strip
        (record { is_level = za.reached.is_level; not_newer = early; is_strip = za.reached.is_strip; reach = za.reached.reach })

    level : returned (strip_numbers a) t1 ≡ returned (strip_numbers b) t2
    level = zb.only (returned (strip_numbers a) t1) za.strip reached

    strips : za.strip ≡ zb.strip
    strips =
        same_strip gf256 field256 R some marks s ((legal h).k + 5) (full' h) (omega (arith, (legal h).to, short)) (returned (strip_numbers a) t1)
        (returned (strip_numbers b) t2) za.strip zb.strip
        reached zb.reached

    mendeds : (strip_numbers a).mended ≡ (strip_numbers b).mended
    mendeds =
        za.mended_is ∙ same_mended R some marks r s ((legal h).k + 5) (full h) (matched h) same za.strip ∙ ap (mended_of R marks s) strips ∙ sym zb.mended_is

    wides : (strip_numbers a).width ≡ (strip_numbers b).width
    wides = ap (λ (l : Level). l.width) level

    highs : (strip_numbers a).height ≡ (strip_numbers b).height
    highs = ap (λ (l : Level). l.height) level

    wears : (strip_numbers a).wear ≡ (strip_numbers b).wear
    wears =
        wear_one (strip_numbers b).mended (length r) (strip_numbers a).wear (strip_numbers b).wear (legal_some R some (legal h))
        (subst (λ (m : ℕ). IsWear m (length r) (strip_numbers a).wear) mendeds za.wear_is)
        (subst (λ (n : ℕ). IsWear (strip_numbers b).mended n (strip_numbers b).wear) (sym same.same_length) zb.wear_is)

    read_numbers : but_repainted (strip_numbers a) ≡ but_repainted (strip_numbers b)
    read_numbers =
        same_numbers (strip_numbers a) (strip_numbers b) codes lanes (ap (λ (l : Level). l.version) level) wides highs (ap (λ (l : Level). l.par) level)
        mendeds wears (za.lanes_is ∙ sym zb.lanes_is)

    read_tiles : t1 ≡ t2
    read_tiles =
        sym (take-append-drop ((strip_numbers a).width * (strip_numbers a).height) t1)
        ∙ ap₂ (λ (x y : List ℕ). x ++ y) (ap (λ (l : Level). l.tiles) level)
        (za.rest ∙ ap (λ (n : ℕ). drop n tiles) area ∙ sym zb.rest)
        ∙ take-append-drop ((strip_numbers b).width * (strip_numbers b).height) t2
      where
        area : (strip_numbers a).width * (strip_numbers a).height ≡ (strip_numbers b).width * (strip_numbers b).height
        area = ap₂ (λ (x y : ℕ). x * y) wides highs

  pub read_alike : (t1 ≡ t2) × (but_repainted (strip_numbers a) ≡ but_repainted (strip_numbers b))
  read_alike = (
    either (t1 ≡ t2) (strip_numbers a).code read_tiles (λ n. A.tiles_kept n ∙ sym (B.tiles_kept (λ z. n (codes ∙ z)))),
    either (but_repainted (strip_numbers a) ≡ but_repainted (strip_numbers b)) (strip_numbers a).code read_numbers (λ n.
        ap but_repainted (zeros a n ∙ ap₂ (λ (c l : ℕ). refused_at c l) codes lanes ∙ sym (zeros b (λ z. n (codes ∙ z))))),
  )

-- two readings of one strip
module _ (m n R : ℕ) (two : 2 ≤ R) (early_r early_s : List Rule) (s marks tiles t1 t2 u u' v v' : List ℕ)
    (E : EntersAlike R s marks early_r early_s) (takes : VersionAlike m n R marks s) (a b : Reading) (A : ReadsWith m R early_r s marks tiles t1 u u' a)
    (B : ReadsWith n R early_s s marks tiles t2 v v' b) where
  itself : SameRead marks s s
  itself = read_itself marks s

  one_code : (strip_numbers a).code ≡ (strip_numbers b).code
  one_code = codes m n R two early_r early_s s s marks tiles t1 t2 u u' v v' itself E takes a b A B

  -- what is repainted is counted against one strip
  one_repainted : (strip_numbers a).repainted ≡ (strip_numbers b).repainted
  one_repainted =
      either ((strip_numbers a).repainted ≡ (strip_numbers b).repainted) (strip_numbers a).code
      (λ z. (za m n R two early_r early_s s s marks tiles t1 t2 u u' v v' itself E takes a b A B z).repainted_is ∙ ap (repainted_of R marks s) (strips m n R two early_r early_s s s marks tiles t1 t2 u u' v v' itself E takes a b A B z)
      ∙ sym (zb m n R two early_r early_s s s marks tiles t1 t2 u u' v v' itself E takes a b A B z).repainted_is)
      (λ n. ap (λ (x : ReadNumbers). x.repainted) (zeros a n) ∙ sym (ap (λ (x : ReadNumbers). x.repainted) (zeros b (λ z. n (one_code ∙ z)))))

  pub read_once : (t1 ≡ t2) × (strip_numbers a ≡ strip_numbers b)
  read_once =
      let q = read_alike m n R two early_r early_s s s marks tiles t1 t2 u u' v v' itself E takes a b A B in
      (q.0, all_numbers (strip_numbers a) (strip_numbers b) q.1 one_repainted)

-- ---- a rule that holds

-- asked or not, it makes no difference
module _ (upto R : ℕ) (rule : Rule) (early : List Rule) (s marks tiles tiles' scratch scratch' : List ℕ) (a : Reading) (holds : rule.holds) where
  pub rule_dropped : ReadsWith upto R (rule ∷ early) s marks tiles tiles' scratch scratch' a → ReadsWith upto R early s marks tiles tiles' scratch scratch' a
  rule_dropped A = record {
    code = rest (rule ∷ []) (early ++ mending gf256 R upto s marks) (strip_numbers a).code (holds, tt) A.code;
    lane = A.lane;
    other_lane = A.other_lane;
    level = A.level;
    no_level = λ h. A.no_level (holds, h);
    tiles_kept = A.tiles_kept;
    scratch_kept = λ n. A.scratch_kept (λ h. n h.1);
  }

  pub rule_added : ReadsWith upto R early s marks tiles tiles' scratch scratch' a → ReadsWith upto R (rule ∷ early) s marks tiles tiles' scratch scratch' a
  rule_added A = record {
    code = inr (holds, A.code);
    lane = A.lane;
    other_lane = A.other_lane;
    level = A.level;
    no_level = λ h. A.no_level h.1;
    tiles_kept = A.tiles_kept;
    scratch_kept = λ n. A.scratch_kept (λ h. n (holds, h));
  }
