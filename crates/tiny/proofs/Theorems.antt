-- What the promise of the entry comes to: FORMAT 16.7 to 16.10.
use mathlib.Core.Path.{◌≡◌, refl, sym, ap, ap₂, subst, ◌∙◌}
use mathlib.Core.Logic.{◌≢◌, ◌⊎◌, inl, inr}
use mathlib.Core.List.{List, [], ◌∷◌, ◌++◌}
use Prim.Native.Nat.{ℕ, zero, suc, ◌*◌, ◌^◌, ◌≤◌, ◌<◌}
use native.Mathlib.Nat.{eq-or-lt_of_le}
use native.Mathlib.Omega.{arith}
use lib.Dec.{T}
use lib.ListN.{length, get_or, take, take-append-drop}
use Rattle.rules.proofs.Laws.{between, first_fixes, none_first, all_hold, same_numbers}
use Rattle.rules.proofs.Numbers.{lt_or_ge}
use Rattle.level.specs.Sizes.{tiles_most}
use Rattle.std.specs.Prelude.{Option, Some, None, Result, Ok, Err}
use Rattle.rules.specs.declared.Refusal.{Refusal}
use Rattle.tiny.specs.Tiny.{Tiny, LegalBoard, number, Place, start, after, Later, IsNext, NoneLeft, next_numbers, stepping, StepsAs, Gave, Walk, WholeWalk, AllInOrder}
use Rattle.tiny.proofs.Digits.{same_board, digits_below}

module _ (w h : ℕ) where
  -- ---- FORMAT 16.7: one call

  -- the board that is given back is the next one
  pub gave_next : (p : Place) (b : List ℕ) → Gave w h p b → IsNext w h p b
  gave_next p b g = subst (IsNext w h p) (sym g.front) (g.promise.next g.found)

  -- strictly later than the given one
  pub next_later : (g b : List ℕ) → Gave w h (after g) b → number g < number b
  next_later g b k = (gave_next (after g) b k).later

  -- and no legal board lies between
  pub none_between : (p : Place) (b : List ℕ) → Gave w h p b → (c : List ℕ) → LegalBoard w h c → Later p c → number c < number b → ⊥
  none_between p b k c l e s = omega (arith, (gave_next p b k).least c l e, s)

  -- none is left exactly if there is none
  pub none_left : (p : Place) (old new : List ℕ) (a : Result (Option ℕ) Refusal) → StepsAs w h p old new a → (next_numbers a).code ≡ 0
      → ((next_numbers a).value ≡ 0 → NoneLeft w h p) × (NoneLeft w h p → (next_numbers a).value ≡ 0)
  none_left p old new a P z = (P.none z, λ n. go n (lt_or_ge (next_numbers a).value 1))
    where
      go : NoneLeft w h p → ((next_numbers a).value < 1) ⊎ (1 ≤ (next_numbers a).value) → (next_numbers a).value ≡ 0
      go n (inl l) = omega (arith, l)
      go n (inr l) = absurd (n (take (w * h) new) (P.next l).board (P.next l).later)

  -- the numbers of its refusals have room
  pub numbers_small : (p : Place) (room : ℕ) → T (between 1 31 (stepping w h p room))
  numbers_small start room = tt
  numbers_small (after g) room = tt

  -- the answer has at most six tiles
  pub few_tiles : (p : Place) (old new : List ℕ) (a : Result (Option ℕ) Refusal) → StepsAs w h p old new a → (next_numbers a).value ≤ 6
  few_tiles p old new (Ok (Some n)) P = go (lt_or_ge n 1)
    where
      go : (n < 1) ⊎ (1 ≤ n) → n ≤ 6
      go (inl l) = omega (arith, l)
      go (inr l) = omega (arith, P.size l, (all_hold 31 (stepping w h p (length old)) 0 (numbers_small p (length old)) P.code refl).1.0.few)
  few_tiles p old new (Ok None) P = omega arith
  few_tiles p old new (Err e) P = omega arith

  -- the next board is one board
  pub next_fixed : (p : Place) (a b : List ℕ) → IsNext w h p a → IsNext w h p b → a ≡ b
  next_fixed p a b m n =
      same_board a b m.board.codes n.board.codes (m.board.count ∙ sym n.board.count)
      (omega (arith, m.least b n.board n.later, n.least a m.board m.later))

  -- ---- FORMAT 10.9: the promise fixes every number and byte

  refused_zero : (a : Result (Option ℕ) Refusal) → (next_numbers a).code ≢ 0 → (next_numbers a).value ≡ 0
  refused_zero (Ok (Some n)) k = absurd (k refl)
  refused_zero (Ok None) k = refl
  refused_zero (Err e) k = refl

  found_done : (a : Result (Option ℕ) Refusal) → 1 ≤ (next_numbers a).value → (next_numbers a).code ≡ 0
  found_done (Ok (Some n)) l = refl
  found_done (Ok None) l = refl
  found_done (Err e) l = absurd (omega (arith, l))

  module _ (p : Place) (old new new' : List ℕ) (a b : Result (Option ℕ) Refusal) (P : StepsAs w h p old new a) (Q : StepsAs w h p old new' b) where
    same_code : (next_numbers a).code ≡ (next_numbers b).code
    same_code = first_fixes (stepping w h p (length old)) (next_numbers a).code (next_numbers b).code P.code Q.code

    pub steps_fixed : (next_numbers a ≡ next_numbers b) × (new ≡ new')
    steps_fixed = go (lt_or_ge (next_numbers a).value 1) (lt_or_ge (next_numbers b).value 1)
      where
        -- the one has a board, and the other has none
        differ : (x y : Result (Option ℕ) Refusal) (m n : List ℕ) → StepsAs w h p old m x → StepsAs w h p old n y → (next_numbers x).code ≡ (next_numbers y).code
            → 1 ≤ (next_numbers x).value → (next_numbers y).value < 1 → ⊥
        differ x y m n X Y e l k =
            Y.none (sym e ∙ found_done x l) (omega (arith, k)) (take (w * h) m) (X.next l).board (X.next l).later

        go : ((next_numbers a).value < 1) ⊎ (1 ≤ (next_numbers a).value) → ((next_numbers b).value < 1) ⊎ (1 ≤ (next_numbers b).value)
            → (next_numbers a ≡ next_numbers b) × (new ≡ new')
        go (inl k) (inl l) =
            (same_numbers (next_numbers a) (next_numbers b) same_code (omega (arith, k, l)), P.kept (omega (arith, k)) ∙ sym (Q.kept (omega (arith, l))))
        go (inl k) (inr l) = absurd (differ b a new' new Q P (sym same_code) l k)
        go (inr k) (inl l) = absurd (differ a b new new' P Q same_code k l)
        go (inr k) (inr l) =
            let front = next_fixed p (take (w * h) new) (take (w * h) new') (P.next k) (Q.next l) in
            let back = P.past k ∙ sym (Q.past l) in (
              same_numbers (next_numbers a) (next_numbers b) same_code (P.size k ∙ sym (Q.size l)),
              sym (take-append-drop (w * h) new) ∙ ap₂ (λ (x y : List ℕ). x ++ y) front back ∙ take-append-drop (w * h) new',
            )

  -- ---- FORMAT 16.8: a walk is not refused on its way

  module _ (t : Tiny w h) (old new : List ℕ) (a : Result (Option ℕ) Refusal) (room : tiles_most ≤ length old) where
    pub start_taken : StepsAs w h start old new a → (next_numbers a).code ≡ 0
    start_taken P = none_first (stepping w h start (length old)) (next_numbers a).code (room, (t, tt)) P.code

    pub board_taken : (b : List ℕ) → LegalBoard w h b → StepsAs w h (after b) old new a → (next_numbers a).code ≡ 0
    board_taken b l P = none_first (stepping w h (after b) (length old)) (next_numbers a).code (room, (t, (l.count, (l.codes, tt)))) P.code

  -- ---- FORMAT 16.9: walks

  -- what is later than a later board is later
  onward : (p : Place) (b c : List ℕ) → Later p b → number b < number c → Later p c
  onward start b c l m = tt
  onward (after g) b c l m = omega (arith, l, m)

  -- a walk that is over was under way
  pub on_the_way : (p : Place) (bs : List (List ℕ)) → WholeWalk w h p bs → Walk w h p bs
  on_the_way p [] W = tt
  on_the_way p (b ∷ bs) W = (W.0, on_the_way (after b) bs W.1)

  -- it gives later legal boards
  pub walk_only : (p : Place) (bs : List (List ℕ)) → Walk w h p bs → (i : ℕ) → i < length bs → LegalBoard w h (get_or bs i []) × Later p (get_or bs i [])
  walk_only p [] W i l = absurd (omega (arith, l))
  walk_only p (b ∷ bs) W zero l = let n = gave_next p b W.0 in (n.board, n.later)
  walk_only p (b ∷ bs) W (suc i) l =
      let r = walk_only (after b) bs W.1 i (omega (arith, l)) in (r.0, onward p b (get_or bs i []) (gave_next p b W.0).later r.1)

  -- in the order of their numbers
  pub walk_rising : (p : Place) (bs : List (List ℕ)) → Walk w h p bs → (i j : ℕ) → i < j → j < length bs → number (get_or bs i []) < number (get_or bs j [])
  walk_rising p [] W i j m l = absurd (omega (arith, l))
  walk_rising p (b ∷ bs) W i zero m l = absurd (omega (arith, m))
  walk_rising p (b ∷ bs) W zero (suc j) m l = (walk_only (after b) bs W.1 j (omega (arith, l))).1
  walk_rising p (b ∷ bs) W (suc i) (suc j) m l = walk_rising (after b) bs W.1 i j (omega (arith, m)) (omega (arith, l))

  -- no board twice
  pub walk_once : (p : Place) (bs : List (List ℕ)) → Walk w h p bs → (i j : ℕ) → i < length bs → j < length bs → get_or bs i [] ≡ get_or bs j [] → i ≡ j
  walk_once p bs W i j k l e = go (lt_or_ge i j) (lt_or_ge j i)
    where
      same : number (get_or bs i []) ≡ number (get_or bs j [])
      same = ap number e

      go : (i < j) ⊎ (j ≤ i) → (j < i) ⊎ (i ≤ j) → i ≡ j
      go (inl m) q = absurd (omega (arith, walk_rising p bs W i j m l, same))
      go (inr m) (inl q) = absurd (omega (arith, walk_rising p bs W j i q k, same))
      go (inr m) (inr q) = omega (arith, m, q)

  -- continued until none is left, it meets all of them
  pub walk_meets : (p : Place) (bs : List (List ℕ)) → WholeWalk w h p bs → (c : List ℕ) → LegalBoard w h c → Later p c
      → (i : ℕ) × (i < length bs) × (get_or bs i [] ≡ c)
  walk_meets p [] W c l m = absurd (W.promise.none W.done W.none c l m)
  walk_meets p (b ∷ bs) W c l m = go (λ q. walk_meets (after b) bs W.1 c l q) (eq-or-lt_of_le (n.least c l m))
    where
      n : IsNext w h p b
      n = gave_next p b W.0

      go : (number b < number c → (i : ℕ) × (i < length bs) × (get_or bs i [] ≡ c)) → (number b ≡ number c) ⊎ (number b < number c)
          → (i : ℕ) × (i < length (b ∷ bs)) × (get_or (b ∷ bs) i [] ≡ c)
      go f (inl e) = (0, omega arith, same_board b c n.board.codes l.codes (n.board.count ∙ sym l.count) e)
      go f (inr q) = let r = f q in (suc r.0, omega (arith, r.1), r.2)

  -- so from any place on it gives just the later legal boards, each once and in order
  pub walk_from : (p : Place) (bs : List (List ℕ)) → WholeWalk w h p bs → AllInOrder (λ c. LegalBoard w h c × Later p c) bs
  walk_from p bs W =
      let U = on_the_way p bs W in
      record { only = walk_only p bs U; meets = λ c l. walk_meets p bs W c l.0 l.1; once = walk_once p bs U; rising = walk_rising p bs U }

  -- and from the start on all legal boards of the size
  pub walk_whole : (bs : List (List ℕ)) → WholeWalk w h start bs → AllInOrder (LegalBoard w h) bs
  walk_whole bs W =
      let r = walk_from start bs W in
      record { only = λ i l. (r.only i l).0; meets = λ c l. r.meets c (l, tt); once = r.once; rising = r.rising }

  -- ---- FORMAT 16.9: a walk comes to its end

  rises : (p : Place) (bs : List (List ℕ)) → Walk w h p bs → (i : ℕ) → i < length bs → i ≤ number (get_or bs i [])
  rises p bs W zero l = omega arith
  rises p bs W (suc i) l = omega (arith, rises p bs W i (omega (arith, l)), walk_rising p bs W i (suc i) (omega arith) l)

  -- it has given no more boards than there are numbers
  pub walk_short : (p : Place) (bs : List (List ℕ)) → Walk w h p bs → length bs ≤ 7 ^ (w * h)
  walk_short p [] W = omega arith
  walk_short p (b ∷ bs) W =
      let c = get_or (b ∷ bs) (length bs) [] in
      let l = (walk_only p (b ∷ bs) W (length bs) (omega arith)).0 in
      let below : number c < 7 ^ (w * h) = subst (λ (n : ℕ). number c < 7 ^ n) l.count (digits_below (length c) c l.codes) in
      omega (arith, rises p (b ∷ bs) W (length bs) (omega arith), below)
