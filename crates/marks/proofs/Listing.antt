-- The marked cells of a lane, listed from the last down.
use mathlib.Core.Path.{◌≡◌, refl, sym, ap, ap₂, ◌∙◌, subst}
use mathlib.Core.Logic.{◌≢◌}
use mathlib.Core.Bool.{Bool, not}
use mathlib.Core.List.{List, [], ◌∷◌, ◌++◌, append_assoc, append-nil}
use Prim.Native.Nat.{ℕ, zero, suc, ◌+◌, ◌*◌, ◌/◌, ◌-◌, ◌<◌, ◌≤◌}
use native.Mathlib.Decide.{ℕ_discrete}
use native.Mathlib.Numerals.{add-one}
use native.Mathlib.Omega.{arith}
use lib.ListN.{length, get_or, take, length-set, length-append, drop_of_length-le}
use lib.Seq.{take-suc-set, take-set-le, length-take-le}
use borrow.Author.Tests.{eq-eqb, ne_eqb}
use Rattle.account.specs.Lanes.{lane}
use Rattle.account.specs.Reach.{count_to, is_marked}
use Rattle.account.specs.Search.{add_if, places, erasures}
use Rattle.account.proofs.Cells.{count_places}
use Rattle.account.proofs.Lanes.{length_lane, get_d_lane, cell_below}
use Rattle.values.specs.Values.{Gathered}
use Rattle.marks.specs.Marks.{Pushed, AllOf}

-- the first k are listed, those below i are still to come
pub record Listing (marks p : List ℕ) (k i : ℕ) : Type 0 where
  pub room : length p ≡ 6
  pub few : k ≤ 5
  pub within : i ≤ length marks
  pub list : take k p ++ places (is_marked marks) i ≡ erasures marks

pub list_starts : (marks p : List ℕ) (i : ℕ) → length p ≡ 6 → i ≡ length marks → Listing marks p 0 i
list_starts marks p i e h = record { room = e; few = omega arith; within = omega arith; list = ap (places (is_marked marks)) h }

-- one cell more
module _ (marks p q : List ℕ) (k r i : ℕ) (L : Listing marks p k (suc i)) (u : Pushed (get_or marks i 0) i p k q r) where
  abbrev more : Bool → List ℕ
  more b = take k p ++ add_if b i (places (is_marked marks) i)

  marked_list : get_or marks i 0 ≢ 0 → take k p ++ i ∷ places (is_marked marks) i ≡ erasures marks
  marked_list ne = ap more (sym (ap not (ne_eqb (get_or marks i 0) 0 ne))) ∙ L.list

  list_goes : r ≤ 5 → Listing marks q r i
  list_goes h = go (ℕ_discrete (get_or marks i 0) 0)
    where
      go : Dec (get_or marks i 0 ≡ 0) → Listing marks q r i
      go (yes z) = record {
        room = ap length u.put ∙ length-set p k i ∙ L.room;
        few = h;
        within = omega (arith, L.within);
        list =
            ap₂ (λ (m : ℕ) (v : List ℕ). take m v ++ places (is_marked marks) i) (u.none z) u.put
            ∙ ap (λ (v : List ℕ). v ++ places (is_marked marks) i) (take-set-le k p k i (omega arith))
            ∙ ap more (sym (ap not (eq-eqb (get_or marks i 0) 0 z))) ∙ L.list;
      }
      go (no ne) = record {
        room = ap length u.put ∙ length-set p k i ∙ L.room;
        few = h;
        within = omega (arith, L.within);
        list =
            ap₂ (λ (m : ℕ) (v : List ℕ). take m v ++ places (is_marked marks) i) (u.some ne ∙ add-one k) u.put
            ∙ ap (λ (v : List ℕ). v ++ places (is_marked marks) i) (take-suc-set p k i (omega (arith, L.room, low)))
            ∙ append_assoc (take k p) (i ∷ []) (places (is_marked marks) i) ∙ marked_list ne;
      }
        where
          low : k < 5
          low = omega (arith, u.some ne)

  -- a sixth
  list_full : 5 < r → 5 < count_to (is_marked marks) (length marks)
  list_full h = go (ℕ_discrete (get_or marks i 0) 0)
    where
      go : Dec (get_or marks i 0 ≡ 0) → 5 < count_to (is_marked marks) (length marks)
      go (yes z) = absurd (omega (arith, u.none z, L.few))
      go (no ne) = omega (
        arith,
        u.some ne,
        count_places (is_marked marks) (length marks),
        ap length (marked_list ne),
        length-append (take k p) (i ∷ places (is_marked marks) i),
        length-take-le k p (omega (arith, L.room, L.few)),
      )

-- the same for lane l of R, with the cell read from the strip
module _ (R l : ℕ) (inside : l < R) (marks p : List ℕ) (k i : ℕ) (hi : 0 < i) (L : Listing (lane R l marks) p k i) where
  some : 0 < R
  some = omega arith

  below : i - 1 < length marks / R
  below = omega (arith, L.within, length_lane R some l marks)

  pub read_below : R * (i - 1) + l < length marks
  read_below = cell_below R some (length marks) (i - 1) l inside below

  module _ (q : List ℕ) (r : ℕ) (u : Pushed (get_or marks (R * (i - 1) + l) 0) (i - 1) p k q r) where
    this : Listing (lane R l marks) p k (suc (i - 1))
    this = subst (Listing (lane R l marks) p k) back L
      where
        back : i ≡ suc (i - 1)
        back = omega arith

    pushed : Pushed (get_or (lane R l marks) (i - 1) 0) (i - 1) p k q r
    pushed = subst (λ (m : ℕ). Pushed m (i - 1) p k q r) (sym (get_d_lane R some l marks (i - 1) below)) u

    pub lane_goes : r ≤ 5 → Listing (lane R l marks) q r (i - 1)
    lane_goes = list_goes (lane R l marks) p q k r (i - 1) this pushed

    pub lane_many : 5 < r → 5 < count_to (is_marked (lane R l marks)) (length (lane R l marks))
    lane_many h = list_full (lane R l marks) p q k r (i - 1) this pushed h

-- the first five of six
abbrev five : List ℕ → List ℕ
five p = get_or p 0 0 ∷ get_or p 1 0 ∷ get_or p 2 0 ∷ get_or p 3 0 ∷ get_or p 4 0 ∷ []

five_front : (p : List ℕ) → length p ≡ 6 → (k : ℕ) → k ≤ 5 → take k (five p) ≡ take k p
five_front [] n k h = absurd (omega arith)
five_front (a ∷ []) n k h = absurd (omega arith)
five_front (a ∷ b ∷ []) n k h = absurd (omega arith)
five_front (a ∷ b ∷ c ∷ []) n k h = absurd (omega arith)
five_front (a ∷ b ∷ c ∷ d ∷ []) n k h = absurd (omega arith)
five_front (a ∷ b ∷ c ∷ d ∷ e ∷ r) n zero h = refl
five_front (a ∷ b ∷ c ∷ d ∷ e ∷ r) n (suc zero) h = refl
five_front (a ∷ b ∷ c ∷ d ∷ e ∷ r) n (suc (suc zero)) h = refl
five_front (a ∷ b ∷ c ∷ d ∷ e ∷ r) n (suc (suc (suc zero))) h = refl
five_front (a ∷ b ∷ c ∷ d ∷ e ∷ r) n (suc (suc (suc (suc zero)))) h = refl
five_front (a ∷ b ∷ c ∷ d ∷ e ∷ r) n (suc (suc (suc (suc (suc zero))))) h = refl
five_front (a ∷ b ∷ c ∷ d ∷ e ∷ r) n (suc (suc (suc (suc (suc (suc k)))))) h = absurd (omega arith)

-- all are listed
pub list_ends : (marks p : List ℕ) (k i : ℕ) → i ≡ 0 → Listing marks p k i → AllOf marks (record { count = k; cells = five p })
list_ends marks p k i z L = record {
  few = L.few;
  list = record { room = refl; list = five_front p L.room k L.few ∙ all };
  count = sym (length-take-le k p (omega (arith, L.room, L.few))) ∙ ap length all ∙ count_places (is_marked marks) (length marks);
}
  where
    all : take k p ≡ erasures marks
    all = sym (append-nil (take k p)) ∙ ap (λ (j : ℕ). take k p ++ places (is_marked marks) j) (sym z) ∙ L.list

-- where none is marked, nothing is to be listed
pub none_listed : (marks p : List ℕ) (f : ℕ) → f ≡ count_to (is_marked marks) (length marks) → f ≡ 0 → length p ≡ 5 → Gathered marks p f
none_listed marks p f e z h = record {
  room = h;
  list = ap (λ (k : ℕ). take k p) z ∙ sym (drop_of_length-le (erasures marks) {i = zero} (omega (arith, count_places (is_marked marks) (length marks), e, z)));
}

-- ---- all f of a word

module _ (marks p : List ℕ) (k i f : ℕ) (L : Listing marks p k i) (is : f ≡ count_to (is_marked marks) (length marks)) where
  counted : k + length (places (is_marked marks) i) ≡ f
  counted =
      omega (
        arith,
        is,
        count_places (is_marked marks) (length marks),
        ap length L.list,
        length-append (take k p) (places (is_marked marks) i),
        length-take-le k p (omega (arith, L.room, L.few)),
      )

  pub some_left : k < f → 0 < i
  some_left h = go i counted
    where
      go : (j : ℕ) → k + length (places (is_marked marks) j) ≡ f → 0 < j
      go zero e = absurd (omega arith)
      go (suc j) e = omega arith

  pub none_to_come : i ≡ 0 → k ≡ f
  none_to_come z =
      let e : length (places (is_marked marks) i) ≡ 0 = ap (λ (j : ℕ). length (places (is_marked marks) j)) z in
      omega (arith, counted, e)

  pub all_gathered : k ≡ f → Gathered marks (five p) f
  all_gathered e = record { room = refl; list = ap (λ (j : ℕ). take j (five p)) (sym e) ∙ five_front p L.room k L.few ∙ all }
    where
      all : take k p ≡ erasures marks
      all =
          sym (append-nil (take k p)) ∙ ap (λ (l : List ℕ). take k p ++ l) (sym (drop_of_length-le (places (is_marked marks) i) {i = zero} (omega (arith, counted, e)))) ∙ L.list

  -- one cell more
  module _ (q : List ℕ) (r : ℕ) (h : 0 < i) (u : Pushed (get_or marks (i - 1) 0) (i - 1) p k q r) where
    pub one_more : r ≤ k + 1
    one_more = go (ℕ_discrete (get_or marks (i - 1) 0) 0)
      where
        go : Dec (get_or marks (i - 1) 0 ≡ 0) → r ≤ k + 1
        go (yes z) = omega (arith, u.none z)
        go (no n) = omega (arith, u.some n)

    pub word_goes : r ≤ 5 → Listing marks q r (i - 1)
    word_goes = list_goes marks p q k r (i - 1) (subst (Listing marks p k) back L) u
      where
        back : i ≡ suc (i - 1)
        back = omega arith
