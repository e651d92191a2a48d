-- What the entry answers.
use mathlib.Core.Path.{◌≡◌, refl, sym, ap, subst, ◌∙◌}
use mathlib.Core.Logic.{◌⊎◌, inl, inr, ⊎_elim}
use mathlib.Core.List.{List, [], ◌∷◌}
use Prim.Native.Nat.{ℕ, zero, suc, ◌*◌, ◌≤◌, ◌<◌}
use native.Mathlib.Nat.{eq-or-lt_of_le}
use native.Mathlib.Omega.{arith}
use lib.ListN.{length, get_or, take, drop, replicate, length-replicate, get_or-replicate}
use lib.Seq.{length-take-le}
use Rattle.std.specs.Prelude.{Option, Some, None, Ok}
use Rattle.rules.specs.Refusal.{Hold}
use Rattle.rules.proofs.Laws.{hold_first}
use Rattle.rules.proofs.Numbers.{lt_or_ge}
use Rattle.account.proofs.Lanes.{get_d_past}
use Rattle.level.specs.Level.{AllTiles}
use Rattle.level.proofs.Versions.{first_known}
use Rattle.level.proofs.Unfinished.{some_two}
use Rattle.tiny.specs.Tiny.{Tiny, LegalBoard, digits, number, Place, Later, IsNext, stepping, StepsAs}
use Rattle.tiny.specs.Parts.{Ruled, GoesOn}
use Rattle.tiny.proofs.Given.{tiny_sized, some_tile}
use Rattle.tiny.proofs.Digits.{same_tiles, floor_least}

-- ---- boards of a tiny size

ruled : (w h : ℕ) (c : List ℕ) → LegalBoard w h c → Ruled (w * h) c
ruled w h c b = record { long = b.count; codes = b.codes; fair = b.playable }

pub board : (w h : ℕ) → Tiny w h → (c : List ℕ) → Ruled (w * h) c → LegalBoard w h c
board w h t c r = record {
  ranged = record { known = first_known; sized = tiny_sized w h t; par_small = omega arith };
  count = r.long;
  codes = r.codes;
  playable = r.fair;
}

-- ---- from tiles on

-- the tiles `from` stand for the place: the same boards are later
module _ (w h : ℕ) (t : Tiny w h) (p : Place) (from : List ℕ) (long : length from ≡ w * h)
    (to : (c : List ℕ) → LegalBoard w h c → Later p c → number from < number c) (back : (c : List ℕ) → LegalBoard w h c → number from < number c → Later p c)
  where
    sized : (c : List ℕ) → LegalBoard w h c → Ruled (length from) c
    sized c b = subst (λ (n : ℕ). Ruled n c) (sym long) (ruled w h c b)

    pub steps : (old new : List ℕ) (o : Option ℕ) → Hold (stepping w h p (length old)) → length new ≡ length old → GoesOn from old new o
        → StepsAs w h p old new (Ok o)
    steps old new None hold same (over, kept) = record {
      code = hold_first (stepping w h p (length old)) hold;
      size = λ k. absurd (omega arith);
      next = λ k. absurd (omega arith);
      past = λ k. absurd (omega arith);
      none = λ z k c b l. over c (sized c b) (to c b l);
      kept = λ k. kept;
    }
    steps old new (Some n) hold same g = record {
      code = hold_first (stepping w h p (length old)) hold;
      size = λ k. g.size ∙ long;
      next = λ k. subst (λ (m : ℕ). IsNext w h p (take m new)) long found;
      past = λ k. subst (λ (m : ℕ). drop m new ≡ drop m old) long g.past;
      none = λ z k. absurd (omega (arith, k, g.size, long, some_tile w h t));
      kept = λ k. absurd (omega (arith, k, g.size, long, some_tile w h t));
    }
      where
        b : List ℕ
        b = take (length from) new

        legal : LegalBoard w h b
        legal = board w h t b (record {
          long = length-take-le (length from) new (omega (arith, same, long, t.few, hold.0)) ∙ long;
          codes = g.next.0.codes;
          fair = g.next.1;
        })

        found : IsNext w h p (take (length from) new)
        found = record {
          board = legal;
          later = back b legal g.next.0.later;
          least = λ c l k. g.next.0.least c (sized c l) (to c l k);
        }

-- ---- all floor

abbrev floor : ℕ → List ℕ
floor n = replicate n 0

-- as the program has it
pub floor_front : (n : ℕ) → n ≤ 6 → take {A = ℕ} n (0 ∷ 0 ∷ 0 ∷ 0 ∷ 0 ∷ 0 ∷ []) ≡ floor n
floor_front zero h = refl
floor_front (suc zero) h = refl
floor_front (suc (suc zero)) h = refl
floor_front (suc (suc (suc zero))) h = refl
floor_front (suc (suc (suc (suc zero)))) h = refl
floor_front (suc (suc (suc (suc (suc zero))))) h = refl
floor_front (suc (suc (suc (suc (suc (suc zero)))))) h = refl
floor_front (suc (suc (suc (suc (suc (suc (suc n))))))) h = absurd (omega arith)

module _ (n : ℕ) where
  pub floor_long : length (floor n) ≡ n
  floor_long = length-replicate n 0

  pub floor_none : (i : ℕ) → get_or (floor n) i 0 ≡ 0
  floor_none i =
      ⊎_elim (λ l. get_or-replicate n i 0 0 l) (λ l. get_d_past (floor n) i (omega (arith, floor_long, l))) (lt_or_ge i n)

  pub floor_coded : AllTiles 1 (floor n)
  floor_coded i h = omega (arith, floor_none i)

start_0 : (f c : List ℕ) → digits 0 f ≤ digits 0 c
unfolding digits
start_0 f c = omega arith

-- all floor stands for the start
pub floor_first : (w h : ℕ) (c : List ℕ) → LegalBoard w h c → number (floor (w * h)) < number c
floor_first w h c b = go (eq-or-lt_of_le least)
  where
    f : List ℕ
    f = floor (w * h)

    long : length f ≡ w * h
    long = floor_long (w * h)

    same : number c ≡ digits (length f) c
    same = ap (λ (n : ℕ). digits n c) (b.count ∙ sym long)

    least : number f ≤ number c
    least = subst (λ (n : ℕ). number f ≤ n) (sym same) (floor_least (length f) 0 f c (λ i l. floor_none (w * h) i) (omega arith) (start_0 f c))

    two : (i : ℕ) × (i < length c) × (get_or c i 0 ≡ 2)
    two = some_two c b.playable.unfinished

    go : (number f ≡ number c) ⊎ (number f < number c) → number f < number c
    go (inl e) =
        absurd (omega (
          arith,
          same_tiles (length f) f c (floor_coded (w * h)) b.codes (e ∙ same) two.0 (omega (arith, two.1, b.count, long)),
          floor_none (w * h) two.0,
          two.2,
        ))
    go (inr l) = l
