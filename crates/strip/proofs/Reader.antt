-- The strip reader's promise, from those of its parts.
use mathlib.Core.Path.{◌≡◌, refl, sym, ap, ◌∙◌, subst}
use mathlib.Core.Logic.{◌≢◌, inl, inr}
use mathlib.Core.List.{List, ◌∷◌}
use Prim.Native.Nat.{ℕ, ◌+◌, ◌*◌, ◌-◌, ◌≤◌, ◌<◌}
use native.Mathlib.Nat.{mul_comm}
use native.Mathlib.Omega.{arith}
use lib.ListN.{length, take}
use Rattle.gf256.specs.Gf256.{gf256}
use Rattle.gf256.proofs.Field256.{field256}
use Rattle.std.specs.Prelude.{Ok, Err}
use Rattle.rules.specs.declared.Refusal.{Refusal}
use Rattle.rules.specs.declared.Refusal.TheVariants as refusal
use Rattle.rules.specs.Refusal.{First, Hold, Within, asked, number_of}
use Rattle.rules.proofs.Laws.{some_number, before, after, stops, numbered, at_most, none_first}
use Rattle.level.specs.Sizes.{scratch_least}
use Rattle.level.specs.Level.{Level}
use Rattle.level.specs.Strip.{LaneCount, Legal, Reached, Mends, Lowest, mended_of, repainted_of, IsWear}
use Rattle.level.specs.Reading.{refused_at, returned, entering_with, naming, entering, mending, judging, data_of, level_of}
use Rattle.level.proofs.Dealing.{lanes_short}
use Rattle.level.proofs.Lengths.{lanes_within, legal_least, legal_most}
use Rattle.level.proofs.Strips.{mendable, reached_mends}
use Rattle.level.proofs.Mended.{level_reached, reached_spells, found, none_reached}
use Rattle.patches.specs.Patched.{patched}
use Rattle.patches.proofs.Patching.{patched_0, length_patched}
use Rattle.fields.specs.declared.head.Head.{Head}
use Rattle.fields.specs.Judged.{AcceptedAs}
use Rattle.fields.proofs.Accepting.{passed, level_is, tiles_past}
use Rattle.strip.specs.Reading.{Reading, strip_numbers, LevelRead, StripReadsAs, FinishedAs}

-- nothing that is asked early is refused with 6
pub not_six : (least R : ℕ) (s marks : List ℕ) (room scratch c : ℕ) → First (naming R ∷ entering_with least R s marks room scratch) c → c ≢ 6
not_six least R s marks room scratch c (inl p) e = omega (arith, p.1, e)
not_six least R s marks room scratch c (inr p) e = omega (arith, e, at_most 5 (entering_with least R s marks room scratch) c tt p.1)

module _ (upto R : ℕ) where
  -- ---- with what was mended and repainted

  module _ (bs tiles tiles' : List ℕ) (N e d : ℕ) where
    pub finish_refused : (r : Refusal) → AcceptedAs upto R bs tiles tiles' (Err r) → FinishedAs upto R bs N e d tiles tiles' (refused_at (number_of r) 0)
    finish_refused r A = record {
      first = A.first;
      lane = refl;
      version = λ z. absurd (some_number r z);
      wide = λ z. absurd (some_number r z);
      high = λ z. absurd (some_number r z);
      par = λ z. absurd (some_number r z);
      mended = λ z. absurd (some_number r z);
      repainted = λ z. absurd (some_number r z);
      wear = λ z. absurd (some_number r z);
      lanes = λ z. absurd (some_number r z);
      tiles_are = λ z. absurd (some_number r z);
      kept = λ _. A.kept;
    }

    pub finish_read : (f : Head) (v : ℕ) → IsWear e N v → AcceptedAs upto R bs tiles tiles' (Ok f) → FinishedAs upto R bs N e d tiles tiles'
        (strip_numbers (Ok (record { version = f.version; width = f.width; height = f.height; par = f.par; mended = e; repainted = d; wear = v; lanes = R })))
    finish_read f v ev A = record {
      first = A.first;
      lane = refl;
      version = λ _. A.heads.version;
      wide = λ _. A.heads.width;
      high = λ _. A.heads.height;
      par = λ _. A.heads.par;
      mended = λ _. refl;
      repainted = λ _. refl;
      wear = λ _. ev;
      lanes = λ _. refl;
      tiles_are = λ _. A.tiles;
      kept = λ n. absurd (n refl);
    }

  -- ---- the strip

  module _ (s marks tiles scratch : List ℕ) where
    -- refused before the picture is looked at
    pub early_as : (r : Refusal) → First (entering R s marks (length tiles) (length scratch)) (number_of r)
        → StripReadsAs upto R s marks tiles tiles scratch scratch (Err (record { refusal = r; lane = 0 }))
    early_as r f = record {
      code = before (entering R s marks (length tiles) (length scratch)) (mending gf256 R upto s marks) (number_of r) (some_number r) f;
      lane = λ z. absurd (not_six scratch_least R s marks (length tiles) (length scratch) (number_of r) f z);
      other_lane = λ _. refl;
      level = λ z. absurd (some_number r z);
      no_level = λ h k. absurd (some_number r (none_first (entering R s marks (length tiles) (length scratch)) (number_of r) h f));
      tiles_kept = λ _. refl;
      scratch_kept = λ _. refl;
    }

    module _ (scratch' : List ℕ) (h : Hold (entering R s marks (length tiles) (length scratch))) where
      two : 2 ≤ R
      two = (lanes_within R h.0).from

      some : 0 < R
      some = omega (arith, two)

      -- a lane is beyond reach
      pub lane_as : (j : ℕ) → Lowest gf256 R marks s j → StripReadsAs upto R s marks tiles tiles scratch scratch' (Err (record { refusal = refusal.OutOfReach; lane = j }))
      lane_as j low = record {
        code =
            after (entering R s marks (length tiles) (length scratch)) (mending gf256 R upto s marks) 6 h
            (stops 0 (mending gf256 R upto s marks) 6 ((λ f. low.beyond (f j low.lane_below)), refl));
        lane = λ _. low;
        other_lane = λ n. absurd (n refl);
        level = λ z. absurd (omega arith);
        no_level = λ _ _ l t r. low.beyond (mendable gf256 field256 R some marks s t (reached_mends gf256 field256 R some marks s l t r) j low.lane_below);
        tiles_kept = λ _. refl;
        scratch_kept = λ n. absurd (n h);
      }

      -- all are mended: 7 to 10, or the level
      module _ (t : List ℕ) (M : Mends gf256 R marks s t) (e d : ℕ) (counted : e ≡ mended_of R marks s t)
          (painted : d ≡ repainted_of R marks s t) (tiles' : List ℕ) (a : Reading) (F : FinishedAs upto R (data_of R t) (length s) e d tiles tiles' (strip_numbers a)) where
        full : length s ≡ R * (h.1.0.k + 5)
        full = h.1.0.cells

        shorter : h.1.0.k + 5 ≤ 255
        shorter = omega (arith, h.1.0.to, lanes_short R two)

        level_as : (strip_numbers a).code ≡ 0 → LevelRead gf256 upto R s marks tiles tiles' (strip_numbers a)
        level_as z = record {
          strip = t;
          reached =
              subst (λ (l : Level). Reached gf256 R upto marks s l t) same
              (level_reached gf256 field256 (omega arith) R some marks s t h.1.0.k full shorter M good);
          only = λ l u q. sym (reached_spells gf256 field256 (omega arith) R some marks s t h.1.0.k full shorter M l u q) ∙ same;
          mended_is = F.mended z ∙ counted;
          repainted_is = F.repainted z ∙ painted;
          lanes_is = F.lanes z;
          wear_is = subst (λ (x : ℕ). IsWear x (length s) (strip_numbers a).wear) (sym (F.mended z)) (F.wear z);
          rest =
              tiles_past (data_of R t) tiles tiles' (strip_numbers a).version (strip_numbers a).width (strip_numbers a).height (strip_numbers a).par (F.version z) (F.wide z) (F.high z) (F.par z)
              (F.tiles_are z);
        }
          where
            good : Hold (asked (λ ask. ask (data_of R t)) (judging upto R))
            good = passed upto R (data_of R t) (strip_numbers a).code z F.first

            same : level_of (data_of R t) ≡ returned (strip_numbers a) tiles'
            same =
                level_is (data_of R t) tiles tiles' (strip_numbers a).version (strip_numbers a).width (strip_numbers a).height (strip_numbers a).par (F.version z) (F.wide z) (F.high z) (F.par z)
                (F.tiles_are z)

        pub finished_as : StripReadsAs upto R s marks tiles tiles' scratch scratch' a
        finished_as = record {
          code =
              after (entering R s marks (length tiles) (length scratch)) (mending gf256 R upto s marks) (strip_numbers a).code h
              (inr (
                mendable gf256 field256 R some marks s t M,
                found gf256 field256 (omega arith) R some marks s t h.1.0.k full shorter M upto (strip_numbers a).code F.first,
              ));
          lane =
              λ z. absurd (omega (
                arith,
                z,
                numbered 7 10 (asked (λ ask. ask (data_of R t)) (judging upto R)) (strip_numbers a).code tt F.first
                    (λ y. omega (arith, y, z)),
              ));
          other_lane = λ _. F.lane;
          level = level_as;
          no_level = λ _ n. none_reached gf256 field256 (omega arith) R some marks s t h.1.0.k full shorter M upto (strip_numbers a).code n F.first;
          tiles_kept = F.kept;
          scratch_kept = λ n. absurd (n h);
        }

-- the data cells of a strip: the shortest record has its place there, and less than a column more than the longest
module _ (R n : ℕ) (lanes : LaneCount R) (legal : Legal R n) where
  many : 0 < R
  many = omega (arith, (lanes_within R lanes).from)

  pub checks_inside : R * 5 ≤ n
  checks_inside = omega (arith, legal_least R many n legal, mul_comm R 5)

  pub data_within : Within 4 379 (n - R * 5)
  data_within = record {
    from = omega (arith, legal_least R many n legal, mul_comm R 5);
    to = omega (arith, legal_most R many n legal, mul_comm R 5, (lanes_within R lanes).to);
  }

-- the data cells of the mended strip
module _ (R : ℕ) (s cells bytes : List ℕ) (count : ℕ) where
  pub data_mended : data_of R (patched cells bytes count s) ≡ take (length s - R * 5) (patched cells bytes count s)
  data_mended = ap (λ (n : ℕ). take (n - R * 5) (patched cells bytes count s)) (length_patched cells bytes s count)

  -- with nothing to put right they are those of the strip, as it is lent
  pub data_clean : count ≡ 0 → data_of R (patched cells bytes count s) ≡ take (length s - R * 5) s
  data_clean z = data_mended ∙ ap (λ (k : ℕ). take (length s - R * 5) (patched cells bytes k s)) z ∙ ap (take (length s - R * 5)) (patched_0 cells bytes s)

-- ---- the numbers of an answer

-- with a refusal all but the code and the lane is zero
pub zeros : (x : Reading) → (strip_numbers x).code ≢ 0 → strip_numbers x ≡ refused_at (strip_numbers x).code (strip_numbers x).lane
zeros (Ok r) n = absurd (n refl)
zeros (Err u) n = refl
