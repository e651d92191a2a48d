-- Rows judged: refusals 12 and 10, and the tiles where there is none.
use mathlib.Core.Path.{◌≡◌, refl, sym, ap, ap₂, ◌∙◌, subst}
use mathlib.Core.Logic.{inl, inr, ⊎_elim}
use mathlib.Core.List.{List, [], ◌∷◌, ◌++◌, map}
use Prim.Native.Nat.{ℕ, zero, suc, ◌+◌, ◌*◌, ◌-◌, ◌≤◌, ◌<◌}
use native.Mathlib.Omega.{arith}
use lib.ListN.{length, get_or, take, drop, replicate, length-append, length-replicate, get_or-replicate, get_or-append, get_or-eq_default}
use lib.Seq.{get_or-append-add, take_at, drop_at}
use Rattle.std.specs.Prelude.{Ok, Err}
use Rattle.rules.specs.declared.Refusal.{Refusal}
use Rattle.rules.specs.declared.Refusal.TheVariants as refusal
use Rattle.rules.specs.Refusal.{First, asked, number_of}
use Rattle.rules.proofs.Laws.{stops, some_number}
use Rattle.rules.proofs.Numbers.{lt_or_ge}
use Rattle.level.specs.Level.{Level, Sized, AllTiles, lending}
use Rattle.fields.specs.declared.head.Head.{Head}
use Rattle.fields.specs.Head.{lent_as}
use Rattle.level.specs.Writing.{lent}
use Rattle.level.proofs.Versions.{first_known}
use Rattle.fields.proofs.Tiles.{area_small}
use Rattle.lending.proofs.Lent.{lent_level}
use Rattle.typed.specs.Letters.{tile_of}
use Rattle.typed.specs.Text.{Letters, Rows, longest, filled, board, level_typed}
use Rattle.typed.specs.Parts.{Shown, Layable, LaidOut}
use Rattle.text.specs.Reading.{typing}
use Rattle.text.specs.Parts.{RowsReadAs}
use Rattle.typed.proofs.Unrolling.{board_long}

-- ---- the tiles of letters are tile codes

coded_both : (xs ys : List ℕ) → AllTiles 1 xs → AllTiles 1 ys → AllTiles 1 (xs ++ ys)
coded_both xs ys a b i h = ⊎_elim inside behind (lt_or_ge i (length xs))
  where
    inside : i < length xs → get_or (xs ++ ys) i 0 ≤ 6
    inside k = omega (arith, get_or-append xs ys 0 i k, a i k)

    behind : length xs ≤ i → get_or (xs ++ ys) i 0 ≤ 6
    behind k =
        let e : i ≡ length xs + (i - length xs) = omega arith in
        omega (arith, ap (λ (j : ℕ). get_or (xs ++ ys) j 0) e, get_or-append-add xs ys (i - length xs) 0, b (i - length xs) (omega (arith, h, length-append xs ys)))

coded_row : (r : List ℕ) → Letters r → AllTiles 1 (map tile_of r)
coded_row [] h i k = absurd (omega (arith, k))
coded_row (c ∷ r) (t, h) zero k = t
coded_row (c ∷ r) (t, h) (suc i) k = coded_row r h i (omega (arith, k))

coded : (w : ℕ) (rows : List (List ℕ)) → Rows rows → AllTiles 1 (board w rows)
coded w [] h = λ i k. absurd (omega (arith, k))
coded w (r ∷ rs) (a, h) =
    coded_both (filled w r) (board w rs)
    (coded_both (map tile_of r) (replicate (w - length r) 0) (coded_row r a)
    (λ i k. omega (arith, get_or-replicate {A = ℕ} (w - length r) i 0 0 (omega (arith, k, length-replicate {A = ℕ} (w - length r) 0)))))
    (coded w rs h)

-- ---- floor

all_floor : (n p : ℕ) → get_or (replicate {A = ℕ} n 0) p 0 ≡ 0
all_floor n p =
    ⊎_elim (λ h. get_or-replicate {A = ℕ} n p 0 0 h) (λ h. get_or-eq_default (replicate {A = ℕ} n 0) 0 (omega (arith, h, length-replicate {A = ℕ} n 0))) (lt_or_ge p n)

-- ---- judged

module _ (body : List ℕ) (f : Head) (S : Shown body f.width f.height) where
  abbrev rows : List (List ℕ)
  rows = S.has.rows

  pub rows_12 : (old : List ℕ) → (Sized f.width f.height → ⊥) → RowsReadAs f.par body old old (Err refusal.Rows)
  rows_12 old n = record {
    has = S.has;
    code = stops 0 (asked (λ ask. ask (level_typed f.par rows)) typing) 12 ((λ z. n (rw (S.width, S.height) z)), refl);
    is_level = λ z. absurd (omega (arith, z));
    says = λ z. absurd (omega (arith, z));
    past = λ z. absurd (omega (arith, z));
    kept = λ _. refl;
  }

  module _ (sized : Sized f.width f.height) where
    pub few : f.width * f.height ≤ 961
    few = area_small f.width f.height sized.not_wider sized.not_higher

    -- a board of floor has room for the rows
    pub layable : Layable body f.width (replicate 961 0)
    layable = record {
      has = S.has;
      narrow = omega (arith, S.width);
      not_wider = sized.not_wider;
      room = omega (arith, few, ap (λ (k : ℕ). f.width * k) S.height, length-replicate {A = ℕ} 961 0);
      few = omega (arith, length-replicate {A = ℕ} 961 0);
      is_floor = λ p. all_floor 961 p;
    }

    module _ (par_small : f.par ≤ 1023) where
      -- of all that a writer asks, only the rule is left
      asked_typing : (c : ℕ) → First (asked (λ ask. ask (level_typed f.par rows)) (lending 1)) c → First (asked (λ ask. ask (level_typed f.par rows)) typing) c
      asked_typing c (inl p) = absurd (p.0 (record {
        ranged = record { known = first_known; sized = rw (← S.width, ← S.height) sized; par_small = par_small };
        not_newer = omega arith;
      }))
      asked_typing c (inr (r, inl p)) = absurd (p.0 (board_long (longest rows) rows (omega arith)))
      asked_typing c (inr (r, inr (n, inl p))) = absurd (p.0 (coded (longest rows) rows S.has.letters))
      asked_typing c (inr (r, inr (n, inr (k, p)))) = inr (r.ranged.sized, p)

      module _ (is_first : f.version ≡ 1) (tiles : List ℕ) (L : LaidOut body f.width tiles) where
        abbrev laid : List ℕ
        laid = take (f.width * f.height) tiles

        -- the level that was asked is the one that the rows say
        said : lent_as f laid ≡ level_typed f.par rows
        said =
            ap (λ (v : ℕ). lent v f.width f.height f.par laid) is_first
            ∙ ap (λ (t : List ℕ). lent 1 f.width f.height f.par t) (ap (λ (k : ℕ). take k tiles) same ∙ L.laid S.has)
            ∙ ap₂ (λ (a b : ℕ). lent 1 a b f.par (board a rows)) S.width S.height
          where
            same : f.width * f.height ≡ f.width * length rows
            same = omega (arith, ap (λ (k : ℕ). f.width * k) S.height)

        module _ (c : ℕ) (answer : First (asked (λ ask. ask (lent_as f laid)) (lending 1)) c) where
          first : First (asked (λ ask. ask (level_typed f.par rows)) (lending 1)) c
          first = subst (λ (l : Level). First (asked (λ ask. ask l) (lending 1)) c) said answer

          pub rows_refused : (old : List ℕ) (e : Refusal) → c ≡ number_of e → RowsReadAs f.par body old old (Err e)
          rows_refused old e is = record {
            has = S.has;
            code = subst (First (asked (λ ask. ask (level_typed f.par rows)) typing)) is (asked_typing c first);
            is_level = λ z. absurd (some_number e z);
            says = λ z. absurd (some_number e z);
            past = λ z. absurd (some_number e z);
            kept = λ _. refl;
          }

          -- the tiles copied in front are all of the board
          pub rows_read : (old new : List ℕ) → c ≡ 0 → new ≡ laid ++ drop (f.width * f.height) old → RowsReadAs f.par body old new (Ok f)
          rows_read old new z put = record {
            has = S.has;
            code = subst (First (asked (λ ask. ask (level_typed f.par rows)) typing)) z (asked_typing c first);
            is_level = λ _. (lent_level 1 (level_typed f.par rows) c z first).0;
            says = λ _. ap (lent_as f) (ap (take (f.width * f.height)) put ∙ take_at laid _ (f.width * f.height) count) ∙ said;
            past = λ _. ap (drop (f.width * f.height)) put ∙ drop_at laid _ (f.width * f.height) count;
            kept = λ n. absurd (n refl);
          }
            where
              count : length laid ≡ f.width * f.height
              count =
                  ap (λ (l : Level). length l.tiles) said
                  ∙ board_long (longest rows) rows (omega arith)
                  ∙ sym (ap₂ (λ (a b : ℕ). a * b) S.width S.height)
