-- The remainder of a word by the generator: five packed bytes with the word's five sums.
use Rattle.std.specs.Prelude.{◌≡◌, List, [], ◌∷◌, ◌++◌, ℕ, ◌+◌, ◌*◌, ◌≤◌, ◌<◌, ℤ, pos, negsuc, ◌≤ℤ◌, length, get_or, take}
use Rattle.account.specs.Code.{Clean, S}
use Rattle.account.specs.Lanes.{lane}
use Rattle.gf256.specs.Gf256.{gf256}
pub use Rattle.reductions.specs.Packed.{packed_end, unpacked, AtRoots, horn, horn_all, Reduced, SumsOf}
unfoldable pub use Rattle.reductions.specs.Packed.{at5}

-- x is r with the bytes bs after it, modulo the generator
pub record Moved (r : ℕ) (bs : List ℕ) (x : ℕ) : Type 0 where
  pub small : x < packed_end
  pub roots : AtRoots (λ y. at5 y x ≡ horn_all y (at5 y r) bs)

-- the five sums of r are those of w
pub record Remains (w : List ℕ) (r : ℕ) : Type 0 where
  pub small : r < packed_end
  pub sums : (j : ℤ) → negsuc 1 ≤ℤ j → j ≤ℤ pos 2 → S gf256 j (unpacked r) ≡ S gf256 j w

-- the five packed bytes x complete the data d to a clean word
pub record Checks (d : List ℕ) (x : ℕ) : Type 0 where
  pub small : x < packed_end
  pub clean : Clean gf256 (d ++ unpacked x)

-- ---- the lanes of the cells s, all at once: R of them

module _ (R : ℕ) where
  -- the remainders of their first i cells
  abbrev pub LanesTo : ℕ → List ℕ → List ℕ → Type 0
  LanesTo i s r = (j : ℕ) → j < R → Remains (take i (lane R j s)) (get_or r j 0)

  -- their remainders
  abbrev pub LanesRemain : List ℕ → List ℕ → Type 0
  LanesRemain s r = (j : ℕ) → j < R → Remains (lane R j s) (get_or r j 0)

  -- their check bytes
  abbrev pub LanesCheck : List ℕ → List ℕ → Type 0
  LanesCheck s x = (j : ℕ) → j < R → Checks (lane R j s) (get_or x j 0)

  -- five cells of a lane, from cell p on
  abbrev pub five_at : List ℕ → ℕ → List ℕ
  five_at s p = get_or s p 0 ∷ get_or s (p + R) 0 ∷ get_or s (p + 2 * R) 0 ∷ get_or s (p + 3 * R) 0 ∷ get_or s (p + 4 * R) 0 ∷ []

  -- the first h cells of lane j, packed
  pub record FewOf (j h : ℕ) (s : List ℕ) (x : ℕ) : Type 0 where
    pub small : x < 4294967296
    pub remains : Remains (take h (lane R j s)) x

  -- room for R packed numbers
  pub record Room (o : List ℕ) : Type 0 where
    pub some : 1 ≤ R
    pub few : R ≤ 16
    pub long : length o ≡ 16
    pub small : (j : ℕ) → j < R → get_or o j 0 < packed_end

  -- the numbers of the lanes from a on, up to lane j, five cells more, from cell q on; the others are as they were
  pub record RowTo (s : List ℕ) (q a : ℕ) (o x : List ℕ) (j : ℕ) : Type 0 where
    pub from : a ≤ j
    pub within : j ≤ R
    pub long : length x ≡ length o
    pub done : (i : ℕ) → a ≤ i → i < j → Moved (get_or o i 0) (five_at s (q + i)) (get_or x i 0)
    pub front : (i : ℕ) → i < a → get_or x i 0 ≡ get_or o i 0
    pub rest : (i : ℕ) → j ≤ i → get_or x i 0 ≡ get_or o i 0

  -- each lane's number, five cells more, from cell q on
  abbrev pub RowMoved : List ℕ → ℕ → List ℕ → List ℕ → Type 0
  RowMoved s q o o' = (j : ℕ) → j < R → Moved (get_or o j 0) (five_at s (q + j)) (get_or o' j 0)

  -- each lane's number, all of its cells more
  abbrev pub RowsMoved : List ℕ → List ℕ → List ℕ → Type 0
  RowsMoved s o o' = (j : ℕ) → j < R → Moved (get_or o j 0) (lane R j s) (get_or o' j 0)
