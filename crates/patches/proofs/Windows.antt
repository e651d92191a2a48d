-- A window filled from the strip and put right.
use mathlib.Core.Path.{◌≡◌, refl, sym, ap, ◌∙◌}
use mathlib.Core.List.{List, ◌++◌}
use Prim.Native.Nat.{ℕ, ◌+◌, ◌-◌, ◌≤◌, ◌<◌, min}
use native.Mathlib.Decide.{ℕ_discrete}
use native.Mathlib.Omega.{arith}
use lib.ListN.{length, get_or, take, drop, set, length-set, length-drop, get_or-append}
use lib.Seq.{get_or-set_same, get_or-set_other, set-get_or, get_or-take, get_or-drop, length-take-le}
use Rattle.patches.specs.Patched.{patched}
use Rattle.patches.proofs.Patching.{patched_0, patched_more, length_patched}
use Rattle.patches.specs.Window.{Behind, PatchedAt, Shows, WindowPatched, Shown}

-- ---- one cell

-- r is how far cell p is behind cell a, and o its place, or some place
module _ (a p b r o v : ℕ) (w : List ℕ) (room : 186 ≤ length w) (B : Behind a p r) (o_small : o < 186) (place : r < 186 → o ≡ r) where
  pub in_window : r < 186 → v ≡ b → PatchedAt a p b w (set w o v)
  in_window i e = record {
    long = length-set w o v;
    here = λ q h k. let z : q ≡ o = omega (arith, B.only q h k, place i) in
        ap (λ (m : ℕ). get_or (set w o v) m 0) z ∙ get_or-set_same w o v 0 (omega arith) ∙ e;
    other = λ q h k. get_or-set_other w o q v 0 (λ z. k (omega (arith, z, place i, B.is i)));
  }

  pub elsewhere : (r < 186 → ⊥) → v ≡ get_or w o 0 → PatchedAt a p b w (set w o v)
  elsewhere out e = record {
    long = length-set w o v;
    here = λ q h k. absurd (out (omega (arith, B.only q h k)));
    other = λ q h k. ap (λ (x : ℕ). get_or (set w o x) q 0) e ∙ ap (λ (x : List ℕ). get_or x q 0) (set-get_or w o 0);
  }

-- ---- all cells

module _ (cells bytes : List ℕ) (a : ℕ) (w : List ℕ) where
  pub window_0 : WindowPatched cells bytes 0 a w w
  window_0 = record { long = refl; shows = λ s n h k f. rw (patched_0 cells bytes s) f }

  pub window_more : (i p : ℕ) (w' w'' : List ℕ) → p ≡ get_or cells i 0 → WindowPatched cells bytes i a w w' → PatchedAt a p (get_or bytes i 0) w' w''
      → WindowPatched cells bytes (i + 1) a w w''
  window_more i p w' w'' e W P = record {
    long = P.long ∙ W.long;
    shows = λ s n h k f q l. at s q (omega arith) (omega arith) (W.shows s n h k f q l) (ℕ_discrete (a + q) (get_or cells i 0))
        ∙ ap (λ (t : List ℕ). get_or t (a + q) 0) (sym (patched_more cells bytes s i));
  }
    where
      at : (s : List ℕ) (q : ℕ) → q < 186 → a + q < length s → get_or w' q 0 ≡ get_or (patched cells bytes i s) (a + q) 0 → Dec (a + q ≡ get_or cells i 0)
          → get_or w'' q 0 ≡ get_or (set (patched cells bytes i s) (get_or cells i 0) (get_or bytes i 0)) (a + q) 0
      at s q h k f (yes z) =
          P.here q h (z ∙ sym e)
          ∙ sym (ap (λ (n : ℕ). get_or (set (patched cells bytes i s) (get_or cells i 0) (get_or bytes i 0)) n 0) z
          ∙ get_or-set_same (patched cells bytes i s) (get_or cells i 0) (get_or bytes i 0) 0 (omega (arith, length_patched cells bytes s i, z)))
      at s q h k f (no n) = P.other q h (λ z. n (z ∙ e)) ∙ f ∙ sym (get_or-set_other (patched cells bytes i s) (get_or cells i 0) (a + q) (get_or bytes i 0) 0 n)

-- ---- a window filled

-- a part of the strip, copied to the front
pub shown : (s old w : List ℕ) (a n : ℕ) → a + n ≤ length s → w ≡ take (a + n - a) (drop a s) ++ drop (length (take (a + n - a) (drop a s))) old
    → Shows s a n w
shown s old w a n h e q l =
    ap (λ (x : List ℕ). get_or x q 0) e
    ∙ get_or-append (take (a + n - a) (drop a s)) (drop (length (take (a + n - a) (drop a s))) old) 0 q (omega (arith, long))
    ∙ get_or-take (a + n - a) (drop a s) q 0 (omega arith) ∙ get_or-drop a s q 0
  where
    long : length (take (a + n - a) (drop a s)) ≡ n
    long = length-take-le (a + n - a) (drop a s) (omega (arith, length-drop a s)) ∙ omega arith

pub window_shown : (s cells bytes old w w' : List ℕ) (count a b n : ℕ) → n ≡ min 186 (b - a) → a ≤ b → b ≤ length s
    → w ≡ take (a + n - a) (drop a s) ++ drop (length (take (a + n - a) (drop a s))) old → WindowPatched cells bytes count a w w'
    → Shown s cells bytes count a b w' n
window_shown s cells bytes old w w' count a b n size order inside e P = record {
  most = omega arith;
  before = omega arith;
  full = omega arith;
  shows = P.shows s n (omega arith) (omega arith) (shown s old w a n (omega arith) e);
}
