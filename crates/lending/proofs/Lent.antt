-- A level that is lent: what passes every rule is one.
use mathlib.Core.Path.{◌≡◌}
use Prim.Native.Nat.{ℕ, ◌≤◌}
use Rattle.rules.specs.Refusal.{First, asked}
use Rattle.rules.proofs.Laws.{all_hold, hold_first}
use Rattle.level.specs.Level.{Level, IsLevel, lending}
use Rattle.level.specs.Writing.{writing_upto}
use Rattle.level.proofs.Judged.{level_passes, level_passed}

module _ (upto : ℕ) (l : Level) where
  pub lent_level : (c : ℕ) → c ≡ 0 → First (asked (λ ask. ask l) (lending upto)) c → IsLevel l × (l.version ≤ upto)
  lent_level c z f = level_passed upto l (all_hold 10 (asked (λ ask. ask l) (lending upto)) c tt f z)

  -- the same of a writer's whole list
  pub written_level : (least room c : ℕ) → c ≡ 0 → First (writing_upto upto least l room) c → (least ≤ room) × IsLevel l × (l.version ≤ upto)
  written_level least room c z f =
      let h = all_hold 10 (writing_upto upto least l room) c tt f z in
      let p = level_passed upto l h.1 in
      (h.0, p.0, p.1)

  pub level_written : (least room : ℕ) → least ≤ room → IsLevel l → l.version ≤ upto → First (writing_upto upto least l room) 0
  level_written least room k il early = hold_first (writing_upto upto least l room) (k, level_passes upto l il early)
