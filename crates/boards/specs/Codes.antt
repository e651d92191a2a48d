-- Parts: tiles and their codes.
use Rattle.std.specs.Prelude.{cond, ℕ, ltb}

-- 1 if tile t has code c, else 0
abbrev pub same : ℕ → ℕ → ℕ
same c t = cond (ltb t c) 0 (cond (ltb c t) 0 1)
