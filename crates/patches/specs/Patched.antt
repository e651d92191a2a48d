-- Cells put right: each of a list of cells gets the byte that belongs there.
use Rattle.std.specs.Prelude.{List, ℕ, zero, suc, get_or, set}

-- w with the first k of the cells cs replaced by the bytes bs, one after the other
unfoldable pub patched : List ℕ → List ℕ → ℕ → List ℕ → List ℕ
patched cs bs zero w = w
patched cs bs (suc k) w = set (patched cs bs k w) (get_or cs k 0) (get_or bs k 0)
