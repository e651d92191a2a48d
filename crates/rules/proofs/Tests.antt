-- What a test says, once its answer is known.
use mathlib.Core.Path.{◌≡◌, subst}
use mathlib.Core.Bool.{Bool, true, false}
use Rattle.rules.specs.Says.{Says}

pub said : (P : Type 0) (b : Bool) → b ≡ true → Says b P → P
said P b e s = subst (λ (x : Bool). Says x P) e s

pub denied : (P : Type 0) (b : Bool) → b ≡ false → Says b P → P → ⊥
denied P b e s = subst (λ (x : Bool). Says x P) e s

-- one statement for another that says the same
pub says_as : (P Q : Type 0) (b : Bool) → (P → Q) → (Q → P) → Says b P → Says b Q
says_as P Q true f g s = f s
says_as P Q false f g s = λ q. s (g q)
