-- A cell in two pictures: its kind, by what the tests of its marks and bytes say.
use mathlib.Core.Path.{◌≡◌, refl, ap}
use mathlib.Core.Bool.{Bool, true, false, not}
use Prim.Native.Nat.{ℕ, ◌+◌}
use lib.Dec.{eqb}
use borrow.Author.Tests.{eq-eqb}
use Rattle.account.specs.Reach.{one_if, and}
use Rattle.pool.specs.Pooled.{Kind, agreed, taken, conflict, both, kind_of, mark_of, is}

pub unset : (m : ℕ) → m ≡ 0 → not (eqb m 0) ≡ false
unset m h = ap not (eq-eqb m 0 h)

-- the kinds, in terms of marks and bytes
pub agreed_by : (i j e : Bool) → is agreed (kind_of i j e) ≡ and (and (not i) (not j)) e
agreed_by false false false = refl
agreed_by false false true = refl
agreed_by false true e = refl
agreed_by true false e = refl
agreed_by true true e = refl

pub taken_by : (i j e : Bool) → one_if (is taken (kind_of i j e)) ≡ one_if (and (not i) j) + one_if (and i (not j))
taken_by false false false = refl
taken_by false false true = refl
taken_by false true e = refl
taken_by true false e = refl
taken_by true true e = refl

pub conflict_by : (i j e : Bool) → is conflict (kind_of i j e) ≡ and (and (not i) (not j)) (not e)
conflict_by false false false = refl
conflict_by false false true = refl
conflict_by false true e = refl
conflict_by true false e = refl
conflict_by true true e = refl

pub both_by : (i j e : Bool) → is both (kind_of i j e) ≡ and i j
both_by false false false = refl
both_by false false true = refl
both_by false true e = refl
both_by true false e = refl
both_by true true e = refl

-- a cell is marked where it is in conflict, or marked in both
pub mark_is : (k : Kind) → mark_of k ≡ one_if (is conflict k) + one_if (is both k)
mark_is agreed = refl
mark_is taken = refl
mark_is conflict = refl
mark_is both = refl

-- each is of one kind
pub one_kind : (k : Kind) → one_if (is agreed k) + one_if (is taken k) + one_if (is conflict k) + one_if (is both k) ≡ 1
one_kind agreed = refl
one_kind taken = refl
one_kind conflict = refl
one_kind both = refl
