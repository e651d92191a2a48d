use Rattle.fields.proofs.Reading.{heads}
use native.Mathlib.Omega.{arith}
use Rattle.fields.proofs.head.head_of.Goals as goal

pub returns : goal.returns
returns c =
    heads c.args.bs.now _ _ _ c.from-a.ensures c.from-b.ensures c.from-c.ensures (omega (arith, c.type_inv.bs 0, c.from-a.ensures))
    (omega (arith, c.type_inv.bs 1, c.from-b.ensures)) (omega (arith, c.type_inv.bs 2, c.from-c.ensures))
