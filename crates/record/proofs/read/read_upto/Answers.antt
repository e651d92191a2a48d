use native.Mathlib.Omega.{arith}
use Rattle.record.proofs.Reader.{reads}
use Rattle.record.proofs.read.read_upto.Goals as goal

pub returns : goal.returns
returns c =
    let a = c.args in
    reads a.upto a.bytes.now a.tiles.now _ c.accept.result c.accept.ensures (record { cell = λ q h. omega (arith, c.type_inv.bytes q) })
    (record { from = omega arith; to = omega arith }) (omega arith)
