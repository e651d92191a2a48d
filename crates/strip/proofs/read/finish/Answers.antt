use Rattle.strip.proofs.Reader.{finish_read}
use Rattle.strip.proofs.read.finish.Goals as goal

pub returns : goal.returns
returns c =
    let a = c.args in
    λ upto bs tiles tiles' A. finish_read upto a.lanes bs tiles tiles' a.n a.c.mended a.c.repainted a.f c.wear.result c.wear.ensures A
