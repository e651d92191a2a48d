use Rattle.fields.proofs.Accepting.{accepted}
use Rattle.record.proofs.read.accept.Goals as goal

pub returns : goal.returns
returns c = accepted c.args.upto c.args.lanes c.args.bs.now c.args.tiles.now c.in_ok-judged.judged c.in_ok-judged.ensures _ c.unpack.ensures
