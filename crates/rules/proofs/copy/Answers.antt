use Rattle.rules.proofs.Copying.{copy_goes, copy_ends}
use Rattle.std.proofs.Common.{ap, ◌∙◌, List, ℕ, arith, rules, get_or, set}
use lib.Seq.{paste-zero}
use Rattle.rules.proofs.copy.Goals as goal

pub loop-i-init : goal.loop-i-init
loop-i-init c = paste-zero c.args.to.now 0 c.args.from.now

pub loop-i-preserved : goal.loop-i-preserved
loop-i-preserved c =
    ap (λ (w : List ℕ). set w c.loop-i.i (get_or c.args.from.now c.loop-i.i 0)) c.loop-i.invariant
    ∙ copy_goes c.args.from.now c.args.to.now c.loop-i.i (search rules) c.requires

pub returns : goal.returns
returns c = c.loop-i.invariant ∙ copy_ends c.args.from.now c.args.to.now c.loop-i.i (omega arith)
