use mathlib.Core.Path.{ap, subst, ◌∙◌}
use lib.ListN.{length}
use Rattle.std.specs.Result.{result_ok}
use Rattle.errata.specs.Errata.{SearchedAs}
use Rattle.code.specs.Repair.{WordEntersAs}
use Rattle.code.proofs.Repairing.{repair_mends}
use Rattle.code.proofs.repair.repair.Goals as goal

pub returns : goal.returns
returns c =
    let m = c.args.marks.now in
    let w = c.args.word.now in
    let e = subst (WordEntersAs (length w) m) c.in_ok-f.was c.enter.ensures in
    let s = subst (SearchedAs m w) (c.ok_or.ensures.ok_part ∙ ap result_ok c.in_ok-errata.was) c.search.ensures in
    repair_mends m w c.apply.new.word c.in_ok-errata.errata c.count-counts.result e.0 s c.apply.ensures c.count-counts.ensures
