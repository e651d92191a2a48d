use native.Mathlib.Omega.{arith}
use Rattle.typed.proofs.Lines.{line_1, line_2, line_3, line_4}
use Rattle.typed.proofs.line.line_of.Goals as goal

pub returns-then-par-lt10 : goal.returns-then-par-lt10
returns-then-par-lt10 c = line_1 c.args.par _ (omega arith) c.digit.ensures

pub returns-then-par-lt100 : goal.returns-then-par-lt100
returns-then-par-lt100 c = line_2 c.args.par _ _ (omega arith) (omega arith) c.digit-then-par-lt100.ensures c.digit-then-par-lt100-2.ensures

pub returns-then-par-lt1000 : goal.returns-then-par-lt1000
returns-then-par-lt1000 c =
    line_3 c.args.par _ _ _ (omega arith) (omega arith)
    c.digit-then-par-lt1000.ensures c.digit-then-par-lt1000-2.ensures c.digit-then-par-lt1000-3.ensures

pub returns : goal.returns
returns c =
    line_4 c.args.par _ _ _ _ (omega arith)
    c.digit-2.ensures c.digit-3.ensures c.digit-4.ensures c.digit-5.ensures
