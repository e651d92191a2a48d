use Rattle.std.proofs.Common.{arith}
use borrow.Author.Rules.{rules}
use Rattle.values.proofs.Values.{listed, solve_last, solve_step}
use Rattle.values.proofs.+solve.Goals as goal

pub returns-then-at-i : goal.returns-then-at-i
returns-then-at-i t c =
    let l = c.args.at.now in
    solve_last l.n l.cells l.count (listed l (search rules)) c.args.i c.args.v.now c.if-at-i.true c.requires (search rules)

pub returns : goal.returns
returns t c =
    let l = c.args.at.now in
    solve_step l.n l.cells l.count (listed l (search rules)) c.args.i c.place-x.result c.args.v.now
    c.sieve.new.v c.solve.new.v c.divide.new.v (omega (arith, c.if-at-i.false)) c.place-x.ensures c.sieve.ensures c.solve.ensures c.divide.ensures
