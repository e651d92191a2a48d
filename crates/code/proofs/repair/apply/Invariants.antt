use lib.ListN.{take}
use Rattle.account.specs.Errata.{Applied}
use Rattle.gf256.specs.Gf256.{gf256}
use Rattle.code.proofs.repair.apply.Given as goal

abbrev pub invariant-loop-k : goal.invariant-loop-k
invariant-loop-k l = Applied gf256 (take l.k l.e.cells) (take l.k l.e.values) l.initial.word l.word
