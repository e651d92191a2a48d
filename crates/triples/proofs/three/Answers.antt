use Rattle.std.proofs.lemmas.List.FromFn.{get_or-map-range_with_len}
use native.Mathlib.Omega.{arith}
use Rattle.triples.specs.Weights.{tripled}
use Rattle.triples.proofs.three.Goals as goal

pub returns : goal.returns
returns c = get_or-map-range_with_len tripled 0 512 c.args.a c.args.a 0 c.requires (omega arith)
