-- `typing_vectors::judge::leaf` meets its contract. Assumes nothing.
use Rattle.typing_vectors.proofs.Judging.{number_judged, port_judged}
use Rattle.typing_vectors.proofs.judge.leaf.Goals as goal

pub returns-in-0 : goal.returns-in-0
returns-in-0 c = number_judged c.args.unknowns c.args.node c.in-0.is c.if-argument-le65535.true

pub returns-in-1 : goal.returns-in-1
returns-in-1 c = port_judged c.args.unknowns c.args.node c.in-1.is c.if-argument-unknowns.true
