-- `plan_cycle` meets its contract. Assumes nothing.
use mathlib.Core.Path.{ap}
use Rattle.language.specs.Meaning.{Outcome}
use Rattle.cycle_abi.proofs.plan_cycle.Goals as goal

pub returns : goal.returns
returns c = record {
  r_value = ap (λ (o : Outcome). o.answer) c.cycle.ensures;
  outputs_after = ap (λ (o : Outcome). o.outputs) c.cycle.ensures;
  memory_after = ap (λ (o : Outcome). o.memory) c.cycle.ensures;
}
