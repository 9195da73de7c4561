-- `moved` meets its contract. Assumes nothing.
use Rattle.input_bytes.proofs.Bytewise.{counts_actor, counts_bindings, counts_cycles, keeps_actor, keeps_bindings, lines, read_no_more}
use Rattle.input_bytes.proofs.moved.Goals as goal

pub returns-in-ActorCount : goal.returns-in-ActorCount
returns-in-ActorCount c = counts_actor _ _ _ _ _ _ _ _ _ _ c.in-ActorCount.is c.count_byte.ensures

pub returns-in-Actor : goal.returns-in-Actor
returns-in-Actor c = keeps_actor _ _ _ _ _ _ _ _ _ _ _ c.in-Actor.is c.actor_byte.ensures.0 c.actor_byte.ensures.1

pub returns-in-BindingsCount : goal.returns-in-BindingsCount
returns-in-BindingsCount c = counts_bindings _ _ _ _ _ _ _ _ _ _ c.in-BindingsCount.is c.count_byte-in-BindingsCount.ensures

pub returns-in-Bindings : goal.returns-in-Bindings
returns-in-Bindings c = keeps_bindings _ _ _ _ _ _ _ _ _ _ _ c.in-Bindings.is c.bindings_byte.ensures.0 c.bindings_byte.ensures.1

pub returns-in-CycleCount : goal.returns-in-CycleCount
returns-in-CycleCount c = counts_cycles _ _ _ _ _ _ _ _ _ _ c.in-CycleCount.is c.count_byte-in-CycleCount.ensures

pub returns-in-Line : goal.returns-in-Line
returns-in-Line c = lines _ _ _ _ _ _ _ _ _ _ _ _ _ _ c.in-Line.is c.line_byte.ensures

pub returns-in-Through : goal.returns-in-Through
returns-in-Through c = read_no_more _ _ _ _ _ _ _ _ _ c.in-Through.is
