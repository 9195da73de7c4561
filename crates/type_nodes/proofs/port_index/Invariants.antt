-- `type_nodes::port_index` meets its contract: the ports passed have other names. Assumes nothing.
use Rattle.std.proofs.Common.{◌≡◌, ◌+◌, ◌-◌}
use Rattle.language.specs.Text.{index}
use Rattle.placed.specs.Placed.{name_from}
use Rattle.type_nodes.specs.Codes.{signed_names}
use Rattle.type_nodes.proofs.port_index.Given as goal

abbrev pub invariant-loop-i : goal.invariant-loop-i
invariant-loop-i l = l.i + index (signed_names l.text l.tape (l.i + 1) (l.ports - l.i)) (name_from l.text l.place) ≡ index (signed_names l.text l.tape 1 l.ports) (name_from l.text l.place)
