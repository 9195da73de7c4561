-- `section_items::rules` meets its contract: the rules passed, and those to come before the next group, are all. Assumes nothing.
use Rattle.std.proofs.Common.{◌≡◌, ◌+◌, ◌*◌, ◌≤◌}
use Rattle.section_items.specs.Items.{items_of, rules_up_to}
use Rattle.section_items.specs.Sections.{items_from}
use Rattle.section_items.proofs.rules.Given as goal

abbrev pub invariant-loop-i : goal.invariant-loop-i
invariant-loop-i l = (l.k ≤ l.i) × (l.k + rules_up_to (items_from l.items (6 * l.i)) ≡ rules_up_to (items_of l.items))
