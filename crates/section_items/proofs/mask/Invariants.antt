-- `section_items::mask` meets its contract: the sum of the bits passed, and of those to come before the rule's end, is that of all, in 32 bits. Assumes nothing.
use Rattle.std.proofs.Common.{◌≡◌, ◌+◌, ◌*◌, ◌%◌, ◌^◌}
use Rattle.section_items.specs.Items.{items_of, mask_up_to}
use Rattle.section_items.specs.Sections.{items_from}
use Rattle.section_items.proofs.mask.Given as goal

abbrev pub invariant-loop-i : goal.invariant-loop-i
invariant-loop-i l = (l.sum ≡ l.sum % 2 ^ 32) × ((l.sum + mask_up_to l.wanted (items_from l.items (6 * l.i))) % 2 ^ 32 ≡ mask_up_to l.wanted (items_of l.items) % 2 ^ 32)
