-- `section_items::bit` meets its contract. Assumes nothing.
use Rattle.section_items.proofs.Items.{bit_other, bit_unwanted, bit_here, bit_past}
use Rattle.section_items.proofs.bit.Goals as goal
use Rattle.section_items.proofs.bit.Goals.{else-op-eq-PRESENT-via-then-op-eq-PRESENT+then-listed-wanted+else-port-lt-MASK_BITS as past, else-op-eq-PRESENT-via-then-op-eq-PRESENT+else-listed-wanted as unwanted, else-op-eq-PRESENT-via-else-op-eq-PRESENT as other}

pub returns-then-port-lt-MASK_BITS : goal.returns-then-port-lt-MASK_BITS
returns-then-port-lt-MASK_BITS c = bit_here _ _ c.if-op-eq-PRESENT.true c.if-listed-wanted.true

pub returns-else-op-eq-PRESENT : goal.returns-else-op-eq-PRESENT
returns-else-op-eq-PRESENT c =
    elim c.else-op-eq-PRESENT.branch [
      | past w ↦ bit_past _ _ w.if-op-eq-PRESENT.true w.if-listed-wanted.true w.if-port-lt-MASK_BITS.false
      | unwanted w ↦ bit_unwanted _ _ w.if-listed-wanted.false
      | other w ↦ bit_other _ _ w.if-op-eq-PRESENT.false
    ]
