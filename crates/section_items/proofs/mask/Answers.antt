-- `section_items::mask` meets its contract: the sum of the bits passed, and of those to come before the rule's end, is that of all, in 32 bits. Assumes nothing.
use Rattle.std.proofs.Common.{ℕ, ◌+◌, ◌*◌, ◌%◌, ◌^◌, sym, refl, ap, ◌∙◌, zero-add, arith}
use native.Mathlib.Nat.{mod-mod}
use Rattle.section_items.specs.Items.{mask_up_to, bit_of}
use Rattle.section_items.specs.Sections.{items_from, item_at}
use Rattle.section_items.proofs.Items.{mask_ruled, mask_more, mask_end, wrapped, no_more_law}
use Rattle.section_items.proofs.mask.Goals as goal

pub loop-i-init : goal.loop-i-init
loop-i-init c = (refl, rw (zero-add (mask_up_to c.args.wanted (items_from c.args.items.now 0))) refl)

pub returns-then-items-at-eq-RULED : goal.returns-then-items-at-eq-RULED
returns-then-items-at-eq-RULED c =
    let at = 6 * c.loop-i.i in
    no_more_law (2 ^ 32) c.loop-i.invariant.0 (mask_ruled c.args.items.now at (at + 6) (omega arith) (omega arith) c.args.wanted c.if-items-at-eq-RULED.true)
    ∙ c.loop-i.invariant.1

pub loop-i-preserved : goal.loop-i-preserved
loop-i-preserved c =
    let t = c.args.items.now in
    let b = c.args.wanted in
    let sum = c.loop-i.sum in
    let at = 6 * c.loop-i.i in
    let next = 6 * (c.loop-i.i + 1) in (
      sym (mod-mod _ _),
      wrapped sum (bit_of b (item_at t at)) _ (2 ^ 32) c.bit-sum.ensures
          ∙ ap (λ (x : ℕ). (sum + x) % 2 ^ 32) (sym (mask_more t at next (omega arith) (omega arith) b c.if-items-at-eq-RULED.false))
          ∙ c.loop-i.invariant.1,
    )

pub returns : goal.returns
returns c = no_more_law (2 ^ 32) c.loop-i.invariant.0 (mask_end c.args.items.now (6 * c.loop-i.i) (omega arith) c.args.wanted) ∙ c.loop-i.invariant.1
