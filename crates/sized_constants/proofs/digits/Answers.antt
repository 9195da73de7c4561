-- `sized_constants::digits` meets its contract: the digits that are left, after the value so far, give what all give. Assumes nothing.
use Rattle.std.proofs.Common.{arith, refl, sym, ap, ◌∙◌, ◌+◌, ◌*◌, get_or}
use Rattle.language.specs.Words.{digit_of}
use Rattle.sized_constants.specs.Constant.{amount_of}
use Rattle.sized_constants.proofs.Sized.{digits_next, digits_stop, digits_over, amount_exact}
use Rattle.sized_constants.proofs.digits.Goals as goal

pub loop-i-init : goal.loop-i-init
loop-i-init c = (0, sym (amount_exact 0 (omega arith)), refl)

pub returns-then-not-digit_in : goal.returns-then-not-digit_in
returns-then-not-digit_in c =
    let stops = digits_stop c.args.base c.args.text.now c.loop-i.i c.loop-i.invariant.0 c.loop-i-test.true (sym c.digit_in.ensures ∙ c.if-not-digit_in.true) in
    c.loop-i.invariant.1 ∙ ap amount_of (sym stops ∙ c.loop-i.invariant.2)

pub raised-v-requires : goal.raised-v-requires
raised-v-requires c = (c.requires.1, sym c.digit_in.ensures ∙ c.if-not-digit_in.false)

pub loop-i-preserved : goal.loop-i-preserved
loop-i-preserved c = let n = c.loop-i.invariant.0 in
    let goes = digits_next c.args.base c.args.text.now c.loop-i.i n c.loop-i-test.true (sym c.digit_in.ensures ∙ c.if-not-digit_in.false) in
    (n * c.args.base + digit_of (get_or c.args.text.now c.loop-i.i 0), c.raised-v.ensures n c.loop-i.invariant.1, sym goes ∙ c.loop-i.invariant.2)

pub returns : goal.returns
returns c = c.loop-i.invariant.1 ∙ ap amount_of (sym (digits_over c.args.base c.args.text.now c.loop-i.i c.loop-i.invariant.0 (omega arith)) ∙ c.loop-i.invariant.2)
