-- `cycle` meets its contract: a run of one. Assumes nothing.
use mathlib.Core.Path.{sym, ◌∙◌}
use Rattle.turn.proofs.Outcomes.{not_sound, not_counted_law}
use Rattle.cycle.proofs.Night.{one_fits, one_cycle}
use Rattle.cycle.proofs.cycle.Goals as goal

pub returns-then-not-sound : goal.returns-then-not-sound
returns-then-not-sound c = let args = c.args in rw (c.from.ensures.0, c.from.ensures.1) (not_sound args.plan.now args.mask args.values.now args.memory.now args.outputs.now (sym c.sound.ensures ∙ c.if-not-sound.true))

pub returns-then-not-counts : goal.returns-then-not-counts
returns-then-not-counts c =
    let the-args = c.args in
    let if1 = c.if-not-sound in
    let args = the-args in
    rw (c.from-then-not-counts.ensures.0, c.from-then-not-counts.ensures.1)
    (not_counted_law args.plan.now args.mask args.values.now args.memory.now args.outputs.now
    (sym c.sound.ensures ∙ if1.false) (sym c.counts.ensures ∙ c.if-not-counts.true))

pub turns-requires : goal.turns-requires
turns-requires c =
    let the-args = c.args in
    let if1 = c.if-not-sound in
    let if2 = c.if-not-counts in
    let args = the-args in record {
      plan_value = sym c.sound.ensures ∙ if1.false;
      answers_value = one_fits args.plan.now args.values.now args.memory.now args.outputs.now
          args.mask (sym c.counts.ensures ∙ if2.false);
    }

pub returns : goal.returns
returns c =
    let the-args = c.args in
    let if2 = c.if-not-counts in
    let args = the-args in
    one_cycle args.plan.now args.mask args.values.now args.memory.now args.outputs.now _ _ _
    (sym c.counts.ensures ∙ if2.false) c.turns.ensures
