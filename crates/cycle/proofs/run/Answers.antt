-- `run` meets its contract. Assumes nothing.
use mathlib.Core.Path.{sym, ◌∙◌}
use Rattle.cycle.proofs.Night.{run_20, run_21, run_0}
use Rattle.cycle.proofs.run.Goals as goal

pub returns-then-not-sound : goal.returns-then-not-sound
returns-then-not-sound c = let args = c.args in rw c.from.ensures (sym (run_20 args.plan.now args.masks.now args.values.now args.memory.now args.outputs.now args.answers.now (sym c.sound.ensures ∙ c.if-not-sound.true)))

pub returns-then-not-tables_fit : goal.returns-then-not-tables_fit
returns-then-not-tables_fit c =
    let the-args = c.args in
    let if1 = c.if-not-sound in
    let args = the-args in
    rw c.from-then-not-tables_fit.ensures
    (sym
    (run_21 args.plan.now args.masks.now args.values.now args.memory.now args.outputs.now args.answers.now
    (sym c.sound.ensures ∙ if1.false) (sym c.tables_fit.ensures ∙ c.if-not-tables_fit.true)))

pub turns-requires : goal.turns-requires
turns-requires c = record {
  plan_value = sym c.sound.ensures ∙ c.if-not-sound.false;
  answers_value = sym c.tables_fit.ensures ∙ c.if-not-tables_fit.false;
}

pub returns : goal.returns
returns c =
    let the-args = c.args in
    let if1 = c.if-not-sound in
    let if2 = c.if-not-tables_fit in
    let args = the-args in
    (c.turns.ensures ∙ sym
    (run_0 args.plan.now args.masks.now args.values.now args.memory.now args.outputs.now args.answers.now
    (sym c.sound.ensures ∙ if1.false) (sym c.tables_fit.ensures ∙ if2.false)))
