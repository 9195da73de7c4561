-- `judge` meets its contract. Assumes nothing.
use mathlib.Core.Path.{sym, ◌∙◌}
use Rattle.judged.proofs.Fired.{judged_unfit, judged_fit}
use Rattle.judged.proofs.judge.Goals as goal

pub returns-then-not-fitting : goal.returns-then-not-fitting
returns-then-not-fitting c =
    let if1 = c.if-not-fitting in
    judged_unfit c.args.plan.now c.args.mask c.args.values.now c.args.memory.now (sym c.fitting.ensures ∙ if1.true)

pub returns : goal.returns
returns c =
    let if1 = c.if-not-fitting in
    judged_fit c.args.plan.now c.args.mask c.args.values.now c.args.memory.now (sym c.fitting.ensures ∙ if1.false) c.fire.ensures
