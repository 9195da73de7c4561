-- `rules_hold` meets its contract: a rule that does not hold is one below n. Assumes nothing.
use mathlib.Core.Path.{sym, ◌∙◌}
use Rattle.plan.specs.Sound.{rule_ok}
use Rattle.plan_sections.proofs.Parts.{all_not}
use Rattle.plan_sections.proofs.rules_hold.Goals as goal

pub returns-then-not-rule_ok : goal.returns-then-not-rule_ok
returns-then-not-rule_ok c = sym (all_not c.args.plan.now c.args.n (rule_ok c.args.plan.now) c.loop-r.r c.loop-r-test.true (sym c.rule_ok.ensures ∙ c.if-not-rule_ok.true))
