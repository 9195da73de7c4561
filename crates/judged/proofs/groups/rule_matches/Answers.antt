-- `rule_matches` meets its contract. Assumes nothing.
use mathlib.Core.Path.{◌∙◌}
use Rattle.judged.proofs.Firing.{matches_agree}
use Rattle.judged.proofs.groups.rule_matches.Goals as goal

pub returns : goal.returns
returns c =
    let args = c.args in
    c.matches.ensures ∙ rw (c.masks_in-masks.ensures.0, c.masks_in-masks.ensures.1) (matches_agree args.plan.now args.mask args.r)
