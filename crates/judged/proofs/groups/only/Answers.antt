-- `only` meets its contract. Assumes nothing.
use native.Mathlib.Omega.{arith}
use Prim.Native.Nat.{◌+◌, ◌-◌}
use mathlib.Core.Path.{◌≡◌, sym, ◌∙◌}
use Rattle.judged.proofs.Firing.{seen_first, seen_second, seen_none, seen_end, match_end}
use Rattle.judged.proofs.groups.only.Goals.{then-rule_matches+else-is_some, else-rule_matches}
use Rattle.judged.proofs.groups.only.Goals as goal

pub loop-r-init : goal.loop-r-init
loop-r-init c = let e : c.args.first + c.args.n - c.args.first ≡ c.args.n = omega arith in rw e

pub returns-then-is_some : goal.returns-then-is_some
returns-then-is_some c =
    seen_second c.args.plan.now c.args.mask c.loop-r.r _ c.loop-r-test.true c.loop-r.found (sym c.is_some.ensures ∙ c.if-is_some.true) (sym c.rule_matches.ensures ∙ c.if-rule_matches.true) c.loop-r.invariant

pub loop-r-preserved : goal.loop-r-preserved
loop-r-preserved c =
    let loop = c.loop-r in
    elim c.if-rule_matches.branch [
      | then-rule_matches+else-is_some w ↦ rw w.found-is (seen_first c.args.plan.now c.args.mask loop.r _ c.loop-r-test.true loop.found (sym w.is_some.ensures ∙ w.if-is_some.false)
          (sym c.rule_matches.ensures ∙ w.if-rule_matches.true) loop.invariant)
      | else-rule_matches w ↦ rw w.found-is (seen_none c.args.plan.now c.args.mask loop.r _ c.loop-r-test.true loop.found (sym c.rule_matches.ensures ∙ w.if-rule_matches.false) loop.invariant)
    ]

pub returns : goal.returns
returns c = c.ok_or.ensures.value ∙ seen_end c.loop-r.found c.loop-r.invariant (match_end c.args.plan.now c.args.mask c.loop-r.r _ c.loop-r-test.false)
