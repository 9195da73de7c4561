-- The sections of a plan one by one; together they are `sections_ok`. Assumes nothing: these are definitions.
use Rattle.std.specs.Prelude.{Bool, ◌&&◌, List, ℕ, ◌+◌, eqb, leb, length}
use Rattle.language.specs.Limits.{limits}
use Rattle.plan.specs.Layout.{form, port_count, memory_count, group_count, rules_before, rule_count, code_before, code_from, code_count}
use Rattle.plan.specs.Sound.{all_up_to, port_ok, memory_fits, group_ok, rule_ok}

module _ (p : List ℕ) where
  -- the form number, and the ports
  unfoldable pub ports_part : Bool
  ports_part = eqb (form p) 1 && leb 1 (port_count p) && leb (port_count p) limits.ports && all_up_to p (port_count p) (port_ok p)

  -- the memories
  unfoldable pub memories_part : Bool
  memories_part = leb (memory_count p) limits.memories && all_up_to p (memory_count p) (memory_fits p)

  -- the groups, whose rules are all rules
  unfoldable pub groups_part : Bool
  groups_part =
      leb 1 (group_count p) && leb (group_count p) limits.groups && leb (rule_count p) limits.rules
      && (all_up_to p (group_count p) (group_ok p) && eqb (rules_before p (group_count p)) (rule_count p))

  -- the rules, whose code is all code, and nothing follows
  unfoldable pub rules_part : Bool
  rules_part = all_up_to p (rule_count p) (rule_ok p) && eqb (code_before p (rule_count p)) (code_count p) && eqb (length p) (code_from p + 1 + code_count p)
