-- Where the numbers of a plan stand: the form number, then five sections, each after its count (docs/PLAN.md). Assumes nothing: these are definitions.
use Rattle.std.specs.Prelude.{List, ℕ, zero, suc, ◌+◌, ◌*◌, get_or, take, drop}

-- the greatest number of a plan, which has 32 bits
abbrev pub greatest : ℕ
greatest = 4294967295

-- no section begins as far out, whatever the counts before it say: 16 times 2 to the power of 32
abbrev pub farthest : ℕ
farthest = 68719476736

module _ (p : List ℕ) where
  -- the form number
  abbrev pub form : ℕ
  form = get_or p 0 0

  -- ---- ports: width, plus 256 for an output
  abbrev pub port_count : ℕ
  port_count = get_or p 1 0

  -- the number of a port
  abbrev pub port_at : ℕ → ℕ
  port_at i = get_or p (2 + i) 0

  -- ---- memories: width, size
  unfoldable pub memories_from : ℕ
  memories_from = 2 + port_count

  -- how many memories there are
  unfoldable pub memory_count : ℕ
  memory_count = get_or p memories_from 0

  -- the width of a memory
  unfoldable pub memory_width_at : ℕ → ℕ
  memory_width_at m = get_or p (memories_from + 1 + 2 * m) 0

  -- the size of a memory
  unfoldable pub memory_size_at : ℕ → ℕ
  memory_size_at m = get_or p (memories_from + 2 + 2 * m) 0

  -- the cells of the first m memories
  unfoldable pub cells_before : ℕ → ℕ
  cells_before zero = 0
  cells_before (suc m) = cells_before m + memory_size_at m

  -- ---- groups: rules in each
  unfoldable pub groups_from : ℕ
  groups_from = memories_from + 1 + 2 * memory_count

  -- how many groups there are
  unfoldable pub group_count : ℕ
  group_count = get_or p groups_from 0

  -- how many rules a group has
  unfoldable pub group_at : ℕ → ℕ
  group_at g = get_or p (groups_from + 1 + g) 0

  -- the rules of the first g groups
  unfoldable pub rules_before : ℕ → ℕ
  rules_before zero = 0
  rules_before (suc g) = rules_before g + group_at g

  -- ---- rules: present mask, absent mask, length of code
  unfoldable pub rules_from : ℕ
  rules_from = groups_from + 1 + group_count

  -- how many rules there are
  unfoldable pub rule_count : ℕ
  rule_count = get_or p rules_from 0

  -- the mask of the ports that a rule requires present
  unfoldable pub present_at : ℕ → ℕ
  present_at r = get_or p (rules_from + 1 + 3 * r) 0

  -- the mask of the ports that a rule requires absent
  unfoldable pub absent_at : ℕ → ℕ
  absent_at r = get_or p (rules_from + 2 + 3 * r) 0

  -- the length of a rule's code
  unfoldable pub length_at : ℕ → ℕ
  length_at r = get_or p (rules_from + 3 + 3 * r) 0

  -- the numbers of code of the first r rules
  unfoldable pub code_before : ℕ → ℕ
  code_before zero = 0
  code_before (suc r) = code_before r + length_at r

  -- ---- code
  unfoldable pub code_from : ℕ
  code_from = rules_from + 1 + 3 * rule_count

  -- how many numbers of code there are
  unfoldable pub code_count : ℕ
  code_count = get_or p code_from 0

  -- a rule's code
  unfoldable pub code_at : ℕ → List ℕ
  code_at r = take (length_at r) (drop (code_from + 1 + code_before r) p)

-- n numbers from a place on, `step` places apart
unfoldable pub sum_of : List ℕ → ℕ → ℕ → ℕ → ℕ
sum_of p from step zero = 0
sum_of p from step (suc n) = sum_of p from step n + get_or p (from + step * n) 0
