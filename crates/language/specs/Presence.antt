-- Row 12: "input read or output assigned without `.p.1` in the rule; output assigned twice in a rule or in two groups", at the name. Assumes nothing: these are definitions.
use Rattle.std.specs.Prelude.{Bool, true, false, List, [], ◌∷◌, ◌++◌, ℕ}
use Rattle.language.specs.Text.{Name, among}
use Rattle.language.specs.Tree.{Entry, Val, Assignment, assign, write, Statement, alone, scoped, Rule, Group, Actor, spelled_of}
use Rattle.language.specs.Parts.{each, items, wholes, read_names}
use Rattle.language.specs.Names.{missing, clashing, repeated, input_names}

-- the ports that a rule lists with `.p.1`
unfoldable pub present_names : Rule → List (List ℕ)
present_names r = each (λ e. elim e.present [ true ↦ e.called.spelled ∷ [] | false ↦ [] ]) r.list

unfoldable pub output_of : Assignment → List Name
output_of (assign n e) = n ∷ []
output_of (write n a e) = []

unfoldable pub outputs_of : Statement → List Name
outputs_of (alone x) = output_of x
outputs_of (scoped vs l) = each output_of l

-- the names that a rule assigns, and those that it reads
unfoldable pub assigned_in : Rule → List Name
assigned_in r = each outputs_of r.body

unfoldable pub read_in : Rule → List Name
read_in r = each (λ s. each (λ e. read_names (items e)) (wholes s)) r.body

-- of the names read those that are inputs; the others are `let`s
unfoldable pub inputs_in : Actor → Rule → List Name
inputs_in a r = each (λ n. elim (among (input_names a.ports) n.spelled) [ true ↦ n ∷ [] | false ↦ [] ]) (read_in r)

unfoldable pub rule_presence : Actor → Rule → List ℕ
rule_presence a r = missing (present_names r) (inputs_in a r) ++ (missing (present_names r) (assigned_in r) ++ repeated [] (assigned_in r))

-- the outputs that an earlier group assigns
unfoldable pub group_presence : List (List ℕ) → List Group → List ℕ
group_presence seen [] = []
group_presence seen (g ∷ gs) = clashing seen (each assigned_in g.rules) ++ group_presence (spelled_of (each assigned_in g.rules) ++ seen) gs

unfoldable pub presence_faults : Actor → List ℕ
presence_faults a = each (λ g. each (rule_presence a) g.rules) a.groups ++ group_presence [] a.groups
