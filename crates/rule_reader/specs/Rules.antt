-- What the contracts of the readers of rules and groups say: each list is read from its first word on, and may be empty unless commas stand in it. Assumes nothing: these are definitions.
use Rattle.std.specs.Prelude.{List, ℕ, ◌+◌, drop, true, false}
use Rattle.language.specs.Reader.{is, is_name, many_p, commas_p, Res, ok, bad, on, is_figure}
use Rattle.language.specs.Parser.{entry_p, opens, is_start, val_p, assignment_p, statement_p, rule_p, group_p, constraint_p}
use Rattle.tape.specs.Tape.{flats, flat_entry, flat_val, flat_assignment, flat_statement, flat_rule, flat_group}
use Rattle.readers.specs.Marks.{place_at, name_at}
use Rattle.readers.specs.Meets.{Out, Met}
use Rattle.language.specs.Text.{Name}
use Rattle.language.specs.Words.{Word}
use Rattle.language.specs.Tree.{Entry}

-- the figure of an entry, as `entry_p` has it
unfoldable pub figure_p : Name → List Word → Res Entry
figure_p n z = on (is_figure 1) z (λ t l. ok (record { called = n; present = true }) l) (λ z. on (is_figure 0) z (λ t l. ok (record { called = n; present = false }) l) (λ z. bad z))

module _ (w : List ℕ) (at n : ℕ) (t : List ℕ) (r : Out) (t' : List ℕ) where
  abbrev pub IsEntry : Type 0
  IsEntry = Met flat_entry 0 (λ text ms ws f. entry_p f (drop at ws)) w at n t r t'

  -- the entry's name stands at `at`, its figure four words on
  abbrev pub IsFigure : Type 0
  IsFigure = Met flat_entry 0 (λ text ms ws f. figure_p (name_at text w at) (drop (at + 4) ws)) w at n t r t'

  abbrev pub IsEntries : Type 0
  IsEntries = Met (flats flat_entry) 1 (λ text ms ws f. commas_p (λ f l. entry_p f l) f (drop at ws)) w at n t r t'

  abbrev pub IsVals : Type 0
  IsVals = Met (flats flat_val) 1 (λ text ms ws f. many_p (is "val") (λ f p r. val_p ms f p r) f (drop at ws)) w at n t r t'

  abbrev pub IsAssignments : Type 0
  IsAssignments = Met (flats flat_assignment) 1 (λ text ms ws f. many_p is_name (λ f n r. assignment_p ms f n r) f (drop at ws)) w at n t r t'

  -- the `let` stands at `at`, and the answer lies past it
  abbrev pub IsScoped : Type 0
  IsScoped = Met flat_statement 0 (λ text ms ws f. statement_p ms f (opens (place_at w at)) (drop (at + 1) ws)) w (at + 1) n t r t'

  abbrev pub IsStatements : Type 0
  IsStatements = Met (flats flat_statement) 1 (λ text ms ws f. many_p is_start (λ f a r. statement_p ms f a r) f (drop at ws)) w at n t r t'

  -- the rule's name stands at `at`, and the answer lies past it
  abbrev pub IsRule : Type 0
  IsRule = Met flat_rule 0 (λ text ms ws f. rule_p ms f (name_at text w at) (drop (at + 1) ws)) w (at + 1) n t r t'

  abbrev pub IsRules : Type 0
  IsRules = Met (flats flat_rule) 1 (λ text ms ws f. many_p is_name (λ f n r. rule_p ms f n r) f (drop at ws)) w at n t r t'

  -- the `or` stands at `at`, and the answer lies past it
  abbrev pub IsGroup : Type 0
  IsGroup = Met flat_group 0 (λ text ms ws f. group_p ms f (place_at w at) (drop (at + 1) ws)) w (at + 1) n t r t'

  abbrev pub IsGroups : Type 0
  IsGroups = Met (flats flat_group) 1 (λ text ms ws f. many_p (is "or") (λ f p r. group_p ms f p r) f (drop at ws)) w at n t r t'

  abbrev pub IsConstraint : Type 0
  IsConstraint = Met (flats flat_group) 0 (λ text ms ws f. constraint_p ms f (drop at ws)) w at n t r t'
