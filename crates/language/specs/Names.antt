-- Row 6: "name unknown, declared twice, signature and declarations differ, wrong kind, output read, port twice in a list", at the name. Assumes nothing: these are definitions.
use Rattle.std.specs.Prelude.{Bool, true, false, not, ◌||◌, List, [], ◌∷◌, ◌++◌, ℕ}
use Rattle.language.specs.Text.{Name, among}
use Rattle.language.specs.Tree.{Declared, Port, Memory, Entry, Val, Assignment, assign, write, Statement, alone, scoped, Rule, Group, Actor, spelled_of, port_names, memory_names, Expr}
use Rattle.language.specs.Parts.{each, items, declared_items, assigned, actor_items, types, read_names, type_ports, item_names, environment_names}

-- the place, where the test passes
unfoldable pub when : Bool → ℕ → List ℕ
when true p = p ∷ []
when false p = []

-- the names that are among, or not among, others
unfoldable pub clashing : List (List ℕ) → List Name → List ℕ
clashing others ns = each (λ n. when (among others n.spelled) n.at) ns

unfoldable pub missing : List (List ℕ) → List Name → List ℕ
missing others ns = each (λ n. when (not (among others n.spelled)) n.at) ns

-- "declared twice", "port twice in a list": the later name
unfoldable pub repeated : List (List ℕ) → List Name → List ℕ
repeated seen [] = []
repeated seen (n ∷ ns) = when (among seen n.spelled) n.at ++ repeated (n.spelled ∷ seen) ns

unfoldable pub input_names : List Port → List (List ℕ)
input_names ps = each (λ p. elim p.input [ true ↦ p.called.spelled ∷ [] | false ↦ [] ]) ps

unfoldable pub output_names : List Port → List (List ℕ)
output_names ps = each (λ p. elim p.input [ true ↦ [] | false ↦ p.called.spelled ∷ [] ]) ps

unfoldable pub entry_names : List Entry → List Name
entry_names es = each (λ e. e.called ∷ []) es

module _ (a : Actor) where
  unfoldable pub ports : List (List ℕ)
  ports = spelled_of (port_names a.ports)

  unfoldable pub memories : List (List ℕ)
  memories = spelled_of (memory_names a.memories)

  unfoldable pub declaration_faults : List ℕ
  declaration_faults =
      repeated [] a.signature ++ (missing ports a.signature ++ (missing (spelled_of a.signature) (port_names a.ports) ++ repeated [] (port_names a.ports ++ memory_names a.memories)))

  -- "In a type or after `'d` a bare name is an environment name; a port's or memory's there is of the wrong kind", and before `.type` stands a port
  unfoldable pub type_name_faults : List ℕ
  type_name_faults = clashing (ports ++ memories) (environment_names a) ++ each (λ t. missing ports (type_ports t)) (types (actor_items a))

  -- an expression reads inputs and the `let`s in force
  unfoldable pub read_faults : List (List ℕ) → Expr → List ℕ
  read_faults lets e = missing (input_names a.ports ++ lets) (read_names (items e))

  -- outputs are assigned; the name before `[` is a memory's, by the grammar
  unfoldable pub assignment_faults : List (List ℕ) → Assignment → List ℕ
  assignment_faults lets (assign n e) = when (not (among (output_names a.ports) n.spelled)) n.at ++ read_faults lets e
  assignment_faults lets (write n x e) = read_faults lets x ++ read_faults lets e

  -- "A `let` name lasts to its `end` and may come again in another statement, but not the name of a port or memory"; the declarations are performed one after the other
  unfoldable pub val_faults : List (List ℕ) → List Val → List ℕ
  val_faults lets [] = []
  val_faults lets (v ∷ vs) =
      when (among (lets ++ (ports ++ memories)) v.called.spelled) v.called.at ++ (read_faults lets v.value ++ val_faults (v.called.spelled ∷ lets) vs)

  unfoldable pub statement_faults : Statement → List ℕ
  statement_faults (alone x) = assignment_faults [] x
  statement_faults (scoped vs l) = val_faults [] vs ++ each (assignment_faults (each (λ v. v.called.spelled ∷ []) vs)) l

  unfoldable pub rule_faults : Rule → List ℕ
  rule_faults r = missing ports (entry_names r.list) ++ (repeated [] (entry_names r.list) ++ each statement_faults r.body)

  unfoldable pub name_faults : List ℕ
  name_faults = declaration_faults ++ (type_name_faults ++ each (λ g. each rule_faults g.rules) a.groups)
