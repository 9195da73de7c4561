-- What the walk finds in statements, rules, declarations and the whole actor. Assumes nothing.
use mathlib.Core.Path.{◌≡◌, refl, sym, ap, ◌∙◌}
use mathlib.Core.List.{List, [], ◌∷◌, ◌++◌, append_assoc, append-nil}
use Prim.Native.Nat.{ℕ}
use Rattle.language.specs.Text.{Name}
use Rattle.language.specs.Parts.{each, Item, items, declared_items, assigned, wholes, statements, val_items, actor_items, types}
use Rattle.language.specs.Tree.{Expr, Declared, untyped, Port, Size, one, cells, Memory, Entry, Val, Assignment, assign, write, Statement, alone, scoped, Rule, Group, Actor}
use Rattle.tape.specs.Tape.{item, flat_d, flat_val, flat_assignment, flat_statement, flat_entry, flat_rule, flat_group, flat_port, flat_size, flat_memory, flat_signed, flat_actor, MEMORY}
use Rattle.placed.proofs.Every.{each_append}
use Rattle.placed.proofs.Same.{Same, is, equal, then, beside, mix, each_each, each_as}
use Rattle.tape.specs.Nodes.{node_of}
use Rattle.row08_types.proofs.Parts.{places_i, places_append, Finds, told, listed, spread, both, quiet, ends, many, many_quiet, Starts, starts_item, starts_more, typed, expr_starts, expr_finds}

decl_finds : (d : Declared) {b : List ℕ} {y : List Item} → Starts b → Finds b y → Finds (flat_d d ++ b) (declared_items d ++ y)
unfolding flat_d declared_items
decl_finds untyped s d = d
decl_finds (Declared.typed t) s d = typed t s d

-- ---- statements

abbrev in_val : Val → List Item
in_val v = declared_items v.type ++ items v.value

val_finds : (v : Val) → Finds (flat_val v) (in_val v)
unfolding flat_val node_of
val_finds v = ends _ _ _ (decl_finds v.type (expr_starts v.value) (expr_finds v.value)) refl

abbrev in_assignment : Assignment → List Item
in_assignment x = each items (assigned x)

assignment_finds : (x : Assignment) → Finds (flat_assignment x) (in_assignment x)
unfolding flat_assignment assigned each node_of
assignment_finds (assign n e) = listed (sym (append-nil (items e))) (ends _ _ _ (expr_finds e) refl)
assignment_finds (write n a e) = listed (ap (λ (y : List Item). items a ++ y) (sym (append-nil (items e)))) (ends _ _ _ (both (expr_finds a) (expr_finds e)) refl)

abbrev in_statement : Statement → List Item
in_statement s = val_items s ++ each items (wholes s)

-- the definition lists the types of the `val`s before their values
vals_same : (vs : List Val) → Same (places_i (each in_val vs)) (places_i (each (λ (v : Val). declared_items v.type) vs) ++ places_i (each items (each (λ (v : Val). v.value ∷ []) vs)))
unfolding each types
vals_same [] = equal []
vals_same (v ∷ vs) =
    then (is (places_append (in_val v) (each in_val vs)))
    (then (beside (is (places_append (declared_items v.type) (items v.value))) (vals_same vs))
    (then (mix (places_i (declared_items v.type)) (places_i (items v.value)) (places_i (each (λ (v : Val). declared_items v.type) vs)) (places_i (each items (each (λ (v : Val). v.value ∷ []) vs))))
    (beside (is (sym (places_append (declared_items v.type) _))) (is (sym (places_append (items v.value) _))))))

scoped_same : (vs : List Val) (l : List Assignment) → Same (places_i (each in_val vs ++ each in_assignment l)) (places_i (in_statement (scoped vs l)))
unfolding val_items wholes
scoped_same vs l =
    then (is (places_append (each in_val vs) (each in_assignment l))) (then (beside (vals_same vs) (equal _)) (is (append_assoc (places_i ts) (places_i (each items es)) (places_i (each in_assignment l)) ∙ sym whole)))
  where
    ts : List Item
    ts = each (λ (v : Val). declared_items v.type) vs

    es : List Expr
    es = each (λ (v : Val). v.value ∷ []) vs

    whole : places_i (ts ++ each items (es ++ each assigned l)) ≡ places_i ts ++ (places_i (each items es) ++ places_i (each in_assignment l))
    whole = places_append ts (each items (es ++ each assigned l)) ∙ ap (λ (r : List ℕ). places_i ts ++ r)
        (ap places_i (each_append items es (each assigned l)) ∙ places_append (each items es) (each items (each assigned l)) ∙ ap (λ (x : List Item). places_i (each items es) ++ places_i x) (each_each items assigned (each_append items) l))

statement_finds : (x : Statement) → Finds (flat_statement x) (in_statement x)
unfolding flat_statement val_items wholes node_of
statement_finds (alone x) = assignment_finds x
statement_finds (scoped vs l) = told (scoped_same vs l) (ends _ _ _ (both (both (quiet _ _ _ refl) (many flat_val in_val val_finds vs)) (many flat_assignment in_assignment assignment_finds l)) refl)

-- ---- rules and groups

entry_finds : (e : Entry) → Finds (flat_entry e) []
unfolding flat_entry node_of
entry_finds e = quiet _ _ _ refl

rule_finds : (r : Rule) → Finds (flat_rule r) (each in_statement r.body)
unfolding flat_rule node_of
rule_finds r = ends _ _ _ (both (both (quiet _ _ _ refl) (many_quiet flat_entry entry_finds r.list)) (many flat_statement in_statement statement_finds r.body)) refl

group_finds : (g : Group) → Finds (flat_group g) (each (λ (r : Rule). each in_statement r.body) g.rules)
unfolding flat_group node_of
group_finds g = ends _ _ _ (both (quiet _ _ _ refl) (many flat_rule (λ (r : Rule). each in_statement r.body) rule_finds g.rules)) refl

-- ---- declarations and the actor

signed_finds : (n : Name) → Finds (flat_signed n) []
unfolding flat_signed node_of
signed_finds n = quiet _ _ _ refl

port_finds : (p : Port) → Finds (flat_port p) (declared_items p.type)
unfolding flat_port node_of
port_finds p = listed (append-nil _) (decl_finds p.type (starts_item _ _ _ refl) (quiet _ _ _ refl))

size_starts : (z : Size) (p v : ℕ) → Starts (flat_size z ++ item MEMORY p v)
unfolding flat_size node_of
size_starts one p v = starts_item _ _ _ refl
size_starts (cells n) p v = starts_more _ (starts_item _ _ _ refl)

size_finds : (z : Size) (p v : ℕ) → Finds (flat_size z ++ item MEMORY p v) []
unfolding flat_size node_of
size_finds one p v = quiet _ _ _ refl
size_finds (cells n) p v = ends _ _ _ (quiet _ _ _ refl) refl

memory_finds : (m : Memory) → Finds (flat_memory m) (declared_items m.type)
unfolding flat_memory
memory_finds m = spread (sym (append_assoc (flat_d m.type) (flat_size m.size) _)) (listed (append-nil _) (decl_finds m.type (size_starts m.size _ _) (size_finds m.size _ _)))

pub actor_finds : (a : Actor) → Finds (flat_actor a) (actor_items a)
unfolding flat_actor actor_items statements node_of
actor_finds a =
    listed whole (both (both (both (both (quiet _ _ _ refl) (many_quiet flat_signed signed_finds a.signature)) (many flat_port (λ (p : Port). declared_items p.type) port_finds a.ports)) (many flat_memory (λ (m : Memory). declared_items m.type) memory_finds a.memories)) (many flat_group (λ (g : Group). each (λ (r : Rule). each in_statement r.body) g.rules) group_finds a.groups))
  where
    ps : List Item
    ps = each (λ (p : Port). declared_items p.type) a.ports

    ms : List Item
    ms = each (λ (m : Memory). declared_items m.type) a.memories

    in_groups_law : each (λ (g : Group). each (λ (r : Rule). each in_statement r.body) g.rules) a.groups ≡ each in_statement (each (λ (g : Group). each (λ (r : Rule). r.body) g.rules) a.groups)
    in_groups_law = sym (each_each in_statement (λ (g : Group). each (λ (r : Rule). r.body) g.rules) (each_append in_statement) a.groups ∙ each_as _ _ (λ g. each_each in_statement (λ (r : Rule). r.body) (each_append in_statement) g.rules) a.groups)

    whole : (ps ++ ms) ++ each (λ (g : Group). each (λ (r : Rule). each in_statement r.body) g.rules) a.groups ≡ ps ++ (ms ++ each in_statement (each (λ (g : Group). each (λ (r : Rule). r.body) g.rules) a.groups))
    whole = append_assoc ps ms _ ∙ ap (λ (x : List Item). ps ++ (ms ++ x)) in_groups_law
