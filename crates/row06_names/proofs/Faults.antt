-- The faulty places in the order of the tape are the places of the definition. Assumes nothing.
-- Each part's places fall into two: those that the definition lists with the part, and those of its types and environment names, which it lists of the whole actor.
use mathlib.Core.Path.{◌≡◌, refl, sym, ap, ap₂, ◌∙◌}
use mathlib.Core.Bool.{Bool, not, ◌||◌}
use mathlib.Core.List.{List, [], ◌∷◌, ◌++◌, append_assoc, append-nil}
use Prim.Native.Nat.{ℕ}
use Rattle.language.specs.Text.{Name, among}
use Rattle.language.specs.Parts.{each, Item, reads, items, declared_items, assigned, wholes, statements, val_items, actor_items, types, read_names, type_names, item_names, environment_names, type_ports}
use Rattle.language.specs.Names.{when, clashing, missing, repeated, input_names, output_names, entry_names, ports, memories, declaration_faults, type_name_faults, read_faults, assignment_faults, val_faults, statement_faults, rule_faults, name_faults}
use Rattle.language.specs.Tree.{Ty, number, environment, port, plus, minus, log, ceil, floor, most, entry, within, Expr, Port, Memory, Entry, Val, Assignment, assign, write, Statement, alone, scoped, Rule, Group, Actor, spelled_of, port_names, memory_names}
use Rattle.placed.proofs.Every.{each_append}
use Rattle.row06_names.specs.Walk.{Seen}
use Rattle.placed.proofs.Same.{pushed}
use Rattle.row06_names.proofs.Parts.{val_names, ty_f, kind_f, read_f, item_f, expr_f, decl_f, vals_f, assign_f, statement_f, entries_f, rule_f, group_f, sign_f, ports_f, memories_f, actor_f}
use Rattle.tape.proofs.Listed.{in_statement, values_of, listed_scoped, listed_groups, listed_actor}
use Rattle.placed.proofs.Same.{Same, is, equal, then, beside, swap, mix, Split, both, first, second, of, into, split_each, when_or, split_or, or_false, among_append, among_pushed, repeated_append}

-- the names of the whole tape are those of the actor
pub record Agree (all : Seen) (a : Actor) : Type 0 where
  pub signed : (s : List ℕ) → among all.signed s ≡ among (spelled_of a.signature) s
  pub declared : (s : List ℕ) → among all.declared s ≡ among (ports a) s
  pub inputs : (s : List ℕ) → among all.inputs s ≡ among (input_names a.ports) s
  pub outputs : (s : List ℕ) → among all.outputs s ≡ among (output_names a.ports) s
  pub taken : (s : List ℕ) → among all.taken s ≡ among (ports a ++ memories a) s

clashing_append : (o : List (List ℕ)) (x y : List Name) → clashing o (x ++ y) ≡ clashing o x ++ clashing o y
unfolding clashing
clashing_append o x y = each_append (λ (n : Name). when (among o n.spelled) n.at) x y

missing_append : (o : List (List ℕ)) (x y : List Name) → missing o (x ++ y) ≡ missing o x ++ missing o y
unfolding missing
missing_append o x y = each_append (λ (n : Name). when (not (among o n.spelled)) n.at) x y

val_names_law : (vs : List Val) → spelled_of (val_names vs) ≡ each (λ (v : Val). v.called.spelled ∷ []) vs
unfolding spelled_of val_names each
val_names_law [] = refl
val_names_law (v ∷ vs) = ap (λ (r : List (List ℕ)). v.called.spelled ∷ r) (val_names_law vs)

-- a place by an equal test
tested : {b c : Bool} (p : ℕ) → b ≡ c → Split (when b p) (when c p) []
tested {b} p e = into (is (ap (λ (b : Bool). when b p) e)) (equal []) (first (when b p))

module _ (all : Seen) (a : Actor) (h : Agree all a) where
  -- ---- types and environment names

  abbrev kinds : List Item → List ℕ
  kinds l = each (kind_f all) l

  kinds_append : (x y : List Item) → kinds (x ++ y) ≡ kinds x ++ kinds y
  kinds_append x y = each_append (kind_f all) x y

  abbrev ports_missing : Ty → List ℕ
  ports_missing t = missing (ports a) (type_ports t)

  two_types : {f g : List ℕ} (x y : Ty) → Split f (clashing (ports a ++ memories a) (type_names x)) (ports_missing x) → Split g (clashing (ports a ++ memories a) (type_names y)) (ports_missing y)
      → Split (f ++ g) (clashing (ports a ++ memories a) (type_names x ++ type_names y)) (missing (ports a) (type_ports x ++ type_ports y))
  two_types x y s t = into (is (sym (clashing_append _ (type_names x) (type_names y)))) (is (sym (missing_append _ (type_ports x) (type_ports y)))) (both s t)

  type_same : (t : Ty) → Split (ty_f all t) (clashing (ports a ++ memories a) (type_names t)) (ports_missing t)
  unfolding ty_f type_names type_ports clashing missing each
  type_same (number n) = first []
  type_same (environment n) = into (is (sym (append-nil _))) (equal []) (tested n.at (h.taken n.spelled))
  type_same (port n) = into (equal []) (is (ap (λ (b : Bool). when (not b) n.at) (h.declared n.spelled) ∙ sym (append-nil _))) (second (when (not (among all.declared n.spelled)) n.at))
  type_same (plus x y) = two_types x y (type_same x) (type_same y)
  type_same (minus x y) = two_types x y (type_same x) (type_same y)
  type_same (log p x) = type_same x
  type_same (ceil p x) = type_same x
  type_same (floor p x) = type_same x
  type_same (most p x) = type_same x
  type_same (entry x y) = two_types x y (type_same x) (type_same y)
  type_same (within p x) = type_same x

  kinds_same : (l : List Item) → Split (kinds l) (clashing (ports a ++ memories a) (each item_names l)) (each ports_missing (types l))
  unfolding each kind_f item_names types clashing
  kinds_same [] = first []
  kinds_same (Item.type t ∷ l) = into (is (sym (clashing_append _ (type_names t) (each item_names l)))) (equal _) (both (type_same t) (kinds_same l))
  kinds_same (Item.number n ∷ l) = kinds_same l
  kinds_same (reads n ∷ l) = kinds_same l
  kinds_same (Item.value n ∷ l) = both (tested n.at (h.taken n.spelled)) (kinds_same l)

  -- ---- expressions and assignments, where the `let`s in force are listed in two ways

  module _ (lets lets' : List (List ℕ)) (g : (s : List ℕ) → among lets s ≡ among lets' s) where
    readable : (s : List ℕ) → (among all.inputs s || among lets s) ≡ among (input_names a.ports ++ lets') s
    readable s = ap₂ (λ (x y : Bool). x || y) (h.inputs s) (g s) ∙ sym (among_append s (input_names a.ports) lets')

    items_same : (l : List Item) → Split (each (item_f all lets) l) (missing (input_names a.ports ++ lets') (read_names l)) (kinds l)
    unfolding each item_f kind_f read_f read_names missing
    items_same [] = first []
    items_same (Item.type t ∷ l) = both (of (is (append-nil (ty_f all t))) (second (ty_f all t))) (items_same l)
    items_same (Item.number n ∷ l) = items_same l
    items_same (reads n ∷ l) = both (tested n.at (ap not (readable n.spelled))) (items_same l)
    items_same (Item.value n ∷ l) = both (of (is (append-nil _)) (second (when (among all.taken n.spelled) n.at))) (items_same l)

    expr_same : (e : Expr) → Split (expr_f all lets e) (read_faults a lets' e) (kinds (items e))
    unfolding expr_f read_faults
    expr_same e = items_same (items e)

    assign_same : (x : Assignment) → Split (assign_f all lets x) (assignment_faults a lets' x) (kinds (each items (assigned x)))
    unfolding assign_f assignment_faults assigned each
    assign_same (assign n e) =
        of (swap (expr_f all lets e) (when (not (among all.outputs n.spelled)) n.at)) (into (equal _) (is (ap (each (kind_f all)) (sym (append-nil (items e))))) (both (tested n.at (ap not (h.outputs n.spelled))) (expr_same e)))
    assign_same (write n x e) =
        into (equal _) (is (sym (kinds_append (items x) (items e ++ []) ∙ ap (λ (l : List Item). kinds (items x) ++ kinds l) (append-nil (items e))))) (both (expr_same x) (expr_same e))

  -- ---- statements

  vals_same : (lets : List (List ℕ)) (vs : List Val) → Split (vals_f all lets vs) (val_faults a lets vs) (kinds (each (λ (v : Val). declared_items v.type) vs) ++ kinds (each items (each (λ (v : Val). v.value ∷ []) vs)))
  unfolding vals_f val_faults each decl_f
  vals_same lets [] = first []
  vals_same lets (v ∷ vs) =
      into (is (append_assoc (when (among (lets ++ (ports a ++ memories a)) v.called.spelled) v.called.at) (read_faults a lets v.value) (val_faults a (v.called.spelled ∷ lets) vs)))
      (then (mix (kinds (declared_items v.type)) (kinds (items v.value)) (kinds (each (λ (v : Val). declared_items v.type) vs)) (kinds (each items (each (λ (v : Val). v.value ∷ []) vs))))
      (beside (is (sym (kinds_append (declared_items v.type) _))) (is (sym (kinds_append (items v.value) _)))))
      (both here (vals_same (v.called.spelled ∷ lets) vs))
    where
      free : (among lets v.called.spelled || among all.taken v.called.spelled) ≡ among (lets ++ (ports a ++ memories a)) v.called.spelled
      free = ap (λ (b : Bool). among lets v.called.spelled || b) (h.taken v.called.spelled) ∙ sym (among_append v.called.spelled lets (ports a ++ memories a))

      here : Split ((decl_f all v.type ++ expr_f all lets v.value) ++ when (among lets v.called.spelled || among all.taken v.called.spelled) v.called.at)
          (when (among (lets ++ (ports a ++ memories a)) v.called.spelled) v.called.at ++ read_faults a lets v.value) (kinds (declared_items v.type) ++ kinds (items v.value))
      here = of (swap (decl_f all v.type ++ expr_f all lets v.value) _) (both (tested v.called.at free) (both (second (decl_f all v.type)) (expr_same lets lets (λ s. refl) v.value)))

  statement_same : (x : Statement) → Split (statement_f all x) (statement_faults a x) (kinds (in_statement x))
  unfolding statement_f statement_faults val_items wholes each among
  statement_same (alone x) = assign_same [] [] (λ s. refl) x
  statement_same (scoped vs l) =
      into (equal _) (is (listed_scoped (kind_f all) (each (λ (v : Val). declared_items v.type) vs) (values_of vs) l))
      (both (vals_same [] vs) (split_each (assign_f all (pushed (val_names vs) [])) (assignment_faults a (each (λ (v : Val). v.called.spelled ∷ []) vs)) (λ (x : Assignment). kinds (each items (assigned x))) (assign_same _ _ lets) l))
    where
      lets : (s : List ℕ) → among (pushed (val_names vs) []) s ≡ among (each (λ (v : Val). v.called.spelled ∷ []) vs) s
      lets s = among_pushed s (val_names vs) [] ∙ or_false _ ∙ ap (λ (l : List (List ℕ)). among l s) (val_names_law vs)

  -- ---- rules and groups

  entries_same : (ps : List (List ℕ)) (es : List Entry) → Split (entries_f all ps es) (missing (ports a) (entry_names es)) (repeated ps (entry_names es))
  unfolding entries_f entry_names missing repeated each
  entries_same ps [] = first []
  entries_same ps (e ∷ es) =
      both (of (is (ap (λ (b : Bool). when (not b || among ps e.called.spelled) e.called.at) (h.declared e.called.spelled))) (split_or (not (among (ports a) e.called.spelled)) (among ps e.called.spelled) e.called.at))
      (entries_same (e.called.spelled ∷ ps) es)

  rule_same : (r : Rule) → Split (rule_f all r) (rule_faults a r) (each (λ (s : Statement). kinds (in_statement s)) r.body)
  unfolding rule_f rule_faults
  rule_same r =
      into (then (beside (entries_same [] r.list).parts (equal _)) (is (append_assoc (missing (ports a) (entry_names r.list)) (repeated [] (entry_names r.list)) (each (statement_faults a) r.body)))) (equal _)
      (both (first (entries_f all [] r.list)) (split_each (statement_f all) (statement_faults a) (λ (s : Statement). kinds (in_statement s)) statement_same r.body))

  groups_same : (gs : List Group) → Split (each (group_f all) gs) (each (λ (g : Group). each (rule_faults a) g.rules) gs) (kinds (each in_statement (each (λ (g : Group). each (λ (r : Rule). r.body) g.rules) gs)))
  unfolding group_f
  groups_same gs =
      into (equal _) (is (listed_groups (kind_f all) gs))
      (split_each (group_f all) (λ (g : Group). each (rule_faults a) g.rules) (λ (g : Group). each (λ (r : Rule). each (λ (s : Statement). kinds (in_statement s)) r.body) g.rules)
      (λ g. split_each (rule_f all) (rule_faults a) (λ (r : Rule). each (λ (s : Statement). kinds (in_statement s)) r.body) rule_same g.rules) gs)

  -- ---- declarations and the actor

  sign_same : (l : List (List ℕ)) (ns : List Name) → Split (sign_f all l ns) (repeated l ns) (missing (ports a) ns)
  unfolding sign_f repeated missing each
  sign_same l [] = first []
  sign_same l (n ∷ ns) =
      both (of (is (ap (λ (b : Bool). when (among l n.spelled || not b) n.at) (h.declared n.spelled))) (split_or (among l n.spelled) (not (among (ports a) n.spelled)) n.at))
      (sign_same (n.spelled ∷ l) ns)

  ports_same : (l : List (List ℕ)) (ps : List Port) → Split (ports_f all l ps) (missing (spelled_of a.signature) (port_names ps) ++ repeated l (port_names ps)) (kinds (each (λ (p : Port). declared_items p.type) ps))
  unfolding ports_f port_names missing repeated each decl_f
  ports_same l [] = first []
  ports_same l (p ∷ ps) =
      into (then (beside two (equal _)) (mix (when (not (among (spelled_of a.signature) p.called.spelled)) p.called.at) (when (among l p.called.spelled) p.called.at) (missing (spelled_of a.signature) (port_names ps)) (repeated (p.called.spelled ∷ l) (port_names ps))))
      (is (sym (kinds_append (declared_items p.type) _)))
      (both (of (swap (decl_f all p.type) _) (both (first (when (not (among all.signed p.called.spelled) || among l p.called.spelled) p.called.at)) (second (decl_f all p.type)))) (ports_same (p.called.spelled ∷ l) ps))
    where
      two : Same (when (not (among all.signed p.called.spelled) || among l p.called.spelled) p.called.at ++ [])
          (when (not (among (spelled_of a.signature) p.called.spelled)) p.called.at ++ when (among l p.called.spelled) p.called.at)
      two = then (is (append-nil _ ∙ ap (λ (b : Bool). when (not b || among l p.called.spelled) p.called.at) (h.signed p.called.spelled))) (when_or (not (among (spelled_of a.signature) p.called.spelled)) (among l p.called.spelled) p.called.at)

  memories_same : (l : List (List ℕ)) (ms : List Memory) → Split (memories_f all l ms) (repeated l (memory_names ms)) (kinds (each (λ (m : Memory). declared_items m.type) ms))
  unfolding memories_f memory_names repeated each decl_f
  memories_same l [] = first []
  memories_same l (m ∷ ms) =
      into (beside (is (append-nil (when (among l m.called.spelled) m.called.at))) (equal (repeated (m.called.spelled ∷ l) (memory_names ms)))) (is (sym (kinds_append (declared_items m.type) _)))
      (both (of (swap (decl_f all m.type) _) (both (first (when (among l m.called.spelled) m.called.at)) (second (decl_f all m.type)))) (memories_same (m.called.spelled ∷ l) ms))

  pub actor_same : Same (actor_f all a) (name_faults a)
  unfolding actor_f name_faults declaration_faults type_name_faults environment_names actor_items statements
  actor_same =
      then all_parts.parts (then (beside (is (ap (λ (r : List ℕ). r ++ group_faults) declared)) (then (is (listed_actor (kind_f all) a)) (kinds_same (actor_items a)).parts)) (then (is (append_assoc (declaration_faults a) group_faults (type_name_faults a))) (beside (equal (declaration_faults a)) (swap group_faults (type_name_faults a)))))
    where
      group_faults : List ℕ
      group_faults = each (λ (g : Group). each (rule_faults a) g.rules) a.groups

      sign_faults : List ℕ
      sign_faults = repeated [] a.signature ++ missing (ports a) a.signature

      port_faults : List ℕ
      port_faults = missing (spelled_of a.signature) (port_names a.ports) ++ repeated [] (port_names a.ports)

      memory_faults : List ℕ
      memory_faults = repeated (pushed (port_names a.ports) []) (memory_names a.memories)

      port_types : List Item
      port_types = each (λ (p : Port). declared_items p.type) a.ports

      memory_types : List Item
      memory_types = each (λ (m : Memory). declared_items m.type) a.memories

      group_items : List Item
      group_items = each in_statement (statements a)

      all_parts : Split (actor_f all a) (((sign_faults ++ port_faults) ++ memory_faults) ++ group_faults) ((kinds port_types ++ kinds memory_types) ++ kinds group_items)
      all_parts =
          both (both (both (of (sign_same [] a.signature).parts (first sign_faults)) (ports_same [] a.ports)) (memories_same (pushed (port_names a.ports) []) a.memories)) (groups_same a.groups)

      declared : (sign_faults ++ port_faults) ++ memory_faults ≡ declaration_faults a
      declared = simp (append_assoc, repeated_append)
