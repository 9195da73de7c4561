-- A walk that asks of environment names, of ports without a type and of memories without one: the places that it marks on an actor's tape. Assumes nothing.
use mathlib.Core.Path.{◌≡◌, refl, sym, ap, ap₂, ◌∙◌}
use mathlib.Core.Bool.{Bool, true, false, ◌&&◌, ◌||◌}
use mathlib.Core.List.{List, [], ◌∷◌, ◌++◌, append_assoc, append-nil}
use Prim.Native.Nat.{ℕ, ◌+◌, ◌*◌, ◌≤◌, ◌<◌}
use native.Mathlib.Omega.{arith}
use lib.Dec.{eqb, ltb}
use lib.ListN.{length}
use borrow.Author.Tests.{eqb-true, ne_eqb, ltb-true}
use Rattle.language.specs.Text.{Name}
use Rattle.language.specs.Words.{Word}
use Rattle.language.specs.Parts.{each, Item, reads, items, declared_items, assigned, wholes, statements, val_items, actor_items, type_names, item_names, environment_names}
use Rattle.language.specs.Names.{when}
use Rattle.language.specs.Widths.{typeless}
use Rattle.language.specs.Tree.{Declared, untyped, Port, Size, one, cells, Memory, Entry, Val, Assignment, assign, write, Statement, alone, scoped, Rule, Group, Actor}
use Rattle.placed.specs.Placed.{name_from, PlacedVal, PlacedAssignment, PlacedStatement, PlacedRule, PlacedGroup, PlacedPort, PlacedMemory, PlacedActor}
use Rattle.placed.proofs.Placed.{placed}
use Rattle.tape.specs.Tape.{is_typed, one_if, flat_val, flat_assignment, flats, flat_statement, flat_entry, flat_rule, flat_group, flat_port, flat_size, flat_memory, flat_signed, flat_actor}
use Rattle.tape.specs.Row.{Tells}
use Rattle.tape.specs.Walk.{op_at, place_at, value_at, marked}
use Rattle.tape.proofs.Does.{Ran, Does, told, none, both, single, ends, many, walked}
use Rattle.tape.proofs.Asks.{never, asked, told_of_law, item_a, Asks, expr_asks, decl_asks}
use Rattle.placed.proofs.Every.{each_append}
use Rattle.tape.proofs.Listed.{in_statement, values_of, bodies_of, listed_each, listed_values, listed_scoped, listed_groups, listed_actor}
use Rattle.placed.proofs.Same.{Same, is, equal, then, beside, swap, Split, both as beside_both, into, split_each, same_each}
use Rattle.row09_bindings.specs.Walk.{no_type, ask}

-- a port's value, and a memory's, is 1 for a type and 2 for an input
port_type : (b : Bool) (d : Declared) → no_type (2 * one_if b + is_typed d) ≡ typeless d
unfolding no_type one_if is_typed typeless
port_type true untyped = refl
port_type true (Declared.typed t) = refl
port_type false untyped = refl
port_type false (Declared.typed t) = refl

memory_type : (d : Declared) → no_type (is_typed d) ≡ typeless d
unfolding no_type is_typed typeless
memory_type untyped = refl
memory_type (Declared.typed t) = refl

module _ (environs ports : List ℕ → Bool) (memories : Bool) where
  -- ---- the places, in the order of the tape

  abbrev items_f : List Item → List ℕ
  items_f l = each (item_a environs never) l

  abbrev pub port_f : Port → List ℕ
  port_f p = when (typeless p.type && ports p.called.spelled) p.called.at

  abbrev pub memory_f : Memory → List ℕ
  memory_f m = when (typeless m.type && memories) m.called.at

  unfoldable val_f : Val → List ℕ
  val_f v = items_f (declared_items v.type) ++ items_f (items v.value)

  unfoldable assign_f : Assignment → List ℕ
  assign_f x = items_f (each items (assigned x))

  unfoldable statement_f : Statement → List ℕ
  statement_f (alone x) = assign_f x
  statement_f (scoped vs l) = each val_f vs ++ each assign_f l

  unfoldable group_f : Group → List ℕ
  group_f g = each (λ (r : Rule). each statement_f r.body) g.rules

  unfoldable actor_f : Actor → List ℕ
  actor_f a = (each (λ (p : Port). items_f (declared_items p.type) ++ port_f p) a.ports ++ each (λ (m : Memory). items_f (declared_items m.type) ++ memory_f m) a.memories) ++ each group_f a.groups

  -- ---- what the walk does

  module _ (text : List ℕ) where
    abbrev asks : Unit {0} → ℕ → ℕ → ℕ → Bool
    asks s o p v = ask environs ports memories o v (name_from text p)

    abbrev stays : Unit {0} → ℕ → ℕ → ℕ → Unit {0}
    stays s o p v = s

    abbrev Marks : (a f : List ℕ) → Type 0
    Marks a f = Does asks stays tt a f tt

    tests : (o p v : ℕ) → ltb o 33 ≡ true → asks tt o p v ≡ asked environs never o (name_from text p)
    unfolding ask asked
    tests o p v b = let h : o < 33 = omega (arith, ltb-true o 33 b) in go (eqb o 18) refl (eqb o 2 || eqb o 15) refl (eqb o 43) (ne_eqb o 43 (omega arith)) (eqb o 44) (ne_eqb o 44 (omega arith))
      where
        go : (x : Bool) → eqb o 18 ≡ x → (y : Bool) → (eqb o 2 || eqb o 15) ≡ y → (z : Bool) → z ≡ false → (w : Bool) → w ≡ false
            → ◌≡◌ {A = Bool} (elim y [ true ↦ environs (name_from text p) | false ↦ elim z [ true ↦ no_type v && ports (name_from text p) | false ↦ elim w [ true ↦ no_type v && memories | false ↦ false ] ] ])
            (elim x [ true ↦ false | false ↦ elim y [ true ↦ environs (name_from text p) | false ↦ false ] ])
        go true e true f z g w i = let q : o ≡ 18 = eqb-true o 18 e in let j : (eqb o 2 || eqb o 15) ≡ false = rw q in absurd (let z : ◌≡◌ {A = ℕ} 0 1 = cc in omega arith)
        go true e false f z g w i = rw (g, i)
        go false e true f z g w i = refl
        go false e false f z g w i = rw (g, i)

    in_exprs : Asks asks stays text tt environs never
    in_exprs = record { keeps = λ o p v b. refl; tests = tests }

    -- statements
    val_does : (v : Val) → PlacedVal text v → Marks (flat_val v) (val_f v)
    unfolding flat_val val_f ask
    val_does v h = ends _ _ _ (both (decl_asks in_exprs v.type h.type) (expr_asks in_exprs v.value h.value)) (refl, refl)

    assign_does : (x : Assignment) → PlacedAssignment text x → Marks (flat_assignment x) (assign_f x)
    unfolding flat_assignment assign_f assigned each ask
    assign_does (assign n e) h = told (ap (each (item_a environs never)) (sym (append-nil (items e)))) (ends _ _ _ (expr_asks in_exprs e h.1) (refl, refl))
    assign_does (write n x e) h =
        told (sym (each_append (item_a environs never) (items x) (items e ++ []) ∙ ap (λ (l : List Item). items_f (items x) ++ items_f l) (append-nil (items e))))
        (ends _ _ _ (both (expr_asks in_exprs x h.1) (expr_asks in_exprs e h.2)) (refl, refl))

    statement_does : (x : Statement) → PlacedStatement text x → Marks (flat_statement x) (statement_f x)
    unfolding flat_statement statement_f ask when
    statement_does (alone x) h = assign_does x h
    statement_does (scoped vs l) h = ends _ _ _ (both (both (single _ _ _ refl refl) (many flat_val val_f val_does vs h.0)) (many flat_assignment assign_f assign_does l h.1)) (refl, refl)

    -- rules and groups
    entries_does : (es : List Entry) → Marks (flats flat_entry es) []
    unfolding flats flat_entry ask when
    entries_does [] = none
    entries_does (e ∷ es) = both (single _ _ _ refl refl) (entries_does es)

    rule_does : (r : Rule) → PlacedRule text r → Marks (flat_rule r) (each statement_f r.body)
    unfolding flat_rule ask when
    rule_does r h = ends _ _ _ (both (both (single _ _ _ refl refl) (entries_does r.list)) (many flat_statement statement_f statement_does r.body h.body)) (refl, refl)

    group_does : (g : Group) → PlacedGroup text g → Marks (flat_group g) (group_f g)
    unfolding flat_group group_f ask when
    group_does g h = ends _ _ _ (both (single _ _ _ refl refl) (many flat_rule (λ (r : Rule). each statement_f r.body) rule_does g.rules h)) (refl, refl)

    -- declarations and the actor
    signed_does : (ns : List Name) → Marks (flats flat_signed ns) []
    unfolding flats flat_signed ask when
    signed_does [] = none
    signed_does (n ∷ ns) = both (single _ _ _ refl refl) (signed_does ns)

    port_does : (p : Port) → PlacedPort text p → Marks (flat_port p) (items_f (declared_items p.type) ++ port_f p)
    unfolding flat_port ask
    port_does p h = both (decl_asks in_exprs p.type h.type) (single _ _ _ (ap₂ (λ (b : Bool) (l : List ℕ). b && ports l) (port_type p.input p.type) (sym h.called)) refl)

    size_does : (z : Size) → Marks (flat_size z) []
    unfolding flat_size ask when
    size_does one = none
    size_does (cells n) = single _ _ _ refl refl

    memory_does : (m : Memory) → PlacedMemory text m → Marks (flat_memory m) (items_f (declared_items m.type) ++ memory_f m)
    unfolding flat_memory ask
    memory_does m h =
        both (told (append-nil (items_f (declared_items m.type))) (both (decl_asks in_exprs m.type h.type) (size_does m.size))) (single _ _ _ (ap (λ (b : Bool). b && memories) (memory_type m.type)) refl)

    actor_does : (a : Actor) → PlacedActor text a → Marks (flat_actor a) (actor_f a)
    unfolding flat_actor actor_f ask when
    actor_does a h =
        both (both (both (both (single _ _ _ refl refl) (signed_does a.signature)) (many flat_port _ port_does a.ports h.ports)) (many flat_memory _ memory_does a.memories h.memories)) (many flat_group group_f group_does a.groups h.groups)

  -- ---- in the order of the definition

  statement_same : (x : Statement) → Same (statement_f x) (items_f (in_statement x))
  unfolding statement_f assign_f val_f val_items wholes each
  statement_same (alone x) = equal _
  statement_same (scoped vs l) =
      then (beside (split_each val_f (λ (v : Val). items_f (declared_items v.type)) (λ (v : Val). items_f (items v.value)) (λ v. record { parts = equal _ }) vs).parts (equal _))
      (then (beside (beside (is (listed_each (item_a environs never) (λ (v : Val). declared_items v.type) vs)) (is (listed_values (item_a environs never) vs))) (equal _)) (is (listed_scoped (item_a environs never) (each (λ (v : Val). declared_items v.type) vs) (values_of vs) l)))

  groups_same : (gs : List Group) → Same (each group_f gs) (items_f (each in_statement (bodies_of gs)))
  unfolding group_f
  groups_same gs =
      then (same_each group_f (λ (g : Group). each (λ (r : Rule). each (λ (s : Statement). items_f (in_statement s)) r.body) g.rules)
      (λ g. same_each (λ (r : Rule). each statement_f r.body) (λ (r : Rule). each (λ (s : Statement). items_f (in_statement s)) r.body) (λ r. same_each statement_f (λ (s : Statement). items_f (in_statement s)) statement_same r.body) g.rules) gs) (is (listed_groups (item_a environs never) gs))

  -- of items the environment names
  items_names : (l : List Item) → items_f l ≡ each (told_of_law environs) (each item_names l)
  unfolding each item_a item_names when
  items_names [] = refl
  items_names (Item.type t ∷ l) = ap (λ (r : List ℕ). each (told_of_law environs) (type_names t) ++ r) (items_names l) ∙ sym (each_append (told_of_law environs) (type_names t) (each item_names l))
  items_names (Item.number n ∷ l) = items_names l
  items_names (reads n ∷ l) = items_names l
  items_names (Item.value n ∷ l) = ap (λ (r : List ℕ). told_of_law environs n ++ r) (items_names l)

  -- the places of ports, of memories and of environment names
  unfoldable pub opened : Actor → List ℕ
  opened a = each port_f a.ports ++ (each memory_f a.memories ++ each (told_of_law environs) (environment_names a))

  actor_same : (a : Actor) → Same (actor_f a) (opened a)
  unfolding actor_f opened environment_names actor_items statements
  actor_same a =
      then (beside (beside_both ported memoried).parts (groups_same a.groups))
      (then (is (append_assoc (each port_f a.ports ++ each memory_f a.memories) (items_f port_types ++ items_f memory_types) (items_f group_items)))
      (then (beside (equal (each port_f a.ports ++ each memory_f a.memories)) (is (listed_actor (item_a environs never) a ∙ items_names (actor_items a)))) (is (append_assoc (each port_f a.ports) (each memory_f a.memories) (each (told_of_law environs) (environment_names a))))))
    where
      port_types : List Item
      port_types = each (λ (p : Port). declared_items p.type) a.ports

      memory_types : List Item
      memory_types = each (λ (m : Memory). declared_items m.type) a.memories

      group_items : List Item
      group_items = each in_statement (statements a)

      ported : Split (each (λ (p : Port). items_f (declared_items p.type) ++ port_f p) a.ports) (each port_f a.ports) (items_f port_types)
      ported = into (equal _) (is (listed_each (item_a environs never) (λ (p : Port). declared_items p.type) a.ports)) (split_each _ port_f (λ (p : Port). items_f (declared_items p.type)) (λ p. record { parts = swap (items_f (declared_items p.type)) (port_f p) }) a.ports)

      memoried : Split (each (λ (m : Memory). items_f (declared_items m.type) ++ memory_f m) a.memories) (each memory_f a.memories) (items_f memory_types)
      memoried = into (equal _) (is (listed_each (item_a environs never) (λ (m : Memory). declared_items m.type) a.memories)) (split_each _ memory_f (λ (m : Memory). items_f (declared_items m.type)) (λ m. record { parts = swap (items_f (declared_items m.type)) (memory_f m) }) a.memories)

  -- THE LAW: the items that the walk marks are these
  pub opens : (text t : List ℕ) (n many : ℕ) → n ≤ length t → 3 * many ≤ n → n < 3 * many + 3 → {ws : List Word} {a : Actor} → Tells text t n ws a
      → Same (marked (λ i. ask environs ports memories (op_at t i) (value_at t i) (name_from text (place_at t i))) t many) (opened a)
  opens text t n many k low high {a = a} h =
      then (is (ap (λ (r : Ran (Unit {0})). r.faults) (walked (asks text) (stays text) t (λ i. tt) (λ i. refl) k low high h.holds (actor_does text a (placed h.lexed h.parses))))) (actor_same a)
