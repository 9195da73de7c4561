-- What a function makes of the items of statements, groups and an actor, part by part, is what it makes of them as the definition lists them. Assumes nothing.
use mathlib.Core.Path.{◌≡◌, sym, ap, ◌∙◌}
use mathlib.Core.List.{List, [], ◌∷◌, ◌++◌, append_assoc, append-nil}
use Prim.Native.Nat.{ℕ}
use Rattle.language.specs.Parts.{each, Item, items, declared_items, assigned, wholes, statements, val_items, actor_items}
use Rattle.language.specs.Tree.{Expr, Port, Memory, Val, Assignment, Statement, Rule, Group, Actor}
use Rattle.placed.proofs.Every.{each_append}
use Rattle.placed.proofs.Same.{each_as, each_each}

abbrev pub in_statement : Statement → List Item
in_statement s = val_items s ++ each items (wholes s)

abbrev pub values_of : List Val → List Expr
values_of vs = each (λ (v : Val). v.value ∷ []) vs

abbrev pub bodies_of : List Group → List Statement
bodies_of gs = each (λ (g : Group). each (λ (r : Rule). r.body) g.rules) gs

module _ (f : Item → List ℕ) where
  pub listed_append : (x y : List Item) → each f (x ++ y) ≡ each f x ++ each f y
  listed_append x y = each_append f x y

  pub listed_each : {T : Type 0} (g : T → List Item) (l : List T) → each (λ x. each f (g x)) l ≡ each f (each g l)
  listed_each g l = sym (each_each f g (each_append f) l)

  -- the values and the assignments of a `let`
  pub listed_values : (vs : List Val) → each (λ (v : Val). each f (items v.value)) vs ≡ each f (each items (values_of vs))
  unfolding each
  listed_values vs = listed_each (λ (v : Val). items v.value) vs ∙ ap (each f) (sym (each_each items (λ (v : Val). v.value ∷ []) (each_append items) vs ∙ each_as _ _ (λ v. append-nil (items v.value)) vs))

  listed_assigned : (l : List Assignment) → each (λ (x : Assignment). each f (each items (assigned x))) l ≡ each f (each items (each assigned l))
  listed_assigned l = listed_each (λ (x : Assignment). each items (assigned x)) l ∙ ap (each f) (sym (each_each items assigned (each_append items) l))

  pub listed_scoped : (ts : List Item) (vs : List Expr) (l : List Assignment) → (each f ts ++ each f (each items vs)) ++ each (λ (x : Assignment). each f (each items (assigned x))) l ≡ each f (ts ++ each items (vs ++ each assigned l))
  listed_scoped ts vs l = append_assoc (each f ts) (each f (each items vs)) _ ∙ sym (listed_append ts (each items (vs ++ each assigned l)) ∙ ap (λ (r : List ℕ). each f ts ++ r)
      (ap (each f) (each_append items vs (each assigned l)) ∙ listed_append (each items vs) (each items (each assigned l)) ∙ ap (λ (r : List ℕ). each f (each items vs) ++ r) (sym (listed_assigned l))))

  pub listed_groups : (gs : List Group) → each (λ (g : Group). each (λ (r : Rule). each (λ (s : Statement). each f (in_statement s)) r.body) g.rules) gs ≡ each f (each in_statement (bodies_of gs))
  listed_groups gs = sym (each_each f in_statement (each_append f) _
      ∙ each_each (λ (s : Statement). each f (in_statement s)) (λ (g : Group). each (λ (r : Rule). r.body) g.rules) (each_append (λ (s : Statement). each f (in_statement s))) gs
      ∙ each_as _ _ (λ g. each_each (λ (s : Statement). each f (in_statement s)) (λ (r : Rule). r.body) (each_append (λ (s : Statement). each f (in_statement s))) g.rules) gs)

  pub listed_actor : (a : Actor) → (each f (each (λ (p : Port). declared_items p.type) a.ports) ++ each f (each (λ (m : Memory). declared_items m.type) a.memories)) ++ each f (each in_statement (statements a)) ≡ each f (actor_items a)
  unfolding actor_items
  listed_actor a = append_assoc (each f port_types) (each f memory_types) (each f in_groups) ∙ sym (listed_append port_types (memory_types ++ in_groups) ∙ ap (λ (r : List ℕ). each f port_types ++ r) (listed_append memory_types in_groups))
    where
      port_types : List Item
      port_types = each (λ (p : Port). declared_items p.type) a.ports

      memory_types : List Item
      memory_types = each (λ (m : Memory). declared_items m.type) a.memories

      in_groups : List Item
      in_groups = each in_statement (statements a)
