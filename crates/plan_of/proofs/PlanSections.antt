-- The items of an actor, and what each section of a plan makes of them. Assumes nothing.
use mathlib.Core.Path.{◌≡◌, refl, sym, ap, ◌∙◌}
use mathlib.Core.Bool.{Bool, true, false}
use mathlib.Core.List.{List, [], ◌∷◌, ◌++◌, append_assoc, append-nil}
use Prim.Native.Nat.{ℕ, ◌+◌}
use Rattle.language.specs.Text.{Name, among}
use Rattle.language.specs.Tree.{Entry, Rule, Group, Memory}
use Rattle.language.specs.Parts.{each}
use Rattle.language.specs.Names.{input_names}
use Rattle.language.specs.Counts.{size_of}
use Rattle.language.specs.Widths.{port_width, memory_width}
use Rattle.language.specs.Sizes.{Setting}
use Rattle.language.specs.Meaning.{port_at}
use Rattle.section_items.specs.Items.{Item, items_of}
use Rattle.settled.specs.Form.{six}
use Rattle.settled.specs.Settled.{one_if, settled_body, settled_entry, settled_rule, settled_group, settled_signed, settled_memory, settled_of}
use Rattle.plan_of.proofs.Silent.{silent_body}

abbrev item : ℕ → ℕ → ℕ → Item
item o a b = record { op = o; a = a; b = b }

-- what items are, whatever stands after them
pub record Are (x : List ℕ) (is : List Item) : Type 0 where
  pub on : (l : List ℕ) → items_of (x ++ l) ≡ is ++ items_of l

are_both : {x y : List ℕ} {is js : List Item} → Are x is → Are y js → Are (x ++ y) (is ++ js)
are_both {x} {y} {is} {js} f g = record { on = λ l. ap items_of (append_assoc x y l) ∙ f.on (y ++ l) ∙ ap (λ (m : List Item). is ++ m) (g.on l) ∙ sym (append_assoc is js (items_of l)) }

are_six : (o p a b c d : ℕ) → Are (six o p a b c d) (item o a b ∷ [])
unfolding items_of
are_six o p a b c d = record { on = λ l. refl }

are_each : {A : Type 0} (f : A → List ℕ) (g : A → List Item) → ((x : A) → Are (f x) (g x)) → (l : List A) → Are (each f l) (each g l)
unfolding each
are_each f g h [] = record { on = λ l. refl }
are_each f g h (x ∷ l) = are_both (h x) (are_each f g h l)

module _ (s : Setting) where
  unfoldable pub port_of : Name → ℕ
  port_of n = elim (among (input_names s.actor.ports) n.spelled) [ true ↦ port_width s.actor s.widths n.spelled | false ↦ port_width s.actor s.widths n.spelled + 256 ]

  abbrev pub signed_items : Name → List Item
  signed_items n = item 46 (port_of n) 0 ∷ []

  abbrev pub memory_items : Memory → List Item
  memory_items m = item 44 (memory_width s.actor s.widths m.called.spelled) (size_of m) ∷ []

  abbrev pub entry_items : Entry → List Item
  entry_items e = item 38 (port_at s e.called.spelled) (one_if e.present) ∷ []

  abbrev pub body_items : Rule → List Item
  body_items r = (silent_body s r.body 0).items

  abbrev pub rule_items : Rule → List Item
  rule_items r = item 39 0 0 ∷ (each entry_items r.list ++ (body_items r ++ (item 40 0 0 ∷ [])))

  abbrev pub group_items : Group → List Item
  group_items g = item 41 0 0 ∷ each rule_items g.rules

  are_signed : (n : Name) → Are (settled_signed s n) (signed_items n)
  unfolding settled_signed port_of
  are_signed n = go (among (input_names s.actor.ports) n.spelled)
    where
      go : (b : Bool) → Are (elim b [ true ↦ six 46 n.at (port_width s.actor s.widths n.spelled) 0 0 0 | false ↦ six 46 n.at (port_width s.actor s.widths n.spelled + 256) 0 0 0 ]) (item 46 (elim b [ true ↦ port_width s.actor s.widths n.spelled | false ↦ port_width s.actor s.widths n.spelled + 256 ]) 0 ∷ [])
      go true = are_six 46 n.at _ 0 0 0
      go false = are_six 46 n.at _ 0 0 0

  are_memory : (m : Memory) → Are (settled_memory s m) (memory_items m)
  unfolding settled_memory
  are_memory m = are_six 44 _ _ _ 0 0

  are_entry : (e : Entry) → Are (settled_entry s e) (entry_items e)
  unfolding settled_entry
  are_entry e = are_six 38 _ _ _ 0 0

  are_body : (r : Rule) → Are (settled_body s 0 r.body) (body_items r)
  are_body r = record { on = (silent_body s r.body 0).splits }

  are_rule : (r : Rule) → Are (settled_rule s r) (rule_items r)
  unfolding settled_rule
  are_rule r = are_both (are_six 39 r.called.at 0 0 0 0) (are_both (are_each (settled_entry s) entry_items are_entry r.list) (are_both (are_body r) (are_six 40 0 0 0 0 0)))

  are_group : (g : Group) → Are (settled_group s g) (group_items g)
  unfolding settled_group
  are_group g = are_both (are_six 41 g.at 0 0 0 0) (are_each (settled_rule s) rule_items are_rule g.rules)

  abbrev pub actor_items : List Item
  actor_items = each signed_items s.actor.signature ++ (each memory_items s.actor.memories ++ each group_items s.actor.groups)

  pub are_actor : items_of (settled_of s) ≡ actor_items
  unfolding settled_of items_of
  are_actor = ap items_of (sym (append-nil (settled_of s))) ∙ whole.on [] ∙ nothing
    where
      whole : Are (settled_of s) actor_items
      whole = are_both (are_each (settled_signed s) signed_items are_signed s.actor.signature) (are_both (are_each (settled_memory s) memory_items are_memory s.actor.memories) (are_each (settled_group s) group_items are_group s.actor.groups))

      nothing : actor_items ++ items_of [] ≡ actor_items
      nothing = append-nil actor_items
