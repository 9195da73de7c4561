-- What an actor is made of, listed: its types, its whole expressions, its environment names. Assumes nothing: these are definitions.
use Rattle.std.specs.Prelude.{List, [], ◌∷◌, ◌++◌, ℕ, ◌+◌}
use Rattle.language.specs.Text.{Name}
use Rattle.language.specs.Words.{Numeral}
use Rattle.language.specs.Tree.{Ty, environment, port, plus, minus, log, ceil, floor, most, entry, within, Breadth, bits, Amount, given, Prefix}
use Rattle.language.specs.Tree.{Expr, plain, sized, copies, read, cell, bit, range, inside, joined, beside, unary, binary, choice, either, select, arm, default}
use Rattle.language.specs.Tree.{Declared, untyped, Port, Memory, Val, Assignment, assign, write, Statement, alone, scoped, Rule, Group, Actor}

-- the lists that f makes of each, one after the other
unfoldable pub each : {A B : Type 0} → (A → List B) → List A → List B
each f [] = []
each f (a ∷ l) = f a ++ each f l

-- ---- the first byte of a type and of an expression, parentheses included

unfoldable pub type_start : Ty → ℕ
type_start (Ty.number n) = n.at
type_start (environment n) = n.at
type_start (port n) = n.at
type_start (plus a b) = type_start a
type_start (minus a b) = type_start a
type_start (log p a) = p
type_start (ceil p a) = p
type_start (floor p a) = p
type_start (most p a) = p
type_start (entry a b) = type_start a
type_start (within p a) = p

unfoldable pub breadth_start : Breadth → ℕ
breadth_start (bits n) = n.at
breadth_start (Breadth.typed p t) = p

unfoldable pub start : Expr → ℕ
start (plain n) = n.at
start (sized w a) = breadth_start w
start (copies n e) = n.at
start (read n) = n.at
start (cell n a) = n.at
start (bit e p i) = start e
start (range e p i j) = start e
start (inside p e) = p
start (joined p e) = p
start (beside a b) = start a
start (unary u e) = u.at
start (binary o a b) = start a
start (choice c a b) = start c
start (either p c a b) = p
start (select p e a) = p
start (arm n e r) = n.at
start (default p e) = p

-- ---- what stands in an expression, in the order of the text

pub data Item : Type 0 where
  type : Ty → Item
  number : Numeral → Item
  reads : Name → Item
  value : Name → Item

unfoldable pub breadth_items : Breadth → List Item
breadth_items (bits n) = []
breadth_items (Breadth.typed p t) = Item.type t ∷ []

unfoldable pub amount_items : Amount → List Item
amount_items (given n) = []
amount_items (Amount.value n) = Item.value n ∷ []

-- its types (a constant's, and bit positions), its numbers of copies, the ports and `let`s that it reads, the environment names after `'d`
unfoldable pub items : Expr → List Item
items (plain n) = []
items (sized w a) = breadth_items w ++ amount_items a
items (copies n e) = Item.number n ∷ items e
items (read n) = reads n ∷ []
items (cell n a) = items a
items (bit e p i) = items e ++ (Item.type i ∷ [])
items (range e p i j) = items e ++ (Item.type i ∷ Item.type j ∷ [])
items (inside p e) = items e
items (joined p e) = items e
items (beside a b) = items a ++ items b
items (unary u e) = items e
items (binary o a b) = items a ++ items b
items (choice c a b) = items c ++ (items a ++ items b)
items (either p c a b) = items c ++ (items a ++ items b)
items (select p e a) = items e ++ items a
items (arm n e r) = items e ++ items r
items (default p e) = items e

-- ---- what stands in an actor: its whole expressions (after `=`, in a write's address, in a `val`), and its types

unfoldable pub declared_items : Declared → List Item
declared_items untyped = []
declared_items (Declared.typed t) = Item.type t ∷ []

unfoldable pub assigned : Assignment → List Expr
assigned (assign n e) = e ∷ []
assigned (write n a e) = a ∷ e ∷ []

unfoldable pub wholes : Statement → List Expr
wholes (alone a) = assigned a
wholes (scoped vs l) = each (λ v. v.value ∷ []) vs ++ each assigned l

unfoldable pub statements : Actor → List Statement
statements a = each (λ g. each (λ r. r.body) g.rules) a.groups

unfoldable pub val_items : Statement → List Item
val_items (alone a) = []
val_items (scoped vs l) = each (λ v. declared_items v.type) vs

unfoldable pub actor_items : Actor → List Item
actor_items a =
    each (λ p. declared_items p.type) a.ports ++ (each (λ m. declared_items m.type) a.memories ++ each (λ s. val_items s ++ each items (wholes s)) (statements a))

unfoldable pub types : List Item → List Ty
types [] = []
types (Item.type t ∷ l) = t ∷ types l
types (Item.number n ∷ l) = types l
types (reads n ∷ l) = types l
types (Item.value n ∷ l) = types l

unfoldable pub numbers : List Item → List Numeral
numbers [] = []
numbers (Item.type t ∷ l) = numbers l
numbers (Item.number n ∷ l) = n ∷ numbers l
numbers (reads n ∷ l) = numbers l
numbers (Item.value n ∷ l) = numbers l

unfoldable pub read_names : List Item → List Name
read_names [] = []
read_names (Item.type t ∷ l) = read_names l
read_names (Item.number n ∷ l) = read_names l
read_names (reads n ∷ l) = n ∷ read_names l
read_names (Item.value n ∷ l) = read_names l

-- the environment names of a type and of any item: "In a type or after `'d` a bare name is an environment name"
unfoldable pub type_names : Ty → List Name
type_names (Ty.number n) = []
type_names (environment n) = n ∷ []
type_names (port n) = []
type_names (plus a b) = type_names a ++ type_names b
type_names (minus a b) = type_names a ++ type_names b
type_names (log p a) = type_names a
type_names (ceil p a) = type_names a
type_names (floor p a) = type_names a
type_names (most p a) = type_names a
type_names (entry a b) = type_names a ++ type_names b
type_names (within p a) = type_names a

unfoldable pub item_names : Item → List Name
item_names (Item.type t) = type_names t
item_names (Item.number n) = []
item_names (reads n) = []
item_names (Item.value n) = n ∷ []

unfoldable pub environment_names : Actor → List Name
environment_names a = each item_names (actor_items a)

-- the ports whose type a type takes
unfoldable pub type_ports : Ty → List Name
type_ports (Ty.number n) = []
type_ports (environment n) = []
type_ports (port n) = n ∷ []
type_ports (plus a b) = type_ports a ++ type_ports b
type_ports (minus a b) = type_ports a ++ type_ports b
type_ports (log p a) = type_ports a
type_ports (ceil p a) = type_ports a
type_ports (floor p a) = type_ports a
type_ports (most p a) = type_ports a
type_ports (entry a b) = type_ports a ++ type_ports b
type_ports (within p a) = type_ports a
