-- What a text has at the places of a tree, by recursion on the tree: the bytes of every name, and the value of every sized constant. Assumes nothing: these are definitions.
use Rattle.std.specs.Prelude.{◌≡◌, List, [], ◌∷◌, ℕ, drop}
use Rattle.language.specs.Text.{Name}
use Rattle.language.specs.Words.{Numeral, span, name_byte}
use Rattle.language.specs.Tree.{Ty, number, environment, port, plus, minus, log, ceil, floor, most, entry, within, Breadth, bits, Amount, given, value, Expr, plain, sized, copies, read, cell, bit, range, inside, joined, beside, unary, binary, choice, either, select, arm, default, Declared, untyped, Port, Memory, Entry, Val, Assignment, assign, write, Statement, alone, scoped, Rule, Group, Actor}
use Rattle.sized_constants.specs.Constant.{constant_at}

-- "The longest word wins": the name that stands at a place is all name bytes from there on
abbrev pub name_from : List ℕ → ℕ → List ℕ
name_from text p = span name_byte (drop p text)

-- a name is spelled as the text has it at its place
abbrev pub Spelled : List ℕ → Name → Type 0
Spelled text n = n.spelled ≡ name_from text n.at

-- "then one word: `'` and d, o, h or b in either case and digits of that base": the value is that of the word at its place
abbrev pub Valued : List ℕ → Numeral → Type 0
Valued text n = n.value ≡ constant_at text n.at

-- every one of a list
abbrev pub Every : {A : Type 0} → (A → Type 0) → List A → Type 0
Every P [] = Unit {0}
Every P (x ∷ l) = P x × Every P l

-- ---- types and expressions

abbrev pub PlacedType : List ℕ → Ty → Type 0
PlacedType text (number n) = Unit {0}
PlacedType text (environment n) = Spelled text n
PlacedType text (port n) = Spelled text n
PlacedType text (plus x y) = PlacedType text x × PlacedType text y
PlacedType text (minus x y) = PlacedType text x × PlacedType text y
PlacedType text (log p x) = PlacedType text x
PlacedType text (ceil p x) = PlacedType text x
PlacedType text (floor p x) = PlacedType text x
PlacedType text (most p x) = PlacedType text x
PlacedType text (entry x y) = PlacedType text x × PlacedType text y
PlacedType text (within p x) = PlacedType text x

-- the width and the value of a sized constant
abbrev pub PlacedBreadth : List ℕ → Breadth → Type 0
PlacedBreadth text (bits n) = Unit {0}
PlacedBreadth text (Breadth.typed p t) = PlacedType text t

abbrev pub PlacedAmount : List ℕ → Amount → Type 0
PlacedAmount text (given n) = Valued text n
PlacedAmount text (value n) = Spelled text n

abbrev pub PlacedExpr : List ℕ → Expr → Type 0
PlacedExpr text (plain n) = Unit {0}
PlacedExpr text (sized w a) = PlacedBreadth text w × PlacedAmount text a
PlacedExpr text (copies n e) = PlacedExpr text e
PlacedExpr text (read n) = Spelled text n
PlacedExpr text (cell n a) = Spelled text n × PlacedExpr text a
PlacedExpr text (bit e p i) = PlacedExpr text e × PlacedType text i
PlacedExpr text (range e p i j) = PlacedExpr text e × PlacedType text i × PlacedType text j
PlacedExpr text (inside p e) = PlacedExpr text e
PlacedExpr text (joined p e) = PlacedExpr text e
PlacedExpr text (beside a b) = PlacedExpr text a × PlacedExpr text b
PlacedExpr text (unary u e) = PlacedExpr text e
PlacedExpr text (binary o a b) = PlacedExpr text a × PlacedExpr text b
PlacedExpr text (choice c a b) = PlacedExpr text c × PlacedExpr text a × PlacedExpr text b
PlacedExpr text (either p c a b) = PlacedExpr text c × PlacedExpr text a × PlacedExpr text b
PlacedExpr text (select p e a) = PlacedExpr text e × PlacedExpr text a
PlacedExpr text (arm n e r) = PlacedExpr text e × PlacedExpr text r
PlacedExpr text (default p e) = PlacedExpr text e

-- ---- statements, rules and groups

abbrev pub PlacedDeclared : List ℕ → Declared → Type 0
PlacedDeclared text untyped = Unit {0}
PlacedDeclared text (Declared.typed t) = PlacedType text t

pub record PlacedVal (text : List ℕ) (v : Val) : Type 0 where
  pub type : PlacedDeclared text v.type
  pub called : Spelled text v.called
  pub value : PlacedExpr text v.value

abbrev pub PlacedAssignment : List ℕ → Assignment → Type 0
PlacedAssignment text (assign n e) = Spelled text n × PlacedExpr text e
PlacedAssignment text (write n a e) = Spelled text n × PlacedExpr text a × PlacedExpr text e

abbrev pub PlacedStatement : List ℕ → Statement → Type 0
PlacedStatement text (alone x) = PlacedAssignment text x
PlacedStatement text (scoped vs l) = Every (PlacedVal text) vs × Every (PlacedAssignment text) l

abbrev pub PlacedEntry : List ℕ → Entry → Type 0
PlacedEntry text e = Spelled text e.called

pub record PlacedRule (text : List ℕ) (r : Rule) : Type 0 where
  pub called : Spelled text r.called
  pub list : Every (PlacedEntry text) r.list
  pub body : Every (PlacedStatement text) r.body

abbrev pub PlacedGroup : List ℕ → Group → Type 0
PlacedGroup text g = Every (PlacedRule text) g.rules

-- ---- declarations and the actor

pub record PlacedPort (text : List ℕ) (p : Port) : Type 0 where
  pub type : PlacedDeclared text p.type
  pub called : Spelled text p.called

pub record PlacedMemory (text : List ℕ) (m : Memory) : Type 0 where
  pub type : PlacedDeclared text m.type
  pub called : Spelled text m.called

pub record PlacedActor (text : List ℕ) (a : Actor) : Type 0 where
  pub called : Spelled text a.called
  pub signature : Every (Spelled text) a.signature
  pub ports : Every (PlacedPort text) a.ports
  pub memories : Every (PlacedMemory text) a.memories
  pub groups : Every (PlacedGroup text) a.groups
