-- The tape: what a text says as a list of items, each three numbers, an operation, a place and a value, in the order of reading: parts first, then what holds them.
-- Appends are left-nested, as a reader puts the pieces together. Assumes nothing: these are definitions.
use Rattle.std.specs.Prelude.{◌≡◌, refl, Bool, true, false, List, [], ◌∷◌, ◌++◌, ℕ, ◌+◌, ◌*◌}
use Rattle.language.specs.Limits.{limits}
use Rattle.language.specs.Text.{Name}
use Rattle.language.specs.Tree.{Ty, number, environment, port, plus, minus, log, ceil, floor, most, entry, within, Breadth, bits, Amount, given, value}
use Rattle.language.specs.Tree.{Expr, plain, sized, copies, read, cell, bit, range, inside, joined, beside, unary, binary, choice, either, select, arm, default}
use Rattle.language.specs.Tree.{Declared, untyped, Port, Size, one, cells, Memory, Entry, Val, Assignment, assign, write, Statement, alone, scoped, Rule, Group, Actor}
-- an operator is its number, the plan's
pub use Rattle.value.specs.Numbers.{unary_number, binary_number}
use Rattle.tape.specs.declared.Operations.{Operations}

-- ---- the operations
-- types
abbrev pub NUMBER : ℕ
NUMBER = 1

abbrev pub ENVIRONMENT : ℕ
ENVIRONMENT = 2

abbrev pub PORT : ℕ
PORT = 3

abbrev pub PLUS : ℕ
PLUS = 4

abbrev pub MINUS : ℕ
MINUS = 5

abbrev pub LOG : ℕ
LOG = 6

abbrev pub CEIL : ℕ
CEIL = 7

abbrev pub FLOOR : ℕ
FLOOR = 8

abbrev pub MOST : ℕ
MOST = 9

abbrev pub ENTRY : ℕ
ENTRY = 10

abbrev pub WITHIN : ℕ
WITHIN = 11

-- expressions
abbrev pub BITS : ℕ
BITS = 12

abbrev pub TYPED : ℕ
TYPED = 13

abbrev pub GIVEN : ℕ
GIVEN = 14

abbrev pub VALUE : ℕ
VALUE = 15

abbrev pub PLAIN : ℕ
PLAIN = 16

abbrev pub COPIES : ℕ
COPIES = 17

abbrev pub READ : ℕ
READ = 18

abbrev pub CELL : ℕ
CELL = 19

abbrev pub BIT : ℕ
BIT = 20

abbrev pub RANGE : ℕ
RANGE = 21

abbrev pub INSIDE : ℕ
INSIDE = 22

abbrev pub JOINED : ℕ
JOINED = 23

abbrev pub BESIDE : ℕ
BESIDE = 24

abbrev pub UNARY : ℕ
UNARY = 25

abbrev pub BINARY : ℕ
BINARY = 26

abbrev pub CHOICE : ℕ
CHOICE = 27

abbrev pub EITHER : ℕ
EITHER = 28

abbrev pub SELECT : ℕ
SELECT = 29

abbrev pub SELECTED : ℕ
SELECTED = 30

abbrev pub ARM : ℕ
ARM = 31

abbrev pub DEFAULT : ℕ
DEFAULT = 32

-- statements, rules, groups, declarations
abbrev pub ASSIGN : ℕ
ASSIGN = 33

abbrev pub WRITE : ℕ
WRITE = 34

abbrev pub LET : ℕ
LET = 35

abbrev pub END : ℕ
END = 36

abbrev pub VAL : ℕ
VAL = 37

abbrev pub PRESENT : ℕ
PRESENT = 38

abbrev pub RULE : ℕ
RULE = 39

abbrev pub RULED : ℕ
RULED = 40

abbrev pub OR : ℕ
OR = 41

abbrev pub GROUPED : ℕ
GROUPED = 42

abbrev pub DECLARED : ℕ
DECLARED = 43

abbrev pub MEMORY : ℕ
MEMORY = 44

abbrev pub SIZE : ℕ
SIZE = 45

abbrev pub SIGNED : ℕ
SIGNED = 46

abbrev pub ACTOR : ℕ
ACTOR = 47

-- all of them: those of the code are proved to be these (`tape::all`)
abbrev pub operations : Operations
operations = record {
  number = NUMBER;
  environment = ENVIRONMENT;
  port = PORT;
  plus = PLUS;
  minus = MINUS;
  log = LOG;
  ceil = CEIL;
  floor = FLOOR;
  most = MOST;
  entry = ENTRY;
  within = WITHIN;
  bits = BITS;
  typed = TYPED;
  given = GIVEN;
  value = VALUE;
  plain = PLAIN;
  copies = COPIES;
  read = READ;
  cell = CELL;
  bit = BIT;
  range = RANGE;
  inside = INSIDE;
  joined = JOINED;
  beside = BESIDE;
  unary = UNARY;
  binary = BINARY;
  choice = CHOICE;
  either = EITHER;
  select = SELECT;
  selected = SELECTED;
  arm = ARM;
  default = DEFAULT;
  assign = ASSIGN;
  write = WRITE;
  lets = LET;
  end = END;
  val = VAL;
  present = PRESENT;
  rule = RULE;
  ruled = RULED;
  or = OR;
  grouped = GROUPED;
  declared = DECLARED;
  memory = MEMORY;
  size = SIZE;
  signed = SIGNED;
  actor = ACTOR;
}

-- an item
abbrev pub item : ℕ → ℕ → ℕ → List ℕ
item op p v = op ∷ p ∷ v ∷ []

-- the most items of a tape: each stands for a word of its own, and a word has a byte at least; the numbers of so many
abbrev pub most_items : ℕ
most_items = 8_192

abbrev pub longest : ℕ
longest = 24_576

pub sizes : (most_items ≡ limits.actor) × (longest ≡ 3 * most_items)
sizes = (refl, refl)

-- ---- types

unfoldable pub flat_t : Ty → List ℕ
flat_t (number n) = item NUMBER n.at n.value
flat_t (environment n) = item ENVIRONMENT n.at 0
flat_t (port n) = item PORT n.at 0
flat_t (plus a b) = (flat_t a ++ flat_t b) ++ item PLUS 0 0
flat_t (minus a b) = (flat_t a ++ flat_t b) ++ item MINUS 0 0
flat_t (log p a) = flat_t a ++ item LOG p 0
flat_t (ceil p a) = flat_t a ++ item CEIL p 0
flat_t (floor p a) = flat_t a ++ item FLOOR p 0
flat_t (most p a) = flat_t a ++ item MOST p 0
flat_t (entry a b) = (flat_t a ++ flat_t b) ++ item ENTRY 0 0
flat_t (within p a) = flat_t a ++ item WITHIN p 0

-- ---- expressions

unfoldable pub flat_b : Breadth → List ℕ
flat_b (bits n) = item BITS n.at n.value
flat_b (Breadth.typed p t) = flat_t t ++ item TYPED p 0

-- the digits of a constant are read off the text at their place
unfoldable pub flat_a : Amount → List ℕ
flat_a (given n) = item GIVEN n.at 0
flat_a (value n) = item VALUE n.at 0

unfoldable pub flat : Expr → List ℕ
flat (plain n) = item PLAIN n.at n.value
flat (sized w v) = flat_b w ++ flat_a v
flat (copies n e) = flat e ++ item COPIES n.at n.value
flat (read n) = item READ n.at 0
flat (cell n a) = flat a ++ item CELL n.at 0
flat (bit e p i) = (flat e ++ flat_t i) ++ item BIT p 0
flat (range e p i j) = ((flat e ++ flat_t i) ++ flat_t j) ++ item RANGE p 0
flat (inside p e) = flat e ++ item INSIDE p 0
flat (joined p e) = flat e ++ item JOINED p 0
flat (beside a b) = (flat a ++ flat b) ++ item BESIDE 0 0
flat (unary u e) = flat e ++ item UNARY u.at (unary_number u.which)
flat (binary o a b) = (flat a ++ flat b) ++ item BINARY 0 (binary_number o)
flat (choice a b c) = ((flat a ++ flat b) ++ flat c) ++ item CHOICE 0 0
flat (either p a b c) = ((flat a ++ flat b) ++ flat c) ++ item EITHER p 0
flat (select p e c) = ((flat e ++ item SELECT p 0) ++ flat c) ++ item SELECTED p 0
flat (arm n a c) = (flat a ++ flat c) ++ item ARM n.at n.value
flat (default p a) = flat a ++ item DEFAULT p 0

-- ---- statements

unfoldable pub one_if : Bool → ℕ
one_if true = 1
one_if false = 0

-- a type and whether there is one
unfoldable pub flat_d : Declared → List ℕ
flat_d untyped = []
flat_d (Declared.typed t) = flat_t t

unfoldable pub is_typed : Declared → ℕ
is_typed untyped = 0
is_typed (Declared.typed t) = 1

unfoldable pub flat_val : Val → List ℕ
flat_val v = (flat_d v.type ++ flat v.value) ++ item VAL v.called.at (is_typed v.type)

unfoldable pub flat_assignment : Assignment → List ℕ
flat_assignment (assign n e) = flat e ++ item ASSIGN n.at 0
flat_assignment (write n a e) = (flat a ++ flat e) ++ item WRITE n.at 0

-- lists, each thing's items after those of the things before it
unfoldable pub flats : {T : Type 0} → (T → List ℕ) → List T → List ℕ
flats fl [] = []
flats fl (x ∷ l) = fl x ++ flats fl l

unfoldable pub flat_statement : Statement → List ℕ
flat_statement (alone a) = flat_assignment a
flat_statement (scoped vs l) = ((item LET 0 0 ++ flats flat_val vs) ++ flats flat_assignment l) ++ item END 0 0

unfoldable pub flat_entry : Entry → List ℕ
flat_entry e = item PRESENT e.called.at (one_if e.present)

unfoldable pub flat_rule : Rule → List ℕ
flat_rule r = ((item RULE r.called.at 0 ++ flats flat_entry r.list) ++ flats flat_statement r.body) ++ item RULED 0 0

unfoldable pub flat_group : Group → List ℕ
flat_group g = (item OR g.at 0 ++ flats flat_rule g.rules) ++ item GROUPED 0 0

-- ---- declarations and the actor

unfoldable pub flat_port : Port → List ℕ
flat_port p = flat_d p.type ++ item DECLARED p.called.at (2 * one_if p.input + is_typed p.type)

unfoldable pub flat_size : Size → List ℕ
flat_size one = []
flat_size (cells n) = item SIZE n.at n.value

unfoldable pub flat_memory : Memory → List ℕ
flat_memory m = (flat_d m.type ++ flat_size m.size) ++ item MEMORY m.called.at (is_typed m.type)

unfoldable pub flat_signed : Name → List ℕ
flat_signed n = item SIGNED n.at 0

unfoldable pub flat_actor : Actor → List ℕ
flat_actor a = (((item ACTOR a.called.at 0 ++ flats flat_signed a.signature) ++ flats flat_port a.ports) ++ flats flat_memory a.memories) ++ flats flat_group a.groups
