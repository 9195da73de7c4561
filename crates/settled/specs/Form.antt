-- THE FORM of settled items: six numbers each, an operation, a place and four operands (docs/TAPE.md has them as a table). Assumes nothing: these are definitions.
use Rattle.std.specs.Prelude.{◌≡◌, refl, List, [], ◌∷◌, ℕ}
use Rattle.language.specs.Limits.{limits}
use Rattle.settled.specs.declared.Operations.{Operations}

-- ---- the operations: each is that of the tape's item which it settles, but for BIG, HELD, START and TYPED

-- a constant's width
abbrev pub BITS : ℕ
BITS = 12

-- a constant's value that 64 bits do not hold
abbrev pub BIG : ℕ
BIG = 13

-- a constant's value: its low 32 bits and its high ones
abbrev pub AMOUNT : ℕ
AMOUNT = 14

-- a plain number: its value
abbrev pub PLAIN : ℕ
PLAIN = 16

-- so many copies of the latest expression
abbrev pub COPIES : ℕ
COPIES = 17

-- an input: its number; its width last
abbrev pub READ : ℕ
READ = 18

-- a cell of a memory: number, first cell, size, width
abbrev pub CELL : ℕ
CELL = 19

-- what a `val` holds: its slot
abbrev pub HELD : ℕ
HELD = 20

-- bits i to j of the latest expression
abbrev pub RANGE : ℕ
RANGE = 21

-- parentheses and a default arm: the latest expression, which begins before
abbrev pub START : ℕ
START = 22

-- a concatenation
abbrev pub JOINED : ℕ
JOINED = 23

-- two expressions beside each other
abbrev pub BESIDE : ℕ
BESIDE = 24

-- an operator before its operand: the plan's number
abbrev pub UNARY : ℕ
UNARY = 25

-- an operator between its operands: the plan's number
abbrev pub BINARY : ℕ
BINARY = 26

-- `?` and `:`
abbrev pub CHOICE : ℕ
CHOICE = 27

-- `if`
abbrev pub EITHER : ℕ
EITHER = 28

-- the selector of a `case` has been read
abbrev pub SELECT : ℕ
SELECT = 29

-- a `case`
abbrev pub SELECTED : ℕ
SELECTED = 30

-- an arm of a `case`: its label
abbrev pub ARM : ℕ
ARM = 31

-- an assignment to an output: its number; its width last
abbrev pub ASSIGN : ℕ
ASSIGN = 33

-- a write to a cell: as CELL
abbrev pub WRITE : ℕ
WRITE = 34

-- a `val` with a type: its slot; the type's width last
abbrev pub TYPED : ℕ
TYPED = 36

-- a `val` with none: its slot
abbrev pub VAL : ℕ
VAL = 37

-- an entry of a rule's list: the port's number, 1 for `.p.1`
abbrev pub PRESENT : ℕ
PRESENT = 38

-- a rule begins
abbrev pub RULE : ℕ
RULE = 39

-- a rule ends
abbrev pub RULED : ℕ
RULED = 40

-- a group begins
abbrev pub OR : ℕ
OR = 41

-- a memory: its width, its size
abbrev pub MEMORY : ℕ
MEMORY = 44

-- a port of the signature: its width, plus 256 for an output
abbrev pub SIGNED : ℕ
SIGNED = 46

-- a position that is outside of every expression
abbrev pub OUTSIDE : ℕ
OUTSIDE = 4_294_967_295

-- all of them: those of the code are proved to be these (`settled::all`)
abbrev pub operations : Operations
operations = record {
  bits = BITS;
  big = BIG;
  amount = AMOUNT;
  plain = PLAIN;
  copies = COPIES;
  read = READ;
  cell = CELL;
  held = HELD;
  range = RANGE;
  start = START;
  joined = JOINED;
  beside = BESIDE;
  unary = UNARY;
  binary = BINARY;
  choice = CHOICE;
  either = EITHER;
  select = SELECT;
  selected = SELECTED;
  arm = ARM;
  assign = ASSIGN;
  write = WRITE;
  typed = TYPED;
  val = VAL;
  present = PRESENT;
  rule = RULE;
  ruled = RULED;
  or = OR;
  memory = MEMORY;
  signed = SIGNED;
  outside = OUTSIDE;
}

-- the most settled items: one at most for each item of a tape, which has one at most for each byte of its text
abbrev pub most_settled : ℕ
most_settled = 8_192

pub sizes : most_settled ≡ limits.actor
sizes = refl

-- ---- an item

abbrev pub six : (op p a b c d : ℕ) → List ℕ
six op p a b c d = op ∷ p ∷ a ∷ b ∷ c ∷ d ∷ []
