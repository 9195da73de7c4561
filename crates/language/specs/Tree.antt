-- What a text says, with the place of each word that a refusal may name: types, expressions, statements, the actor. Assumes nothing: these are definitions.
use Rattle.std.specs.Prelude.{Bool, List, [], ◌∷◌, ℕ}
use Rattle.language.specs.Text.{Name}
use Rattle.language.specs.Words.{Numeral}
use Rattle.language.specs.declared.Unary.{Unary}
use Rattle.language.specs.declared.Binary.{Binary}

-- "A type is built from numbers and environment names .., `port.type`, `+`, `-`, `log`, `ceil`, `floor`, `max`."
-- A number beside `log`, `ceil`, `floor`, `max` or parentheses is the place of their first word; `entry` joins the entries of a `max`.
pub data Ty : Type 0 where
  number : Numeral → Ty
  environment : Name → Ty
  port : Name → Ty
  plus minus : Ty → Ty → Ty
  log ceil floor : ℕ → Ty → Ty
  most : ℕ → Ty → Ty
  entry : Ty → Ty → Ty
  within : ℕ → Ty → Ty

-- "A sized constant is a width (a number, or a type in `< >`)"; its value is digits or an environment name
pub data Breadth : Type 0 where
  bits : Numeral → Breadth
  typed : ℕ → Ty → Breadth

pub data Amount : Type 0 where
  given : Numeral → Amount
  value : Name → Amount

-- an operator before its operand, at its place
pub record Prefix : Type 0 where
  pub which : Unary
  pub at : ℕ

-- The expressions of 4.8.3. `beside` joins the parts of a concatenation; `arm` and `default` are the arms of a `case`.
pub data Expr : Type 0 where
  plain : Numeral → Expr
  sized : Breadth → Amount → Expr
  copies : Numeral → Expr → Expr
  read : Name → Expr
  cell : Name → Expr → Expr
  bit : Expr → ℕ → Ty → Expr
  range : Expr → ℕ → Ty → Ty → Expr
  inside : ℕ → Expr → Expr
  joined : ℕ → Expr → Expr
  beside : Expr → Expr → Expr
  unary : Prefix → Expr → Expr
  binary : Binary → Expr → Expr → Expr
  choice : Expr → Expr → Expr → Expr
  either : ℕ → Expr → Expr → Expr → Expr
  select : ℕ → Expr → Expr → Expr
  arm : Numeral → Expr → Expr → Expr
  default : ℕ → Expr → Expr

-- a declared type, or none
pub data Declared : Type 0 where
  untyped : Declared
  typed : Ty → Declared

pub record Port : Type 0 where
  pub input : Bool
  pub type : Declared
  pub called : Name

-- "A size for a memory can also be specified. If it is not then the memory is assumed to be of size 1."
pub data Size : Type 0 where
  one : Size
  cells : Numeral → Size

pub record Memory : Type 0 where
  pub type : Declared
  pub called : Name
  pub size : Size

-- an entry of a rule's list: a port, and whether it is to be present
pub record Entry : Type 0 where
  pub called : Name
  pub present : Bool

pub record Val : Type 0 where
  pub type : Declared
  pub called : Name
  pub value : Expr

pub data Assignment : Type 0 where
  assign : Name → Expr → Assignment
  write : Name → Expr → Expr → Assignment

pub data Statement : Type 0 where
  alone : Assignment → Statement
  scoped : List Val → List Assignment → Statement

pub record Rule : Type 0 where
  pub called : Name
  pub list : List Entry
  pub body : List Statement

-- a group, at the place of its `or`
pub record Group : Type 0 where
  pub at : ℕ
  pub rules : List Rule

pub record Actor : Type 0 where
  pub called : Name
  pub signature : List Name
  pub ports : List Port
  pub memories : List Memory
  pub groups : List Group

-- the names of the ports and of the memories, as declared
unfoldable pub spelled_of : List Name → List (List ℕ)
spelled_of [] = []
spelled_of (n ∷ ns) = n.spelled ∷ spelled_of ns

unfoldable pub port_names : List Port → List Name
port_names [] = []
port_names (p ∷ ps) = p.called ∷ port_names ps

unfoldable pub memory_names : List Memory → List Name
memory_names [] = []
memory_names (m ∷ ms) = m.called ∷ memory_names ms
