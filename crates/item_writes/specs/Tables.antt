-- The walk's state in tables: the types that wait as parts of one code; what an item writes, and what it does to those types, by value. Assumes nothing: these are definitions.
use Rattle.std.specs.Prelude.{Option as Optional, Some, None, ◌≡◌, Bool, ◌||◌, List, [], ◌∷◌, ℕ, zero, suc, ◌+◌, ◌*◌, ◌≤◌, ◌<◌, eqb, ltb, length, get_or, take, drop}
use Rattle.tape.specs.Tape as Tape
use Rattle.tape.specs.declared.Class.{Class}
use Rattle.tape.specs.Walk.{op_at, place_at, value_at, between}
use Rattle.bindings.specs.declared.Lines.{Lines}
use Rattle.type_value.specs.Walk.{part}
use Rattle.settled.specs.Form.{START, six}
use Rattle.item_writes.specs.declared.given.Given.{Given}
use Rattle.item_writes.specs.declared.Waits.{Waits}
use Rattle.item_writes.specs.declared.Far.{Far}
use Rattle.item_writes.specs.declared.Grows.{Grows}
use Rattle.item_writes.specs.declared.Grows.TheVariants.{Nothing as Same, Leaf, End, Join}
use Rattle.item_writes.specs.Walk.{Around, State, ends, joins, when, read_out, grown, written, step, around_of, settled_on}

-- ---- the types that wait

-- so many types, whose nodes end where the second number says: the latest first, each before the start of the one after it
unfoldable pub waiting : (code starts : List ℕ) → (types nodes : ℕ) → List (List ℕ)
waiting code starts zero nodes = []
waiting code starts (suc n) nodes = part code (get_or starts n 0) nodes ∷ waiting code starts n (get_or starts n 0)

-- no type starts after its end
unfoldable pub Ordered : List ℕ → (types nodes : ℕ) → Type 0
Ordered starts zero nodes = 0 ≤ nodes
Ordered starts (suc n) nodes = (get_or starts n 0 ≤ nodes) × Ordered starts n (get_or starts n 0)

abbrev pub waits_in : (code starts : List ℕ) → Waits → List (List ℕ)
waits_in code starts w = waiting code starts w.types w.nodes

-- where the n-th type that waits starts; the end of the nodes where fewer wait
unfoldable pub begins_at : List ℕ → Waits → ℕ → ℕ
begins_at starts w n = when (ltb n w.types) (get_or starts n 0) w.nodes

-- what an item does to the types that wait
unfoldable pub grown_by : Grows → List (List ℕ) → List (List ℕ)
grown_by Same l = l
grown_by (Leaf k) l = (k ∷ []) ∷ l
grown_by (End k) l = ends k l
grown_by (Join k) l = joins k l

-- the types that wait after some were taken
pub record Left (starts : List ℕ) (w : Waits) (r : Waits) : Type 0 where
  pub types : r.types ≤ w.types
  pub nodes : r.nodes ≤ w.nodes
  pub ordered : Ordered starts r.types r.nodes

-- the types that wait after an item did something to them
pub record Grew (g : Grows) (code starts : List ℕ) (w : Waits) (code' starts' : List ℕ) (r : Waits) : Type 0 where
  pub is : waits_in code' starts' r ≡ grown_by g (waits_in code starts w)
  pub types : r.types ≤ w.types + 1
  pub nodes : r.nodes ≤ w.nodes + 1
  pub ordered : Ordered starts' r.types r.nodes

-- ---- what an item writes

-- nothing, or six numbers
abbrev pub Written : Type 0
Written = Optional (List ℕ)

unfoldable pub numbers_of : Written → List ℕ
numbers_of None = []
numbers_of (Some l) = l

-- an item that writes nothing
unfoldable pub silent : ℕ → Bool
silent o = ltb o Tape.BITS || eqb o Tape.LET || eqb o Tape.END || eqb o Tape.GROUPED || eqb o Tape.DECLARED || eqb o Tape.SIZE || eqb o Tape.ACTOR

-- of an item that neither names something nor holds a type
unfoldable pub plain_out : ℕ → ℕ → ℕ → List ℕ
plain_out o p v =
    when (silent o) []
    (when (eqb o Tape.INSIDE || eqb o Tape.DEFAULT) (six START p 0 0 0 0) (six o p v 0 0 0))

-- what is looked up by a text, a tape and widths, whatever the bindings and the state
pub record Looked (g : Given) {A : Type 0} (r : A) (f : Around → State → A) : Type 0 where
  pub is : (btext table : List ℕ) (lines : Lines) (s : State) → r ≡ f (around_of g.text.now g.tape.now g.many btext table lines g.widths.now) s

-- an item that names nothing
pub record Unnamed (o : ℕ) : Type 0 where
  pub given : o ≡ Tape.GIVEN → ⊥
  pub value : o ≡ Tape.VALUE → ⊥
  pub read : o ≡ Tape.READ → ⊥
  pub cell : o ≡ Tape.CELL → ⊥
  pub write : o ≡ Tape.WRITE → ⊥
  pub assign : o ≡ Tape.ASSIGN → ⊥
  pub present : o ≡ Tape.PRESENT → ⊥
  pub memory : o ≡ Tape.MEMORY → ⊥
  pub signed : o ≡ Tape.SIGNED → ⊥

-- ---- the state

-- before the first item
abbrev pub beginning : Far
beginning = record { waits = record { types = 0; nodes = 0 }; out = 0; lets = 0; vals = 0; size = 1 }

-- from which item on the `let`s in force stand, the `val`s of this rule and the size for the next memory, after item i
unfoldable pub lets_after : (o i lets : ℕ) → ℕ
lets_after o i lets = when (eqb o Tape.END || eqb o Tape.RULED) (i + 1) lets

unfoldable pub vals_after : (o vals : ℕ) → ℕ
vals_after o vals = when (eqb o Tape.VAL) (vals + 1) (when (eqb o Tape.RULED) 0 vals)

unfoldable pub size_after : (o v size : ℕ) → ℕ
size_after o v size = when (eqb o Tape.SIZE) v (when (eqb o Tape.MEMORY) 1 size)

-- the state before item i
unfoldable pub state_of : (text t code starts out : List ℕ) → ℕ → Far → State
state_of text t code starts out i far =
    record {
      types = waits_in code starts far.waits;
      out = take far.out out;
      lets = between text t Class.Val far.lets i;
      vals = far.vals;
      size = far.size;
    }

-- an item adds at most one type, one node, six numbers and one `val`
pub record Bounded (starts : List ℕ) (i : ℕ) (far : Far) : Type 0 where
  pub types : far.waits.types ≤ i
  pub nodes : far.waits.nodes ≤ i
  pub out : far.out ≤ 6 * i
  pub lets : far.lets ≤ i
  pub vals : far.vals ≤ i
  pub ordered : Ordered starts far.waits.types far.waits.nodes

-- ---- the promises of one item, by the tables that it is lent

-- what is around the items of the tape that is given, and the settled items on it
abbrev pub around_in : Given → Around
around_in g = around_of g.text.now g.tape.now g.many g.bound.text.now g.bound.table.now g.bound.lines g.widths.now

abbrev pub settled_in : Given → List ℕ
settled_in g = settled_on g.text.now g.tape.now g.many g.bound g.widths.now

-- item i is one of those given, and the tables hold the state before it
abbrev pub Lent : Given → (code starts : List ℕ) → ℕ → Far → Type 0
Lent g code starts i far = (i < g.many) × (i ≤ length code) × (i ≤ length starts) × Bounded starts i far

-- the same, with room for what item i does
abbrev pub Roomy : Given → (code starts out : List ℕ) → ℕ → Far → Type 0
Roomy g code starts out i far =
    (i < g.many) × (length code ≡ Tape.most_items) × (length starts ≡ Tape.most_items) × (6 * i + 6 ≤ length out) × Bounded starts i far

-- what item i does to the types that wait, whatever the widths
abbrev pub Grown : Grows → Given → ℕ → Type 0
Grown r g i = (ws : List ℕ) (l : List (List ℕ)) → grown_by r l ≡ grown (around_of g.text.now g.tape.now g.many g.bound.text.now g.bound.table.now g.bound.lines ws) (op_at g.tape.now i) (place_at g.tape.now i) (value_at g.tape.now i) l

-- what item i writes, whatever was written before
abbrev pub Writes : Written → Given → (code starts : List ℕ) → ℕ → Far → Type 0
Writes w g code starts i far =
    (out : List ℕ) → numbers_of w ≡ written (around_in g) (state_of g.text.now g.tape.now code starts out i far) (op_at g.tape.now i) (place_at g.tape.now i) (value_at g.tape.now i)

-- what is written of a name that is read at item i, whatever the bindings
abbrev pub Reads : Written → Given → (i p lets vals : ℕ) → Type 0
Reads w g i p lets vals =
    (btext table : List ℕ) (lines : Lines) (s : State) → s.lets ≡ between g.text.now g.tape.now Class.Val lets i → s.vals ≡ vals
    → numbers_of w ≡ read_out (around_of g.text.now g.tape.now g.many btext table lines g.widths.now) s p

-- what is written of an item that names nothing, by the types that wait
abbrev pub WritesTyped : Written → (o p v : ℕ) → (code starts ws : List ℕ) → Waits → ℕ → Type 0
WritesTyped r o p v code starts ws w vals = (a : Around) (s : State) → a.widths ≡ ws → s.types ≡ waits_in code starts w → s.vals ≡ vals → Unnamed o → numbers_of r ≡ written a s o p v

-- the state after item i
abbrev pub turned : Around → State → List ℕ → ℕ → State
turned a s t i = step a s (op_at t i) (place_at t i) (value_at t i)

-- the first r numbers of a table are a list, and past them it is as it was
pub record Holds (l : List ℕ) (r : ℕ) (before after : List ℕ) : Type 0 where
  pub long : r ≡ length l
  pub items : take r after ≡ l
  pub past : drop r after ≡ drop r before
