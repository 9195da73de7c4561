-- The settled items as a walk over the items of a tape, whatever stands on it: where something is missing, an empty code, 0 or outside. Assumes nothing: these are definitions.
use Rattle.std.specs.Prelude.{Bool, true, false, ◌||◌, List, [], ◌∷◌, ◌++◌, ℕ, zero, suc, ◌+◌, ◌*◌, ◌-◌, ◌%◌, ◌^◌, eqb, ltb, length, get_or, take}
use Rattle.language.specs.Text.{index, among}
use Rattle.language.specs.Types.{width_of, position_of}
use Rattle.language.specs.Widths.{value_in}
use Rattle.sized_constants.specs.Constant.{constant_at}
use Rattle.placed.specs.Placed.{name_from}
use Rattle.tape.specs.Tape as Tape
use Rattle.tape.specs.declared.Class.{Class}
use Rattle.tape.specs.Walk.{op_at, place_at, value_at, between}
use Rattle.bindings.specs.declared.Lines.{Lines}
use Rattle.bindings.specs.declared.bound.Bound.{Bound}
use Rattle.row09_bindings.specs.Lines.{lines_on}
use Rattle.type_value.specs.Walk.{value_of}
use Rattle.settled.specs.Form.{BITS, START, RANGE, READ, HELD, CELL, WRITE, ASSIGN, TYPED, six}
use Rattle.settled.specs.Settled.{amount, placed}
use Rattle.looked_up.specs.Lookup.{operand, named, sizes_on, sum_of}

-- what the walk looks up, the same for every item: the name and the constant at a place, the value of an environment name, the names of ports, inputs and memories, sizes and widths
pub record Around : Type 0 where
  pub called : ℕ → List ℕ
  pub constant : ℕ → ℕ
  pub value : List ℕ → ℕ
  pub ports : List (List ℕ)
  pub inputs : List (List ℕ)
  pub memories : List (List ℕ)
  pub sizes : List ℕ
  pub widths : List ℕ

-- how far it is: the codes of the types that wait, the latest first; the numbers written; the names of the `let`s in force, the latest first; the `val`s of this rule so far; the size for the next memory
pub record State : Type 0 where
  pub types : List (List ℕ)
  pub out : List ℕ
  pub lets : List (List ℕ)
  pub vals : ℕ
  pub size : ℕ

unfoldable pub start : State
start = record { types = []; out = []; lets = []; vals = 0; size = 1 }

-- the first where the test holds, else the second
unfoldable pub when : {A : Type 0} → Bool → A → A → A
when true x y = x
when false x y = y

-- ---- the types that wait

-- how many types an item takes, by its operation and value
unfoldable pub takes : ℕ → ℕ → ℕ
takes o v =
    when (eqb o Tape.TYPED || eqb o Tape.BIT) 1
    (when (eqb o Tape.RANGE) 2
    (when (eqb o Tape.VAL || eqb o Tape.MEMORY || eqb o Tape.DECLARED) (v % 2) 0))

unfoldable pub without : ℕ → List (List ℕ) → List (List ℕ)
without zero l = l
without (suc n) [] = []
without (suc n) (x ∷ l) = without n l

-- the latest code, and the one before it
unfoldable pub latest : List (List ℕ) → List ℕ
latest [] = []
latest (x ∷ l) = x

-- a node's number, where 32 bits hold it: a leaf of 0 else
unfoldable pub leaf : ℕ → ℕ
leaf k = when (ltb k (2 ^ 32)) k 0

unfoldable pub ends : ℕ → List (List ℕ) → List (List ℕ)
ends k [] = []
ends k (x ∷ l) = (x ++ (k ∷ [])) ∷ l

unfoldable pub joins : ℕ → List (List ℕ) → List (List ℕ)
joins k [] = []
joins k (y ∷ []) = y ∷ []
joins k (y ∷ (x ∷ l)) = (x ++ (y ++ (k ∷ []))) ∷ l

-- what an item of a type makes of the codes that wait
unfoldable pub grown : Around → ℕ → ℕ → ℕ → List (List ℕ) → List (List ℕ)
grown a o p v l =
    when (eqb o Tape.NUMBER) ((leaf (v * 8) ∷ []) ∷ l)
    (when (eqb o Tape.ENVIRONMENT) ((leaf (a.value (a.called p) * 8) ∷ []) ∷ l)
    (when (eqb o Tape.PORT) ((leaf (index a.ports (a.called p) * 8 + 1) ∷ []) ∷ l)
    (when (eqb o Tape.LOG) (ends 2 l)
    (when (eqb o Tape.FLOOR) (ends 3 l)
    (when (eqb o Tape.CEIL) (ends 4 l)
    (when (eqb o Tape.PLUS) (joins 5 l)
    (when (eqb o Tape.MINUS) (joins 6 l)
    (when (eqb o Tape.ENTRY) (joins 7 l) l))))))))

-- ---- what an item writes

module _ (a : Around) (s : State) where
  unfoldable pub width_in : List ℕ → ℕ
  width_in c = operand (width_of (value_of a.widths c))

  unfoldable pub position_in : List ℕ → ℕ
  position_in c = operand (placed (position_of (value_of a.widths c)))

  unfoldable pub port_out : ℕ → ℕ → List ℕ
  port_out op p = let k = index a.ports (a.called p) in six op p (operand k) 0 0 (get_or a.widths k 0)

  unfoldable pub memory_width_out : ℕ → ℕ
  memory_width_out p = get_or a.widths (index (a.ports ++ a.memories) (a.called p)) 0

  unfoldable pub cell_out : ℕ → ℕ → List ℕ
  cell_out op p = let k = index a.memories (a.called p) in six op p (operand k) (operand (sum_of (take k a.sizes))) (get_or a.sizes k 0) (memory_width_out p)

  unfoldable pub read_out : ℕ → List ℕ
  read_out p = let k = index s.lets (a.called p) in when (ltb k (length s.lets)) (six HELD p (operand (s.vals - suc k)) 0 0 0) (port_out READ p)

  unfoldable pub signed_out : ℕ → List ℕ
  signed_out p =
      let w = get_or a.widths (index a.ports (a.called p)) 0 in
      six Tape.SIGNED p (when (among a.inputs (a.called p)) w (operand (w + 256))) 0 0 0

  -- of items that name something or hold a type
  unfoldable pub named_out : ℕ → ℕ → ℕ → List ℕ → List ℕ
  named_out o p v other =
      when (eqb o Tape.TYPED) (six BITS p (width_in (latest s.types)) 0 0 0)
      (when (eqb o Tape.GIVEN) (amount p (a.constant p))
      (when (eqb o Tape.VALUE) (amount p (a.value (a.called p)))
      (when (eqb o Tape.READ) (read_out p)
      (when (eqb o Tape.CELL) (cell_out CELL p)
      (when (eqb o Tape.WRITE) (cell_out WRITE p)
      (when (eqb o Tape.BIT) (let q = position_in (latest s.types) in six RANGE p q q 0 0)
      (when (eqb o Tape.RANGE) (six RANGE p (position_in (latest (without 1 s.types))) (position_in (latest s.types)) 0 0)
      (when (eqb o Tape.ASSIGN) (port_out ASSIGN p)
      (when (eqb o Tape.VAL) (when (eqb v 1) (six TYPED p (operand s.vals) 0 0 (width_in (latest s.types))) (six Tape.VAL p (operand s.vals) 0 0 0))
      (when (eqb o Tape.PRESENT) (six Tape.PRESENT p (operand (index a.ports (a.called p))) v 0 0)
      (when (eqb o Tape.MEMORY) (six Tape.MEMORY p (memory_width_out p) s.size 0 0)
      (when (eqb o Tape.SIGNED) (signed_out p) other))))))))))))

  -- an item of a type, and one that ends or declares, writes nothing; the others stand as they are
  unfoldable pub written : ℕ → ℕ → ℕ → List ℕ
  written o p v =
      named_out o p v
      (when (ltb o Tape.BITS || eqb o Tape.LET || eqb o Tape.END || eqb o Tape.GROUPED || eqb o Tape.DECLARED || eqb o Tape.SIZE || eqb o Tape.ACTOR) []
      (when (eqb o Tape.INSIDE || eqb o Tape.DEFAULT) (six START p 0 0 0 0) (six o p v 0 0 0)))

-- ---- one item, and the first i of a tape

unfoldable pub step : Around → State → ℕ → ℕ → ℕ → State
step a s o p v =
    record {
      types = grown a o p v (without (takes o v) s.types);
      out = s.out ++ written a s o p v;
      lets = when (eqb o Tape.VAL) (a.called p ∷ s.lets) (when (eqb o Tape.END || eqb o Tape.RULED) [] s.lets);
      vals = when (eqb o Tape.VAL) (suc s.vals) (when (eqb o Tape.RULED) 0 s.vals);
      size = when (eqb o Tape.SIZE) v (when (eqb o Tape.MEMORY) 1 s.size);
    }

unfoldable pub walked : Around → List ℕ → ℕ → State
walked a t zero = start
walked a t (suc i) = step a (walked a t i) (op_at t i) (place_at t i) (value_at t i)

-- what is around the items of a tape of so many, with the bindings' lines
unfoldable pub around_of : (text t : List ℕ) → ℕ → (btext table : List ℕ) → Lines → List ℕ → Around
around_of text t many btext table lines ws =
    record {
      called = name_from text;
      constant = constant_at text;
      value = value_in (lines_on btext table lines.widths lines.values);
      ports = named text t Tape.SIGNED 0 many;
      inputs = between text t Class.Input 0 many;
      memories = named text t Tape.MEMORY 0 many;
      sizes = sizes_on t 0 many;
      widths = ws;
    }

-- the settled items of the actor on a tape of so many items
abbrev pub settled_on : (text t : List ℕ) → ℕ → Bound → List ℕ → List ℕ
settled_on text t many bound ws = (walked (around_of text t many bound.text.now bound.table.now bound.lines ws) t many).out
