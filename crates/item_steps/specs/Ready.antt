-- The run of an item in the shape of the code: how many values it takes, which value it leaves, what it asks; and the writes of a cycle in a table of cells.
-- Steps.antt of proofs/ proves it equal to Machine.antt's. Assumes nothing: these are definitions.
use Rattle.std.specs.Prelude.{◌≡◌, Bool, false, List, ◌∷◌, ℕ, ◌+◌, ◌-◌, ◌*◌, ◌^◌, ◌≤◌, ◌<◌, eqb, length, get_or, take, drop}
use Rattle.language.specs.Values.{binary_value, unary_value, beside_of, copies_of, range_of, chosen}
use Rattle.language.specs.Meaning.{Change, touched, twice, written}
use Rattle.bits.specs.Fits.{BinaryFits, UnaryFits, CopiesFit}
use Rattle.plan.specs.declared.Item.{Item}
use Rattle.plan.specs.declared.Item.TheVariants.{Const, Port, Let, Cell, Range, Copies, Beside, Before, Between, Choice, Arm, Keep, Assign, Write, Bad}
use Rattle.plan.specs.Waits.{top}
use Rattle.plan.specs.Items.{takes_of}
use Rattle.plan.specs.Sound.{waiting}
use Rattle.item_steps.specs.declared.Tables.{Tables}
use Rattle.item_steps.specs.Machine.{State, state, cell_of, pick, write_to, exec1}

-- the value that an item leaves over c, x and y, the latest
module _ (values memory slots : List ℕ) (c x y : ℕ) where
  abbrev pub value_of : Item → ℕ
  value_of (Const w lo hi) = lo + hi * 2 ^ 32
  value_of (Port i) = get_or values i 0
  value_of (Let k) = get_or slots k 0
  value_of (Cell m f n) = cell_of memory f n y
  value_of (Range i j) = range_of y i j
  value_of (Copies n w) = copies_of n w y
  value_of (Beside w) = beside_of w x y
  value_of (Before u w) = unary_value u w y
  value_of (Between o m n) = binary_value o m n x y
  value_of Choice = chosen c x y
  value_of (Arm n k) = pick (eqb (get_or slots k 0) n) x y
  value_of (Keep k w) = 0
  value_of (Assign p) = 0
  value_of (Write m f n) = 0
  value_of Bad = 0

-- what an item asks: nothing is read or written outside, and no value is too large
module _ (values memory slots outputs : List ℕ) (x y : ℕ) where
  abbrev pub Asks : Item → Type 0
  Asks (Const w lo hi) = Unit {0}
  Asks (Port i) = i < length values
  Asks (Let k) = k < length slots
  Asks (Cell m f n) = f + n ≤ length memory
  Asks (Range i j) = (i < 64) × (j < 64)
  Asks (Copies n w) = CopiesFit n w y
  Asks (Beside w) = beside_of w x y < 2 ^ 64
  Asks (Before u w) = UnaryFits w y
  Asks (Between o m n) = BinaryFits o m n x y
  Asks Choice = Unit {0}
  Asks (Arm n k) = k < length slots
  Asks (Keep k w) = k < length slots
  Asks (Assign p) = p < length outputs
  Asks (Write m f n) = f + n ≤ length memory
  Asks Bad = ⊥

-- the values are there, and there is room for one
pub record Ready (values memory stack : List ℕ) (n : ℕ) (slots outputs : List ℕ) (i : Item) : Type 0 where
  pub there : takes_of i ≤ n
  pub room : n - takes_of i < waiting
  pub asks : Asks values memory slots outputs (get_or (top stack n) 1 0) (get_or (top stack n) 0 0) i

-- the writes of a cycle: `next` holds the cells as they will be, `changed` says which of them are written, `clash` is true where one was written twice
pub record Buffered (memory next : List ℕ) (changed : List Bool) (clash : Bool) (qs : List (Change ℕ)) : Type 0 where
  pub changes : (a : ℕ) → a < length memory → touched a qs ≡ get_or changed a false
  pub clashes : clash ≡ twice qs
  pub holds : clash ≡ false → take (length memory) next ≡ written qs memory

-- the tables hold some writes
abbrev pub Writes : (memory : List ℕ) → {cells : ℕ} → Tables cells → List (Change ℕ) → Type 0
Writes memory {cells} t qs = Buffered memory t.next t.changed t.clash qs

-- the tables that a step leaves are a state, with some writes
pub record Left (memory : List ℕ) (n : ℕ) (slots outputs : List ℕ) {cells : ℕ} (t : Tables cells) (s : State) : Type 0 where
  pub waits : top t.stack n ≡ s.waits
  pub slot : slots ≡ s.slots
  pub output : outputs ≡ s.outputs
  pub write : Writes memory t s.writes

-- the values that wait after an item that leaves one
abbrev pub left_by : (values memory slots stack : List ℕ) (n : ℕ) → Item → List ℕ
left_by values memory slots stack n i =
    value_of values memory slots (get_or (top stack n) 2 0) (get_or (top stack n) 1 0) (get_or (top stack n) 0 0) i ∷ drop (takes_of i) (top stack n)

-- where the tables held some writes, they hold one more: to the cell a of the size from f on, if it exists
abbrev pub Wrote : (f size a v : ℕ) {cells : ℕ} (before after : Tables cells) → Type 0
Wrote f size a v {cells} before after =
    (memory : List ℕ) (qs : List (Change ℕ)) → f + size ≤ length memory → length memory ≤ cells → Writes memory before qs → Writes memory after (write_to f size a v qs)

-- whatever writes the tables held, they then hold what a run makes of them
abbrev pub Carried : (held : List (Change ℕ) → Type 0) (run : List (Change ℕ) → State) (left : State → Type 0) → Type 0
Carried held run left = (qs : List (Change ℕ)) → held qs → left (run qs)

-- what an item makes of some writes, where n values wait in a stack
abbrev pub item_run : (values memory : List ℕ) → Item → (stack : List ℕ) (n : ℕ) (slots outputs : List ℕ) → List (Change ℕ) → State
item_run values memory i stack n slots outputs qs = exec1 values memory i (state (top stack n) slots outputs qs)
