-- What the code of a plan's rules does, on lists. Assumes nothing: these are definitions.
use Rattle.std.specs.Prelude.{Bool, true, false, List, [], ◌∷◌, ℕ, ◌+◌, ◌*◌, ◌^◌, eqb, ltb, get_or, set, replicate}
use Rattle.language.specs.Values.{binary_value, unary_value, beside_of, copies_of, range_of, chosen}
use Rattle.language.specs.Meaning.{Change}
use Rattle.plan.specs.declared.Item.{Item}
use Rattle.plan.specs.declared.Item.TheVariants.{Const, Port, Let, Cell, Range, Copies, Beside, Before, Between, Choice, Arm, Keep, Assign, Write, Bad}
use Rattle.plan.specs.Items.{decode_all}
use Rattle.plan.specs.Layout.{code_at}
use Rattle.plan.specs.Sound.{slots}

-- the state of a rule's run: the values that wait, the latest first; the slots; the outputs; the writes, the latest first
pub record State : Type 0 where
  pub waits : List ℕ
  pub slots : List ℕ
  pub outputs : List ℕ
  pub writes : List (Change ℕ)

-- a state by its parts
abbrev pub state : List ℕ → List ℕ → List ℕ → List (Change ℕ) → State
state vs ls os qs = record { waits = vs; slots = ls; outputs = os; writes = qs }

-- where too few values wait the state stays: a sound plan never comes to it
abbrev pub take1 : State → (ℕ → List ℕ → State) → State
take1 s f = elim s.waits [ [] ↦ s | x ∷ vs ↦ f x vs ]

abbrev pub take2 : State → (ℕ → ℕ → List ℕ → State) → State
take2 s f = elim s.waits [ [] ↦ s | y ∷ [] ↦ s | y ∷ x ∷ vs ↦ f x y vs ]

abbrev pub take3 : State → (ℕ → ℕ → ℕ → List ℕ → State) → State
take3 s f = elim s.waits [ [] ↦ s | y ∷ [] ↦ s | y ∷ x ∷ [] ↦ s | y ∷ x ∷ c ∷ vs ↦ f c x y vs ]

-- a memory of n cells from f on: what its cell a holds, 0 past it
unfoldable pub cell_of : List ℕ → ℕ → ℕ → ℕ → ℕ
cell_of memory f n a = elim (ltb a n) [ true ↦ get_or memory (f + a) 0 | false ↦ 0 ]

-- a write to its cell a: none past it
unfoldable pub write_to : ℕ → ℕ → ℕ → ℕ → List (Change ℕ) → List (Change ℕ)
write_to f n a x qs = elim (ltb a n) [ true ↦ record { target = f + a; to = x } ∷ qs | false ↦ qs ]

-- the first of two where a test holds, else the second
unfoldable pub pick : Bool → ℕ → ℕ → ℕ
pick true x y = x
pick false x y = y

-- ---- what an item does to a state: each of these says which part it changes, and leaves the others

-- a value over those that still wait
abbrev pub push : ℕ → List ℕ → State → State
push v vs s = state (v ∷ vs) s.slots s.outputs s.writes

-- a value into a slot
abbrev pub keep : ℕ → ℕ → List ℕ → State → State
keep k x vs s = state vs (set s.slots k x) s.outputs s.writes

-- a value to an output
abbrev pub assign : ℕ → ℕ → List ℕ → State → State
assign p x vs s = state vs s.slots (set s.outputs p x) s.writes

-- a value to cell a of the n from f on
abbrev pub write : ℕ → ℕ → ℕ → ℕ → List ℕ → State → State
write f n a x vs s = state vs s.slots s.outputs (write_to f n a x s.writes)

-- ---- the run of an item, and of a rule's items

module _ (values memory : List ℕ) where
  abbrev pub exec1 : Item → State → State
  exec1 (Const w lo hi) s = push (lo + hi * 2 ^ 32) s.waits s
  exec1 (Port i) s = push (get_or values i 0) s.waits s
  exec1 (Let k) s = push (get_or s.slots k 0) s.waits s
  exec1 (Cell m f n) s = take1 s (λ a vs. push (cell_of memory f n a) vs s)
  exec1 (Range i j) s = take1 s (λ x vs. push (range_of x i j) vs s)
  exec1 (Copies n w) s = take1 s (λ x vs. push (copies_of n w x) vs s)
  exec1 (Beside w) s = take2 s (λ x y vs. push (beside_of w x y) vs s)
  exec1 (Before u w) s = take1 s (λ x vs. push (unary_value u w x) vs s)
  exec1 (Between o m n) s = take2 s (λ x y vs. push (binary_value o m n x y) vs s)
  exec1 Choice s = take3 s (λ c x y vs. push (chosen c x y) vs s)
  exec1 (Arm n k) s = take2 s (λ x y vs. push (pick (eqb (get_or s.slots k 0) n) x y) vs s)
  exec1 (Keep k w) s = take1 s (λ x vs. keep k x vs s)
  exec1 (Assign p) s = take1 s (λ x vs. assign p x vs s)
  exec1 (Write m f n) s = take2 s (λ a x vs. write f n a x vs s)
  exec1 Bad s = s

  -- item after item
  unfoldable pub exec_all : List Item → State → State
  exec_all [] s = s
  exec_all (i ∷ is) s = exec_all is (exec1 i s)

-- ---- the rules that fire

module _ (p : List ℕ) where
  -- the rules one after the other: each with slots of its own, outputs and writes gathered
  unfoldable pub exec_rules : List ℕ → List ℕ → List ℕ → State → State
  exec_rules values memory [] s = s
  exec_rules values memory (r ∷ rs) s = exec_rules values memory rs (exec_all values memory (decode_all (code_at p r)) (state [] (replicate slots 0) s.outputs s.writes))
