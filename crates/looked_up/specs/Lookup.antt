-- What the items of a tape and the lines of the bindings say of a name. Assumes nothing: these are definitions.
use Rattle.std.specs.Prelude.{true, false, List, [], ◌∷◌, ℕ, zero, suc, ◌+◌, ◌^◌, eqb, ltb}
use Rattle.placed.specs.Placed.{name_from}
use Rattle.tape.specs.Tape.{MEMORY, SIZE}
use Rattle.tape.specs.Walk.{op_at, place_at, value_at, add, pick}
use Rattle.settled.specs.Form.{OUTSIDE}

-- a number as an operand: what 32 bits do not hold is outside
unfoldable pub operand : ℕ → ℕ
operand n = elim (ltb n (2 ^ 32)) [ true ↦ n | false ↦ OUTSIDE ]

-- the names of the items of an operation among n items from one on, the first one first
unfoldable pub named : (text t : List ℕ) → ℕ → (from n : ℕ) → List (List ℕ)
named text t o from zero = []
named text t o from (suc n) = add (eqb (op_at t from) o) (name_from text (place_at t from)) (named text t o (suc from) n)

-- the size that the item before i gives; 1 where it gives none
unfoldable pub size_before : List ℕ → ℕ → ℕ
size_before t zero = 1
size_before t (suc i) = pick (eqb (op_at t i) SIZE) (value_at t i) 1

-- the sizes of the memories among n items from one on, the first one first
unfoldable pub sizes_on : List ℕ → (from n : ℕ) → List ℕ
sizes_on t from zero = []
sizes_on t from (suc n) = elim (eqb (op_at t from) MEMORY) [ true ↦ size_before t from ∷ sizes_on t (suc from) n | false ↦ sizes_on t (suc from) n ]

unfoldable pub sum_of : List ℕ → ℕ
sum_of [] = 0
sum_of (x ∷ l) = x + sum_of l
