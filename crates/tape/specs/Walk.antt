-- What rows ask of a tape, item by item: the names of some class that were met, and the places that a test marks. Assumes nothing: these are definitions.
use Rattle.std.specs.Prelude.{Bool, true, false, ◌&&◌, ◌||◌, List, [], ◌∷◌, ◌++◌, ℕ, zero, suc, ◌+◌, ◌*◌, ◌-◌, eqb, leb, ltb, get_or}
use Rattle.placed.specs.Placed.{name_from}
use Rattle.tape.specs.Tape.{ENVIRONMENT, VALUE, ASSIGN, VAL, PRESENT, DECLARED, MEMORY, SIGNED}
use Rattle.tape.specs.declared.Class.{Class}
use Rattle.tape.specs.declared.Class.TheVariants.{Signed, Declared, Input, Output, Taken, Present, Val, Required, Assigned, Environment}
unfoldable pub use Rattle.placed.specs.Members.{add}

-- an item by its index: its operation, place and value
abbrev pub op_at : List ℕ → ℕ → ℕ
op_at t i = get_or t (3 * i) 0

abbrev pub place_at : List ℕ → ℕ → ℕ
place_at t i = get_or t (3 * i + 1) 0

abbrev pub value_at : List ℕ → ℕ → ℕ
value_at t i = get_or t (3 * i + 2) 0

-- whether an item is of a class, by its operation and value
unfoldable pub hit : Class → ℕ → ℕ → Bool
hit Signed o v = eqb o SIGNED
hit Declared o v = eqb o DECLARED
hit Input o v = eqb o DECLARED && leb 2 v
hit Output o v = eqb o DECLARED && ltb v 2
hit Taken o v = eqb o DECLARED || eqb o MEMORY
hit Present o v = eqb o PRESENT
hit Val o v = eqb o VAL
hit Required o v = eqb o PRESENT && eqb v 1
hit Assigned o v = eqb o ASSIGN
hit Environment o v = eqb o ENVIRONMENT || eqb o VALUE

-- the names of the items of a class among m items from one on, the latest first
unfoldable pub names_on : (text t : List ℕ) → Class → ℕ → ℕ → List (List ℕ)
names_on text t c from zero = []
names_on text t c from (suc m) = add (hit c (op_at t (from + m)) (value_at t (from + m))) (name_from text (place_at t (from + m))) (names_on text t c from m)

-- the same from one item on and before another
abbrev pub between : (text t : List ℕ) → Class → ℕ → ℕ → List (List ℕ)
between text t c from to = names_on text t c from (to - from)

-- from where on the items of this rule, and the `let`s in force, stand: after the last rule's end, and the last `end`
unfoldable pub pick : Bool → ℕ → ℕ → ℕ
pick true x y = x
pick false x y = y

unfoldable pub after : ℕ → List ℕ → ℕ → ℕ
after o t zero = zero
after o t (suc i) = pick (eqb (op_at t i) o) (suc i) (after o t i)

unfoldable pub put : Bool → ℕ → List ℕ → List ℕ
put true p ps = ps ++ (p ∷ [])
put false p ps = ps

-- the places of the items that a test marks, among the first i
unfoldable pub marked : (ℕ → Bool) → List ℕ → ℕ → List ℕ
marked f t zero = []
marked f t (suc i) = put (f i) (place_at t i) (marked f t i)
