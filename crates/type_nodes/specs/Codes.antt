-- The wanted widths in code, off the items of a tape: the nodes of each type, and whose type they are. Assumes nothing: these are definitions.
use Rattle.std.specs.Prelude.{◌≡◌, Bool, true, false, List, [], ◌∷◌, ◌++◌, ℕ, zero, suc, ◌+◌, ◌-◌, ◌*◌, ◌%◌, ◌≤◌, ◌<◌, eqb, ltb, length, get_or, take, drop}
use Rattle.language.specs.Limits.{limits}
use Rattle.language.specs.Text.{same, index}
use Rattle.placed.specs.Placed.{name_from}
use Rattle.tape.specs.Tape.{NUMBER, ENVIRONMENT, PORT, PLUS, MINUS, LOG, CEIL, FLOOR, OR, DECLARED, MEMORY, SIZE, SIGNED}
use Rattle.tape.specs.Nodes.{node_of as tape_node_of}
use Rattle.tape.specs.declared.Node.{Node as Tape-as-Node}
use Rattle.tape.specs.declared.Node.TheVariants.{Number, Name, Port, Join, Minus, Log, Whole, Most, Within, Other}
use Rattle.tape.specs.Walk.{op_at, place_at, value_at}
use Rattle.bindings.specs.declared.Lines.{Lines}
use Rattle.bindings.specs.declared.bound.Bound.{Bound}
use Rattle.row09_bindings.specs.Lines.{names_on}
use Rattle.type_nodes.specs.declared.Role.{Role}
use Rattle.type_nodes.specs.declared.Role.TheVariants.{Node, Keep, Signed, Declared, Memory, Over, Clear}
use Rattle.type_nodes.specs.declared.Goal.{Goal}
use Rattle.type_nodes.specs.declared.Goal.TheVariants.{Port as PortAt, Memory as MemoryAt}
use Rattle.type_nodes.specs.declared.Counts.{Counts}

-- what an item that stands in no type is to the declared types, by its operation
unfoldable pub outside_of : ℕ → Role
outside_of o =
    elim (eqb o OR) [
      | true ↦ Over
      | false ↦ elim (eqb o DECLARED) [
        | true ↦ Declared
        | false ↦ elim (eqb o MEMORY) [ true ↦ Memory | false ↦ elim (eqb o SIZE) [ true ↦ Keep | false ↦ elim (eqb o SIGNED) [ true ↦ Signed | false ↦ Clear ] ] ]
      ]
    ]

-- what an item is to the declared types, by what it is in a type
unfoldable pub role_in : Tape-as-Node → ℕ → Role
role_in Number o = Node
role_in Name o = Node
role_in Port o = Node
role_in Join o = Node
role_in Minus o = Node
role_in Log o = Node
role_in Whole o = Node
role_in Most o = Keep
role_in Within o = Keep
role_in Other o = outside_of o

abbrev pub role_of : ℕ → Role
role_of o = role_in (tape_node_of o) o

unfoldable pub is_over : Role → Bool
is_over Node = false
is_over Keep = false
is_over Signed = false
is_over Declared = false
is_over Memory = false
is_over Over = true
is_over Clear = false

-- ---- how many ports and memories there are

abbrev pub tally : ℕ → ℕ → Counts
tally p m = record { ports = p; memories = m }

unfoldable pub counted_of : Counts → Role → Counts
counted_of c Node = c
counted_of c Keep = c
counted_of c Signed = tally (c.ports + 1) c.memories
counted_of c Declared = c
counted_of c Memory = tally c.ports (c.memories + 1)
counted_of c Over = c
counted_of c Clear = c

unfoldable pub counts_over : Counts → List ℕ → Counts
counts_over c [] = c
counts_over c (o ∷ []) = c
counts_over c (o ∷ p ∷ []) = c
counts_over c (o ∷ p ∷ v ∷ l) = elim (is_over (role_of o)) [ true ↦ c | false ↦ counts_over (counted_of c (role_of o)) l ]

-- ---- names, by the texts, the tape and the bindings' table

pub record Env : Type 0 where
  pub text : List ℕ
  pub tape : List ℕ
  pub btext : List ℕ
  pub table : List ℕ
  pub lines : Lines
  pub ports : ℕ

abbrev pub env : (text t btext table : List ℕ) → Lines → (ports : ℕ) → Env
env text t btext table lines ports = record { text = text; tape = t; btext = btext; table = table; lines = lines; ports = ports }

abbrev pub env_in : (text t : List ℕ) → Bound → (ports : ℕ) → Env
env_in text t bound ports = env text t bound.text.now bound.table.now bound.lines ports

-- the names of m items from one on
unfoldable pub signed_names : (text t : List ℕ) → ℕ → ℕ → List (List ℕ)
signed_names text t from zero = []
signed_names text t from (suc m) = name_from text (place_at t from) ∷ signed_names text t (suc from) m

unfoldable pub port_of : Env → List ℕ → ℕ
port_of e s = index (signed_names e.text e.tape 1 e.ports) s

-- the value of a line before the end of its section, or 0
unfoldable pub value_or : List ℕ → ℕ → ℕ → ℕ
value_or table i end = elim (ltb i end) [ true ↦ get_or table (3 * i + 2) 0 | false ↦ 0 ]

unfoldable pub value_of : Env → List ℕ → ℕ
value_of e s = value_or e.table (e.lines.widths + index (names_on e.btext e.table e.lines.widths e.lines.values) s) (e.lines.widths + e.lines.values)

-- ---- nodes

unfoldable pub number_node : ℕ → ℕ
number_node x = x % (limits.typeNumber + 1) * 8

unfoldable pub node_of : Env → (o p v : ℕ) → ℕ
node_of e o p v =
    elim (eqb o NUMBER) [
      | true ↦ number_node v
      | false ↦ elim (eqb o ENVIRONMENT) [
        | true ↦ number_node (value_of e (name_from e.text p))
        | false ↦ elim (eqb o PORT) [
          | true ↦ port_of e (name_from e.text p) * 8 + 1
          | false ↦ elim (eqb o LOG) [
            | true ↦ 2
            | false ↦ elim (eqb o FLOOR) [
              | true ↦ 3
              | false ↦ elim (eqb o CEIL) [ true ↦ 4 | false ↦ elim (eqb o PLUS) [ true ↦ 5 | false ↦ elim (eqb o MINUS) [ true ↦ 6 | false ↦ 7 ] ] ]
            ]
          ]
        ]
      ]
    ]

-- the node of the i-th item of the tape
abbrev pub node_at : Env → (tape : List ℕ) (i : ℕ) → ℕ
node_at e tape i = node_of e (op_at tape i) (place_at tape i) (value_at tape i)

-- as many nodes as a slot holds
abbrev pub capped : List ℕ → List ℕ
capped l = take limits.typeWords l

-- the nodes of the type before an item, with that item
unfoldable pub grown_of : Role → List ℕ → ℕ → List ℕ
grown_of Node l x = capped (l ++ (x ∷ []))
grown_of Keep l x = l
grown_of Signed l x = []
grown_of Declared l x = []
grown_of Memory l x = []
grown_of Over l x = []
grown_of Clear l x = []

-- ---- whose type is sought

unfoldable pub stops_at : List ℕ → Goal → Role → ℕ → Bool
stops_at text g Node p = false
stops_at text g Keep p = false
stops_at text g Signed p = false
stops_at text (PortAt q) Declared p = same (name_from text p) (name_from text q)
stops_at text (MemoryAt i) Declared p = false
stops_at text (PortAt q) Memory p = false
stops_at text (MemoryAt zero) Memory p = true
stops_at text (MemoryAt (suc i)) Memory p = false
stops_at text g Over p = true
stops_at text g Clear p = false

unfoldable pub left_of : Goal → Role → Goal
left_of g Node = g
left_of g Keep = g
left_of g Signed = g
left_of g Declared = g
left_of (PortAt q) Memory = PortAt q
left_of (MemoryAt i) Memory = MemoryAt (i - 1)
left_of g Over = g
left_of g Clear = g

unfoldable pub kept_of : {T : Type 0} → Role → T → T → T
kept_of Node none l = l
kept_of Keep none l = l
kept_of Signed none l = l
kept_of Declared none l = l
kept_of Memory none l = l
kept_of Over none l = none
kept_of Clear none l = l

-- the nodes of the type that is sought
unfoldable pub sought_in : Env → Goal → List ℕ → List ℕ → List ℕ
sought_in e g l [] = []
sought_in e g l (o ∷ []) = []
sought_in e g l (o ∷ p ∷ []) = []
sought_in e g l (o ∷ p ∷ v ∷ r) = elim (stops_at e.text g (role_of o) p) [ true ↦ kept_of (role_of o) [] l | false ↦ sought_in e (left_of g (role_of o)) (grown_of (role_of o) l (node_of e o p v)) r ]

-- ---- the wanted widths: no type is the number 0

unfoldable pub some_nodes : List ℕ → List ℕ
some_nodes [] = number_node 0 ∷ []
some_nodes (x ∷ l) = x ∷ l

unfoldable pub port_nodes : Env → ℕ → ℕ → List ℕ
port_nodes e n p =
    elim (ltb (index (names_on e.btext e.table 0 e.lines.widths) (name_from e.text p)) e.lines.widths) [
      | true ↦ number_node (get_or e.table (3 * index (names_on e.btext e.table 0 e.lines.widths) (name_from e.text p) + 2) 0) ∷ []
      | false ↦ some_nodes (sought_in e (PortAt p) [] (take n e.tape))
    ]

unfoldable pub want_nodes : Env → ℕ → ℕ → List ℕ
want_nodes e n i = elim (ltb i e.ports) [ true ↦ port_nodes e n (place_at e.tape (i + 1)) | false ↦ some_nodes (sought_in e (MemoryAt (i - e.ports)) [] (take n e.tape)) ]

-- ---- a slot of the code, from a place on: r numbers, which are l, and nothing before the place is other than it was

pub record Filled (code code' : List ℕ) (at r : ℕ) (l : List ℕ) : Type 0 where
  pub few : r ≤ limits.typeWords
  pub is : take r (drop at code') ≡ l
  pub before : take at code' ≡ take at code
  pub long : length code' ≡ length code

-- the first i slots hold the first i wanted widths
pub record Slotted (e : Env) (n : ℕ) (code starts ends : List ℕ) (i : ℕ) : Type 0 where
  pub start : (j : ℕ) → j < i → get_or starts j 0 ≡ limits.typeWords * j
  pub end : (j : ℕ) → j < i → (limits.typeWords * j ≤ get_or ends j 0) × (get_or ends j 0 ≤ limits.typeWords * j + limits.typeWords)
  pub is : (j : ℕ) → j < i → take (get_or ends j 0 - limits.typeWords * j) (drop (limits.typeWords * j) code) ≡ want_nodes e n j
