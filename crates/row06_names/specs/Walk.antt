-- Row 6 as a walk over the items of a tape, one computed test an item. Assumes nothing: these are definitions.
use Rattle.std.specs.Prelude.{Bool, true, false, not, ◌||◌, List, ℕ, eqb}
use Rattle.language.specs.Text.{among}
use Rattle.placed.specs.Placed.{name_from}
use Rattle.tape.specs.Tape.{ENVIRONMENT, PORT, VALUE, READ, ASSIGN, END, VAL, PRESENT, RULED, DECLARED, MEMORY, SIGNED}
use Rattle.tape.specs.Walk.{op_at, place_at, between, after, marked}
use Rattle.tape.specs.declared.Class.TheVariants.{Signed, Declared, Input, Output, Taken, Present, Val}

-- the names met so far: of declarations all, the entries of this rule, the `let`s in force
pub record Seen : Type 0 where
  pub signed : List (List ℕ)
  pub declared : List (List ℕ)
  pub inputs : List (List ℕ)
  pub outputs : List (List ℕ)
  pub taken : List (List ℕ)
  pub present : List (List ℕ)
  pub vals : List (List ℕ)

-- those before item i, where this rule's items stand from `rule` on and the `let`s in force from `lets` on
abbrev pub seen_at : (text t : List ℕ) → (rule lets i : ℕ) → Seen
seen_at text t rule lets i =
    record {
      signed = between text t Signed 0 i;
      declared = between text t Declared 0 i;
      inputs = between text t Input 0 i;
      outputs = between text t Output 0 i;
      taken = between text t Taken 0 i;
      present = between text t Present rule i;
      vals = between text t Val lets i;
    }

-- whether the name n of an item is at fault, where `all` are the names of the whole tape and `s` those before it
unfoldable pub test : (all s : Seen) → ℕ → List ℕ → Bool
test all s o n =
    elim (eqb o SIGNED) [
      | true ↦ among s.signed n || not (among all.declared n)
      | false ↦ elim (eqb o DECLARED) [
        | true ↦ not (among all.signed n) || among s.taken n
        | false ↦ elim (eqb o MEMORY) [
          | true ↦ among s.taken n
          | false ↦ elim (eqb o ENVIRONMENT) [
            | true ↦ among all.taken n
            | false ↦ elim (eqb o VALUE) [
              | true ↦ among all.taken n
              | false ↦ elim (eqb o PORT) [
                | true ↦ not (among all.declared n)
                | false ↦ elim (eqb o PRESENT) [
                  | true ↦ not (among all.declared n) || among s.present n
                  | false ↦ elim (eqb o READ) [
                    | true ↦ not (among all.inputs n || among s.vals n)
                    | false ↦ elim (eqb o ASSIGN) [
                      | true ↦ not (among all.outputs n)
                      | false ↦ elim (eqb o VAL) [ true ↦ among s.vals n || among all.taken n | false ↦ false ]
                    ]
                  ]
                ]
              ]
            ]
          ]
        ]
      ]
    ]

abbrev pub faulty : (text t : List ℕ) → (many rule lets i : ℕ) → Bool
faulty text t many rule lets i = test (seen_at text t 0 0 many) (seen_at text t rule lets i) (op_at t i) (name_from text (place_at t i))

-- the places of the faulty items among the first i of so many
abbrev pub faults_at : (text t : List ℕ) → (many i : ℕ) → List ℕ
faults_at text t many i = marked (λ k. faulty text t many (after RULED t k) (after END t k) k) t i
