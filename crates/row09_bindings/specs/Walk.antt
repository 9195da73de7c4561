-- The second half of row 9 as a walk over the items of a tape, one computed test an item. Assumes nothing: these are definitions.
use Rattle.std.specs.Prelude.{Bool, true, false, not, ◌&&◌, ◌||◌, List, ℕ, eqb}
use Rattle.language.specs.Text.{among}
use Rattle.placed.specs.Placed.{name_from}
use Rattle.tape.specs.Tape.{ENVIRONMENT, VALUE, DECLARED, MEMORY}
use Rattle.tape.specs.Walk.{op_at, place_at, value_at, marked}
use Rattle.bindings.specs.declared.bound.Bound.{Bound}
use Rattle.row09_bindings.specs.Lines.{names_on}

-- a declaration without a type, by its item's value: 1 for a type and 2 for an input
unfoldable pub no_type : ℕ → Bool
no_type v = eqb v 0 || eqb v 2

-- what is asked of an item by its operation, value and name: of environment names, of ports without a type, of memories without one
unfoldable pub ask : (environs ports : List ℕ → Bool) → Bool → ℕ → ℕ → List ℕ → Bool
ask environs ports memories o v n =
    elim (eqb o ENVIRONMENT || eqb o VALUE) [
      | true ↦ environs n
      | false ↦ elim (eqb o DECLARED) [
        | true ↦ no_type v && ports n
        | false ↦ elim (eqb o MEMORY) [ true ↦ no_type v && memories | false ↦ false ]
      ]
    ]

-- whether the name is not among those of a section
abbrev pub lacking : List (List ℕ) → List ℕ → Bool
lacking names n = not (among names n)

-- item i, by the lines of the bindings
abbrev pub open_at : (text t : List ℕ) → Bound → ℕ → Bool
open_at text t bound i = ask (lacking (names_on bound.text.now bound.table.now bound.lines.widths bound.lines.values)) (lacking (names_on bound.text.now bound.table.now 0 bound.lines.widths)) true (op_at t i) (value_at t i) (name_from text (place_at t i))

-- the places of the open items among the first i
abbrev pub opens_at : (text t : List ℕ) → Bound → ℕ → List ℕ
opens_at text t bound i = marked (λ j. open_at text t bound j) t i
