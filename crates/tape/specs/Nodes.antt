-- What an item of the tape is in the type that it stands in: one decoding for the rows that go by types. Assumes nothing: these are definitions.
use Rattle.std.specs.Prelude.{true, false, ℕ, eqb}
use Rattle.tape.specs.Tape.{NUMBER, ENVIRONMENT, PORT, PLUS, MINUS, LOG, CEIL, FLOOR, MOST, ENTRY, WITHIN}
use Rattle.tape.specs.declared.Node.{Node}
use Rattle.tape.specs.declared.Node.TheVariants.{Number, Name, Port, Join, Minus, Log, Whole, Most, Within, Other}

-- what an item is in a type, by its operation
unfoldable pub node_of : ℕ → Node
node_of o =
    elim (eqb o NUMBER) [
      | true ↦ Number
      | false ↦ elim (eqb o ENVIRONMENT) [
        | true ↦ Name
        | false ↦ elim (eqb o PORT) [
          | true ↦ Port
          | false ↦ elim (eqb o PLUS) [
            | true ↦ Join
            | false ↦ elim (eqb o MINUS) [
              | true ↦ Minus
              | false ↦ elim (eqb o LOG) [
                | true ↦ Log
                | false ↦ elim (eqb o CEIL) [
                  | true ↦ Whole
                  | false ↦ elim (eqb o FLOOR) [
                    | true ↦ Whole
                    | false ↦ elim (eqb o MOST) [
                      | true ↦ Most
                      | false ↦ elim (eqb o ENTRY) [ true ↦ Join | false ↦ elim (eqb o WITHIN) [ true ↦ Within | false ↦ Other ] ]
                    ]
                  ]
                ]
              ]
            ]
          ]
        ]
      ]
    ]
