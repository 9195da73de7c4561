-- Row 7 as a walk over the items of a tape: the room that is left, and the faults of each item by the items before it. Assumes nothing: these are definitions.
use Rattle.std.specs.Prelude.{Bool, true, false, List, [], ◌∷◌, ◌++◌, ℕ, zero, suc, ◌-◌, ◌%◌, eqb, ltb, Option as Optional, Some, None}
use Rattle.language.specs.Limits.{limits}
use Rattle.language.specs.Names.{when}
use Rattle.tape.specs.Walk.{op_at, place_at, value_at}
use Rattle.tape.specs.Tape.{TYPED, COPIES, BIT, RANGE, ASSIGN, WRITE, VAL, RULE, RULED, OR, DECLARED, MEMORY, SIZE, SIGNED}
use Rattle.row07_limits.specs.declared.Room.{Room}
use Rattle.part_lengths.specs.Parts.{Triple, before, held_in}

-- ---- what an item has by its operation

-- the limit of a type's words, where there is a type
unfoldable pub in_type : Bool → Optional ℕ
in_type true = Some limits.typeWords
in_type false = None

-- the limit of the words of the part before it, and of the one before that, where it holds one
unfoldable pub last_limit : ℕ → ℕ → Optional ℕ
last_limit o v =
    elim (eqb o TYPED) [
      | true ↦ Some limits.typeWords
      | false ↦ elim (eqb o BIT) [
        | true ↦ Some limits.typeWords
        | false ↦ elim (eqb o RANGE) [
          | true ↦ Some limits.typeWords
          | false ↦ elim (eqb o ASSIGN) [
            | true ↦ Some limits.expressionWords
            | false ↦ elim (eqb o WRITE) [
              | true ↦ Some limits.expressionWords
              | false ↦ elim (eqb o VAL) [
                | true ↦ Some limits.expressionWords
                | false ↦ elim (eqb o DECLARED) [ true ↦ in_type (eqb (v % 2) 1) | false ↦ elim (eqb o MEMORY) [ true ↦ in_type (eqb v 1) | false ↦ None ] ]
              ]
            ]
          ]
        ]
      ]
    ]

unfoldable pub other_limit : ℕ → ℕ → Optional ℕ
other_limit o v = elim (eqb o RANGE) [ true ↦ Some limits.typeWords | false ↦ elim (eqb o WRITE) [ true ↦ Some limits.expressionWords | false ↦ elim (eqb o VAL) [ true ↦ in_type (eqb v 1) | false ↦ None ] ] ]

-- the size before an item, and its place: 1, and another place, where there is none
unfoldable pub size_in : List Triple → ℕ
size_in [] = 1
size_in (x ∷ l) = elim (eqb x.op SIZE) [ true ↦ x.value | false ↦ 1 ]

unfoldable pub size_place_in : List Triple → ℕ → ℕ
size_place_in [] p = p
size_place_in (x ∷ l) p = elim (eqb x.op SIZE) [ true ↦ x.place | false ↦ p ]

-- whether it is one too many, or a number of copies too big
unfoldable pub full_for : Room → ℕ → ℕ → Bool
full_for r o v =
    elim (eqb o SIGNED) [
      | true ↦ eqb r.ports 0
      | false ↦ elim (eqb o MEMORY) [
        | true ↦ eqb r.memories 0
        | false ↦ elim (eqb o OR) [
          | true ↦ eqb r.groups 0
          | false ↦ elim (eqb o RULE) [
            | true ↦ eqb r.rules 0
            | false ↦ elim (eqb o VAL) [ true ↦ eqb r.vals 0 | false ↦ elim (eqb o COPIES) [ true ↦ ltb limits.copies v | false ↦ false ] ]
          ]
        ]
      ]
    ]

-- whether a memory's size is none or passes its limit or the cells that are left
unfoldable pub bad_size : (cells o size : ℕ) → Bool
bad_size cells o z = elim (eqb o MEMORY) [ false ↦ false | true ↦ elim (eqb z 0) [ true ↦ true | false ↦ elim (ltb limits.size z) [ true ↦ true | false ↦ ltb cells z ] ] ]

-- ---- the walk

unfoldable pub left_of : Bool → ℕ → ℕ → ℕ
left_of true room n = room - n
left_of false room n = room

unfoldable pub again_of : Bool → ℕ → ℕ
again_of true room = limits.vals
again_of false room = room

abbrev pub all_room : Room
all_room = record { ports = limits.ports; memories = limits.memories; cells = limits.cells; groups = limits.groups; rules = limits.rules; vals = limits.vals }

-- the room after an item, where a size stands before it
unfoldable pub next_room : Room → ℕ → ℕ → Room
next_room r o z =
    record {
      ports = left_of (eqb o SIGNED) r.ports 1;
      memories = left_of (eqb o MEMORY) r.memories 1;
      cells = left_of (eqb o MEMORY) r.cells z;
      groups = left_of (eqb o OR) r.groups 1;
      rules = left_of (eqb o RULE) r.rules 1;
      vals = again_of (eqb o RULED) (left_of (eqb o VAL) r.vals 1);
    }

-- the faults of an item after others, where `ps` are the places of the words
unfoldable pub item_faults : List ℕ → Room → List Triple → ℕ → ℕ → ℕ → List ℕ
item_faults ps r l o p v = when (full_for r o v) p ++ (when (bad_size r.cells o (size_in l)) (size_place_in l p) ++ held_in ps l (last_limit o v) (other_limit o v))

-- and of item i of a tape
abbrev pub faults_of : List ℕ → Room → List ℕ → ℕ → List ℕ
faults_of ps r t i = item_faults ps r (before t i) (op_at t i) (place_at t i) (value_at t i)

unfoldable pub room_at : List ℕ → ℕ → Room
room_at t zero = all_room
room_at t (suc i) = next_room (room_at t i) (op_at t i) (size_in (before t i))

-- the faults of the first items, the last first
unfoldable pub faults_at : List ℕ → List ℕ → ℕ → List ℕ
faults_at ps t zero = []
faults_at ps t (suc i) = faults_of ps (room_at t i) t i ++ faults_at ps t i
