-- An actor with its names and types settled, as a list of settled items (Form.antt). Assumes nothing: these are definitions.
use Rattle.std.specs.Prelude.{Bool, true, false, List, [], ◌∷◌, ◌++◌, ℕ, suc, ◌+◌, ◌/◌, ◌%◌, ◌^◌, ltb, length}
use Rattle.std.proofs.Math.Option.{Option, none, some}
use Rattle.language.specs.Text.{Name, index, among}
use Rattle.language.specs.Tree.{Breadth, bits, Amount, given, value}
use Rattle.language.specs.Tree.{Expr, plain, sized, copies, read, cell, bit, range, inside, joined, beside, unary, binary, choice, either, select, arm, default}
use Rattle.language.specs.Tree.{Declared, untyped, Memory, Entry, Val, Assignment, assign, write, Statement, alone, scoped, Rule, Group, spelled_of, memory_names}
use Rattle.language.specs.Parts.{each}
use Rattle.language.specs.Names.{input_names}
use Rattle.language.specs.Counts.{size_of}
use Rattle.language.specs.Widths.{value_in, port_width, memory_width, type_width}
use Rattle.language.specs.Sizes.{Setting, Let, let_named, position_at}
use Rattle.language.specs.Meaning.{cells_before, cells_of, port_at}
use Rattle.plan.specs.Items.{unary_number, binary_number}
use Rattle.settled.specs.Form.{BITS, BIG, AMOUNT, PLAIN, COPIES, READ, CELL, HELD, RANGE, START, JOINED, BESIDE, UNARY, BINARY, CHOICE, EITHER, SELECT, SELECTED, ARM, ASSIGN, WRITE, TYPED, VAL, RULED, PRESENT, RULE, OR, MEMORY, SIGNED, OUTSIDE, six}

-- a constant's value in two halves, where 64 bits hold it
unfoldable pub amount : ℕ → ℕ → List ℕ
amount p v = elim (ltb v (2 ^ 64)) [ true ↦ six AMOUNT p (v % 2 ^ 32) (v / 2 ^ 32) 0 0 | false ↦ six BIG p 0 0 0 0 ]

unfoldable pub placed : Option ℕ → ℕ
placed (some i) = i
placed none = OUTSIDE

unfoldable pub one_if : Bool → ℕ
one_if true = 1
one_if false = 0

module _ (s : Setting) where
  unfoldable pub settled_breadth : Breadth → List ℕ
  settled_breadth (bits n) = six BITS n.at n.value 0 0 0
  settled_breadth (Breadth.typed p t) = six BITS p (type_width s.actor s.bindings s.widths t) 0 0 0

  unfoldable pub settled_amount : Amount → List ℕ
  settled_amount (given n) = amount n.at n.value
  settled_amount (value n) = amount n.at (value_in s.bindings.values n.spelled)

  -- a cell of a memory: its number, its first cell, its size and its width
  unfoldable pub settled_cell : ℕ → Name → List ℕ
  settled_cell op n =
      six op n.at (index (spelled_of (memory_names s.actor.memories)) n.spelled) (cells_before s.actor.memories n.spelled) (cells_of s.actor.memories n.spelled)
      (memory_width s.actor s.widths n.spelled)

  -- a port: its number and its width
  unfoldable pub settled_port : ℕ → Name → List ℕ
  settled_port op n = six op n.at (port_at s n.spelled) 0 0 (port_width s.actor s.widths n.spelled)

  -- `lets` are the slots of the `let`s in force, the latest first
  module _ (lets : List (Let ℕ)) where
    unfoldable pub settled_read : Name → List ℕ
    settled_read n = elim (let_named lets n.spelled) [ some k ↦ six HELD n.at k 0 0 0 | none ↦ settled_port READ n ]

    unfoldable pub settled : Expr → List ℕ
    settled (plain n) = six PLAIN n.at n.value 0 0 0
    settled (sized w a) = settled_breadth w ++ settled_amount a
    settled (copies n e) = settled e ++ six COPIES n.at n.value 0 0 0
    settled (read n) = settled_read n
    settled (cell n a) = settled a ++ settled_cell CELL n
    settled (bit e p i) = settled e ++ six RANGE p (placed (position_at s i)) (placed (position_at s i)) 0 0
    settled (range e p i j) = settled e ++ six RANGE p (placed (position_at s i)) (placed (position_at s j)) 0 0
    settled (inside p e) = settled e ++ six START p 0 0 0 0
    settled (joined p e) = settled e ++ six JOINED p 0 0 0 0
    settled (beside a b) = settled a ++ (settled b ++ six BESIDE 0 0 0 0 0)
    settled (unary u e) = settled e ++ six UNARY u.at (unary_number u.which) 0 0 0
    settled (binary o a b) = settled a ++ (settled b ++ six BINARY 0 (binary_number o) 0 0 0)
    settled (choice c a b) = settled c ++ (settled a ++ (settled b ++ six CHOICE 0 0 0 0 0))
    settled (either p c a b) = settled c ++ (settled a ++ (settled b ++ six EITHER p 0 0 0 0))
    settled (select p e a) = settled e ++ (six SELECT p 0 0 0 0 ++ (settled a ++ six SELECTED p 0 0 0 0))
    settled (arm n e r) = settled e ++ (settled r ++ six ARM n.at n.value 0 0 0)
    settled (default p e) = settled e ++ six START p 0 0 0 0

    unfoldable pub settled_assignment : Assignment → List ℕ
    settled_assignment (assign n e) = settled e ++ settled_port ASSIGN n
    settled_assignment (write n a e) = settled a ++ (settled e ++ settled_cell WRITE n)

  -- a `val` in its slot, with the width of its type where it has one
  unfoldable pub settled_kept : ℕ → Val → List ℕ
  settled_kept k v = elim v.type [ untyped ↦ six VAL v.called.at k 0 0 0 | Declared.typed t ↦ six TYPED v.called.at k 0 0 (type_width s.actor s.bindings s.widths t) ]

  -- `val`s are numbered through a rule: `k` came before
  unfoldable pub slots_from : ℕ → List (Let ℕ) → List Val → List (Let ℕ)
  slots_from k lets [] = lets
  slots_from k lets (v ∷ vs) = slots_from (suc k) (record { called = v.called.spelled; holds = k } ∷ lets) vs

  unfoldable pub settled_vals : ℕ → List (Let ℕ) → List Val → List ℕ
  settled_vals k lets [] = []
  settled_vals k lets (v ∷ vs) = settled lets v.value ++ (settled_kept k v ++ settled_vals (suc k) (record { called = v.called.spelled; holds = k } ∷ lets) vs)

  unfoldable pub settled_body : ℕ → List Statement → List ℕ
  settled_body k [] = []
  settled_body k (alone x ∷ l) = settled_assignment [] x ++ settled_body k l
  settled_body k (scoped vs xs ∷ l) = settled_vals k [] vs ++ (each (settled_assignment (slots_from k [] vs)) xs ++ settled_body (k + length vs) l)

  unfoldable pub settled_entry : Entry → List ℕ
  settled_entry e = six PRESENT e.called.at (port_at s e.called.spelled) (one_if e.present) 0 0

  unfoldable pub settled_rule : Rule → List ℕ
  settled_rule r = six RULE r.called.at 0 0 0 0 ++ (each settled_entry r.list ++ (settled_body 0 r.body ++ six RULED 0 0 0 0 0))

  unfoldable pub settled_group : Group → List ℕ
  settled_group g = six OR g.at 0 0 0 0 ++ each settled_rule g.rules

  -- a port as the plan has it: its width, plus 256 for an output
  unfoldable pub settled_signed : Name → List ℕ
  settled_signed n =
      elim (among (input_names s.actor.ports) n.spelled) [
        | true ↦ six SIGNED n.at (port_width s.actor s.widths n.spelled) 0 0 0
        | false ↦ six SIGNED n.at (port_width s.actor s.widths n.spelled + 256) 0 0 0
      ]

  unfoldable pub settled_memory : Memory → List ℕ
  settled_memory m = six MEMORY m.called.at (memory_width s.actor s.widths m.called.spelled) (size_of m) 0 0

  unfoldable pub settled_of : List ℕ
  settled_of = each settled_signed s.actor.signature ++ (each settled_memory s.actor.memories ++ each settled_group s.actor.groups)
