-- The plan of an accepted actor with its bindings and widths, as a list of numbers (docs/PLAN.md). Assumes nothing: these are definitions.
use mathlib.Core.Bool.{Bool, true, false}
use Rattle.std.specs.Prelude.{List, [], ◌∷◌, ◌++◌, ℕ, suc, ◌+◌, ◌/◌, ◌%◌, ◌^◌, length}
use Rattle.std.proofs.Math.Option.{none, some}
use Rattle.language.specs.Text.{Name, index, among}
use Rattle.language.specs.Tree.{Expr, plain, sized, copies, read, cell, bit, range, inside, joined, beside, unary, binary, choice, either, select, arm, default}
use Rattle.language.specs.Tree.{Memory, Entry, Val, Assignment, assign, write, Statement, alone, scoped, Rule, spelled_of, memory_names}
use Rattle.language.specs.Parts.{each}
use Rattle.language.specs.Names.{input_names}
use Rattle.language.specs.Counts.{size_of, rules_of}
use Rattle.language.specs.Widths.{port_width, memory_width}
use Rattle.language.specs.Values.{plain_width}
use Rattle.language.specs.Sizes.{Setting, Extent, wide, faulty, Let, let_named, breadth_of, amount_of, position_at, extent, val_extent}
use Rattle.language.specs.Meaning.{cells_before, cells_of, port_at, position_in}
use Rattle.plan.specs.declared.Item.{Item}
use Rattle.plan.specs.declared.Item.TheVariants.{Const, Port, Let as Kept, Cell, Range, Copies, Beside, Before, Between, Choice, Arm, Keep, Assign, Write}
use Rattle.plan.specs.Items.{encode}
use Rattle.plan.specs.Sound.{case_slot, arm_slot}

-- the slots of the `let`s in force: what each is called, its slot and its extent
pub record Slot : Type 0 where
  pub number : ℕ
  pub holds : Extent

unfoldable pub extents : List (Let Slot) → List (Let Extent)
extents [] = []
extents (l ∷ ls) = record { called = l.called; holds = l.holds.holds } ∷ extents ls

unfoldable pub width_of : Extent → ℕ
width_of (wide w) = w
width_of (faulty l) = 0

unfoldable pub constant : ℕ → ℕ → List Item
constant w v = Const w (v % 2 ^ 32) (v / 2 ^ 32) ∷ []

module _ (s : Setting) where
  unfoldable pub memory_at : List ℕ → ℕ
  memory_at n = index (spelled_of (memory_names s.actor.memories)) n

  module _ (lets : List (Let Slot)) where
    unfoldable pub wide_of : Expr → ℕ
    wide_of e = width_of (extent s (extents lets) e)

    unfoldable pub read_item : List ℕ → Item
    read_item n = elim (let_named lets n) [ some x ↦ Kept x.number | none ↦ Port (port_at s n) ]

    -- `d` cases stand around, in whose arms the expression is: the slot of a further one is free
    unfoldable pub code : ℕ → Expr → List Item
    code d (plain n) = constant (plain_width n.value) n.value
    code d (sized w a) = constant (breadth_of s w) (amount_of s a)
    code d (copies n e) = code d e ++ (Copies n.value (wide_of e) ∷ [])
    code d (read n) = read_item n.spelled ∷ []
    code d (cell n a) = code d a ++ (Cell (memory_at n.spelled) (cells_before s.actor.memories n.spelled) (cells_of s.actor.memories n.spelled) ∷ [])
    code d (bit e p i) = code d e ++ (Range (position_in (position_at s i)) (position_in (position_at s i)) ∷ [])
    code d (range e p i j) = code d e ++ (Range (position_in (position_at s i)) (position_in (position_at s j)) ∷ [])
    code d (inside p e) = code d e
    code d (joined p e) = code d e
    code d (beside a b) = code d a ++ (code d b ++ (Beside (wide_of b) ∷ []))
    code d (unary u e) = code d e ++ (Before u.which (wide_of e) ∷ [])
    code d (binary o a b) = code d a ++ (code d b ++ (Between o (wide_of a) (wide_of b) ∷ []))
    code d (choice c a b) = code d c ++ (code d a ++ (code d b ++ (Choice ∷ [])))
    code d (either p c a b) = code d c ++ (code d a ++ (code d b ++ (Choice ∷ [])))
    code d (select p e a) = code d e ++ (Keep (case_slot d) (wide_of e) ∷ code (suc d) a)
    code d (arm n e r) = code d e ++ (code d r ++ (Arm n.value (arm_slot d) ∷ []))
    code d (default p e) = code d e

    unfoldable pub assignment_code : Assignment → List Item
    assignment_code (assign n e) = code 0 e ++ (Assign (port_at s n.spelled) ∷ [])
    assignment_code (write n a e) =
        code 0 a ++ (code 0 e ++ (Write (memory_at n.spelled) (cells_before s.actor.memories n.spelled) (cells_of s.actor.memories n.spelled) ∷ []))

  -- `val`s are numbered through a rule: `k` came before
  unfoldable pub lets_from : ℕ → List (Let Slot) → List Val → List (Let Slot)
  lets_from k lets [] = lets
  lets_from k lets (v ∷ vs) = lets_from (suc k) (record { called = v.called.spelled; holds = record { number = k; holds = val_extent s (extents lets) v } } ∷ lets) vs

  unfoldable pub vals_code : ℕ → List (Let Slot) → List Val → List Item
  vals_code k lets [] = []
  vals_code k lets (v ∷ vs) =
      code lets 0 v.value
      ++ (Keep k (width_of (val_extent s (extents lets) v)) ∷ vals_code (suc k) (record { called = v.called.spelled; holds = record { number = k; holds = val_extent s (extents lets) v } } ∷ lets) vs)

  unfoldable pub body_code : ℕ → List Statement → List Item
  body_code k [] = []
  body_code k (alone x ∷ l) = assignment_code [] x ++ body_code k l
  body_code k (scoped vs xs ∷ l) = vals_code k [] vs ++ (each (assignment_code (lets_from k [] vs)) xs ++ body_code (k + length vs) l)

  unfoldable pub rule_code : Rule → List ℕ
  rule_code r = each encode (body_code 0 r.body)

  -- the mask of the ports that a rule lists as present, or as absent
  unfoldable pub mask_of : Bool → List Entry → ℕ
  mask_of b [] = 0
  mask_of b (e ∷ es) = elim (mathlib.Core.Bool.beq e.present b) [ true ↦ 2 ^ port_at s e.called.spelled + mask_of b es | false ↦ mask_of b es ]

  unfoldable pub port_number : Name → List ℕ
  port_number n =
      elim (among (input_names s.actor.ports) n.spelled) [
        | true ↦ port_width s.actor s.widths n.spelled ∷ []
        | false ↦ (port_width s.actor s.widths n.spelled + 256) ∷ []
      ]

  unfoldable pub memory_numbers : Memory → List ℕ
  memory_numbers m = memory_width s.actor s.widths m.called.spelled ∷ size_of m ∷ []

  unfoldable pub rule_numbers : Rule → List ℕ
  rule_numbers r = mask_of true r.list ∷ mask_of false r.list ∷ length (rule_code r) ∷ []

  -- a section after its count
  unfoldable pub plan_of : List ℕ
  plan_of =
      1 ∷ length s.actor.signature ∷ (each port_number s.actor.signature
      ++ (length s.actor.memories ∷ (each memory_numbers s.actor.memories
      ++ (length s.actor.groups ∷ (each (λ g. length g.rules ∷ []) s.actor.groups
      ++ (length (rules_of s.actor) ∷ (each rule_numbers (rules_of s.actor)
      ++ (length (each rule_code (rules_of s.actor)) ∷ each rule_code (rules_of s.actor)))))))))
