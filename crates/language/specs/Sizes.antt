-- Row 11: "constant too big for its width, bit outside, expression over 64 wide, value wider than target", at "constant, `[`, smallest expression, value".
-- Assumes nothing: these are definitions.
use Rattle.std.specs.Prelude.{Bool, true, false, not, ◌&&◌, List, [], ◌∷◌, ◌++◌, ℕ, ◌+◌, ◌*◌, ◌^◌, max, leb, ltb}
use Rattle.std.proofs.Math.Option.{Option, none, some}
use Rattle.language.specs.Text.{Name, same, among}
use Rattle.language.specs.Limits.{limits}
use Rattle.language.specs.Tree.{Ty, Breadth, bits, Amount, given, value, Prefix}
use Rattle.language.specs.Tree.{Expr, plain, sized, copies, read, cell, bit, range, inside, joined, beside, unary, binary, choice, either, select, arm, default}
use Rattle.language.specs.Tree.{Declared, untyped, Val, Assignment, assign, write, Statement, alone, scoped, Rule, Group, Actor}
use Rattle.language.specs.Parts.{each, start, statements}
use Rattle.language.specs.Types.{exact_of, position_of}
use Rattle.language.specs.Bindings.{Bindings}
use Rattle.language.specs.Widths.{value_in, port_width, memory_width, type_width}
use Rattle.language.specs.Values.{plain_width, binary_width, unary_width, range_width}

-- an actor with its bindings and its widths
pub record Setting : Type 0 where
  pub actor : Actor
  pub bindings : Bindings
  pub widths : List ℕ

-- the width of an expression; or the places of the faults inside it: "An expression with a fault inside has no width and no further fault"
pub data Extent : Type 0 where
  wide : ℕ → Extent
  faulty : List ℕ → Extent

unfoldable pub one_part : Extent → (ℕ → Extent) → Extent
one_part (wide w) f = f w
one_part (faulty l) f = faulty l

unfoldable pub two_parts : Extent → Extent → (ℕ → ℕ → Extent) → Extent
two_parts (wide m) (wide n) f = f m n
two_parts (wide m) (faulty l) f = faulty l
two_parts (faulty l) (wide n) f = faulty l
two_parts (faulty k) (faulty l) f = faulty (k ++ l)

unfoldable pub faults_of : Extent → List ℕ
faults_of (wide w) = []
faults_of (faulty l) = l

-- "expression over 64 wide"
unfoldable pub limited : ℕ → ℕ → Extent
limited p w = elim (leb w limits.expressionWidth) [ true ↦ wide w | false ↦ faulty (p ∷ []) ]

-- the `let`s in force, the latest first
pub record Let (A : Type 0) : Type 0 where
  pub called : List ℕ
  pub holds : A

unfoldable pub let_named : {A : Type 0} → List (Let A) → List ℕ → Option A
let_named [] s = none
let_named (l ∷ ls) s = elim (same l.called s) [ true ↦ some l.holds | false ↦ let_named ls s ]

-- "nor has what uses such a `let`"
unfoldable pub used : Extent → Extent
used (wide w) = wide w
used (faulty l) = faulty []

module _ (s : Setting) where
  unfoldable pub breadth_of : Breadth → ℕ
  breadth_of (bits n) = n.value
  breadth_of (Breadth.typed p t) = type_width s.actor s.bindings s.widths t

  unfoldable pub amount_of : Amount → ℕ
  amount_of (given n) = n.value
  amount_of (value n) = value_in s.bindings.values n.spelled

  unfoldable pub position_at : Ty → Option ℕ
  position_at t = position_of (exact_of (port_width s.actor s.widths) (value_in s.bindings.values) t)

  -- bits i and j of w, for the `[` at p
  unfoldable pub positions : ℕ → ℕ → Option ℕ → Option ℕ → Extent
  positions p w (some i) (some j) = elim (ltb i w && ltb j w) [ true ↦ wide (range_width i j) | false ↦ faulty (p ∷ []) ]
  positions p w (some i) none = faulty (p ∷ [])
  positions p w none (some j) = faulty (p ∷ [])
  positions p w none none = faulty (p ∷ [])

  module _ (lets : List (Let Extent)) where
    unfoldable pub read_extent : List ℕ → Extent
    read_extent n = elim (let_named lets n) [ some x ↦ used x | none ↦ wide (port_width s.actor s.widths n) ]

    unfoldable pub extent : Expr → Extent
    extent (plain n) = wide (plain_width n.value)
    extent (sized w a) = elim (leb (breadth_of w) limits.expressionWidth) [ true ↦ elim (ltb (amount_of a) (2 ^ breadth_of w)) [ true ↦ wide (breadth_of w) | false ↦ faulty (start (sized w a) ∷ []) ] | false ↦ faulty (start (sized w a) ∷ []) ]
    extent (copies n e) = one_part (extent e) (λ w. limited n.at (n.value * w))
    extent (read n) = read_extent n.spelled
    extent (cell n a) = one_part (extent a) (λ w. wide (memory_width s.actor s.widths n.spelled))
    extent (bit e p i) = one_part (extent e) (λ w. positions p w (position_at i) (position_at i))
    extent (range e p i j) = one_part (extent e) (λ w. positions p w (position_at i) (position_at j))
    extent (inside p e) = extent e
    extent (joined p e) = one_part (extent e) (λ w. limited p w)
    extent (beside a b) = two_parts (extent a) (extent b) (λ m n. wide (m + n))
    extent (unary u e) = one_part (extent e) (λ w. wide (unary_width u.which w))
    extent (binary o a b) = two_parts (extent a) (extent b) (λ m n. limited (start a) (binary_width o m n))
    extent (choice c a b) = two_parts (extent c) (two_parts (extent a) (extent b) (λ m n. wide (max m n))) (λ k w. wide w)
    extent (either p c a b) = two_parts (extent c) (two_parts (extent a) (extent b) (λ m n. wide (max m n))) (λ k w. wide w)
    extent (select p e a) = two_parts (extent e) (extent a) (λ k w. wide w)
    extent (arm n e r) = two_parts (extent e) (extent r) (λ m w. wide (max m w))
    extent (default p e) = extent e

    -- "A value narrower than its target is filled with zeros; a wider one is refused."
    unfoldable pub fitted : ℕ → Expr → Extent
    fitted w e = one_part (extent e) (λ v. elim (leb v w) [ true ↦ wide w | false ↦ faulty (start e ∷ []) ])

  -- "A `let`'s type, 64 at most (else 11 at its name), is its target."
  unfoldable pub val_extent : List (Let Extent) → Val → Extent
  val_extent lets v =
      elim v.type [
        | untyped ↦ extent lets v.value
        | Declared.typed t ↦ two_parts (limited v.called.at (type_width s.actor s.bindings s.widths t)) (fitted lets (type_width s.actor s.bindings s.widths t) v.value) (λ k w. wide w)
      ]

  unfoldable pub val_lets : List (Let Extent) → List Val → List (Let Extent)
  val_lets lets [] = lets
  val_lets lets (v ∷ vs) = val_lets (record { called = v.called.spelled; holds = val_extent lets v } ∷ lets) vs

  unfoldable pub val_sizes : List (Let Extent) → List Val → List ℕ
  val_sizes lets [] = []
  val_sizes lets (v ∷ vs) = faults_of (val_extent lets v) ++ val_sizes (record { called = v.called.spelled; holds = val_extent lets v } ∷ lets) vs

  unfoldable pub assignment_sizes : List (Let Extent) → Assignment → List ℕ
  assignment_sizes lets (assign n e) = faults_of (fitted lets (port_width s.actor s.widths n.spelled) e)
  assignment_sizes lets (write n a e) = faults_of (extent lets a) ++ faults_of (fitted lets (memory_width s.actor s.widths n.spelled) e)

  unfoldable pub statement_sizes : Statement → List ℕ
  statement_sizes (alone x) = assignment_sizes [] x
  statement_sizes (scoped vs l) = val_sizes [] vs ++ each (assignment_sizes (val_lets [] vs)) l

  unfoldable pub size_faults : List ℕ
  size_faults = each statement_sizes (statements s.actor)
