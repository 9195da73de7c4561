-- 01, "Widths": the value of a type, in whole numbers, and row 8. Assumes nothing: these are definitions.
use Rattle.std.specs.Prelude.{◌≡◌, Bool, true, false, not, List, [], ◌∷◌, ◌++◌, ℕ, zero, suc, ◌+◌, ◌-◌, ◌*◌, ◌/◌, ◌^◌, ◌≤◌, max, eqb, leb, drop}
use Rattle.std.proofs.Math.Option.{Option, none, some}
use Rattle.language.specs.Text.{Name}
use Rattle.language.specs.Tree.{Ty, number, environment, port, plus, minus, log, ceil, floor, most, entry, within}
use Rattle.language.specs.Limits.{limits}
use Rattle.language.specs.Names.{when}
use Rattle.language.specs.declared.Exact.{Exact}

-- ---- "let the terms without a log come to k, the arguments of the added logs multiply to A and those of the subtracted ones to B"
-- k is `up` less `down`: the added and the subtracted terms apart, so that nothing is below zero.

-- `floor_of`, `ceil_of` and `width_of` below are proved to be what this sentence says, in the crate `typing`.
-- "The value is at least w exactly when 2^k times A is at least 2^w times B, and at most w likewise, both exponents raised alike where one is negative"
abbrev pub IsAtLeast : Exact → ℕ → Type 0
IsAtLeast x w = 2 ^ (w + x.down) * x.b ≤ 2 ^ x.up * x.a

abbrev pub IsAtMost : Exact → ℕ → Type 0
IsAtMost x w = 2 ^ x.up * x.a ≤ 2 ^ (w + x.down) * x.b

abbrev pub whole_of : ℕ → ℕ → Exact
whole_of u d = record { up = u; down = d; a = 1; b = 1 }

-- "an argument below 2 counting as 2"
abbrev pub log_of : ℕ → Exact
log_of n = record { up = 0; down = 0; a = max 2 n; b = 1 }

abbrev pub plus_of : Exact → Exact → Exact
plus_of x y = record { up = x.up + y.up; down = x.down + y.down; a = x.a * y.a; b = x.b * y.b }

abbrev pub minus_of : Exact → Exact → Exact
minus_of x y = record { up = x.up + y.down; down = x.down + y.up; a = x.a * y.b; b = x.b * y.a }

-- "a `max` is its greatest entry in its place"
unfoldable pub not_above : Exact → Exact → Bool
not_above x y = leb (2 ^ (x.up + y.down) * (x.a * y.b)) (2 ^ (y.up + x.down) * (y.a * x.b))

unfoldable pub greater_of : Exact → Exact → Exact
greater_of x y = elim (not_above x y) [ true ↦ y | false ↦ x ]

-- the fewest bits that hold n: n is below 2 to that power and to no lower one
unfoldable pub fewest_in : ℕ → ℕ → ℕ
fewest_in zero n = 0
fewest_in (suc f) n = elim (eqb n 0) [ true ↦ 0 | false ↦ suc (fewest_in f (n / 2)) ]

unfoldable pub fewest : ℕ → ℕ
fewest n = fewest_in n n

-- log (a / b) down to a whole number, the greatest t with 2^t b at most a, and up to one, the least t with a at most 2^t b; 0 where that is below 0
unfoldable pub log_down : ℕ → ℕ → ℕ
log_down a b = fewest (a / b) - 1

unfoldable pub log_up : ℕ → ℕ → ℕ
log_up a b = fewest ((a - 1) / b)

unfoldable pub floor_of : Exact → Exact
floor_of x = whole_of (x.up + log_down x.a x.b) (x.down + log_up x.b x.a)

unfoldable pub ceil_of : Exact → Exact
ceil_of x = whole_of (x.up + log_up x.a x.b) (x.down + log_down x.b x.a)

-- "A type's value is floored at the end. .. A declared or constant's width below zero is 0."
unfoldable pub width_of : Exact → ℕ
width_of x = (floor_of x).up - (floor_of x).down

-- "A bit position below zero is a bit outside."
unfoldable pub position_of : Exact → Option ℕ
position_of x = elim (leb (floor_of x).down (floor_of x).up) [ true ↦ some (width_of x) | false ↦ none ]

-- ---- the value of a type, where the ports' widths and the environment's values are known

module _ (widths values : List ℕ → ℕ) where
  unfoldable pub exact_of : Ty → Exact
  exact_of (number n) = whole_of n.value 0
  exact_of (environment n) = whole_of (values n.spelled) 0
  exact_of (port n) = whole_of (widths n.spelled) 0
  exact_of (plus s t) = plus_of (exact_of s) (exact_of t)
  exact_of (minus s t) = minus_of (exact_of s) (exact_of t)
  exact_of (log p t) = log_of (width_of (exact_of t))
  exact_of (ceil p t) = ceil_of (exact_of t)
  exact_of (floor p t) = floor_of (exact_of t)
  exact_of (most p t) = exact_of t
  exact_of (entry s t) = greater_of (exact_of s) (exact_of t)
  exact_of (within p t) = exact_of t

-- ---- row 8: "type rule above broken; number over 65,535 in a type", at that word

-- "At most two logs stand together"
abbrev pub together : ℕ
together = 2

-- the logs that stand outside `floor` and `ceil`
unfoldable pub logs : Ty → List ℕ
logs (number n) = []
logs (environment n) = []
logs (port n) = []
logs (plus s t) = logs s ++ logs t
logs (minus s t) = logs s ++ logs t
logs (log p t) = p ∷ logs t
logs (ceil p t) = []
logs (floor p t) = []
logs (most p t) = logs t
logs (entry s t) = logs s ++ logs t
logs (within p t) = logs t

-- `top`: a `max` may stand here, "first, or after `+`, at the top of a type or in parentheses that stand so; never after `-` nor inside `log`, `ceil`, `floor` or another `max`";
-- `free`: a port's type may: "After `-`, that is in its right operand, no port's type may stand."
-- "A log's argument holds no log outside `floor` and `ceil`. At most two logs stand together within one `floor`, one `ceil`, or the type outside them."
unfoldable pub rules_broken : Bool → Bool → Ty → List ℕ
rules_broken top free (number n) = when (not (leb n.value limits.typeNumber)) n.at
rules_broken top free (environment n) = []
rules_broken top free (port n) = when (not free) n.at
rules_broken top free (plus s t) = rules_broken top free s ++ rules_broken top free t
rules_broken top free (minus s t) = rules_broken top free s ++ rules_broken false false t
rules_broken top free (log p t) = logs t ++ rules_broken false free t
rules_broken top free (ceil p t) = drop together (logs t) ++ rules_broken false free t
rules_broken top free (floor p t) = drop together (logs t) ++ rules_broken false free t
rules_broken top free (most p t) = when (not top) p ++ rules_broken false free t
rules_broken top free (entry s t) = rules_broken top free s ++ rules_broken top free t
rules_broken top free (within p t) = rules_broken top free t

unfoldable pub type_faults : Ty → List ℕ
type_faults t = drop together (logs t) ++ rules_broken true true t
