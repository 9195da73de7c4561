-- Row 8 by the items of a tape: what the items after one say of its place, how many logs stand before it, and the test of it by both. Assumes nothing: these are definitions.
use Rattle.std.specs.Prelude.{Bool, true, false, not, ◌||◌, ◌&&◌, List, [], ◌∷◌, ℕ, zero, suc, ◌+◌, ◌-◌, ◌*◌, leb, take, drop}
use Rattle.language.specs.Limits.{limits}
use Rattle.language.specs.Types.{together}
use Rattle.tape.specs.Nodes.{node_of}
use Rattle.tape.specs.Tape.{one_if}
use Rattle.tape.specs.Walk.{op_at, value_at, marked}
use Rattle.tape.specs.declared.Node.{Node}
use Rattle.tape.specs.declared.Node.TheVariants.{Number, Name, Port, Join, Minus, Log, Whole, Most, Within, Other}
use Rattle.row08_types.specs.declared.Around.{Around}
use Rattle.row08_types.specs.declared.Count.{Count}

unfoldable pub is_type : Node → Bool
is_type Number = true
is_type Name = true
is_type Port = true
is_type Join = true
is_type Minus = true
is_type Log = true
is_type Whole = true
is_type Most = true
is_type Within = true
is_type Other = false

unfoldable pub is_zero : ℕ → Bool
is_zero zero = true
is_zero (suc n) = false

-- ---- forward: where a type stands

abbrev pub place : (low after inLog : Bool) → ℕ → (near : Bool) → Around
place l a i n w = record { low = l; after = a; in_log = i; lefts = n; near = w }

-- at the top
abbrev pub bare : Around
bare = place false false false 0 true

-- what the item that holds a type says of it; where it joins two, of the second
unfoldable pub outer_of : Around → Node → Around
outer_of s Number = s
outer_of s Name = s
outer_of s Port = s
outer_of s Join = place s.low s.after s.in_log (s.lefts + one_if s.near) s.near
outer_of s Minus = place true true s.in_log (s.lefts + one_if s.near) s.near
outer_of s Log = place true s.after (s.in_log || s.near) s.lefts s.near
outer_of s Whole = place true s.after s.in_log s.lefts false
outer_of s Most = place true s.after s.in_log s.lefts s.near
outer_of s Within = s
outer_of s Other = s

-- an item holds the type where no other waits between them
unfoldable pub outward_of : ℕ → Around → Node → Around
outward_of n s k = elim (is_zero n) [ true ↦ outer_of s k | false ↦ s ]

-- how many types wait after one more item
unfoldable pub waiting_of : ℕ → Node → ℕ
waiting_of n Number = n + 1
waiting_of n Name = n + 1
waiting_of n Port = n + 1
waiting_of n Join = n - 1
waiting_of n Minus = n - 1
waiting_of n Log = n
waiting_of n Whole = n
waiting_of n Most = n
waiting_of n Within = n
waiting_of n Other = n

-- the items of types that come next, to the first other one
unfoldable pub seen_from : ℕ → Around → List ℕ → Around
seen_from n s [] = s
seen_from n s (o ∷ []) = s
seen_from n s (o ∷ p ∷ []) = s
seen_from n s (o ∷ p ∷ v ∷ l) = elim (is_type (node_of o)) [ true ↦ seen_from (waiting_of n (node_of o)) (outward_of n s (node_of o)) l | false ↦ s ]

-- ---- back: the logs of the types before

abbrev pub tally : (aside need logs : ℕ) → Count
tally a n c = record { aside = a; need = n; logs = c }

-- how many types are still to come before an item
unfoldable pub coming_of : ℕ → Node → ℕ
coming_of n Number = n - 1
coming_of n Name = n - 1
coming_of n Port = n - 1
coming_of n Join = n + 1
coming_of n Minus = n + 1
coming_of n Log = n
coming_of n Whole = n
coming_of n Most = n
coming_of n Within = n
coming_of n Other = n

unfoldable pub count_in : Count → Node → Count
count_in s Number = tally 0 (s.need - 1) s.logs
count_in s Name = tally 0 (s.need - 1) s.logs
count_in s Port = tally 0 (s.need - 1) s.logs
count_in s Join = tally 0 (s.need + 1) s.logs
count_in s Minus = tally 0 (s.need + 1) s.logs
count_in s Log = tally 0 s.need (s.logs + 1)
count_in s Whole = tally 1 (s.need - 1) s.logs
count_in s Most = tally 0 s.need s.logs
count_in s Within = tally 0 s.need s.logs
count_in s Other = tally 0 s.need s.logs

unfoldable pub counted_of : Count → Node → Count
counted_of s k = elim (is_zero s.aside) [ true ↦ count_in s k | false ↦ tally (coming_of s.aside k) s.need s.logs ]

-- no type is to come
unfoldable pub is_done : Count → Bool
is_done s = is_zero s.aside && is_zero s.need

-- the kinds of items, the last one first, as far as types are to come
unfoldable pub logs_over : Count → List Node → ℕ
logs_over s [] = s.logs
logs_over s (k ∷ ks) = elim (is_done s) [ true ↦ s.logs | false ↦ logs_over (counted_of s k) ks ]

-- one type passed over, and so many counted in
abbrev pub passing : ℕ → Count
passing n = tally 1 n 0

unfoldable pub nodes_before : List ℕ → ℕ → List Node
nodes_before t zero = []
nodes_before t (suc i) = node_of (op_at t i) ∷ nodes_before t i

-- ---- the test of an item, by the kinds before it and its place

unfoldable pub log_faulty : List Node → Around → Bool
log_faulty ks s = s.in_log || leb together (logs_over (passing s.lefts) ks)

unfoldable pub test : List Node → Node → ℕ → Around → Bool
test ks Number v s = not (leb v limits.typeNumber)
test ks Name v s = false
test ks Port v s = s.after
test ks Join v s = false
test ks Minus v s = false
test ks Log v s = log_faulty ks s
test ks Whole v s = false
test ks Most v s = s.low
test ks Within v s = false
test ks Other v s = false

abbrev pub faulty : (t : List ℕ) → (n i : ℕ) → Bool
faulty t n i = test (nodes_before t i) (node_of (op_at t i)) (value_at t i) (seen_from 0 bare (drop (3 * (i + 1)) (take n t)))

-- the places of the faulty items among the first i
abbrev pub faults_at : (t : List ℕ) → (n i : ℕ) → List ℕ
faults_at t n i = marked (faulty t n) t i
