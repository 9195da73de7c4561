-- A type with its names resolved: the tree, its code, its value, and the rules of rows 7 and 8 that keep its value small. Assumes nothing: these are definitions.
use Rattle.std.specs.Prelude.{◌≡◌, List, [], ◌∷◌, ◌++◌, ℕ, ◌+◌, ◌*◌, ◌≤◌, ◌<◌, length, get_or}
use Rattle.language.specs.declared.Exact.{Exact}
use Rattle.language.specs.Limits.{limits}
use Rattle.language.specs.Tree.{Ty}
use Rattle.language.specs.Types.{whole_of, log_of, plus_of, minus_of, greater_of, floor_of, ceil_of, width_of}

-- `port i` is the width of unknown i; `greater` joins two entries of a `max`
pub data Term : Type 0 where
  number port : ℕ → Term
  log floor ceil : Term → Term
  plus minus greater : Term → Term → Term

-- in code each node stands after its operands, as its kind and 8 times its argument
unfoldable pub code : Term → List ℕ
code (number n) = (n * 8) ∷ []
code (port i) = (i * 8 + 1) ∷ []
code (log t) = code t ++ (2 ∷ [])
code (floor t) = code t ++ (3 ∷ [])
code (ceil t) = code t ++ (4 ∷ [])
code (plus s t) = code s ++ (code t ++ (5 ∷ []))
code (minus s t) = code s ++ (code t ++ (6 ∷ []))
code (greater s t) = code s ++ (code t ++ (7 ∷ []))

-- the value where the unknowns have the widths ws
unfoldable pub value_at : List ℕ → Term → Exact
value_at ws (number n) = whole_of n 0
value_at ws (port i) = whole_of (get_or ws i 0) 0
value_at ws (log t) = log_of (width_of (value_at ws t))
value_at ws (floor t) = floor_of (value_at ws t)
value_at ws (ceil t) = ceil_of (value_at ws t)
value_at ws (plus s t) = plus_of (value_at ws s) (value_at ws t)
value_at ws (minus s t) = minus_of (value_at ws s) (value_at ws t)
value_at ws (greater s t) = greater_of (value_at ws s) (value_at ws t)

-- a type of the text, where `place` says which unknown a port's name is and `values` what an environment name stands for
module _ (place values : List ℕ → ℕ) where
  -- its names resolved; `max` and parentheses leave no node of their own
  unfoldable pub resolve : Ty → Term
  resolve (Ty.number n) = number n.value
  resolve (Ty.environment n) = number (values n.spelled)
  resolve (Ty.port n) = port (place n.spelled)
  resolve (Ty.plus s t) = plus (resolve s) (resolve t)
  resolve (Ty.minus s t) = minus (resolve s) (resolve t)
  resolve (Ty.log p t) = log (resolve t)
  resolve (Ty.ceil p t) = ceil (resolve t)
  resolve (Ty.floor p t) = floor (resolve t)
  resolve (Ty.most p t) = resolve t
  resolve (Ty.entry s t) = greater (resolve s) (resolve t)
  resolve (Ty.within p t) = resolve t

-- ---- rows 7 and 8

-- how many logs stand together, outside `floor` and `ceil`
unfoldable pub logs_in : Term → ℕ
logs_in (number n) = 0
logs_in (port i) = 0
logs_in (log t) = 1 + logs_in t
logs_in (floor t) = 0
logs_in (ceil t) = 0
logs_in (plus s t) = logs_in s + logs_in t
logs_in (minus s t) = logs_in s + logs_in t
logs_in (greater s t) = logs_in s + logs_in t

-- no port's type stands in it
abbrev pub Closed : Term → Type 0
Closed (number n) = Unit {0}
Closed (port i) = ⊥
Closed (log t) = Closed t
Closed (floor t) = Closed t
Closed (ceil t) = Closed t
Closed (plus s t) = Closed s × Closed t
Closed (minus s t) = Closed s × Closed t
Closed (greater s t) = Closed s × Closed t

-- numbers to 65,535; n unknowns; after `-` no port's type; in a log's argument no log outside `floor` and `ceil`, of which two stand within one of these
abbrev pub Fine : ℕ → Term → Type 0
Fine n (number k) = k ≤ limits.typeNumber
Fine n (port i) = i < n
Fine n (log t) = Fine n t × (logs_in t ≡ 0)
Fine n (floor t) = Fine n t × (logs_in t ≤ 2)
Fine n (ceil t) = Fine n t × (logs_in t ≤ 2)
Fine n (plus s t) = Fine n s × Fine n t
Fine n (minus s t) = Fine n s × Fine n t × Closed t
Fine n (greater s t) = Fine n s × Fine n t

-- a whole type that keeps the rules, over n unknowns
pub record TypeOf (n : ℕ) (t : Term) : Type 0 where
  pub fine : Fine n t
  pub two : logs_in t ≤ 2
  pub short : length (code t) ≤ limits.typeWords

-- widths that no type of these overflows with
abbrev pub Small : List ℕ → Type 0
Small ws = (i : ℕ) → get_or ws i 0 ≤ limits.typeNumber
