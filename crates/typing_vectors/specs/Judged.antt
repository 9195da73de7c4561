-- A code that keeps the rules of rows 7 and 8, judged node by node: a mark for each type that waits. Assumes nothing: these are definitions.
use Rattle.std.specs.Prelude.{◌≡◌, List, [], ◌∷◌, ◌++◌, ℕ, zero, suc, ◌+◌, ◌*◌, max, get_or}
use Rattle.type_value.specs.Terms.{Term, number, port, log, floor, ceil, plus, minus, greater, code, logs_in, Fine}

-- 1 where a port stands outside the right operands of `-`
unfoldable pub has_port : Term → ℕ
has_port (number n) = 0
has_port (port i) = 1
has_port (log t) = has_port t
has_port (floor t) = has_port t
has_port (ceil t) = has_port t
has_port (plus s t) = max (has_port s) (has_port t)
has_port (minus s t) = has_port s
has_port (greater s t) = max (has_port s) (has_port t)

-- a type over n unknowns that keeps the rules, with its mark, twice the logs that stand together and its `has_port`, and with its code
pub record Judged (n : ℕ) (t : Term) (m : ℕ) (ks : List ℕ) : Type 0 where
  pub fine : Fine n t
  pub is : logs_in t * 2 + has_port t ≡ m
  pub coded : code t ≡ ks

-- the types that wait, the last one first, with their marks in the first k cells; together their code is ks
unfoldable pub codes : List Term → List ℕ
codes [] = []
codes (t ∷ ts) = codes ts ++ code t

abbrev pub Marked : ℕ → List ℕ → ℕ → List Term → Type 0
Marked n l zero [] = Unit {0}
Marked n l zero (t ∷ ts) = ⊥
Marked n l (suc k) [] = ⊥
Marked n l (suc k) (t ∷ ts) = Judged n t (get_or l k 0) (code t) × Marked n l k ts

abbrev pub Held : ℕ → List ℕ → ℕ → List ℕ → Type 0
Held n l k ks = (ts : List Term) × Marked n l k ts × (codes ts ≡ ks)
