-- The least widths, from 0 to 32, of unknowns that are each to equal its type's value. Assumes nothing: these are definitions.
use Rattle.std.specs.Prelude.{◌≡◌, Bool, true, false, List, map, ℕ, ◌≤◌, ◌<◌, length, get_or, replicate}
use Rattle.language.specs.Limits.{limits}
use Rattle.language.specs.Text.{index}
use Rattle.language.specs.Tree.{Actor, spelled_of}
use Rattle.language.specs.Bindings.{Bindings}
use Rattle.language.specs.Types.{width_of}
use Rattle.language.specs.Widths.{Want, exactly, valued, wants, value_in}
use Rattle.type_value.specs.Terms.{Term, number, value_at, resolve, TypeOf}
use Rattle.type_value.specs.Walk.{TermStands}

-- what the type of unknown i comes to at the widths ws
unfoldable pub wanted : List Term → List ℕ → ℕ → ℕ
wanted ts ws i = width_of (value_at ws (get_or ts i (number 0)))

-- widths from 0 to 32 that each equal its type's value
pub record Solves (ts : List Term) (ws : List ℕ) : Type 0 where
  pub long : length ws ≡ length ts
  pub small : (i : ℕ) → get_or ws i 0 ≤ limits.width
  pub holds : (i : ℕ) → i < length ts → get_or ws i 0 ≡ wanted ts ws i

-- of these, the least in each place
pub record Lowest (ts : List Term) (ws : List ℕ) : Type 0 where
  pub solves : Solves ts ws
  pub least : (vs : List ℕ) → Solves ts vs → (i : ℕ) → get_or ws i 0 ≤ get_or vs i 0

-- found: the least widths; not found: there are none, and every cell is 0
abbrev pub Answer : Bool → List Term → List ℕ → Type 0
Answer true ts ws = Lowest ts ws
Answer false ts ws = ((vs : List ℕ) → Solves ts vs → ⊥) × (ws ≡ replicate (length ts) 0)

-- the types ts in code, the i-th from the i-th start to the i-th end
pub record Coded (ts : List Term) (code starts ends : List ℕ) : Type 0 where
  pub count : length starts ≡ length ts
  pub counted : length ends ≡ length ts
  pub each : (i : ℕ) → i < length ts → TermStands (get_or ts i (number 0)) code (get_or starts i 0) (get_or ends i 0)
  pub right : (i : ℕ) → i < length ts → TypeOf (length ts) (get_or ts i (number 0))

-- ---- an actor's wants as types of unknowns: the ports of the signature, and then the memories. A bound width is a number.

-- the type of one want
unfoldable pub term_of : Actor → Bindings → Want → Term
term_of a b (exactly w) = number w
term_of a b (valued t) = resolve (index (spelled_of a.signature)) (value_in b.values) t

-- those of all wants
unfoldable pub terms_of : Actor → Bindings → List Term
terms_of a b = map (term_of a b) (wants a b)
