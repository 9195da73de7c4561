-- 01, "Widths": rows 9 and 10. Which widths satisfy every type, and which of them are the least. Assumes nothing: these are definitions.
use Rattle.std.specs.Prelude.{◌≡◌, Bool, true, false, not, List, [], ◌∷◌, ◌++◌, ℕ, zero, suc, ◌≤◌, ◌<◌, length, get_or}
use Rattle.std.proofs.Math.Option.{Option, none, some}
use Rattle.language.specs.Text.{Name, same, index, among}
use Rattle.language.specs.Limits.{limits}
use Rattle.language.specs.Tree.{Ty, Declared, untyped, Port, Memory, Actor, spelled_of, port_names, memory_names}
use Rattle.language.specs.Parts.{each, environment_names}
use Rattle.language.specs.Names.{when, missing}
use Rattle.language.specs.Types.{exact_of, width_of}
use Rattle.language.specs.Bindings.{Binding, Bindings}

unfoldable pub bound_names : List Binding → List Name
bound_names l = each (λ b. b.called ∷ []) l

-- the value that a list of bindings gives a name; 0 where it gives none
unfoldable pub value_in : List Binding → List ℕ → ℕ
value_in [] s = 0
value_in (b ∷ l) s = elim (same b.called.spelled s) [ true ↦ b.value | false ↦ value_in l s ]

-- ---- row 9

-- "binding that names no port, or no environment name, of the actor (first)": places in the bindings
unfoldable pub strangers : Actor → Bindings → List ℕ
strangers a b = missing (spelled_of (port_names a.ports)) (bound_names b.widths) ++ missing (spelled_of (environment_names a)) (bound_names b.values)

unfoldable pub typeless : Declared → Bool
typeless untyped = true
typeless (Declared.typed t) = false

-- "port or memory with neither type nor binding; environment name without value"; only ports are bound
unfoldable pub unsettled : Actor → Bindings → List ℕ
unsettled a b =
    each (λ p. elim (typeless p.type) [ true ↦ missing (spelled_of (bound_names b.widths)) (p.called ∷ []) | false ↦ [] ]) a.ports
    ++ (each (λ m. when (typeless m.type) m.called.at) a.memories ++ missing (spelled_of (bound_names b.values)) (environment_names a))

-- ---- row 10. Widths are listed for the ports in the order of the signature, and then for the memories.

-- what a width is to equal: a bound width, or the value of a type
pub data Want : Type 0 where
  exactly : ℕ → Want
  valued : Ty → Want

unfoldable pub type_want : Declared → Want
type_want untyped = exactly 0
type_want (Declared.typed t) = valued t

unfoldable pub declared_type : List Port → List ℕ → Declared
declared_type [] s = untyped
declared_type (p ∷ ps) s = elim (same p.called.spelled s) [ true ↦ p.type | false ↦ declared_type ps s ]

-- "A bound width overrides a declared type."
unfoldable pub port_want : Actor → Bindings → List ℕ → Want
port_want a b s = elim (among (spelled_of (bound_names b.widths)) s) [ true ↦ exactly (value_in b.widths s) | false ↦ type_want (declared_type a.ports s) ]

unfoldable pub wants : Actor → Bindings → List Want
wants a b = each (λ n. port_want a b n.spelled ∷ []) a.signature ++ each (λ m. type_want m.type ∷ []) a.memories

-- the width of a port, and of a memory, under its name
unfoldable pub port_width : Actor → List ℕ → List ℕ → ℕ
port_width a ws s = get_or ws (index (spelled_of a.signature) s) 0

unfoldable pub memory_width : Actor → List ℕ → List ℕ → ℕ
memory_width a ws s = get_or ws (index (spelled_of a.signature ++ spelled_of (memory_names a.memories)) s) 0

unfoldable pub type_width : Actor → Bindings → List ℕ → Ty → ℕ
type_width a b ws t = width_of (exact_of (port_width a ws) (value_in b.values) t)

unfoldable pub wanted_width : Actor → Bindings → List ℕ → Want → ℕ
wanted_width a b ws (exactly w) = w
wanted_width a b ws (valued t) = type_width a b ws t

-- "Widths are found for all ports and memories together, each to equal its type's value", from 0 to 32
pub record Satisfies (a : Actor) (b : Bindings) (ws : List ℕ) : Type 0 where
  pub long : length ws ≡ length (wants a b)
  pub small : (i : ℕ) → get_or ws i 0 ≤ limits.width
  pub equal : (i : ℕ) → i < length (wants a b) → get_or ws i 0 ≡ wanted_width a b ws (get_or (wants a b) i (exactly 0))

-- "otherwise the least ones are taken"
pub record Least (a : Actor) (b : Bindings) (ws : List ℕ) : Type 0 where
  pub satisfies : Satisfies a b ws
  pub least : (vs : List ℕ) → Satisfies a b vs → (i : ℕ) → get_or ws i 0 ≤ get_or vs i 0

-- "refusal 10 exactly when no widths from 0 to 32 satisfy every type"
abbrev pub Resolved : Actor → Bindings → Option (List ℕ) → Type 0
Resolved a b (some ws) = Least a b ws
Resolved a b none = (vs : List ℕ) → Satisfies a b vs → ⊥
