-- Counts and texts as they are read, byte by byte. Assumes nothing: these are definitions.
use Rattle.std.specs.Prelude.{true, false, None, Some, ℕ, ◌+◌, ◌-◌, eqb, ltb}
use Rattle.figures.specs.declared.Stage.{Stage}
use Rattle.figures.specs.declared.Stage.TheVariants.{Actor, Bindings}
use Rattle.figures.specs.declared.State.{State}
use Rattle.figures.specs.States.{start_of, wrong_of, takes_of, longer_of}

-- ---- counts

-- a count, after which the stage g starts
unfoldable pub count_byte : Stage → State → ℕ → State
count_byte g s b =
    elim (takes_of s b) [
      | true ↦ longer_of s b
      | false ↦ elim s.number [ Some n ↦ elim (eqb b 10) [ true ↦ start_of s g n | false ↦ wrong_of s ] | None ↦ wrong_of s ]
    ]

-- ---- texts: k bytes are kept, in a table of n

unfoldable pub kept_of : ℕ → ℕ → ℕ
kept_of k n = elim (ltb k n) [ true ↦ k + 1 | false ↦ k ]

unfoldable pub actor_byte : State → ℕ → State
actor_byte s n = record { stage = Actor; number = None; left = s.left - 1; port = 0; mask = s.mask; actor = kept_of s.actor n; bindings = s.bindings; plan = s.plan; at = s.at }

unfoldable pub bindings_byte : State → ℕ → State
bindings_byte s n = record { stage = Bindings; number = None; left = s.left - 1; port = 0; mask = s.mask; actor = s.actor; bindings = kept_of s.bindings n; plan = s.plan; at = s.at }
