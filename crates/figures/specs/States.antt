-- The states of a run, and numbers as they are read, digit by digit. Assumes nothing: these are definitions.
use Rattle.std.specs.Prelude.{Bool, true, false, Option, None, Some, ℕ, ◌+◌, ◌-◌, ◌*◌, min, eqb, leb, ltb}
use Rattle.language.specs.Words.{digit}
use Rattle.figures.specs.declared.Stage.{Stage}
use Rattle.figures.specs.declared.Stage.TheVariants.{ActorCount, Actor, BindingsCount, Bindings, CycleCount, Line, Through, Wrong, Stopped}
use Rattle.figures.specs.declared.State.{State}

-- ---- states that differ from another in a few fields

-- a stage starts, with so much to come
abbrev pub start_of : State → Stage → ℕ → State
start_of s g n = record { stage = g; number = None; left = n; port = 0; mask = s.mask; actor = s.actor; bindings = s.bindings; plan = s.plan; at = s.at }

abbrev pub wrong_of : State → State
wrong_of s = start_of s Wrong 0

abbrev pub grown_of : State → ℕ → State
grown_of s n = record { stage = s.stage; number = Some n; left = s.left; port = s.port; mask = s.mask; actor = s.actor; bindings = s.bindings; plan = s.plan; at = s.at }

abbrev pub port_of : State → ℕ → ℕ → State
port_of s m p = record { stage = Line; number = None; left = s.left; port = p; mask = m; actor = s.actor; bindings = s.bindings; plan = s.plan; at = s.at }

abbrev pub emptied_of : State → State
emptied_of s = record { stage = s.stage; number = s.number; left = s.left; port = s.port; mask = s.mask; actor = s.actor; bindings = s.bindings; plan = s.plan; at = 0 }

abbrev pub begin_of : State
begin_of = record { stage = ActorCount; number = None; left = 0; port = 0; mask = 0; actor = 0; bindings = 0; plan = 0; at = 0 }

-- any byte could still matter
abbrev pub open_of : Stage → Bool
open_of ActorCount = true
open_of Actor = true
open_of BindingsCount = true
open_of Bindings = true
open_of CycleCount = true
open_of Line = true
open_of Through = false
open_of Wrong = false
open_of (Stopped n p) = false

-- ---- numbers: "no leading zeros"; a mask under 2^32, a value under 2^64, a count of any size

unfoldable pub most_of : ℕ → ℕ
most_of p = elim (eqb p 0) [ true ↦ 4_294_967_295 | false ↦ 18_446_744_073_709_551_615 ]

-- the number that its digits so far make
abbrev pub so_far : Option ℕ → ℕ
so_far None = 0
so_far (Some n) = n

unfoldable pub takes_of : State → ℕ → Bool
takes_of s b = elim (digit b) [ false ↦ false | true ↦ elim s.number [ None ↦ true | Some n ↦ ltb 0 n ] ]

unfoldable pub stays_of : State → ℕ → Bool
stays_of s b = leb (so_far s.number * 10 + (b - 48)) (most_of s.port)

unfoldable pub line_takes : State → ℕ → Bool
line_takes s b = elim (takes_of s b) [ true ↦ stays_of s b | false ↦ false ]

-- what is past 64 bits stays at their greatest number
unfoldable pub longer_of : State → ℕ → State
longer_of s b = grown_of s (min (so_far s.number * 10 + (b - 48)) 18_446_744_073_709_551_615)
