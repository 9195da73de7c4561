-- What the functions of row 9 answer. Assumes nothing: these are definitions.
use Rattle.std.specs.Prelude.{◌≡◌, List, ◌++◌, ℕ, ◌-◌}
use Rattle.language.specs.Text.{earliest}
use Rattle.language.specs.Words.{Word}
use Rattle.language.specs.Tree.{Actor}
use Rattle.language.specs.Names.{missing}
use Rattle.language.specs.Bindings.{Bindings}
use Rattle.language.specs.Widths.{bound_names}
use Rattle.words.specs.Found.{place_told}
use Rattle.words.specs.Found.{Place}
use Rattle.tape.specs.Row.{Tells}
use Rattle.tape.specs.Walk.{between}
use Rattle.tape.specs.declared.Class.{Class}
use Rattle.bindings.specs.declared.bound.Bound.{Bound}
use Rattle.row09_bindings.specs.Lines.{lines_on, Binds}

-- the earliest of a place, which is that of some faults, and of the lines, from one on and before another, whose name no item of a class has
abbrev pub StrangeTold : (text t : List ℕ) (many : ℕ) → Class → Bound → (from to : ℕ) (rest r : Place) → Type 0
StrangeTold text t many class bound from to rest r =
    let strange = missing (between text t class 0 many) (bound_names (lines_on bound.text.now bound.table.now from (to - from))) in
    (ps : List ℕ) → rest ≡ place_told (earliest ps) → r ≡ place_told (earliest (strange ++ ps))

-- the earliest of the faults, one half of row 9's, of the actor and the bindings that tape and table hold
abbrev pub FaultsTold : (text t : List ℕ) (n : ℕ) → Bound → (faults : Actor → Bindings → List ℕ) → Place → Type 0
FaultsTold text t n bound faults r =
    (ws : List Word) (a : Actor) (b : Bindings) → Tells text t n ws a → Binds bound.text.now bound.table.now bound.lines b → r ≡ place_told (earliest (faults a b))
