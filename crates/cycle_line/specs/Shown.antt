-- The line that is written for a cycle, and the most bytes of it. Assumes nothing: these are definitions.
use Rattle.std.specs.Prelude.{◌≡◌, refl, true, false, List, [], ◌∷◌, ℕ, zero, suc, ◌+◌, ◌*◌, min, eqb, ltb, get_or}
use Rattle.language.specs.Limits.{limits}
use Rattle.language.specs.Worked.{decimal, line}
use Rattle.plan.specs.Layout.{port_count, port_at}
use Rattle.figures.specs.Written.{number_bytes}

-- ---- the most bytes that are written: a number of 64 bits has 20 digits, and a blank or a line end stands beside it

-- the outputs of a cycle, and its line: its answer and the number of its present ports too
abbrev pub outputs_bytes : ℕ
outputs_bytes = 336

abbrev pub line_bytes : ℕ
line_bytes = 378

-- all cells on a line
abbrev pub cells_bytes : ℕ
cells_bytes = 5_377

pub sizes : (outputs_bytes ≡ limits.ports * number_bytes) × (line_bytes ≡ 2 * number_bytes + outputs_bytes) × (cells_bytes ≡ limits.cells * number_bytes + 1)
sizes = (refl, refl, refl)

-- the ports of a plan, as far as the table goes
unfoldable pub ports_of : List ℕ → ℕ
ports_of p = min (port_count p) limits.ports

-- a port's value as it is written, after a blank, if it is an output
unfoldable pub output_of : ℕ → ℕ → List ℕ
output_of kind v = elim (ltb kind 256) [ true ↦ [] | false ↦ 32 ∷ decimal v ]

-- the outputs among k ports from i on
unfoldable pub outputs_from : List ℕ → List ℕ → ℕ → ℕ → List ℕ
outputs_from p o zero i = []
outputs_from p o (suc k) i = elim (ltb (port_at p i) 256) [ true ↦ outputs_from p o k (i + 1) | false ↦ get_or o i 0 ∷ outputs_from p o k (i + 1) ]

-- "answer, present ports and outputs for each cycle, the answer alone if refused"
unfoldable pub shown_of : List ℕ → ℕ → ℕ → List ℕ → List ℕ
shown_of p answer count o = elim (eqb answer 0) [ true ↦ line (answer ∷ count ∷ outputs_from p o (ports_of p) 0) | false ↦ line (answer ∷ []) ]
