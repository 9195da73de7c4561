-- What is proved of the program: what it writes for an input. Assumes nothing: these are definitions. proofs/Worked.antt proves that for every input shorter than 2^64 - 1 bytes
-- what the machine writes is `Worked` (`worked`), and that `Worked` allows some output (`worked_some`) and no second one (`worked_once`).
use Rattle.std.specs.Prelude.{◌≡◌, List, [], ◌∷◌, ℕ, ◌≤◌, ◌<◌, length}
use Rattle.language.specs.Bindings.{got}
use Rattle.language.specs.Reading.{accepted, Reads}
use Rattle.language.specs.Sizes.{Setting}
use Rattle.language.specs.Worked.{line, Input, input_of, Writes}
use Rattle.plan_of.specs.PlanOf.{plan_of}
use Rattle.tipirun.specs.Machine.{room}

-- where the two texts of the input are accepted, their plan has room
pub record HasRoom (input : List ℕ) : Type 0 where
  pub fits : {i : Input} {r : List ℕ} (s : Setting) → input_of input ≡ got i r → Reads i.actor i.bindings (accepted s) → length (plan_of s) ≤ room

-- what document 01 says of the input where the plan has room, and row 13 where it has none
pub data Worked (input out : List ℕ) : Type 0 where
  as_01 : HasRoom input → Writes input out → Worked input out
  row_13 : {i : Input} {r : List ℕ} (s : Setting) → input_of input ≡ got i r → Reads i.actor i.bindings (accepted s) → room < length (plan_of s) → out ≡ line (13 ∷ 0 ∷ []) → Worked input out
