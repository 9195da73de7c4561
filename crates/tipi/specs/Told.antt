-- What `read` answers and writes, by the answer that document 01 gives. Assumes nothing: these are definitions.
use Rattle.std.specs.Prelude.{◌≡◌, List, [], ℕ, ◌*◌, take}
use Rattle.std.proofs.Math.Option.{Option, some}
use Rattle.language.specs.Words.{Word}
use Rattle.language.specs.Tree.{Actor}
use Rattle.language.specs.Bindings.{Bindings}
use Rattle.language.specs.Widths.{strangers, unsettled, Resolved, Least}
use Rattle.language.specs.Sizes.{Setting}
use Rattle.language.specs.Reading as Reading
use Rattle.language.specs.Reading.{Early, stopped, through, refused, accepted, judged, Reads, late}
use Rattle.language.specs.declared.Text.{Text}
use Rattle.plan_of.specs.PlanOf.{plan_of}
use Rattle.plan_of.specs.Accepted.{Grammatical}
use Rattle.bindings.specs.declared.bound.Bound.{Bound}
use Rattle.row10_widths.specs.Row.{Passed, Asked}
use Rattle.settled.specs.Settled.{settled_of}
use Rattle.row13_plan.specs.Made.{table_after as table_with}
use Rattle.plan_answer.specs.Answered.{Answer}
use Rattle.plan_answer.specs.Answered.{Refused}
use Rattle.plan_answer.specs.Answered.{made_of}
use Rattle.early_rows.specs.Verdicts.{TextsHeld}

unfoldable pub answer_of : Reading.Answer → List ℕ → Answer
answer_of (refused n t p) table = Refused n t p
answer_of (accepted s) table = made_of (plan_of s) table

unfoldable pub table_after : Reading.Answer → List ℕ → List ℕ
table_after (refused n t p) table = table
table_after (accepted s) table = table_with (plan_of s) table

-- the answer and the table are those of what document 01 reads out of the two texts
pub record Told (x : Reading.Answer) (r : Answer) (before after : List ℕ) : Type 0 where
  pub answer : r ≡ answer_of x before
  pub table : after ≡ table_after x before

pub record Read (text bindings : List ℕ) (r : Answer) (before after : List ℕ) : Type 0 where
  pub what : Reading.Answer
  pub reads : Reads text bindings what
  pub told : Told what r before after

-- ---- of its parts

-- what comes of rows 1 to 9: their refusal, or what rows 10 to 12 say
pub data Follows : Early → Reading.Answer → Type 0 where
  stops : {n p : ℕ} {t : Text} → Follows (stopped n t p) (refused n t p)
  goes : {a : Actor} {b : Bindings} (ws : Option (List ℕ)) → Resolved a b ws → Follows (through a b) (late a b ws)

pub record After (e : Early) (r : Answer) (before after : List ℕ) : Type 0 where
  pub what : Reading.Answer
  pub follows : Follows e what
  pub told : Told what r before after

-- with no fault of rows 6 to 9
pub record Heard (text t : List ℕ) (n : ℕ) (bound : Bound) (ws : List Word) (a : Actor) (b : Bindings) : Type 0 where
  pub asked : Asked text t n bound ws a b
  pub known : strangers a b ≡ []
  pub settled : unsettled a b ≡ []

-- the answer is that of the actor and the bindings that they hold: of rows 6 to 13, of rows 10 to 13, and of rows 11 to 13 at these widths
abbrev pub JudgedTold : (text t : List ℕ) (n : ℕ) → Bound → Answer → (before after : List ℕ) → Type 0
JudgedTold text t n bound r before after = (ws : List Word) (a : Actor) (b : Bindings) → TextsHeld text t n bound ws a b → After (judged ws a b) r before after

abbrev pub PlannedTold : (text t : List ℕ) (n : ℕ) → Bound → Answer → (before after : List ℕ) → Type 0
PlannedTold text t n bound r before after = (ws : List Word) (a : Actor) (b : Bindings) → Heard text t n bound ws a b → After (through a b) r before after

abbrev pub SizedTold : (text t : List ℕ) (n : ℕ) → Bound → (widths : List ℕ) → Answer → (before after : List ℕ) → Type 0
SizedTold text t n bound widths r before after =
    (ws : List Word) (a : Actor) (b : Bindings) → Heard text t n bound ws a b → Least a b widths → Told (late a b (some widths)) r before after

-- the first items of a table are those of a setting with no fault before row 11
pub record Settled (items : List ℕ) (many : ℕ) (ws : List Word) (s : Setting) : Type 0 where
  pub grammatical : Grammatical ws s.actor
  pub passed : Passed ws s.actor
  pub known : strangers s.actor s.bindings ≡ []
  pub settled : unsettled s.actor s.bindings ≡ []
  pub least : Least s.actor s.bindings s.widths
  pub holds : take (6 * many) items ≡ settled_of s

-- rows 11 and 12
abbrev pub late_of : Setting → Reading.Answer
late_of s = late s.actor s.bindings (some s.widths)
