-- What reading gives of an actor that it accepts: no fault of rows 6 to 12. Assumes nothing: these are definitions.
use Rattle.std.specs.Prelude.{◌≡◌, List, [], ◌≤◌}
use Rattle.language.specs.Words.{Word, num, name, digits, fixed}
use Rattle.language.specs.Tree.{Actor}
use Rattle.language.specs.Limits.{limits}
use Rattle.language.specs.Parts.{each, actor_items, types}
use Rattle.language.specs.Names.{name_faults}
use Rattle.language.specs.Counts.{limit_faults}
use Rattle.language.specs.Types.{type_faults}
use Rattle.language.specs.Widths.{strangers, unsettled, Least}
use Rattle.language.specs.Sizes.{Setting, size_faults}
use Rattle.language.specs.Presence.{presence_faults}
use Rattle.placed.specs.Worded.{Worded}
use Rattle.plan_of.specs.Formed.{Formed}

pub record Accepted (ws : List Word) (s : Setting) : Type 0 where
  pub names : name_faults s.actor ≡ []
  pub limited : limit_faults ws s.actor ≡ []
  pub typed : each type_faults (types (actor_items s.actor)) ≡ []
  pub known : strangers s.actor s.bindings ≡ []
  pub settled : unsettled s.actor s.bindings ≡ []
  pub least : Least s.actor s.bindings s.widths
  pub sized : size_faults s ≡ []
  pub present : presence_faults s.actor ≡ []

-- what the grammar gives of an actor and its words
pub record Grammatical (ws : List Word) (a : Actor) : Type 0 where
  pub formed : Formed a
  pub worded : Worded ws a

-- "Plain numbers are decimal, at most 4,294,967,295."
abbrev pub NumberWord : Word → Type 0
NumberWord (num n) = n.value ≤ limits.number
NumberWord (name n) = Unit {0}
NumberWord (digits n) = Unit {0}
NumberWord (fixed s p) = Unit {0}
