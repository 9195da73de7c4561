-- What the walk over an actor's settled items comes to: the statement. Assumes nothing: these are definitions.
use Rattle.std.specs.Prelude.{◌≡◌, List, [], ◌∷◌, length}
use Rattle.language.specs.Text.{earliest}
use Rattle.language.specs.Words.{Word}
use Rattle.language.specs.Parts.{each}
use Rattle.language.specs.Counts.{limit_faults, rules_of}
use Rattle.language.specs.Widths.{Least}
use Rattle.language.specs.Sizes.{Setting, size_faults}
use Rattle.words.specs.Found.{place_told}
use Rattle.plan_of.specs.PlanOf.{rule_code}
use Rattle.plan_of.specs.Accepted.{Grammatical}
use Rattle.settled.specs.Settled.{settled_of}
use Rattle.size_walk.specs.Steps.{walk, begin}

-- what comes before row 11: the grammar, the limits of row 7, the widths of row 10
pub record Measured (ws : List Word) (s : Setting) : Type 0 where
  pub grammatical : Grammatical ws s.actor
  pub limited : limit_faults ws s.actor ≡ []
  pub least : Least s.actor s.bindings s.widths

-- the walk's first fault is the earliest of row 11's; where there is none, its code is that of the plan, rule by rule
pub record Sized (s : Setting) : Type 0 where
  pub first : (walk begin (settled_of s)).first ≡ place_told (earliest (size_faults s))
  pub code : size_faults s ≡ [] → (walk begin (settled_of s)).code ≡ each (rule_code s) (rules_of s.actor)
  pub lengths : size_faults s ≡ [] → (walk begin (settled_of s)).lengths ≡ each (λ r. length (rule_code s r) ∷ []) (rules_of s.actor)
