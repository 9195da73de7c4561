-- What row 13 makes of an actor's settled items, with what row 11's walk over them leaves: the statement. Assumes nothing: these are definitions.
use Rattle.std.specs.Prelude.{◌≡◌}
use Rattle.language.specs.Sizes.{Setting}
use Rattle.plan_of.specs.PlanOf.{plan_of}
use Rattle.settled.specs.Settled.{settled_of}
use Rattle.size_walk.specs.Steps.{walk, begin}
use Rattle.row13_plan.specs.Made.{plan_in}
use Rattle.section_items.specs.Items.{items_of}

-- it is the actor's plan
abbrev pub Made : Setting → Type 0
Made s = plan_in (items_of (settled_of s)) (walk begin (settled_of s)).code (walk begin (settled_of s)).lengths ≡ plan_of s
