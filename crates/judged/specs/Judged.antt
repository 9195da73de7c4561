-- What is known of a cycle before anything is run, in the shape of the code. Assumes nothing: these are definitions.
use Rattle.std.specs.Prelude.{true, false, List, [], ◌∷◌, ℕ, take, Result, Ok, Err}
use Rattle.plan.specs.Layout.{group_count}
use Rattle.judged.specs.declared.Refusal.{Refusal}
use Rattle.judged.specs.declared.Refusal.TheVariants.{Unfit, Unmatched, Ambiguous}
use Rattle.judged.specs.Answers.{number_of}
use Rattle.judged.specs.Groups.{Fired, fired, unfired, firing}
use Rattle.judged.specs.Tests.{fitting}

-- "23 no rule matches, 24 two or more match": of those of a group that match
abbrev pub only_of : List ℕ → Result ℕ Refusal
only_of [] = Err Unmatched
only_of (r ∷ []) = Ok r
only_of (r ∷ q ∷ l) = Err Ambiguous

-- the rules that fire, or the number of the first test that fails
unfoldable pub judged : (p : List ℕ) (mask : ℕ) (values memory : List ℕ) → Fired p
judged p mask values memory = elim (fitting p mask values memory) [ true ↦ firing p mask 0 (group_count p) | false ↦ unfired (number_of Unfit) ]

-- what the code's word for it stands for, with the table of the rules that fire
abbrev pub judged_as : (p : List ℕ) → Result (Unit {0}) Refusal → List ℕ → Fired p
judged_as p (Ok u) l = fired (take (group_count p) l)
judged_as p (Err e) l = unfired (number_of e)
