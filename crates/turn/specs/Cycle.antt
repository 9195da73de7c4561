-- What a plan does in a cycle, on lists. Assumes nothing: these are definitions.
use Rattle.std.specs.Prelude.{true, false, List, [], ℕ, replicate}
use Rattle.language.specs.Values.{ones_of}
use Rattle.language.specs.Meaning.{Outcome, twice, written}
use Rattle.plan.specs.Layout.{port_count, group_count}
use Rattle.plan.specs.Sound.{sound_of}
use Rattle.item_steps.specs.Machine.{State, state, exec_rules}
use Rattle.judged.specs.declared.Refusal.TheVariants.{Unsound, Miscounted, Unfit, Clash}
use Rattle.judged.specs.Answers.{number_of, accepted}
use Rattle.judged.specs.Groups.{fired, unfired, firing}
use Rattle.judged.specs.Tests.{fitting, counts}

module _ (p : List ℕ) where
  -- a refused cycle: nothing has changed
  unfoldable pub refused_by : ℕ → List ℕ → List ℕ → Outcome
  refused_by n memory outputs = record { answer = n; count = 0; outputs = outputs; memory = memory }

  -- "25 two writes to the same existing cell"; else the outputs and the writes of the rules
  unfoldable pub ends : ℕ → List ℕ → List ℕ → State → Outcome
  ends mask memory outputs s =
      elim (twice s.writes) [
        | true ↦ refused_by (number_of Clash) memory outputs
        | false ↦ record { answer = accepted; count = ones_of 32 mask; outputs = s.outputs; memory = written s.writes memory }
      ]

  -- a cycle of a plan that is known to be sound: answers 21 to 25 and 0
  unfoldable pub sound_cycle : ℕ → List ℕ → List ℕ → List ℕ → Outcome
  sound_cycle mask values memory outputs =
      elim (counts p values memory outputs) [
        | false ↦ refused_by (number_of Miscounted) memory outputs
        | true ↦ elim (fitting p mask values memory) [
          | false ↦ refused_by (number_of Unfit) memory outputs
          | true ↦ elim (firing p mask 0 (group_count p)) [
            | unfired n ↦ refused_by n memory outputs
            | fired rs ↦ ends mask memory outputs (exec_rules p values memory rs (state [] [] (replicate (port_count p) 0) []))
          ]
        ]
      ]

  -- a cycle of any plan
  unfoldable pub cycle_of : ℕ → List ℕ → List ℕ → List ℕ → Outcome
  cycle_of mask values memory outputs = elim (sound_of p) [ true ↦ sound_cycle mask values memory outputs | false ↦ refused_by (number_of Unsound) memory outputs ]
