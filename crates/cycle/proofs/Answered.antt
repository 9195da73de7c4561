-- What is refused, of any list of numbers as a plan: a cycle by 20 to 25, a run by 20 or 21, and nothing has changed. Assumes nothing.
use Prim.Native.Nat.{ℕ, zero, suc, ◌≤◌}
use mathlib.Core.Path.{◌≡◌, refl, ◌∙◌}
use mathlib.Core.Logic.{◌⊎◌, inl, inr}
use mathlib.Core.List.{List, [], ◌∷◌}
use mathlib.Core.Bool.{Bool, true, false}
use native.Mathlib.Omega.{arith}
use lib.ListN.{replicate}
use Rattle.language.specs.Values.{ones_of}
use Rattle.language.specs.Meaning.{Outcome, twice, written}
use Rattle.plan.specs.Layout.{port_count, group_count, group_at, rules_before}
use Rattle.plan.specs.Sound.{sound_of}
use Rattle.item_steps.specs.Machine.{State, state, exec_rules}
use Rattle.judged.specs.Groups.{Fired, fired, unfired, matching, firing}
use Rattle.judged.specs.Tests.{fitting, counts}
use Rattle.turn.specs.Cycle.{refused_by, ends, sound_cycle, cycle_of}
use Rattle.cycle.specs.Run.{result, tables_fit, run_of, cycles_of, turns_in, left_by}
use Rattle.cycle.proofs.Night.{run_20, run_21, run_0, turns_are}

module _ (p : List ℕ) (mask : ℕ) where
  abbrev Numbered : Fired p → Type 0
  Numbered (fired l) = Unit {0}
  Numbered (unfired n) = (20 ≤ n) × (n ≤ 25)

  firing_numbered : (k g : ℕ) → Numbered (firing p mask g k)
  unfolding firing
  firing_numbered zero g = tt
  firing_numbered (suc k) g = go (matching p mask (rules_before p g) (group_at p g)) (firing p mask (suc g) k) (firing_numbered k (suc g))
    where
      go : (l : List ℕ) (f : Fired p) → Numbered f
          → Numbered (elim l [ [] ↦ unfired 23 | r ∷ [] ↦ elim f [ fired m ↦ fired (r ∷ m) | unfired n ↦ unfired n ] | r ∷ q ∷ m ↦ unfired 24 ])
      go [] f h = (omega arith, omega arith)
      go (r ∷ []) (fired m) h = tt
      go (r ∷ []) (unfired n) h = h
      go (r ∷ q ∷ m) f h = (omega arith, omega arith)

  module _ (values memory outs : List ℕ) where
    -- accepted, or refused by a number with everything as it stood
    abbrev Answered : Outcome → Type 0
    Answered o = (o.answer ≡ 0) ⊎ ((n : ℕ) × (20 ≤ n) × (n ≤ 25) × (o ≡ refused_by p n memory outs))

    abbrev start : State
    start = state [] [] (replicate (port_count p) 0) []

    ends_answered : (s : State) → Answered (ends p mask memory outs s)
    unfolding ends
    ends_answered s = go (twice s.writes)
      where
        go : (b : Bool) → Answered (elim b [ true ↦ refused_by p 25 memory outs | false ↦ record { answer = 0; count = ones_of 32 mask; outputs = s.outputs; memory = written s.writes memory } ])
        go true = inr (25, omega arith, omega arith, refl)
        go false = inl refl

    groups_answered : (f : Fired p) → Numbered f → Answered (elim f [ unfired n ↦ refused_by p n memory outs | fired rs ↦ ends p mask memory outs (exec_rules p values memory rs start) ])
    groups_answered (fired rs) h = ends_answered (exec_rules p values memory rs start)
    groups_answered (unfired n) h = inr (n, h.0, h.1, refl)

    pub cycle_answered : Answered (cycle_of p mask values memory outs)
    unfolding cycle_of sound_cycle
    cycle_answered = go (sound_of p) (counts p values memory outs) (fitting p mask values memory)
      where
        go : (a b c : Bool) → Answered (elim a [
          | true ↦ elim b [
            | false ↦ refused_by p 21 memory outs
            | true ↦ elim c [
              | false ↦ refused_by p 22 memory outs
              | true ↦ elim (firing p mask 0 (group_count p)) [ unfired n ↦ refused_by p n memory outs | fired rs ↦ ends p mask memory outs (exec_rules p values memory rs start) ]
            ]
          ]
          | false ↦ refused_by p 20 memory outs
        ])
        go false b c = inr (20, omega arith, omega arith, refl)
        go true false c = inr (21, omega arith, omega arith, refl)
        go true true false = inr (22, omega arith, omega arith, refl)
        go true true true = groups_answered (firing p mask 0 (group_count p)) (firing_numbered (group_count p) 0)

-- a run is refused as a whole, or is `cycle` again and again
pub run_answered : (p masks values memory outputs answers : List ℕ)
    → (run_of p masks values memory outputs answers ≡ result 20 memory outputs answers) ⊎ ((run_of p masks values memory outputs answers ≡ result 21 memory outputs answers)
    ⊎ (run_of p masks values memory outputs answers ≡ left_by memory (cycles_of p (turns_in (port_count p) masks values outputs) memory)))
run_answered p masks values memory outputs answers = go (sound_of p) refl (tables_fit p masks values memory outputs answers) refl
  where
    go : (a : Bool) → sound_of p ≡ a → (b : Bool) → tables_fit p masks values memory outputs answers ≡ b
        → (run_of p masks values memory outputs answers ≡ result 20 memory outputs answers) ⊎ ((run_of p masks values memory outputs answers ≡ result 21 memory outputs answers)
        ⊎ (run_of p masks values memory outputs answers ≡ left_by memory (cycles_of p (turns_in (port_count p) masks values outputs) memory)))
    go false e b f = inl (run_20 p masks values memory outputs answers e)
    go true e false f = inr (inl (run_21 p masks values memory outputs answers e f))
    go true e true f = inr (inr (run_0 p masks values memory outputs answers e f ∙ turns_are p masks values memory outputs))
