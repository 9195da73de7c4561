-- A cycle of an accepted actor's plan is a cycle of the actor, and so is any run of cycles.
use Prim.Native.Nat.{ℕ, suc, ◌+◌, ◌-◌, ◌*◌, ◌^◌, ◌≤◌, ◌<◌}
use mathlib.Core.Path.{◌≡◌, refl, sym, ap, ap₂, ◌∙◌, subst}
use mathlib.Core.List.{List, [], ◌∷◌}
use mathlib.Core.Bool.{Bool, true, false, ◌&&◌, false≢true, true≢false}
use native.Mathlib.Omega.{arith}
use native.Mathlib.Nat.{sub-add_cancel, add-zero, zero-add, suc-mul}
use lib.ListN.{length, get_or, set, take, drop, length-set, replicate, length-append, length-drop}
use lib.Seq.{take-length, length-take-le}
use lib.Dec.{ltb, eqb}
use borrow.Author.Tests.{eqb-true, eq-eqb, ltb-true}
use Rattle.language.specs.Words.{Word}
use Rattle.language.specs.Tree.{Memory, Rule, Group, spelled_of, memory_names}
use Rattle.language.specs.Parts.{each}
use Rattle.language.specs.Counts.{rules_of, size_of}
use Rattle.language.specs.Presence.{assigned_in}
use Rattle.language.specs.Values.{ones_of}
use Rattle.language.specs.Widths.{memory_width}
use Rattle.language.specs.Sizes.{Setting}
use Rattle.language.specs.Meaning.{Given, Change, cell_widths, fitting, firing, fired, unfired, Fired, inputs_fit, fits, in_rules, assigns_of, writes_of, twice, written, assigned_to, Outcome, refused_by, acts, cycle, Turn, run}
use Rattle.plan.specs.Layout.{port_count, memory_count, cells_before, group_count, group_at, rules_before}
use Rattle.plan.specs.Sound.{sound_of}
use Rattle.item_steps.specs.Machine.{state, exec_rules}
use Rattle.judged.specs.Tests.{counts}
use Rattle.turn.specs.Cycle.{ends, sound_cycle, cycle_of}
use Rattle.turn.specs.Cycle as PlanCycle
use Rattle.judged.specs.Groups as PlanGroups
use Rattle.judged.specs.Tests as PlanTests
use Rattle.cycle.specs.Run.{result, tables_fit, run_of, cycles_of, turns_in, left_by}
use Rattle.cycle.proofs.Night.{turns_are, run_0, run_21, tables_told}
use Rattle.placed.specs.Placed.{Every}
use Rattle.placed.proofs.Every.{every_map, every_flat, every_each, every_at}
use Rattle.plan_of.specs.PlanOf.{plan_of}
use Rattle.plan_of.specs.Theorems.{RunTables}
use Rattle.plan_of.specs.Accepted.{Accepted, Grammatical}
use Rattle.plan_of.proofs.Effects.{backwards, twice_backwards, written_backwards}
use Rattle.placed.proofs.Names.{both_true, every_spelled}
use Rattle.plan_of.proofs.Masks.{ones_past, matches_agrees}
use Rattle.plan_of.proofs.Sections.{no_rule, no_group, cells_in, port_count_law, memory_count_law, group_count_law, cells_before_law, group_at_law, rule_present, rule_absent, code_at_law}
use Rattle.plan_of.proofs.Fits.{inputs_agree, cells_agree, length_copies}
use Rattle.plan_of.proofs.Outputs.{Once, FiredOnce, fired_once, FiredAll, every_fired, rules_targets, AllKnown, each_one_length, outputs_agree}
use Rattle.plan_of.proofs.Firing.{Stretch, stretch, group_rule, Placed, Groups, Fires, firing_agrees}
use Rattle.plan_of.proofs.Rules.{Coded, puts, rules_do}
use Rattle.plan_of.proofs.Facts.{RuleFacts, signature_distinct, inputs_known, outputs_known, signature_short, port_small, rule_facts, groups_separate}

cells_long : (s : Setting) (ms : List Memory) → cells_in ms ≡ length (each (λ m. Rattle.language.specs.Meaning.copies_in (size_of m) (memory_width s.actor s.widths m.called.spelled)) ms)
unfolding cells_in each
cells_long s [] = refl
cells_long s (m ∷ ms) =
    sym (length-append (Rattle.language.specs.Meaning.copies_in (size_of m) (memory_width s.actor s.widths m.called.spelled)) _ ∙ ap₂ ◌+◌ (length_copies (size_of m) _) (sym (cells_long s ms)))

-- as many cells as the plan has
pub plan_cells : (s : Setting) → cells_before (plan_of s) (memory_count (plan_of s)) ≡ length (cell_widths s)
unfolding cell_widths
plan_cells s = rw (memory_count_law s) (cells_before_law s (length s.actor.memories) (omega arith) ∙ rw (take-length s.actor.memories) (cells_long s s.actor.memories))

pub ones_agree : (mask n : ℕ) → mask < 2 ^ n → n ≤ 32 → ones_of 32 mask ≡ ones_of n mask
ones_agree mask n h k = rw (← (sub-add_cancel k)) (ones_past mask n (32 - n) h)

-- ## A cycle keeps the lengths

written_long : (l : List (Change ℕ)) (m : List ℕ) → length (written l m) ≡ length m
unfolding written
written_long [] m = refl
written_long (c ∷ l) m = written_long l (set m c.target c.to) ∙ length-set m c.target c.to

-- a result whose memory and outputs have these lengths
abbrev Long : ℕ → ℕ → Outcome → Type 0
Long m n o = (length o.memory ≡ m) × (length o.outputs ≡ n)

acts_long : (s : Setting) (g : Given) (outputs : List ℕ) (rs : List Rule) → length outputs ≡ length s.actor.signature → Long (length g.memory) (length s.actor.signature) (acts s g outputs rs)
unfolding acts refused_by
acts_long s g outputs rs h = go (twice (in_rules s g (writes_of s g) rs))
  where
    done : Outcome
    done = record { answer = 0; count = ones_of (length s.actor.signature) g.mask; outputs = each (λ n. assigned_to (in_rules s g (assigns_of s g) rs) n.spelled ∷ []) s.actor.signature; memory = written (in_rules s g (writes_of s g) rs) g.memory }

    go : (b : Bool) → Long (length g.memory) (length s.actor.signature) (elim b [ true ↦ refused_by 25 outputs g | false ↦ done ])
    go true = (refl, h)
    go false = (written_long (in_rules s g (writes_of s g) rs) g.memory, each_one_length _ s.actor.signature)

cycle_long : (s : Setting) (g : Given) (outputs : List ℕ) → length outputs ≡ length s.actor.signature → Long (length g.memory) (length s.actor.signature) (cycle s g outputs)
unfolding cycle refused_by
cycle_long s g outputs h = go (fitting s g) (firing s g.mask s.actor.groups)
  where
    go : (b : Bool) (f : Fired) → Long (length g.memory) (length s.actor.signature) (elim b [ false ↦ refused_by 22 outputs g | true ↦ elim f [ unfired n ↦ refused_by n outputs g | fired rs ↦ acts s g outputs rs ] ])
    go false f = (refl, h)
    go true (unfired n) = (refl, h)
    go true (fired rs) = acts_long s g outputs rs h

module _ (ws : List Word) (s : Setting) (ok : Accepted ws s) (gr : Grammatical ws s.actor) where
  abbrev p : List ℕ
  p = plan_of s

  abbrev ms : List (List ℕ)
  ms = spelled_of (memory_names s.actor.memories)

  placed : (mask i : ℕ) → i < length (rules_of s.actor) → Placed s ms p mask i (get_or (rules_of s.actor) i no_rule)
  placed mask i h =
      let f = every_at (RuleFacts s) no_rule (rules_of s.actor) i (rule_facts ws s ok gr) h in
      let n = signature_short ws s ok gr in
      (matches_agrees s p mask i (get_or (rules_of s.actor) i no_rule).list (omega arith) f.distinct f.known (rule_present s i h) (rule_absent s i h), code_at_law s i h, f.fine)

  -- the groups of the plan are those of the text
  groups_placed : (mask : ℕ) → Groups s ms p mask 0 s.actor.groups
  groups_placed mask = walk 0 s.actor.groups (λ j h. rw (zero-add j) (at j h))
    where
      one : ℕ → Group → Type 0
      one g x = (group_at p g ≡ length x.rules) × Stretch (Placed s ms p mask) (rules_before p g) x.rules

      at : (g : ℕ) → g < length s.actor.groups → one g (get_or s.actor.groups g no_group)
      at g h = (
        group_at_law s g h,
        stretch (Placed s ms p mask) (rules_before p g) (get_or s.actor.groups g no_group).rules
            (λ j k. let q = group_rule s g j h k in subst (Placed s ms p mask (rules_before p g + j)) q.1 (placed mask (rules_before p g + j) q.0)),
      )

      walk : (k : ℕ) (gs : List Group) → ((j : ℕ) → j < length gs → one (k + j) (get_or gs j no_group)) → Groups s ms p mask k gs
      walk k [] f = tt
      walk k (x ∷ gs) f =
          let z : one k x = rw (add-zero k) at (f 0 (omega arith)) in
          (z.0, z.1, walk (suc k) gs (λ j h. let e : k + suc j ≡ suc k + j = omega arith in rw e at (f (suc j) (omega arith))))

  -- the outputs that the rules assign are ports
  fired_known : (mask : ℕ) → FiredAll (RuleFacts s) (firing s mask s.actor.groups)
  unfolding rules_of
  fired_known mask = every_fired s mask (RuleFacts s) s.actor.groups (every_each (RuleFacts s) (λ g. g.rules) s.actor.groups (rule_facts ws s ok gr))

  assigned_known : (rs : List Rule) → Every (RuleFacts s) rs → AllKnown s (spelled_of (each assigned_in rs))
  assigned_known rs e = every_spelled _ (each assigned_in rs) (every_flat _ assigned_in rs (every_map _ _ (λ r f. every_map _ _ (λ n k. outputs_known ws s ok gr n.spelled k) (assigned_in r) f.outputs) rs e))

  mask_below : (g : Given) → fitting s g ≡ true → g.mask < 2 ^ length s.actor.signature
  unfolding fitting
  mask_below g e = ltb-true _ _ (both_true (ltb g.mask (2 ^ length s.actor.signature)) (inputs_fit s g) (both_true (ltb g.mask (2 ^ length s.actor.signature) && inputs_fit s g) (fits (cell_widths s) g.memory) e).0).0

  module _ (mask : ℕ) (values memory outputs : List ℕ) where
    abbrev g : Given
    g = record { mask = mask; values = values; memory = memory }

    fitting_agrees : PlanTests.fitting p mask values memory ≡ fitting s g
    unfolding PlanTests.fitting fitting
    fitting_agrees =
        ap₂ ◌&&◌ (ap₂ ◌&&◌ (ap (λ (n : ℕ). ltb mask (2 ^ n)) (port_count_law s)) (inputs_agree s g (signature_distinct ws s ok gr) (inputs_known ws s ok gr) (port_small ws s ok gr))) (cells_agree s memory)

    counts_agree : length values ≡ length s.actor.signature → length outputs ≡ length s.actor.signature → length memory ≡ length (cell_widths s) → counts p values memory outputs ≡ true
    unfolding counts
    counts_agree v o m = rw (port_count_law s, plan_cells s, eq-eqb _ _ v, eq-eqb _ _ o, eq-eqb _ _ m)

    -- the rules that fire
    acts_agree : (is : List ℕ) (rs : List Rule) → Coded s ms p is rs → Once [] (spelled_of (each assigned_in rs)) → AllKnown s (spelled_of (each assigned_in rs)) → mask < 2 ^ length s.actor.signature
        → ends p mask memory outputs (exec_rules p values memory is (state [] [] (replicate (port_count p) 0) [])) ≡ acts s g outputs rs
    unfolding ends acts refused_by PlanCycle.refused_by
    acts_agree is rs c o k h =
        let r = rules_do s g ms p is rs [] (replicate (length s.actor.signature) 0) [] c in
        let l = signature_short ws s ok gr in
        rw (port_count_law s, r.1) (go (twice (backwards (in_rules s g (writes_of s g) rs) [])) (twice (in_rules s g (writes_of s g) rs)) (twice_backwards (in_rules s g (writes_of s g) rs)) refl (omega arith))
      where
        xs : List (Change (List ℕ))
        xs = in_rules s g (assigns_of s g) rs

        cs : List (Change ℕ)
        cs = in_rules s g (writes_of s g) rs

        done : Outcome
        done = record { answer = 0; count = ones_of 32 mask; outputs = puts s xs (replicate (length s.actor.signature) 0); memory = written (backwards cs []) memory }

        want : Outcome
        want = record { answer = 0; count = ones_of (length s.actor.signature) mask; outputs = each (λ n. assigned_to xs n.spelled ∷ []) s.actor.signature; memory = written cs memory }

        go : (a b : Bool) → a ≡ b → twice cs ≡ b → length s.actor.signature ≤ 32
            → ◌≡◌ {A = Outcome} (elim a as (λ _. Outcome) [ true ↦ PlanCycle.refused_by p 25 memory outputs | false ↦ done ]) (elim b as (λ _. Outcome) [ true ↦ refused_by 25 outputs g | false ↦ want ])
        go true true q e l = refl
        go true false q e l = absurd (true≢false q)
        go false true q e l = absurd (false≢true q)
        go false false q e l =
            rw (ones_agree mask (length s.actor.signature) h l, outputs_agree s xs (signature_distinct ws s ok gr) (rw (rules_targets s g rs) k) (rw (rules_targets s g rs) o), written_backwards cs memory e)

    fired_agree : (m : PlanGroups.Fired p) (n : Fired) → Fires s ms p mask m n → FiredOnce [] n → FiredAll (RuleFacts s) n → mask < 2 ^ length s.actor.signature
        → ◌≡◌ {A = Outcome} (elim m as (λ _. Outcome) [ PlanGroups.unfired n ↦ PlanCycle.refused_by p n memory outputs | PlanGroups.fired rs ↦ ends p mask memory outputs (exec_rules p values memory rs (state [] [] (replicate (port_count p) 0) [])) ])
        (elim n as (λ _. Outcome) [ unfired n ↦ refused_by n outputs g | fired rs ↦ acts s g outputs rs ])
    unfolding refused_by PlanCycle.refused_by
    fired_agree (PlanGroups.fired is) (fired rs) f o k h = acts_agree is rs f o (assigned_known rs k) h
    fired_agree (PlanGroups.fired is) (unfired n) f o k h = absurd f
    fired_agree (PlanGroups.unfired m) (fired rs) f o k h = absurd f
    fired_agree (PlanGroups.unfired m) (unfired n) f o k h = rw f

    -- THE THEOREM: a cycle of the plan is a cycle of the actor
    pub plan_means : sound_of (plan_of s) ≡ true → length values ≡ length s.actor.signature → length outputs ≡ length s.actor.signature → length memory ≡ length (cell_widths s)
        → cycle_of (plan_of s) mask values memory outputs ≡ cycle s (record { mask = mask; values = values; memory = memory }) outputs
    unfolding cycle_of sound_cycle cycle refused_by PlanCycle.refused_by
    plan_means sound v o m = rw (cycle_of, sound, sound_cycle, counts_agree v o m, fitting_agrees) (go (fitting s g) refl)
      where
        go : (b : Bool) → fitting s g ≡ b
            → ◌≡◌ {A = Outcome} (elim b as (λ _. Outcome) [ false ↦ PlanCycle.refused_by p 22 memory outputs | true ↦ elim (PlanGroups.firing p mask 0 (group_count p)) as (λ _. Outcome) [ PlanGroups.unfired n ↦ PlanCycle.refused_by p n memory outputs | PlanGroups.fired rs ↦ ends p mask memory outputs (exec_rules p values memory rs (state [] [] (replicate (port_count p) 0) [])) ] ])
            (elim b as (λ _. Outcome) [ false ↦ refused_by 22 outputs g | true ↦ elim (firing s mask s.actor.groups) as (λ _. Outcome) [ unfired n ↦ refused_by n outputs g | fired rs ↦ acts s g outputs rs ] ])
        go false e = refl
        go true e =
            fired_agree (PlanGroups.firing p mask 0 (group_count p)) (firing s mask s.actor.groups)
            (subst (λ (n : ℕ). Fires s ms p mask (PlanGroups.firing p mask 0 n) (firing s mask s.actor.groups)) (sym (group_count_law s)) (firing_agrees s ms p mask 0 s.actor.groups (groups_placed mask)))
            (fired_once s mask [] s.actor.groups (groups_separate ws s ok gr)) (fired_known mask) (mask_below g e)

  -- 21 where the lengths are others
  pub plan_uncounted : (mask : ℕ) (values memory outputs : List ℕ) → sound_of (plan_of s) ≡ true
      → ((length values ≡ length s.actor.signature) × (length outputs ≡ length s.actor.signature) × (length memory ≡ length (cell_widths s)) → ⊥)
      → cycle_of (plan_of s) mask values memory outputs ≡ record { answer = 21; count = 0; outputs = outputs; memory = memory }
  unfolding cycle_of sound_cycle counts PlanCycle.refused_by
  plan_uncounted mask values memory outputs sound n = rw (cycle_of, sound, sound_cycle, others (counts p values memory outputs) refl) refl
    where
      others : (b : Bool) → counts p values memory outputs ≡ b → counts p values memory outputs ≡ false
      others false e = e
      others true e =
          let a = both_true (eqb (length values) (port_count p) && eqb (length outputs) (port_count p)) (eqb (length memory) (cells_before p (memory_count p))) e in
          let c = both_true (eqb (length values) (port_count p)) (eqb (length outputs) (port_count p)) a.0 in
          absurd (n (eqb-true _ _ c.0 ∙ port_count_law s, eqb-true _ _ c.1 ∙ port_count_law s, eqb-true _ _ a.1 ∙ plan_cells s))

  -- and so any run of cycles, refused ones among them
  pub plan_calls : sound_of (plan_of s) ≡ true → (ts : List Turn) (memory : List ℕ) → Every (λ t. (length t.values ≡ length s.actor.signature) × (length t.outputs ≡ length s.actor.signature)) ts → length memory ≡ length (cell_widths s)
      → cycles_of (plan_of s) ts memory ≡ run s ts memory
  unfolding cycles_of run
  plan_calls sound [] memory v m = refl
  plan_calls sound (t ∷ ts) memory v m =
      let g : Given = record { mask = t.mask; values = t.values; memory = memory } in
      let l = cycle_long s g t.outputs v.0.1 in
      let q = plan_means t.mask t.values memory t.outputs sound v.0.0 v.0.1 m in
      ap₂ ◌∷◌ q (ap (λ (r : Outcome). cycles_of (plan_of s) ts r.memory) q ∙ plan_calls sound ts (cycle s g t.outputs).memory v.1 (l.0 ∙ m))

  -- ## The tables of `run`

  -- each cycle has its part of the tables
  turns_long : (n : ℕ) (masks values outputs : List ℕ) → length values ≡ length masks * n → length outputs ≡ length masks * n → Every (λ t. (length t.values ≡ n) × (length t.outputs ≡ n)) (turns_in n masks values outputs)
  unfolding turns_in
  turns_long n [] values outputs v o = tt
  turns_long n (m ∷ ms) values outputs v o =
      let e = suc-mul (length ms) n in
      let part : (l : List ℕ) → length l ≡ suc (length ms) * n → (length (take n l) ≡ n) × (length (drop n l) ≡ length ms * n) =
      λ l h. (length-take-le n l (omega arith), length-drop n l ∙ omega arith) in
      (((part values v).0, (part outputs o).0), turns_long n ms (drop n values) (drop n outputs) (part values v).1 (part outputs o).1)

  module _ (sound : sound_of (plan_of s) ≡ true) (masks values memory outputs answers : List ℕ) where
    tables_fit_law : RunTables s masks values memory outputs answers → tables_fit p masks values memory outputs answers ≡ true
    unfolding tables_fit
    tables_fit_law t = rw (port_count_law s, plan_cells s, eq-eqb _ _ t.inputs, eq-eqb _ _ t.slots, eq-eqb _ _ t.told, eq-eqb _ _ t.cells)

    -- THE THEOREM: `run` of the plan is a run of the actor
    pub plan_runs : RunTables s masks values memory outputs answers → run_of (plan_of s) masks values memory outputs answers ≡ left_by memory (run s (turns_in (length s.actor.signature) masks values outputs) memory)
    plan_runs t =
        run_0 p masks values memory outputs answers sound (tables_fit_law t) ∙ turns_are p masks values memory outputs
        ∙ ap (λ (n : ℕ). left_by memory (cycles_of p (turns_in n masks values outputs) memory)) (port_count_law s)
        ∙ ap (left_by memory) (plan_calls sound (turns_in (length s.actor.signature) masks values outputs) memory (turns_long _ masks values outputs t.inputs t.slots) t.cells)

    -- 21 where the lengths are others
    pub plan_unfit : (RunTables s masks values memory outputs answers → ⊥) → run_of (plan_of s) masks values memory outputs answers ≡ result 21 memory outputs answers
    plan_unfit n = run_21 p masks values memory outputs answers sound (others (tables_fit p masks values memory outputs answers) refl)
      where
        others : (b : Bool) → tables_fit p masks values memory outputs answers ≡ b → tables_fit p masks values memory outputs answers ≡ false
        others false e = e
        others true e =
            let q = tables_told p masks values memory outputs answers e in
            let w = ap (λ (k : ℕ). length masks * k) (port_count_law s) in
            absurd (n (record { inputs = q.0 ∙ w; slots = q.1 ∙ w; told = q.2; cells = q.3 ∙ plan_cells s }))
