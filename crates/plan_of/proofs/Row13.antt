-- THE THEOREM: the plan that is made of an accepted actor's settled items is the actor's plan. Assumes nothing.
use mathlib.Core.Path.{◌≡◌, refl, sym, ap, ap₂, ◌∙◌}
use mathlib.Core.Bool.{Bool, true, false}
use mathlib.Core.List.{List, [], ◌∷◌, ◌++◌, append_assoc}
use Prim.Native.Nat.{ℕ, suc, ◌+◌, ◌^◌, ◌≤◌, ◌<◌}
use native.Mathlib.Omega.{arith}
use native.Mathlib.Nat.{mod-eq_of_lt, lt_of_lt_of_le}
use lib.Pow.{pow_mono}
use lib.ListN.{length, get_or, length-append}
use Rattle.language.specs.Words.{Word}
use Rattle.language.specs.Tree.{Rule}
use Rattle.language.specs.Parts.{each}
use Rattle.language.specs.Counts.{rules_of}
use Rattle.language.specs.Sizes.{Setting}
use Rattle.placed.specs.Placed.{Every}
use Rattle.placed.proofs.Every.{every_map, append_every}
use Rattle.plan_of.specs.Accepted.{Accepted, Grammatical}
use Rattle.plan_of.specs.PlanOf.{mask_of, rule_code, plan_of}
use Rattle.plan_of.specs.PlanOf.{rule_numbers as numbers_of_rule}
use Rattle.plan_of.proofs.Facts.{RuleFacts, signature_short, rule_facts}
use Rattle.plan_of.proofs.SoundSections.{mask_below}
use Rattle.row13_plan.specs.Made.{plan_in}
use Rattle.section_items.specs.Items.{Item, items_of, counted, picked, memory_numbers, group_numbers, rule_numbers}
use Rattle.settled.specs.Settled.{settled_of}
use Rattle.size_walk.specs.Steps.{walk, begin}
use Rattle.plan_of.specs.Row11.{Measured}
use Rattle.plan_of.proofs.Row11.{sized}
use Rattle.plan_of.specs.Row13.{Made}
use Rattle.plan_of.proofs.Silent.{quiet}
use Rattle.plan_of.proofs.PlanSections.{signed_items, memory_items, group_items, are_actor}
use Rattle.plan_of.proofs.Counts.{Lacks, counted_lacks, picked_lacks, groups_lack, memories_lack, ports_lack, ports_counted, ports_picked, memories_counted, memories_picked, groups_counted, groups_picked, numbers_from, groups_rules, groups_with_rules}

module _ (s : Setting) where
  abbrev Little : Rule → Type 0
  Little r = (mask_of s true r.list < 2 ^ 32) × (mask_of s false r.list < 2 ^ 32)

  at_its_place : (pre : List ℕ) (x : ℕ) (l : List ℕ) → get_or (pre ++ (x ∷ l)) (length pre) 0 ≡ x
  at_its_place [] x l = refl
  at_its_place (p ∷ pre) x l = at_its_place pre x l

  -- rule by rule: the masks are small, and the length is the code's
  same_numbers : (rs : List Rule) (pre : List ℕ) → Every Little rs → numbers_from s (pre ++ each (λ r. length (rule_code s r) ∷ []) rs) (length pre) rs ≡ each (numbers_of_rule s) rs
  unfolding numbers_from each numbers_of_rule
  same_numbers [] pre h = refl
  same_numbers (r ∷ rs) pre h =
      ap₂ (λ (m n : ℕ). m ∷ n ∷ get_or lengths (length pre) 0 ∷ numbers_from s lengths (suc (length pre)) rs) (mod-eq_of_lt h.0.0) (mod-eq_of_lt h.0.1)
      ∙ ap₂ (λ (n : ℕ) (l : List ℕ). mask_of s true r.list ∷ mask_of s false r.list ∷ n ∷ l) (at_its_place pre (length (rule_code s r)) after) (later (same_numbers rs (pre ++ (length (rule_code s r) ∷ [])) h.1))
    where
      after : List ℕ
      after = each (λ r. length (rule_code s r) ∷ []) rs

      lengths : List ℕ
      lengths = pre ++ (length (rule_code s r) ∷ after)

      longer : length (pre ++ (length (rule_code s r) ∷ [])) ≡ suc (length pre)
      longer = length-append pre (length (rule_code s r) ∷ []) ∙ (let e : length pre + 1 ≡ suc (length pre) = omega arith in e)

      later : numbers_from s ((pre ++ (length (rule_code s r) ∷ [])) ++ after) (length (pre ++ (length (rule_code s r) ∷ []))) rs ≡ each (numbers_of_rule s) rs → numbers_from s lengths (suc (length pre)) rs ≡ each (numbers_of_rule s) rs
      later q = ap₂ (λ (l : List ℕ) (n : ℕ). numbers_from s l n rs) (sym (append_assoc pre (length (rule_code s r) ∷ []) after)) (sym longer) ∙ q

  -- ---- the sections of an actor's items

  abbrev ns : List Item
  ns = each (signed_items s) s.actor.signature

  abbrev ms : List Item
  ms = each (memory_items s) s.actor.memories

  abbrev gs : List Item
  gs = each (group_items s) s.actor.groups

  no_port : Lacks 46 (ms ++ gs)
  unfolding quiet
  no_port = append_every _ ms gs (memories_lack s 46 refl s.actor.memories) (groups_lack s 46 refl refl refl refl refl s.actor.groups)

  no_memory_law : Lacks 44 gs
  unfolding quiet
  no_memory_law = groups_lack s 44 refl refl refl refl refl s.actor.groups

  -- past the ports and the memories
  counted_last : (op : ℕ) → Lacks op ns → Lacks op ms → counted op (ns ++ (ms ++ gs)) ≡ counted op gs
  counted_last op h g = counted_lacks op ns (ms ++ gs) h ∙ counted_lacks op ms gs g

  picked_last : (op : ℕ) (give : ℕ → Item → List Item → List ℕ) → Lacks op ns → Lacks op ms → picked op give 0 (ns ++ (ms ++ gs)) ≡ picked op give 0 gs
  picked_last op give h g = picked_lacks op give 0 ns (ms ++ gs) h ∙ picked_lacks op give 0 ms gs g

  -- a plan by its parts
  abbrev in_parts : (p : ℕ) (ps : List ℕ) (m : ℕ) (ms : List ℕ) (g : ℕ) (gs : List ℕ) (r : ℕ) (rs : List ℕ) (c : ℕ) (cs : List ℕ) → List ℕ
  in_parts p ps m ms g gs r rs c cs = 1 ∷ p ∷ (ps ++ (m ∷ (ms ++ (g ∷ (gs ++ (r ∷ (rs ++ (c ∷ cs))))))))

  parts : {p p' m m' g g' r r' c c' : ℕ} {ps ps' ms ms' gs gs' rs rs' cs cs' : List ℕ} → p ≡ p' → ps ≡ ps' → m ≡ m' → ms ≡ ms' → g ≡ g' → gs ≡ gs' → r ≡ r' → rs ≡ rs' → c ≡ c' → cs ≡ cs'
      → in_parts p ps m ms g gs r rs c cs ≡ in_parts p' ps' m' ms' g' gs' r' rs' c' cs'
  parts a b c d e f g h i j = cc

  pub made_of_law : (code lengths : List ℕ) → code ≡ each (rule_code s) (rules_of s.actor) → lengths ≡ each (λ r. length (rule_code s r) ∷ []) (rules_of s.actor) → Every Little (rules_of s.actor) → plan_in (items_of (settled_of s)) code lengths ≡ plan_of s
  unfolding plan_in plan_of rules_of
  made_of_law code lengths e f h =
      let p1 = ports_counted s s.actor.signature (ms ++ gs) no_port in
      let p2 = ports_picked s s.actor.signature 0 (ms ++ gs) no_port in
      let m1 = counted_lacks 44 ns (ms ++ gs) (ports_lack s 44 refl s.actor.signature) ∙ memories_counted s s.actor.memories gs no_memory_law in
      let m2 = picked_lacks 44 memory_numbers 0 ns (ms ++ gs) (ports_lack s 44 refl s.actor.signature) ∙ memories_picked s s.actor.memories 0 gs no_memory_law in
      let g1 = counted_last 41 (ports_lack s 41 refl s.actor.signature) (memories_lack s 41 refl s.actor.memories) ∙ groups_counted s s.actor.groups in
      let g2 = picked_last 41 group_numbers (ports_lack s 41 refl s.actor.signature) (memories_lack s 41 refl s.actor.memories) ∙ groups_picked s s.actor.groups 0 in
      let r1 = counted_last 39 (ports_lack s 39 refl s.actor.signature) (memories_lack s 39 refl s.actor.memories) ∙ groups_with_rules s s.actor.groups in
      let r2 = picked_last 39 (rule_numbers lengths) (ports_lack s 39 refl s.actor.signature) (memories_lack s 39 refl s.actor.memories) ∙ groups_rules s lengths s.actor.groups 0 ∙ rule_part in
      ap (λ (l : List Item). plan_in l code lengths) (are_actor s) ∙ parts p1 p2 m1 m2 g1 g2 r1 r2 (ap length e) e
    where
      rule_part : numbers_from s lengths 0 (each (λ g. g.rules) s.actor.groups) ≡ each (numbers_of_rule s) (rules_of s.actor)
      rule_part = ap (λ (l : List ℕ). numbers_from s l 0 (rules_of s.actor)) f ∙ same_numbers (rules_of s.actor) [] h

module _ (ws : List Word) (s : Setting) (ok : Accepted ws s) (gr : Grammatical ws s.actor) where
  measured : Measured ws s
  measured = record { grammatical = gr; limited = ok.limited; least = ok.least }

  small_masks : Every (Little s) (rules_of s.actor)
  small_masks = every_map _ _ (λ r f. (below r f true, below r f false)) (rules_of s.actor) (rule_facts ws s ok gr)
    where
      below : (r : Rule) → RuleFacts s r → (b : Bool) → mask_of s b r.list < 2 ^ 32
      below r f b = lt_of_lt_of_le (mask_below s b [] r.list f.distinct f.known) (pow_mono (let h = signature_short ws s ok gr in let g : length s.actor.signature ≤ 32 = omega arith in g))

  pub made : Made s
  made = let z = sized ws s measured in made_of_law s (walk begin (settled_of s)).code (walk begin (settled_of s)).lengths (z.code ok.sized) (z.lengths ok.sized) small_masks
