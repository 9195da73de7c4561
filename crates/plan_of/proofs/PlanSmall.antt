-- All of a plan: each number of an accepted actor's plan is below 2 ^ 32, where the actor is no longer than its limit.
use Prim.Native.Nat.{ℕ, zero, suc, ◌+◌, ◌^◌, ◌≤◌, ◌<◌}
use mathlib.Core.Path.{◌≡◌}
use mathlib.Core.List.{List, [], ◌∷◌}
use mathlib.Core.Bool.{Bool, true, false}
use native.Mathlib.Omega.{arith}
use native.Mathlib.Nat.{lt_of_lt_of_le}
use lib.ListN.{length, get_or, take, length-append}
use lib.Dec.{lit<}
use lib.Pow.{pow_mono}
use Rattle.language.specs.Text.{Name, among, index}
use Rattle.language.specs.Words.{Word}
use Rattle.language.specs.Limits.{limits}
use Rattle.language.specs.Tree.{Memory, Rule, spelled_of, memory_names}
use Rattle.language.specs.Parts.{each}
use Rattle.language.specs.Names.{input_names}
use Rattle.language.specs.Counts.{rules_of}
use Rattle.language.specs.Widths.{port_width}
use Rattle.language.specs.Sizes.{Setting}
use Rattle.language.specs.Meaning.{cells_of, cells_before}
use Rattle.language.specs.Presence.{assigned_in}
use Rattle.plan.specs.Items.{encode}
use Rattle.placed.specs.Placed.{Every}
use Rattle.placed.proofs.Every.{every_map, every_both, append_every, every_flat}
use Rattle.plan_of.specs.PlanOf.{memory_at, port_number, memory_numbers, rule_numbers, rule_code, body_code, mask_of, plan_of}
use Rattle.plan_of.specs.Accepted.{Accepted, Grammatical}
use Rattle.plan_of.specs.Lengths.{actor_words}
use Rattle.plan_of.proofs.Masks.{port_below}
use Rattle.plan_of.proofs.Sections.{no_memory, cells_in, port_count_law, code_count_law}
use Rattle.plan_of.proofs.Facts.{limit_facts, signature_short, outputs_known, port_small, memory_small}
use Rattle.plan_of.proofs.SoundNames.{memory_at_law, memory_there}
use Rattle.plan_of.proofs.SoundSections.{mask_below, size_facts, memories_few, rules_few, plan_long}
use Rattle.plan_of.proofs.SoundPlan.{Sounder, sounder}
use Rattle.plan_of.proofs.Short.{plan_short}
use Rattle.plan_of.proofs.Faultless.{few_of}
use Rattle.plan_of.proofs.Small.{Small, body_small}

every_of : {A : Type 0} (P : A → Type 0) (d : A) (l : List A) → ((i : ℕ) → i < length l → P (get_or l i d)) → Every P l
every_of P d [] f = tt
every_of P d (x ∷ l) f = (f 0 (omega arith), every_of P d l (λ i h. f (suc i) (omega arith)))

-- a part is no longer than the whole
each_long : {A B : Type 0} (f : A → List B) (l : List A) → Every (λ x. length (f x) ≤ length (each f l)) l
unfolding each
each_long f [] = tt
each_long f (x ∷ l) =
    let e = length-append (f x) (each f l) in
    (omega arith, every_map _ _ (λ y h. let q : length (f y) ≤ length (each f l) = h in omega arith) l (each_long f l))

cells_less : (i : ℕ) (l : List Memory) → cells_in (take i l) ≤ cells_in (take (suc i) l)
unfolding cells_in
cells_less zero l = omega arith
cells_less (suc i) [] = omega arith
cells_less (suc i) (m ∷ l) = let q = cells_less i l in omega arith

module _ (ws : List Word) (s : Setting) (ok : Accepted ws s) (gr : Grammatical ws s.actor) (brief : actor_words s.actor ≤ suc limits.actor) where
  abbrev ms : List (List ℕ)
  ms = spelled_of (memory_names s.actor.memories)

  cells_small : (n : List ℕ) → among ms n ≡ true → (memory_at s n < 2 ^ 32) × (cells_before s.actor.memories n < 2 ^ 32) × (cells_of s.actor.memories n < 2 ^ 32)
  unfolding memory_at
  cells_small n h =
      let q = memory_at_law s.actor.memories n h in
      let i = index ms n in
      let a = q.0 in
      let b = size_facts 0 s.actor.memories i (limit_facts ws s.actor ok.limited).2 a in
      let c = b.2 in let d = b.1 in
      let e = cells_less i s.actor.memories in
      let f = memories_few ws s ok gr in
      (omega arith, rw q.1 (omega arith), rw q.2 (omega arith))

  code_small : Every (λ r. Small (rule_code s r)) (rules_of s.actor)
  unfolding rule_code assigned_in
  code_small =
      every_map _ _ (λ r x. every_flat _ encode (body_code s 0 r.body)
      (body_small s (mask_of s true r.list) 0 ms (let q = signature_short ws s ok gr in rw (port_count_law s) q) (port_small ws s ok gr) (memory_small ws s ok gr) (λ n h. memory_there s (mask_of s true r.list) 0 0 ms n h) cells_small
      0 r.body x.facts.fine.0 (x.more 0)
      (every_map _ _ (λ n k. let j = port_below s n.spelled (outputs_known ws s ok gr n.spelled k) in let q = signature_short ws s ok gr in omega arith) (assigned_in r) x.facts.outputs)
      (let k = x.facts.fine.1 in omega arith))) (rules_of s.actor) (sounder ws s ok gr)

  port_numbers_law : (n : Name) → Small (port_number s n)
  unfolding port_number
  port_numbers_law n = go (among (input_names s.actor.ports) n.spelled)
    where
      go : (b : Bool) → Small (elim b [ true ↦ port_width s.actor s.widths n.spelled ∷ [] | false ↦ (port_width s.actor s.widths n.spelled + 256) ∷ [] ])
      go true = let q = port_small ws s ok gr n.spelled in (omega arith, tt)
      go false = let q = port_small ws s ok gr n.spelled in (omega arith, tt)

  all : {A : Type 0} (P : A → Type 0) → ((x : A) → P x) → (l : List A) → Every P l
  all P f [] = tt
  all P f (x ∷ l) = (f x, all P f l)

  code_long : length (each (rule_code s) (rules_of s.actor)) < 2 ^ 32
  code_long = let a = plan_long ws s ok gr in let b = code_count_law s in let c = plan_short s in omega arith

  pub plan_small : Small (plan_of s)
  unfolding plan_of memory_numbers rule_numbers rules_of
  plan_small =
      let n = signature_short ws s ok gr in
      let m = memories_few ws s ok gr in
      let g = few_of (λ g. g.at) 8 s.actor.groups (limit_facts ws s.actor ok.limited).3 in
      let r = rules_few ws s ok gr in
      let c = code_long in (
        lit< tt,
        (
          omega arith,
          append_every _ (each (port_number s) s.actor.signature) _ (every_flat _ (port_number s) s.actor.signature (all _ port_numbers_law s.actor.signature)) (
            omega arith,
            append_every _ (each (memory_numbers s) s.actor.memories) _ (every_flat _ (memory_numbers s) s.actor.memories
                (every_of _ no_memory s.actor.memories (λ i h. let q = size_facts 0 s.actor.memories i (limit_facts ws s.actor ok.limited).2 h in let w = memory_small ws s ok gr (get_or s.actor.memories i no_memory).called.spelled in let z = q.1 in (omega arith, (omega arith, tt))))) (
                  omega arith,
                  append_every _ (each (λ g. length g.rules ∷ []) s.actor.groups) _ (every_flat _ (λ g. length g.rules ∷ []) s.actor.groups
                      (every_map _ _ (λ g h. let q : length g.rules ≤ length (each (λ g. g.rules) s.actor.groups) = h in (omega arith, tt)) s.actor.groups (each_long (λ g. g.rules) s.actor.groups))) (
                        omega arith,
                        append_every _ (each (rule_numbers s) (rules_of s.actor)) _ (every_flat _ (rule_numbers s) (rules_of s.actor)
                            (every_map _ _ (λ r h. rule_numbers_law r h.0 h.1) (rules_of s.actor) (every_both _ _ (rules_of s.actor) (sounder ws s ok gr) (each_long (rule_code s) (rules_of s.actor)))))
                            (c, every_flat _ (rule_code s) (rules_of s.actor) code_small),
                      ),
                ),
          ),
        ),
      )
    where
      rule_numbers_law : (r : Rule) → Sounder s ms r → length (rule_code s r) ≤ length (each (rule_code s) (rules_of s.actor)) → Small (rule_numbers s r)
      rule_numbers_law r x h =
          let n = signature_short ws s ok gr in
          let c = code_long in
          let k : length s.actor.signature ≤ 32 = omega arith in (
            lt_of_lt_of_le (mask_below s true [] r.list x.facts.distinct x.facts.known) (pow_mono k),
            (lt_of_lt_of_le (mask_below s false [] r.list x.facts.distinct x.facts.known) (pow_mono k), (omega arith, tt)),
          )
