-- The plan of an accepted actor is sound.
use Prim.Native.Nat.{ℕ, zero, suc, ◌+◌, ◌*◌, ◌^◌, max, ◌≤◌, ◌<◌}
use mathlib.Core.Path.{◌≡◌, refl, sym, ap, ◌∙◌, subst}
use mathlib.Core.List.{List, [], ◌∷◌, ◌++◌}
use mathlib.Core.Bool.{Bool, true, false, false≢true}
use native.Mathlib.Omega.{arith}
use native.Mathlib.Nat.{zero-add, add-zero, zero-mul, one-mul}
use native.Mathlib.Decide.{dec_lt}
use lib.ListN.{length, get_or, replicate, length-replicate}
use lib.Pow.{pow_pos}
use Rattle.language.specs.Text.{Name, among}
use Rattle.language.specs.Words.{Word}
use Rattle.language.specs.Tree.{Expr, Statement, Rule, Group, spelled_of, port_names, memory_names}
use Rattle.language.specs.Parts.{each, items, wholes, statements, actor_items, val_items, declared_items, read_names}
use Rattle.language.specs.Names.{input_names, missing, repeated, entry_names, ports, statement_faults, rule_faults}
use Rattle.language.specs.Counts.{expr_words, rules_of}
use Rattle.language.specs.Values.{bit_of, number_of, or_of}
use Rattle.language.specs.Sizes.{Setting}
use Rattle.language.specs.Meaning.{port_at}
use Rattle.language.specs.Presence.{present_names, assigned_in, read_in, inputs_in, rule_presence}
use Rattle.plan.specs.Layout.{present_at, code_at, group_at, rules_before}
use Rattle.plan.specs.Sound.{end_of, Ended, ended, unended, rule_check, joined, group_check, groups_check, sound_of}
use Rattle.placed.specs.Placed.{Every}
use Rattle.placed.proofs.Every.{append_nils, every_nil, every_map, every_both, every_append, every_each, every_at}
use Rattle.plan_of.specs.PlanOf.{mask_of, body_code, rule_code, plan_of}
use Rattle.plan_of.specs.Formed.{FormedRule, FormedStatement}
use Rattle.plan_of.specs.Accepted.{Accepted, Grammatical}
use Rattle.plan_of.proofs.Effects.{or_both}
use Rattle.placed.proofs.Names.{missing_none, among_append, Distinct, repeated_distinct, every_spelled, spelled_every}
use Rattle.plan_of.proofs.Masks.{bit_zero, bit_past, bit_small, bit_same, bit_below, port_below}
use Rattle.plan_of.proofs.Sections.{no_rule, no_group, group_count_law, group_at_law, rule_present, code_at_law}
use Rattle.plan_of.proofs.Outputs.{Once, distinct_once, spelled_append, Wider, Apart, GroupsApart}
use Rattle.plan_of.proofs.Firing.{Stretch, stretch, group_rule}
use Rattle.plan_of.proofs.Rules.{decode_all_law}
use Rattle.plan_of.proofs.Facts.{RuleFacts, name_facts, limit_facts, signature_short, ports_known, outputs_known, port_small, memory_small, rule_facts, rule_names_law, rule_formed, rule_words_law, rule_bodies, rule_presence_law, groups_separate}
use Rattle.plan_of.proofs.Checks.{Readable}
use Rattle.plan_of.proofs.SoundRules.{mask_after, MoreStatement, unkept_start, body_ends}
use Rattle.plan_of.proofs.SoundNames.{memory_there, readable, writable, Free, assignable, mask_free, NumberOk, numbers_ok, Present, Sure, more_statement}
use Rattle.plan_of.proofs.SoundSections.{sections_sound}

pub distinct_first : (seen : List (List ℕ)) (l m : List Name) → Distinct seen (l ++ m) → Distinct seen l
distinct_first seen [] m d = tt
distinct_first seen (n ∷ l) m d = (d.0, distinct_first (n.spelled ∷ seen) l m d.1)

-- ## Two masks together

number_below : (w : ℕ) (f : ℕ → ℕ) → ((k : ℕ) → f k < 2) → number_of w f < 2 ^ w
unfolding number_of
number_below zero f h = pow_pos 0
number_below (suc w) f h = go (f w) (h w) (number_below w f h)
  where
    go : (x : ℕ) → x < 2 → number_of w f < 2 ^ w → x * 2 ^ w + number_of w f < 2 ^ suc w
    go zero a b = let e = zero-mul (2 ^ w) in omega arith
    go (suc zero) a b = let e = one-mul (2 ^ w) in omega arith
    go (suc (suc x)) a b = absurd (omega arith)

number_bit : (w k : ℕ) (f : ℕ → ℕ) → ((k : ℕ) → f k < 2) → k < w → bit_of (number_of w f) k ≡ f k
unfolding number_of
number_bit zero k f h l = absurd (omega arith)
number_bit (suc w) k f h l = go (f w) refl (h w) (dec_lt k w) (λ q. number_bit w k f h q)
  where
    m : ℕ
    m = number_of w f

    top : bit_of m w ≡ 0
    top = bit_past m w w (number_below w f h) (omega arith)

    go : (x : ℕ) → f w ≡ x → x < 2 → Dec (k < w) → (k < w → bit_of m k ≡ f k) → bit_of (x * 2 ^ w + m) k ≡ f k
    go zero e a (yes q) r = rw (zero-mul (2 ^ w), zero-add m) (r q)
    go zero e a (no q) r = let z : k ≡ w = omega arith in rw (z, zero-mul (2 ^ w), zero-add m, e) top
    go (suc zero) e a (yes q) r = rw (one-mul (2 ^ w)) (bit_below w k m q ∙ r q)
    go (suc zero) e a (no q) r = let z : k ≡ w = omega arith in rw (z, one-mul (2 ^ w), e) (bit_same w m top)
    go (suc (suc x)) e a d r = absurd (omega arith)

joined_free : (p : List ℕ) (a b k : ℕ) → k < 16 → bit_of a k ≡ 0 → bit_of b k ≡ 0 → bit_of (joined p a b) k ≡ 0
unfolding joined or_of
joined_free p a b k h x y =
    number_bit 16 k (λ j. max (bit_of a j) (bit_of b j)) (λ j. let u = bit_small a j in let v = bit_small b j in omega arith) h ∙ rw (x, y)

-- ## A rule

-- what is known of a rule for its soundness
pub record Sounder (s : Setting) (ms : List (List ℕ)) (r : Rule) : Type 0 where
  pub facts : RuleFacts s r
  pub more : (taken : ℕ) → Every (MoreStatement s (mask_of s true r.list) taken ms) r.body
  pub bound : Every (λ n. among (present_names r) n.spelled ≡ true) (assigned_in r)

module _ (ws : List Word) (s : Setting) (ok : Accepted ws s) (gr : Grammatical ws s.actor) where
  abbrev p : List ℕ
  p = plan_of s

  abbrev ms : List (List ℕ)
  ms = spelled_of (memory_names s.actor.memories)

  rule_numbers_law : Every (λ r. Every (λ x. Every (λ e. Every NumberOk (items e)) (wholes x)) r.body) (rules_of s.actor)
  unfolding actor_items
  rule_numbers_law =
      let a = numbers_ok (actor_items s.actor) (limit_facts ws s.actor ok.limited).6 in
      let b = every_append NumberOk (each (λ p. declared_items p.type) s.actor.ports) _ a in
      let c = every_append NumberOk (each (λ m. declared_items m.type) s.actor.memories) _ b.1 in
      rule_bodies ws s ok gr _ (every_map _ _ (λ x q. every_each NumberOk items (wholes x) (every_append NumberOk (val_items x) (each items (wholes x)) q).1) (statements s.actor) (every_each NumberOk (λ s. val_items s ++ each items (wholes s)) (statements s.actor) c.1))

  -- inputs that a rule reads are present
  reads_present : (r : Rule) → missing (present_names r) (inputs_in s.actor r) ≡ [] → Every (λ x. Every (λ e. Every (Present s (present_names r)) (read_names (items e))) (wholes x)) r.body
  unfolding inputs_in read_in
  reads_present r h =
      every_map _ _ (λ x q. every_each _ (λ e. read_names (items e)) (wholes x) q) r.body
      (every_each _ (λ x. each (λ e. read_names (items e)) (wholes x)) r.body
      (every_map _ _ (λ n q. one n q) (each (λ x. each (λ e. read_names (items e)) (wholes x)) r.body) (every_each _ (λ n. elim (among (input_names s.actor.ports) n.spelled) as (λ _. List Name) [ true ↦ n ∷ [] | false ↦ [] ]) _ (missing_none _ _ h))))
    where
      one : (n : Name) → Every {A = Name} (λ m. among (present_names r) m.spelled ≡ true) (elim (among (input_names s.actor.ports) n.spelled) [ true ↦ n ∷ [] | false ↦ [] ])
          → among (input_names s.actor.ports) n.spelled ≡ true → among (present_names r) n.spelled ≡ true
      one n q e = go (among (input_names s.actor.ports) n.spelled) e q
        where
          go : (b : Bool) → b ≡ true → Every {A = Name} (λ m. among (present_names r) m.spelled ≡ true) (elim b [ true ↦ n ∷ [] | false ↦ [] ]) → among (present_names r) n.spelled ≡ true
          go true e q = q.0
          go false e q = absurd (false≢true e)

  pub sounder : Every (Sounder s ms) (rules_of s.actor)
  unfolding rule_faults rule_presence ports
  sounder =
      every_map _ _ (λ r q. one r q.0 q.1.0 q.1.1.0 q.1.1.1.0 q.1.1.1.1.0 q.1.1.1.1.1) (rules_of s.actor)
      (every_both _ _ (rules_of s.actor) (rule_facts ws s ok gr) (every_both _ _ (rules_of s.actor) (rule_names_law ws s ok gr) (every_both _ _ (rules_of s.actor) (rule_words_law ws s ok gr)
      (every_both _ _ (rules_of s.actor) rule_numbers_law (every_both _ _ (rules_of s.actor) (rule_formed ws s ok gr) (rule_presence_law ws s ok gr))))))
    where
      sure : (here : List (List ℕ)) (l : List Expr) → Every (λ e. expr_words e ≤ 256) l → Every (λ e. Every NumberOk (items e)) l → Every (λ e. Every (Present s here) (read_names (items e))) l → Every (Sure s here) l
      sure here [] w u x = tt
      sure here (e ∷ l) w u x = ((w.0, u.0, x.0), sure here l w.1 u.1 x.1)

      sures : (here : List (List ℕ)) (l : List Statement) → Every (λ y. Every (λ e. expr_words e ≤ 256) (wholes y)) l → Every (λ y. Every (λ e. Every NumberOk (items e)) (wholes y)) l
          → Every (λ y. Every (λ e. Every (Present s here) (read_names (items e))) (wholes y)) l → Every (λ y. Every (Sure s here) (wholes y)) l
      sures here [] w u x = tt
      sures here (y ∷ l) w u x = (sure here (wholes y) w.0 u.0 x.0, sures here l w.1 u.1 x.1)

      mores : (r : Rule) (taken : ℕ) → ((n : List ℕ) → among (input_names s.actor.ports) n ≡ true → among (present_names r) n ≡ true → Readable s (mask_of s true r.list) taken 0 ms n)
          → (l : List Statement) → Every (FormedStatement ms) l → Every (λ x. statement_faults s.actor x ≡ []) l → Every (λ x. Every (Sure s (present_names r)) (wholes x)) l → Every (MoreStatement s (mask_of s true r.list) taken ms) l
      mores r taken q [] f v x = tt
      mores r taken q (y ∷ l) f v x = (more_statement s (mask_of s true r.list) taken ms (present_names r) q y f.0 x.0 v.0, mores r taken q l f.1 v.1 x.1)

      one : (r : Rule) → RuleFacts s r → rule_faults s.actor r ≡ [] → Every (λ x. Every (λ e. expr_words e ≤ 256) (wholes x)) r.body → Every (λ x. Every (λ e. Every NumberOk (items e)) (wholes x)) r.body
          → FormedRule ms r → rule_presence s.actor r ≡ [] → Sounder s ms r
      one r f n w u g h =
          let a = append_nils (missing (ports s.actor) (entry_names r.list)) _ n in
          let b = append_nils (repeated [] (entry_names r.list)) _ a.1 in
          let c = append_nils (missing (present_names r) (inputs_in s.actor r)) _ h in
          let d = append_nils (missing (present_names r) (assigned_in r)) _ c.1 in
          let v = every_nil (statement_faults s.actor) r.body b.1 in
          let x = reads_present r c.0 in
          record {
            facts = f;
            more = λ taken. mores r taken (readable s r taken 0 ms (ports_known ws s ok gr) (port_small ws s ok gr) f.distinct f.known) r.body g.1 v (sures (present_names r) r.body w u x);
            bound = missing_none _ _ d.0;
          }

  -- a rule's code, after groups that took these outputs
  rule_ended : (seen : List (List ℕ)) (taken i : ℕ) (r : Rule) → Sounder s ms r → present_at p i ≡ mask_of s true r.list → code_at p i ≡ rule_code s r → Free s 0 0 ms seen taken → Every (λ n. among seen n ≡ false) (spelled_of (assigned_in r))
      → (rule_check p taken i ≡ ended (mask_after s 0 (assigned_in r))) × Free s 0 0 ms (spelled_of (assigned_in r)) (mask_after s 0 (assigned_in r))
  unfolding rule_check rule_code assigned_in end_of ports
  rule_ended seen taken i r h e c f n =
      let known = every_spelled _ (assigned_in r) (every_map _ _ (λ m k. outputs_known ws s ok gr m.spelled k) (assigned_in r) h.facts.outputs) in
      let o : Once [] (spelled_of (port_names s.actor.ports)) = distinct_once [] (port_names s.actor.ports) (distinct_first [] (port_names s.actor.ports) (memory_names s.actor.memories) (repeated_distinct [] _ (name_facts s.actor ok.names).3)) in
      let w = every_map _ _ (λ m q. writable s r taken 0 ms (ports_known ws s ok gr) (port_small ws s ok gr) h.facts.distinct h.facts.known m.spelled o q.0 q.1.0 (f m.spelled (outputs_known ws s ok gr m.spelled q.0) q.1.1)) (assigned_in r)
      (every_both _ _ (assigned_in r) h.facts.outputs (every_both _ _ (assigned_in r) h.bound (spelled_every _ (assigned_in r) n))) in
      let a = assignable s (mask_of s true r.list) taken ms [] 0 (assigned_in r) (λ m x y. bit_zero (port_at s m)) h.facts.once known w in
      let b = body_ends s (mask_of s true r.list) taken ms (port_small ws s ok gr) (memory_small ws s ok gr) (λ m q. memory_there s (mask_of s true r.list) taken 0 ms m q) 0 0 r.body (replicate 48 99) h.facts.fine.0 (h.more taken) a
      (let k = h.facts.fine.1 in omega arith) (length-replicate {A = ℕ} 48 99) unkept_start in (
        rw (rule_check, e, c, decode_all_law (body_code s 0 r.body), b.checks) refl,
        λ m x y. mask_free s (mask_of s true r.list) taken ms 0 (assigned_in r) m a known x y (bit_zero (port_at s m)),
      )

  -- ## A group

  -- a rule of the plan and of the text
  abbrev There : List (List ℕ) → ℕ → Rule → Type 0
  There seen i r = Sounder s ms r × (present_at p i ≡ mask_of s true r.list) × (code_at p i ≡ rule_code s r) × Every (λ n. among seen n ≡ false) (spelled_of (assigned_in r))

  -- how a group's check ends: with the outputs taken, and those of the group
  abbrev EndsFree : List (List ℕ) → Ended → Type 0
  EndsFree seen (ended d) = Free s 0 0 ms seen d
  EndsFree seen unended = ⊥

  ends_wider : (more seen : List (List ℕ)) (e : Ended) → Wider more seen → EndsFree seen e → EndsFree more e
  ends_wider more seen (ended d) w f = λ n h k. f n h (w n k)
  ends_wider more seen unended w f = f

  group_ends : (seen : List (List ℕ)) (taken : ℕ) → Free s 0 0 ms seen taken → (acc : List (List ℕ)) (mine i : ℕ) (rs : List Rule) → Stretch (There seen) i rs → Free s 0 0 ms acc mine
      → EndsFree (spelled_of (each assigned_in rs) ++ acc) (group_check p taken mine i (length rs))
  unfolding group_check each spelled_of
  group_ends seen taken f acc mine i [] h a = a
  group_ends seen taken f acc mine i (r ∷ rs) h a =
      let q = rule_ended seen taken i r h.0.0 h.0.1 h.0.2 f h.0.3 in
      let d = mask_after s 0 (assigned_in r) in
      let l = signature_short ws s ok gr in
      let z = group_ends seen taken f (spelled_of (assigned_in r) ++ acc) (joined p mine d) (suc i) rs h.1
      (λ n x y. let u = or_both (among (spelled_of (assigned_in r)) n) (among acc n) (sym (among_append (spelled_of (assigned_in r)) acc n) ∙ y) in
      joined_free p mine d (port_at s n) (let v = port_below s n x in omega arith) (a n x u.1) (q.1 n x u.0)) in
      subst (λ (e : Ended). EndsFree (spelled_of (assigned_in r ++ each assigned_in rs) ++ acc) (elim e [ ended d ↦ group_check p taken (joined p mine d) (suc i) (length rs) | unended ↦ unended ])) (sym q.0)
      (ends_wider _ _ (group_check p taken (joined p mine d) (suc i) (length rs)) wider z)
    where
      wider : Wider (spelled_of (assigned_in r ++ each assigned_in rs) ++ acc) (spelled_of (each assigned_in rs) ++ (spelled_of (assigned_in r) ++ acc))
      wider n h =
          let x = or_both (among (spelled_of (assigned_in r ++ each assigned_in rs)) n) (among acc n) (sym (among_append (spelled_of (assigned_in r ++ each assigned_in rs)) acc n) ∙ h) in
          let y = or_both (among (spelled_of (assigned_in r)) n) (among (spelled_of (each assigned_in rs)) n)
          (sym (ap (λ (l : List (List ℕ)). among l n) (spelled_append (assigned_in r) (each assigned_in rs)) ∙ among_append (spelled_of (assigned_in r)) (spelled_of (each assigned_in rs)) n) ∙ x.0) in
          among_append (spelled_of (each assigned_in rs)) (spelled_of (assigned_in r) ++ acc) n ∙ rw (y.1, among_append (spelled_of (assigned_in r)) acc n, y.0, x.1)

  -- ## The groups

  abbrev GroupsThere : List (List ℕ) → ℕ → List Group → Type 0
  GroupsThere seen g [] = Unit {0}
  GroupsThere seen g (x ∷ gs) = (group_at p g ≡ length x.rules) × Stretch (There seen) (rules_before p g) x.rules × GroupsThere (spelled_of (each assigned_in x.rules) ++ seen) (suc g) gs

  groups_check_law : (seen : List (List ℕ)) (taken g : ℕ) (gs : List Group) → GroupsThere seen g gs → Free s 0 0 ms seen taken → groups_check p taken g (length gs) ≡ true
  unfolding groups_check
  groups_check_law seen taken g [] h f = refl
  groups_check_law seen taken g (x ∷ gs) h f =
      go (group_check p taken taken (rules_before p g) (group_at p g))
      (subst (λ (n : ℕ). EndsFree (spelled_of (each assigned_in x.rules) ++ seen) (group_check p taken taken (rules_before p g) n)) (sym h.0) (group_ends seen taken f seen taken (rules_before p g) x.rules h.1 f))
      (λ d q. groups_check_law (spelled_of (each assigned_in x.rules) ++ seen) d (suc g) gs h.2 q)
    where
      go : (e : Ended) → EndsFree (spelled_of (each assigned_in x.rules) ++ seen) e → ((d : ℕ) → Free s 0 0 ms (spelled_of (each assigned_in x.rules) ++ seen) d → groups_check p d (suc g) (length gs) ≡ true)
          → (elim e as (λ _. Bool) [ ended d ↦ groups_check p d (suc g) (length gs) | unended ↦ false ]) ≡ true
      go (ended d) q r = r d q
      go unended q r = absurd q

  groups_there : GroupsThere [] 0 s.actor.groups
  groups_there = walk [] 0 s.actor.groups (λ j h. rw (zero-add j) (at j h)) (groups_separate ws s ok gr)
    where
      Two : ℕ → Rule → Type 0
      Two i r = Sounder s ms r × (present_at p i ≡ mask_of s true r.list) × (code_at p i ≡ rule_code s r)

      one : ℕ → Group → Type 0
      one g x = (group_at p g ≡ length x.rules) × Stretch Two (rules_before p g) x.rules

      two : (i : ℕ) → i < length (rules_of s.actor) → Two i (get_or (rules_of s.actor) i no_rule)
      two i h = (every_at (Sounder s ms) no_rule (rules_of s.actor) i sounder h, rule_present s i h, code_at_law s i h)

      at : (g : ℕ) → g < length s.actor.groups → one g (get_or s.actor.groups g no_group)
      at g h = (
        group_at_law s g h,
        stretch Two (rules_before p g) (get_or s.actor.groups g no_group).rules (λ j k. let q = group_rule s g j h k in subst (Two (rules_before p g + j)) q.1 (two (rules_before p g + j) q.0)),
      )

      three : (seen group : List (List ℕ)) (i : ℕ) (rs : List Rule) → Stretch Two i rs → Every (Apart seen group) rs → Stretch (There seen) i rs
      three seen group i [] x y = tt
      three seen group i (r ∷ rs) x y = ((x.0.0, x.0.1, x.0.2, y.0.1), three seen group (suc i) rs x.1 y.1)

      walk : (seen : List (List ℕ)) (k : ℕ) (gs : List Group) → ((j : ℕ) → j < length gs → one (k + j) (get_or gs j no_group)) → GroupsApart seen gs → GroupsThere seen k gs
      walk seen k [] f a = tt
      walk seen k (x ∷ gs) f a =
          let z : one k x = rw (add-zero k) at (f 0 (omega arith)) in (
            z.0,
            three seen (spelled_of (each assigned_in x.rules)) (rules_before p k) x.rules z.1 a.0,
            walk (spelled_of (each assigned_in x.rules) ++ seen) (suc k) gs (λ j h. let e : k + suc j ≡ suc k + j = omega arith in rw e at (f (suc j) (omega arith))) a.1,
          )

  -- THE THEOREM: an accepted actor's plan is sound
  pub plan_sound : sound_of (plan_of s) ≡ true
  unfolding sound_of
  plan_sound = rw (sound_of, sections_sound ws s ok gr, group_count_law s) (groups_check_law [] 0 0 s.actor.groups groups_there (λ n h k. bit_zero (port_at s n)))
