-- What an accepted actor is known by: its declarations, its rules one by one, and its groups.
use Prim.Native.Nat.{ℕ, ◌≤◌}
use mathlib.Core.Path.{◌≡◌, refl, sym, ap, ◌∙◌}
use mathlib.Core.List.{List, [], ◌∷◌, ◌++◌}
use mathlib.Core.Bool.{Bool, true, false, not}
use lib.ListN.{length, drop}
use lib.Dec.{leb}
use Rattle.language.specs.Text.{Name, among}
use Rattle.language.specs.Words.{Word}
use Rattle.language.specs.Tree.{Port, Entry, Expr, Assignment, assign, write, Statement, alone, scoped, Rule, Group, Actor, spelled_of, port_names, memory_names}
use Rattle.language.specs.Parts.{each, start, type_start, wholes, statements, actor_items, types, numbers}
use Rattle.language.specs.Names.{when, input_names, output_names, entry_names, clashing, missing, repeated, ports, declaration_faults, type_name_faults, assignment_faults, val_faults, statement_faults, rule_faults, name_faults}
use Rattle.language.specs.Counts.{type_words, expr_words, word_after, too_many, val_names, rules_of, limit_faults}
use Rattle.language.specs.Counts as Counts
use Rattle.language.specs.Widths.{port_width, memory_width}
use Rattle.language.specs.Sizes.{Setting, statement_sizes, size_faults}
use Rattle.language.specs.Presence.{present_names, output_of, outputs_of, assigned_in, inputs_in, rule_presence, group_presence, presence_faults}
use Rattle.placed.specs.Placed.{Every}
use Rattle.placed.specs.Worded.{Worded}
use Rattle.placed.proofs.Every.{append_nils, every_nil, every_map, every_both, append_every, every_flat, every_each}
use Rattle.placed.proofs.Worded.{short_actor}
use Rattle.plan_of.specs.Formed.{FormedRule, FormedStatement}
use Rattle.plan_of.specs.Accepted.{Accepted, Grammatical}
use Rattle.plan_of.proofs.Effects.{or_both}
use Rattle.placed.proofs.Names.{when_not, when_nil, every_among, among_here, among_there, among_append, Distinct, repeated_distinct, missing_none, every_spelled}
use Rattle.plan_of.proofs.Masks.{Known}
use Rattle.plan_of.proofs.Outputs.{distinct_once, spelled_append, Wider, GroupsApart}
use Rattle.plan_of.proofs.Rules.{FineRule, FineStatement}
use Rattle.plan_of.proofs.Faultless.{fine_statement, few, few_vals}

-- ## Rows 6 and 7, taken apart

module _ (a : Actor) (h : name_faults a ≡ []) where
  pub name_facts : (repeated [] a.signature ≡ []) × (missing (ports a) a.signature ≡ []) × (missing (spelled_of a.signature) (port_names a.ports) ≡ []) × (repeated [] (port_names a.ports ++ memory_names a.memories) ≡ [])
      × Every (λ r. rule_faults a r ≡ []) (rules_of a)
  unfolding name_faults declaration_faults rules_of
  name_facts =
      let x = append_nils (declaration_faults a) (type_name_faults a ++ each (λ g. each (rule_faults a) g.rules) a.groups) h in
      let y = append_nils (type_name_faults a) (each (λ g. each (rule_faults a) g.rules) a.groups) x.1 in
      let b = append_nils (repeated [] a.signature) _ x.0 in
      let c = append_nils (missing (ports a) a.signature) _ b.1 in
      let d = append_nils (missing (spelled_of a.signature) (port_names a.ports)) _ c.1 in (
        b.0,
        c.0,
        d.0,
        d.1,
        every_flat (λ r. rule_faults a r ≡ []) (λ g. g.rules) a.groups (every_map _ _ (λ g q. every_nil (rule_faults a) g.rules q) a.groups (every_nil (λ g. each (rule_faults a) g.rules) a.groups y.1)),
      )

module _ (ws : List Word) (a : Actor) (h : limit_faults ws a ≡ []) where
  abbrev wordy : Expr → List ℕ
  wordy e = elim (leb (expr_words e) 256) [ true ↦ [] | false ↦ word_after ws (start e) 256 ]

  pub limit_facts : (too_many 16 a.signature ≡ []) × (too_many 8 (memory_names a.memories) ≡ []) × (Counts.size_faults 0 a.memories ≡ []) × (each (λ g. g.at ∷ []) (drop 8 a.groups) ≡ [])
      × (too_many 32 (each (λ r. r.called ∷ []) (rules_of a)) ≡ []) × Every (λ r. too_many 16 (each val_names r.body) ≡ []) (rules_of a) × Every (λ n. when (not (leb n.value 64)) n.at ≡ []) (numbers (actor_items a))
      × Every (λ e. wordy e ≡ []) (each wholes (statements a))
  unfolding limit_faults
  limit_facts =
      let b = append_nils (too_many 16 a.signature) _ h in
      let c = append_nils (too_many 8 (memory_names a.memories)) _ b.1 in
      let d = append_nils (Counts.size_faults 0 a.memories) _ c.1 in
      let e = append_nils (each (λ g. g.at ∷ []) (drop 8 a.groups)) _ d.1 in
      let f = append_nils (too_many 32 (each (λ r. r.called ∷ []) (rules_of a))) _ e.1 in
      let g = append_nils (each (λ r. too_many 16 (each val_names r.body)) (rules_of a)) _ f.1 in
      let i = append_nils (each (λ n. when (not (leb n.value 64)) n.at) (numbers (actor_items a))) _ g.1 in
      let j = append_nils (each (λ t. elim (leb (type_words t) 64) [ true ↦ [] | false ↦ word_after ws (type_start t) 64 ]) (types (actor_items a))) _ i.1 in
      (b.0, c.0, d.0, e.0, f.0, every_nil _ (rules_of a) g.0, every_nil _ (numbers (actor_items a)) i.0, every_nil wordy (each wholes (statements a)) j.1)

  -- no whole expression has too many words
  pub word_facts : Worded ws a → Every (λ e. expr_words e ≤ 256) (each wholes (statements a))
  word_facts w = (short_actor w h).in_wholes

-- ## Ports

some_ports : (f : Port → List (List ℕ)) → ((p : Port) → Every (λ m. m ≡ p.called.spelled) (f p)) → (ps : List Port) → Every (λ m. among (spelled_of (port_names ps)) m ≡ true) (each f ps)
unfolding spelled_of port_names each
some_ports f h [] = tt
some_ports f h (p ∷ ps) =
    append_every _ (f p) (each f ps) (every_map _ _ (λ m e. rw e (among_here (spelled_of (port_names ps)) p.called.spelled)) (f p) (h p))
    (every_map _ _ (λ m e. among_there (spelled_of (port_names ps)) p.called.spelled m e) (each f ps) (some_ports f h ps))

pub input_ports : (ps : List Port) → Every (λ m. among (spelled_of (port_names ps)) m ≡ true) (input_names ps)
unfolding input_names
input_ports ps = some_ports _ (λ p. one p p.input) ps
  where
    one : (p : Port) (b : Bool) → Every (λ m. m ≡ p.called.spelled) (elim b [ true ↦ p.called.spelled ∷ [] | false ↦ [] ])
    one p true = (refl, tt)
    one p false = tt

pub output_ports : (ps : List Port) → Every (λ m. among (spelled_of (port_names ps)) m ≡ true) (output_names ps)
unfolding output_names
output_ports ps = some_ports _ (λ p. one p p.input) ps
  where
    one : (p : Port) (b : Bool) → Every (λ m. m ≡ p.called.spelled) (elim b [ true ↦ [] | false ↦ p.called.spelled ∷ [] ])
    one p true = tt
    one p false = (refl, tt)

-- ## The names of a rule

entries_known : (P : Name → Type 0) (es : List Entry) → Every P (entry_names es) → Every (λ e. P e.called) es
unfolding entry_names each
entries_known P [] h = tt
entries_known P (e ∷ es) h = (h.0, entries_known P es h.1)

-- what a rule assigns are outputs
assigned_outputs : (a : Actor) (lets : List (List ℕ)) (x : Assignment) → assignment_faults a lets x ≡ [] → Every (λ n. among (output_names a.ports) n.spelled ≡ true) (output_of x)
unfolding assignment_faults output_of
assigned_outputs a lets (assign n e) h = let q = append_nils (when (not (among (output_names a.ports) n.spelled)) n.at) _ h in (when_not _ _ q.0, tt)
assigned_outputs a lets (write n x e) h = tt

statement_outputs : (a : Actor) (x : Statement) → statement_faults a x ≡ [] → Every (λ n. among (output_names a.ports) n.spelled ≡ true) (outputs_of x)
unfolding statement_faults outputs_of
statement_outputs a (alone x) h = assigned_outputs a [] x h
statement_outputs a (scoped vs l) h =
    let q = append_nils (val_faults a [] vs) _ h in
    every_flat _ output_of l (every_map _ _ (λ x k. assigned_outputs a _ x k) l (every_nil _ l q.1))

abbrev pub AssignsOutputs : Actor → Rule → Type 0
AssignsOutputs a r = Every (λ n. among (output_names a.ports) n.spelled ≡ true) (assigned_in r)

pub rule_outputs : (a : Actor) (r : Rule) → each (statement_faults a) r.body ≡ [] → AssignsOutputs a r
unfolding assigned_in
rule_outputs a r h = every_flat _ outputs_of r.body (every_map _ _ (λ x k. statement_outputs a x k) r.body (every_nil _ r.body h))

-- ## Groups

-- what is not among the names of a group is not among those of a rule of it
wider_rules : (rs : List Rule) → Every (λ r. Wider (spelled_of (each assigned_in rs)) (spelled_of (assigned_in r))) rs
unfolding each
wider_rules [] = tt
wider_rules (r ∷ rs) =
    (λ n h. (split n h).0, every_map _ _ (λ q w n h. w n (split n h).1) rs (wider_rules rs))
  where
    split : (n : List ℕ) → among (spelled_of (assigned_in r ++ each assigned_in rs)) n ≡ false → (among (spelled_of (assigned_in r)) n ≡ false) × (among (spelled_of (each assigned_in rs)) n ≡ false)
    split n h = or_both (among (spelled_of (assigned_in r)) n) (among (spelled_of (each assigned_in rs)) n) (sym (ap (λ (l : List (List ℕ)). among l n) (spelled_append (assigned_in r) (each assigned_in rs)) ∙ among_append (spelled_of (assigned_in r)) (spelled_of (each assigned_in rs)) n) ∙ h)

pub groups_apart : (seen : List (List ℕ)) (gs : List Group) → Every (λ g. Every (λ r. Distinct [] (assigned_in r)) g.rules) gs → group_presence seen gs ≡ [] → GroupsApart seen gs
unfolding group_presence clashing
groups_apart seen [] d h = tt
groups_apart seen (g ∷ gs) d h =
    let q = append_nils (clashing seen (each assigned_in g.rules)) _ h in
    let c = every_each (λ n. among seen n.spelled ≡ false) assigned_in g.rules (clash (each assigned_in g.rules) q.0) in (
      every_map _ _ (λ r x. (distinct_once [] (assigned_in r) x.0, every_spelled _ (assigned_in r) x.1.0, x.1.1)) g.rules (every_both _ _ g.rules d.0 (every_both _ _ g.rules c (wider_rules g.rules))),
      groups_apart (spelled_of (each assigned_in g.rules) ++ seen) gs d.1 q.1,
    )
  where
    clash : (ns : List Name) → clashing seen ns ≡ [] → Every (λ n. among seen n.spelled ≡ false) ns
    clash ns h = every_map _ _ (λ n k. when_nil _ _ k) ns (every_nil _ ns h)

-- ## An accepted actor

-- what is known of a rule
pub record RuleFacts (s : Setting) (r : Rule) : Type 0 where
  pub distinct : Distinct [] (entry_names r.list)
  pub known : Known s r.list
  pub fine : FineRule s (spelled_of (memory_names s.actor.memories)) r
  pub outputs : AssignsOutputs s.actor r
  pub once : Distinct [] (assigned_in r)

module _ (ws : List Word) (s : Setting) (ok : Accepted ws s) (gr : Grammatical ws s.actor) where
  abbrev a : Actor
  a = s.actor

  abbrev ms : List (List ℕ)
  ms = spelled_of (memory_names a.memories)

  pub signature_distinct : Distinct [] a.signature
  signature_distinct = repeated_distinct [] a.signature (name_facts a ok.names).0

  pub ports_known : (n : List ℕ) → among (ports a) n ≡ true → among (spelled_of a.signature) n ≡ true
  unfolding ports
  ports_known n h = every_among _ (spelled_of (port_names a.ports)) n (every_spelled _ (port_names a.ports) (missing_none _ _ (name_facts a ok.names).2)) h

  pub inputs_known : (n : List ℕ) → among (input_names a.ports) n ≡ true → among (spelled_of a.signature) n ≡ true
  unfolding ports
  inputs_known n h = ports_known n (every_among _ (input_names a.ports) n (input_ports a.ports) h)

  pub outputs_known : (n : List ℕ) → among (output_names a.ports) n ≡ true → among (spelled_of a.signature) n ≡ true
  unfolding ports
  outputs_known n h = ports_known n (every_among _ (output_names a.ports) n (output_ports a.ports) h)

  pub signature_short : length a.signature ≤ 16
  signature_short = few 16 a.signature (limit_facts ws a ok.limited).0

  pub port_small : (n : List ℕ) → port_width s.actor s.widths n ≤ 32
  unfolding port_width
  port_small n = ok.least.satisfies.small _

  pub memory_small : (n : List ℕ) → memory_width s.actor s.widths n ≤ 32
  unfolding memory_width
  memory_small n = ok.least.satisfies.small _

  -- rule by rule
  pub rule_names_law : Every (λ r. rule_faults a r ≡ []) (rules_of a)
  rule_names_law = (name_facts a ok.names).4

  pub rule_bodies : (P : Statement → Type 0) → Every P (statements a) → Every (λ r. Every P r.body) (rules_of a)
  unfolding statements rules_of
  rule_bodies P h = every_flat _ (λ g. g.rules) a.groups (every_map _ _ (λ g q. every_each P (λ r. r.body) g.rules q) a.groups (every_each P (λ g. each (λ r. r.body) g.rules) a.groups h))

  rule_sizes : Every (λ r. Every (λ x. statement_sizes s x ≡ []) r.body) (rules_of a)
  unfolding size_faults
  rule_sizes = rule_bodies _ (every_nil (statement_sizes s) (statements a) ok.sized)

  pub rule_words_law : Every (λ r. Every (λ x. Every (λ e. expr_words e ≤ 256) (wholes x)) r.body) (rules_of a)
  rule_words_law = rule_bodies _ (every_each _ wholes (statements a) (word_facts ws a ok.limited gr.worded))

  pub rule_formed : Every (FormedRule ms) (rules_of a)
  unfolding rules_of
  rule_formed = every_flat _ (λ g. g.rules) a.groups (every_map _ _ (λ g q. q.1) a.groups gr.formed.2)

  pub rule_presence_law : Every (λ r. rule_presence a r ≡ []) (rules_of a)
  unfolding presence_faults rules_of
  rule_presence_law =
      let q = append_nils (each (λ g. each (rule_presence a) g.rules) a.groups) _ ok.present in
      every_flat _ (λ g. g.rules) a.groups (every_map _ _ (λ g k. every_nil (rule_presence a) g.rules k) a.groups (every_nil _ a.groups q.0))

  rule_once : (r : Rule) → rule_presence a r ≡ [] → Distinct [] (assigned_in r)
  unfolding rule_presence
  rule_once r h =
      let q = append_nils (missing (present_names r) (inputs_in a r)) _ h in
      let t = append_nils (missing (present_names r) (assigned_in r)) _ q.1 in
      repeated_distinct [] (assigned_in r) t.1

  pub rule_facts : Every (RuleFacts s) (rules_of a)
  unfolding rule_faults
  rule_facts =
      every_map _ _ (λ r q. one r q.0 q.1.0 q.1.1.0 q.1.1.1.0 q.1.1.1.1.0 q.1.1.1.1.1) (rules_of a)
      (every_both _ _ (rules_of a) rule_names_law (every_both _ _ (rules_of a) rule_sizes (every_both _ _ (rules_of a) rule_words_law
      (every_both _ _ (rules_of a) rule_formed (every_both _ _ (rules_of a) (limit_facts ws a ok.limited).5 rule_presence_law)))))
    where
      statements_fine : (l : List Statement) → Every (FormedStatement ms) l → Every (λ x. statement_sizes s x ≡ []) l → Every (λ x. Every (λ e. expr_words e ≤ 256) (wholes x)) l → Every (FineStatement s ms) l
      statements_fine [] f z w = tt
      statements_fine (x ∷ l) f z w = (fine_statement s ms x f.0 z.0 w.0, statements_fine l f.1 z.1 w.1)

      one : (r : Rule) → rule_faults a r ≡ [] → Every (λ x. statement_sizes s x ≡ []) r.body → Every (λ x. Every (λ e. expr_words e ≤ 256) (wholes x)) r.body → FormedRule ms r → too_many 16 (each val_names r.body) ≡ []
          → rule_presence a r ≡ [] → RuleFacts s r
      one r n z w f v p =
          let b = append_nils (missing (ports a) (entry_names r.list)) _ n in
          let c = append_nils (repeated [] (entry_names r.list)) _ b.1 in
          record {
            distinct = repeated_distinct [] (entry_names r.list) c.0;
            known = entries_known (λ m. among (spelled_of a.signature) m.spelled ≡ true) r.list (every_map _ _ (λ m k. ports_known m.spelled k) (entry_names r.list) (missing_none _ _ b.0));
            fine = (statements_fine r.body f.1 z w, few_vals r.body v);
            outputs = rule_outputs a r c.1;
            once = rule_once r p;
          }

  pub groups_separate : GroupsApart [] a.groups
  unfolding presence_faults
  groups_separate =
      let q = append_nils (each (λ g. each (rule_presence a) g.rules) a.groups) _ ok.present in
      groups_apart [] a.groups (every_map _ _ (λ g k. every_map _ _ (λ r j. rule_once r j) g.rules (every_nil (rule_presence a) g.rules k)) a.groups (every_nil _ a.groups q.0)) q.1
