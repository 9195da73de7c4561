-- THE THEOREM: the walk over an actor's settled items meets the faults of row 11, and gives the code of its plan. Assumes nothing.
use mathlib.Core.Path.{◌≡◌, refl, sym, ap, ◌∙◌}
use mathlib.Core.List.{List, [], ◌∷◌, ◌++◌, append-nil}
use Prim.Native.Nat.{ℕ, suc, ◌≤◌}
use native.Mathlib.Omega.{arith}
use lib.ListN.{length}
use Rattle.language.specs.Words.{Word}
use Rattle.language.specs.Tree.{Rule, Actor, Statement, spelled_of, memory_names}
use Rattle.language.specs.Parts.{each, wholes, statements}
use Rattle.language.specs.Counts.{expr_words, rules_of}
use Rattle.language.specs.Widths.{port_width, memory_width}
use Rattle.language.specs.Sizes.{Setting, statement_sizes, size_faults}
use Rattle.placed.specs.Placed.{Every}
use Rattle.placed.proofs.Every.{every_nil, every_map, every_both, every_each, each_append}
use Rattle.plan_of.specs.PlanOf.{rule_code}
use Rattle.plan_of.specs.Formed.{FormedRule}
use Rattle.plan_of.proofs.Rules.{vals_in}
use Rattle.plan_of.proofs.Faultless.{fine_statement, few, few_vals}
use Rattle.plan_of.proofs.Facts.{limit_facts, word_facts}
use Rattle.settled.specs.Settled.{settled_of}
use Rattle.size_walk.specs.Steps.{State, walk, begin}
use Rattle.plan_of.specs.Row11.{Measured, Sized}
use Rattle.plan_of.proofs.Firsts.{told, sooner_none}
use Rattle.plan_of.proofs.Walks.{goes_whole}
use Rattle.plan_of.proofs.Actors.{Rules, FineBody, actor_leaves}

-- lists made of lists
each_each : {A B C : Type 0} (f : B → List C) (g : A → List B) (l : List A) → each f (each g l) ≡ each (λ x. each f (g x)) l
unfolding each
each_each f g [] = refl
each_each f g (x ∷ l) = each_append f (g x) (each g l) ∙ ap (λ (r : List _). each f (g x) ++ r) (each_each f g l)

each_same : {A B : Type 0} (f g : A → List B) → ((x : A) → f x ≡ g x) → (l : List A) → each f l ≡ each g l
unfolding each
each_same f g e [] = refl
each_same f g e (x ∷ l) = mathlib.Core.Path.ap₂ ◌++◌ (e x) (each_same f g e l)

each_one : {A B : Type 0} (f : A → List B) (x : A) → each f (x ∷ []) ≡ f x
unfolding each
each_one f x = append-nil (f x)

-- as many as there are
ones : {A B : Type 0} (f : A → B) (l : List A) → length (each (λ x. f x ∷ []) l) ≡ length l
unfolding each
ones f [] = refl
ones f (x ∷ l) = ap suc (ones f l)

module _ (ws : List Word) (s : Setting) (m : Measured ws s) where
  abbrev a : Actor
  a = s.actor

  abbrev ms : List (List ℕ)
  ms = spelled_of (memory_names a.memories)

  ports : (n : List ℕ) → port_width s.actor s.widths n ≤ 32
  unfolding port_width
  ports n = m.least.satisfies.small _

  memories : (n : List ℕ) → memory_width s.actor s.widths n ≤ 32
  unfolding memory_width
  memories n = m.least.satisfies.small _

  few_in : Every (λ g. Every (λ r. vals_in r.body ≤ 16) g.rules) a.groups
  unfolding rules_of
  few_in = every_each (λ r. vals_in r.body ≤ 16) (λ g. g.rules) a.groups (every_map _ _ (λ r e. few_vals r.body e) (rules_of a) (limit_facts ws a m.limited).5)

  -- statement by statement, in its rule and group
  in_groups_law : (P : Statement → Type 0) → Every P (statements a) → Every (λ g. Every (λ r. Every P r.body) g.rules) a.groups
  unfolding statements
  in_groups_law P h = every_map _ _ (λ g q. every_each P (λ r. r.body) g.rules q) a.groups (every_each P (λ g. each (λ r. r.body) g.rules) a.groups h)

  module _ (none : size_faults s ≡ []) where
    abbrev Clear : Statement → Type 0
    Clear x = (statement_sizes s x ≡ []) × Every (λ e. expr_words e ≤ 256) (wholes x)

    clear : Every Clear (statements a)
    unfolding size_faults
    clear = every_both _ _ (statements a) (every_nil (statement_sizes s) (statements a) none) (every_each _ wholes (statements a) (word_facts ws a m.limited m.grammatical.worded))

    fine_rule : (r : Rule) → FormedRule ms r × Every Clear r.body → FineBody s ms ports memories r.body
    fine_rule r h = every_map _ _ (λ x q. fine_statement s ms x q.0 q.1.0 q.1.1) r.body (every_both _ _ r.body h.0.1 h.1)

    fine : Every (λ g. Every (λ r. FineBody s ms ports memories r.body) g.rules) a.groups
    fine = every_map _ _ (λ g q. every_map _ _ fine_rule g.rules (every_both _ _ g.rules q.0.1 q.1)) a.groups (every_both _ _ a.groups m.grammatical.formed.2 (in_groups_law Clear clear))

  -- ---- what the walk leaves

  left : Rules s ms ports memories (each (λ g. each (λ r. each (statement_sizes s) r.body) g.rules) a.groups) (settled_of s) (each (λ g. each (λ r. rule_code s r ∷ []) g.rules) a.groups) (Every (λ g. Every (λ r. FineBody s ms ports memories r.body) g.rules) a.groups) begin
  left = actor_leaves s ms ports memories m.grammatical.formed.2 few_in

  same_faults : each (λ g. each (λ r. each (statement_sizes s) r.body) g.rules) a.groups ≡ size_faults s
  unfolding size_faults statements
  same_faults = sym (each_each (statement_sizes s) (λ g. each (λ r. r.body) g.rules) a.groups ∙ each_same _ _ (λ g. each_each (statement_sizes s) (λ r. r.body) g.rules) a.groups)

  abbrev codes : List (List ℕ)
  codes = each (λ g. each (λ r. rule_code s r ∷ []) g.rules) a.groups

  -- each rule's code, in one list
  singles : (f : List ℕ → List ℕ) → each f codes ≡ each (λ r. f (rule_code s r)) (rules_of a)
  unfolding rules_of
  singles f = each_each f (λ g. each (λ r. rule_code s r ∷ []) g.rules) a.groups ∙ each_same _ _ (λ g. each_each f (λ r. rule_code s r ∷ []) g.rules ∙ each_same _ _ (λ r. each_one f (rule_code s r)) g.rules) a.groups ∙ sym (each_each (λ r. f (rule_code s r)) (λ g. g.rules) a.groups)

  many : length codes ≤ 32
  unfolding rules_of
  many =
      let e : codes ≡ each (λ r. rule_code s r ∷ []) (rules_of a) = sym (each_each (λ r. rule_code s r ∷ []) (λ g. g.rules) a.groups) in
      let n = ap length e ∙ ones (rule_code s) (rules_of a) in
      let k = ones (λ r. r.called) (rules_of a) in
      let h = few 32 (each (λ r. r.called ∷ []) (rules_of a)) (limit_facts ws a m.limited).4 in
      omega (arith, n, k, h)

  pub sized : Sized s
  unfolding begin
  sized =
      let e : walk begin (settled_of s) ≡ left.next = goes_whole left.goes in
      record {
        first = ap (λ (st : State). st.first) e ∙ left.first ∙ sooner_none _ ∙ ap told same_faults;
        code = λ none. ap (λ (st : State). st.code) e ∙ left.code (fine none) ∙ singles (λ c. c);
        lengths = λ none. ap (λ (st : State). st.lengths) e ∙ left.lengths (fine none) (omega (arith, many)) ∙ singles (λ c. length c ∷ []);
      }
