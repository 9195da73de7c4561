-- What the walk does on statements, rules, groups and a whole actor whose names row 6 has passed. Assumes nothing.
use mathlib.Core.Path.{◌≡◌, refl, sym, ap, ap₂, ◌∙◌}
use mathlib.Core.Bool.{Bool, true, false, not, ◌||◌, true≢false}
use mathlib.Core.List.{List, [], ◌∷◌, ◌++◌, append_assoc, append-nil}
use Prim.Native.Nat.{ℕ, suc, ◌+◌, ◌≤◌}
use lib.ListN.{length}
use Rattle.language.specs.Text.{Name, among}
use Rattle.language.specs.Parts.{each, assigned}
use Rattle.language.specs.Names.{when, missing, repeated, output_names, entry_names, ports, memories, declaration_faults, type_name_faults, read_faults, assignment_faults, val_faults, statement_faults, rule_faults, name_faults, input_names}
use Rattle.language.specs.Presence.{output_of, outputs_of, assigned_in}
use Rattle.language.specs.Tree.{Declared, untyped, Memory, Entry, Val, Assignment, assign, write, Statement, alone, scoped, Rule, Group, spelled_of, port_names}
use Rattle.language.specs.Widths.{port_width, type_width}
use Rattle.language.specs.Sizes.{Setting, Let}
use Rattle.language.specs.Meaning.{port_at}
use Rattle.placed.specs.Placed.{Every}
use Rattle.placed.proofs.Every.{append_nils, every_nil, every_map}
use Rattle.settled.specs.Form.{ASSIGN, PRESENT, VAL, TYPED, SIGNED, six}
use Rattle.settled.specs.Settled.{one_if, settled_cell, settled_port, settled_assignment, settled_kept, slots_from, settled_vals, settled_body, settled_entry, settled_rule, settled_group, settled_signed, settled_memory, settled_of}
use Rattle.placed.specs.Members.{add}
use Rattle.placed.proofs.Names.{when_not, when_nil}
use Rattle.placed.proofs.Same.{pushed, some_onto, among_append}
use Rattle.row12_presence.specs.declared.Met.{Met}
use Rattle.row12_presence.specs.Walk.{mask_bits, faulty, listing, assigning, ending, grouping, next_of, begin}
use Rattle.row12_presence.proofs.Ports.{mask_in, in_mask}
use Rattle.row12_presence.proofs.Scopes.{input_known, output_known, no_input, Apart, Covers, let_of, apart_none, covers_none, apart_more, covers_more, val_names, covers_slots}
use Rattle.row12_presence.proofs.Places.{required_onto, names_f, expr_f, assign_f, assigns_f, statement_f, body_f, rule_f, groups_f}
use Rattle.row12_presence.proofs.Goes.{Goes, goes_none, goes_both, goes_told, goes_led, goes_six, quiet, ends}
use Rattle.row12_presence.proofs.Exprs.{met, inputs, expr_does}

-- ---- lists of names

pushed_append : (x y : List Name) (l : List (List ℕ)) → pushed (x ++ y) l ≡ pushed y (pushed x l)
unfolding pushed
pushed_append [] y l = refl
pushed_append (n ∷ x) y l = pushed_append x y (n.spelled ∷ l)

or_none : (a b : Bool) → (a || b) ≡ false → (a ≡ false) × (b ≡ false)
or_none true b e = absurd (true≢false e)
or_none false b e = (refl, e)

-- the outputs in all, and before the last group
unfoldable pub in_all : List (List ℕ) → List Group → List (List ℕ)
in_all al [] = al
in_all al (g ∷ gs) = in_all (pushed (each assigned_in g.rules) al) gs

unfoldable pub before : (al er : List (List ℕ)) → List Group → List (List ℕ)
before al er [] = er
before al er (g ∷ gs) = before (pushed (each assigned_in g.rules) al) al gs

module _ (s : Setting) (few : length s.actor.signature ≤ mask_bits) (passed : name_faults s.actor ≡ []) where
  -- ---- what row 6 has passed

  declared : missing (spelled_of s.actor.signature) (port_names s.actor.ports) ≡ []
  unfolding name_faults declaration_faults
  declared =
      let a = append_nils (declaration_faults s.actor) _ passed in
      let b = append_nils (repeated [] s.actor.signature) _ a.0 in
      let c = append_nils (missing (ports s.actor) s.actor.signature) _ b.1 in
      (append_nils (missing (spelled_of s.actor.signature) (port_names s.actor.ports)) _ c.1).0

  abbrev Fine : Rule → Type 0
  Fine r = Every (λ x. statement_faults s.actor x ≡ []) r.body

  fine_rule : (r : Rule) → rule_faults s.actor r ≡ [] → Fine r
  unfolding rule_faults
  fine_rule r h =
      let a = append_nils (missing (ports s.actor) (entry_names r.list)) _ h in
      let b = append_nils (repeated [] (entry_names r.list)) _ a.1 in
      every_nil (statement_faults s.actor) r.body b.1

  fine : Every (λ g. Every Fine g.rules) s.actor.groups
  unfolding name_faults
  fine =
      let a = append_nils (declaration_faults s.actor) _ passed in
      let b = append_nils (type_name_faults s.actor) _ a.1 in
      every_map _ _ (λ g h. every_map _ _ fine_rule g.rules (every_nil (rule_faults s.actor) g.rules h)) s.actor.groups (every_nil _ s.actor.groups b.1)

  known_input : (n : List ℕ) → among (inputs s) n ≡ true → among (spelled_of s.actor.signature) n ≡ true
  known_input = input_known (spelled_of s.actor.signature) s.actor.ports declared

  known_output : (n : List ℕ) → among (output_names s.actor.ports) n ≡ true → among (spelled_of s.actor.signature) n ≡ true
  known_output = output_known (spelled_of s.actor.signature) s.actor.ports declared

  -- ---- `val`s

  module _ (rq dn al er : List (List ℕ)) where
    kept_does : (k : ℕ) (v : Val) → Goes (met s rq dn al er) (settled_kept s k v) [] (met s rq dn al er)
    unfolding settled_kept faulty next_of
    kept_does k v = go v.type
      where
        go : (d : Declared) → Goes (met s rq dn al er) (elim d as (λ (x : Declared). List ℕ) [ untyped ↦ six VAL v.called.at k 0 0 0 | Declared.typed t ↦ six TYPED v.called.at k 0 0 (type_width s.actor s.bindings s.widths t) ]) [] (met s rq dn al er)
        go untyped = quiet _ _ _ _ _ _ (refl, refl)
        go (Declared.typed t) = quiet _ _ _ _ _ _ (refl, refl)

    -- a `val` has no port's name
    unlike : (names : List (List ℕ)) (n : List ℕ) → among (names ++ (ports s.actor ++ memories s.actor)) n ≡ false → among (inputs s) n ≡ false
    unfolding ports
    unlike names n h =
        let a = or_none (among names n) _ (sym (among_append n names (ports s.actor ++ memories s.actor)) ∙ h) in
        let b = or_none (among (ports s.actor) n) _ (sym (among_append n (ports s.actor) (memories s.actor)) ∙ a.1) in
        no_input s.actor.ports n b.0

    vals_do : (k : ℕ) (names : List (List ℕ)) (lets : List (Let ℕ)) (vs : List Val) → Apart (inputs s) lets → Covers names lets → val_faults s.actor names vs ≡ []
        → Goes (met s rq dn al er) (settled_vals s k lets vs) (each (expr_f (inputs s) rq) (each (λ (v : Val). v.value ∷ []) vs)) (met s rq dn al er) × Apart (inputs s) (slots_from s k lets vs)
    unfolding val_faults settled_vals slots_from each
    vals_do k names lets [] p c h = (goes_none, p)
    vals_do k names lets (v ∷ vs) p c h =
        let a = append_nils (when (among (names ++ (ports s.actor ++ memories s.actor)) v.called.spelled) v.called.at) _ h in
        let b = append_nils (read_faults s.actor names v.value) _ a.1 in
        let free = unlike names v.called.spelled (when_nil _ _ a.0) in
        let q = vals_do (suc k) (v.called.spelled ∷ names) (let_of v.called.spelled k ∷ lets) vs (apart_more v.called.spelled k free p) (covers_more v.called.spelled k c) b.1 in
        (goes_both (expr_does s few known_input rq dn al er names lets p c v.value b.0) (goes_both (kept_does k v) q.0), q.1)

  -- ---- statements: the outputs that the rule has assigned grow

  module _ (rq er : List (List ℕ)) where
    abbrev within : (dn al : List (List ℕ)) → Met
    within dn al = met s rq dn al er

    -- the outputs of x, and then those of l
    later : (x l : List Name) (dn al : List (List ℕ)) → within (pushed l (pushed x dn)) (pushed l (pushed x al)) ≡ within (pushed (x ++ l) dn) (pushed (x ++ l) al)
    later x l dn al = sym (ap₂ within (pushed_append x l dn) (pushed_append x l al))

    output_does : (dn al : List (List ℕ)) (n : Name) → among (output_names s.actor.ports) n.spelled ≡ true
        → Goes (within dn al) (settled_port s ASSIGN n) (when ((not (among rq n.spelled) || among dn n.spelled) || among er n.spelled) n.at) (within (n.spelled ∷ dn) (n.spelled ∷ al))
    unfolding settled_port faulty next_of assigning mask_in
    output_does dn al n h = let k = known_output n.spelled h in goes_six _ _ _ _ _ _ (rw (in_mask s few n.spelled k rq, in_mask s few n.spelled k dn, in_mask s few n.spelled k er)) refl

    module _ (names : List (List ℕ)) (lets : List (Let ℕ)) (apart : Apart (inputs s) lets) (covers : Covers names lets) where
      assign_does : (dn al : List (List ℕ)) (x : Assignment) → assignment_faults s.actor names x ≡ []
          → Goes (within dn al) (settled_assignment s lets x) (assign_f (inputs s) rq er dn x) (within (pushed (output_of x) dn) (pushed (output_of x) al))
      unfolding settled_assignment settled_cell assignment_faults assign_f assigned output_of names_f pushed each faulty next_of
      assign_does dn al (assign n e) h =
          let q = append_nils (when (not (among (output_names s.actor.ports) n.spelled)) n.at) _ h in
          goes_told (ap₂ (λ (x y : List ℕ). x ++ y) (sym (append-nil (expr_f (inputs s) rq e))) (sym (append-nil _)))
          (goes_both (expr_does s few known_input rq dn al er names lets apart covers e q.1) (output_does dn al n (when_not _ _ q.0)))
      assign_does dn al (write n x e) h =
          let q = append_nils (read_faults s.actor names x) _ h in
          goes_told (sym (append-nil (expr_f (inputs s) rq x ++ (expr_f (inputs s) rq e ++ [])) ∙ ap (λ (r : List ℕ). expr_f (inputs s) rq x ++ r) (append-nil (expr_f (inputs s) rq e))))
          (goes_both (expr_does s few known_input rq dn al er names lets apart covers x q.0) (ends _ _ _ _ _ _ (expr_does s few known_input rq dn al er names lets apart covers e q.1) (refl, refl)))

      assigns_do : (dn al : List (List ℕ)) (l : List Assignment) → Every (λ x. assignment_faults s.actor names x ≡ []) l
          → Goes (within dn al) (each (settled_assignment s lets) l) (assigns_f (inputs s) rq er dn l) (within (pushed (each output_of l) dn) (pushed (each output_of l) al))
      unfolding assigns_f each pushed
      assigns_do dn al [] h = goes_none
      assigns_do dn al (x ∷ l) h = goes_led (later (output_of x) (each output_of l) dn al) (goes_both (assign_does dn al x h.0) (assigns_do (pushed (output_of x) dn) (pushed (output_of x) al) l h.1))

    body_does : (k : ℕ) (dn al : List (List ℕ)) (l : List Statement) → Every (λ x. statement_faults s.actor x ≡ []) l
        → Goes (within dn al) (settled_body s k l) (body_f (inputs s) rq er dn l) (within (pushed (each outputs_of l) dn) (pushed (each outputs_of l) al))
    unfolding settled_body statement_faults body_f statement_f outputs_of each pushed
    body_does k dn al [] h = goes_none
    body_does k dn al (alone x ∷ l) h =
        goes_led (later (output_of x) (each outputs_of l) dn al)
        (goes_both (assign_does [] [] (apart_none (inputs s)) covers_none dn al x h.0) (body_does k (pushed (output_of x) dn) (pushed (output_of x) al) l h.1))
    body_does k dn al (scoped vs xs ∷ l) h =
        let q = append_nils (val_faults s.actor [] vs) _ h.0 in
        let v = vals_do rq dn al er k [] [] vs (apart_none (inputs s)) covers_none q.0 in
        goes_led (later (each output_of xs) (each outputs_of l) dn al)
        (goes_told (sym (append_assoc (each (expr_f (inputs s) rq) (each (λ (v : Val). v.value ∷ []) vs)) (assigns_f (inputs s) rq er dn xs) _))
        (goes_both v.0 (goes_both (assigns_do (val_names vs) (slots_from s k [] vs) v.1 (covers_slots s k vs) dn al xs (every_nil _ xs q.1))
        (body_does (k + length vs) (pushed (each output_of xs) dn) (pushed (each output_of xs) al) l h.1))))

  -- ---- rules and groups

  entry_does : (rq al er : List (List ℕ)) (e : Entry) → Goes (met s rq [] al er) (settled_entry s e) [] (met s (add e.present e.called.spelled rq) [] al er)
  unfolding settled_entry one_if add faulty next_of listing mask_in
  entry_does rq al er e = go e.present
    where
      go : (b : Bool) → Goes (met s rq [] al er) (six PRESENT e.called.at (port_at s e.called.spelled) (one_if b) 0 0) [] (met s (add b e.called.spelled rq) [] al er)
      go true = quiet _ _ _ _ _ _ (refl, refl)
      go false = quiet _ _ _ _ _ _ (refl, refl)

  entries_do : (rq al er : List (List ℕ)) (es : List Entry) → Goes (met s rq [] al er) (each (settled_entry s) es) [] (met s (required_onto es rq) [] al er)
  unfolding each some_onto
  entries_do rq al er [] = goes_none
  entries_do rq al er (e ∷ es) = goes_both (entry_does rq al er e) (entries_do (add e.present e.called.spelled rq) al er es)

  module _ (er : List (List ℕ)) where
    rule_does : (al : List (List ℕ)) (r : Rule) → Fine r → Goes (met s [] [] al er) (settled_rule s r) (rule_f (inputs s) er r) (met s [] [] (pushed (assigned_in r) al) er)
    unfolding settled_rule rule_f assigned_in faulty next_of ending mask_in
    rule_does al r h = goes_both (quiet _ _ _ _ _ _ (refl, refl)) (goes_both (entries_do [] al er r.list) (ends _ _ _ _ _ _ (body_does (required_onto r.list []) er 0 [] al r.body h) (refl, refl)))

    rules_do : (al : List (List ℕ)) (rs : List Rule) → Every Fine rs → Goes (met s [] [] al er) (each (settled_rule s) rs) (each (rule_f (inputs s) er) rs) (met s [] [] (pushed (each assigned_in rs) al) er)
    unfolding each pushed
    rules_do al [] h = goes_none
    rules_do al (r ∷ rs) h = goes_led (ap (λ (l : List (List ℕ)). met s [] [] l er) (sym (pushed_append (assigned_in r) (each assigned_in rs) al))) (goes_both (rule_does al r h.0) (rules_do (pushed (assigned_in r) al) rs h.1))

  groups_do : (al er : List (List ℕ)) (gs : List Group) → Every (λ g. Every Fine g.rules) gs → Goes (met s [] [] al er) (each (settled_group s) gs) (groups_f (inputs s) al gs) (met s [] [] (in_all al gs) (before al er gs))
  unfolding each settled_group groups_f in_all before faulty next_of grouping
  groups_do al er [] h = goes_none
  groups_do al er (g ∷ gs) h = goes_both (goes_both (quiet _ _ _ _ _ _ (refl, refl)) (rules_do al al g.rules h.0)) (groups_do (pushed (each assigned_in g.rules) al) al gs h.1)

  -- ---- declarations and the actor

  abbrev start : Met
  start = met s [] [] [] []

  port_does : (n : Name) → Goes start (settled_signed s n) [] start
  unfolding settled_signed faulty next_of
  port_does n = go (among (input_names s.actor.ports) n.spelled)
    where
      go : (b : Bool) → Goes start (elim b as (λ (x : Bool). List ℕ) [ true ↦ six SIGNED n.at (port_width s.actor s.widths n.spelled) 0 0 0 | false ↦ six SIGNED n.at (port_width s.actor s.widths n.spelled + 256) 0 0 0 ]) [] start
      go true = quiet _ _ _ _ _ _ (refl, refl)
      go false = quiet _ _ _ _ _ _ (refl, refl)

  signed_do : (ns : List Name) → Goes start (each (settled_signed s) ns) [] start
  unfolding each
  signed_do [] = goes_none
  signed_do (n ∷ ns) = goes_both (port_does n) (signed_do ns)

  memories_do : (ms : List Memory) → Goes start (each (settled_memory s) ms) [] start
  unfolding each settled_memory faulty next_of
  memories_do [] = goes_none
  memories_do (m ∷ ms) = goes_both (quiet _ _ _ _ _ _ (refl, refl)) (memories_do ms)

  pub actor_does : Goes begin (settled_of s) (groups_f (inputs s) [] s.actor.groups) (met s [] [] (in_all [] s.actor.groups) (before [] [] s.actor.groups))
  unfolding settled_of mask_in
  actor_does = goes_both (signed_do s.actor.signature) (goes_both (memories_do s.actor.memories) (groups_do [] [] s.actor.groups fine))
