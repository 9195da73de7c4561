-- What the walk does on statements, rules, declarations and the whole actor. Assumes nothing.
use mathlib.Core.Path.{◌≡◌, refl, sym, ap}
use mathlib.Core.Bool.{Bool, true, false, not, ◌||◌}
use mathlib.Core.List.{List, [], ◌∷◌, append-nil}
use Prim.Native.Nat.{ℕ, ◌+◌, ◌*◌}
use lib.Dec.{leb, ltb}
use Rattle.language.specs.Text.{Name, among}
use Rattle.language.specs.Parts.{each, declared_items}
use Rattle.language.specs.Names.{when, entry_names}
use Rattle.language.specs.Tree.{Declared, untyped, Port, Size, one, cells, Memory, Entry, Val, Assignment, assign, write, Statement, alone, scoped, Rule, Group, Actor, port_names, memory_names}
use Rattle.placed.specs.Placed.{Spelled, Every, PlacedDeclared, PlacedVal, PlacedAssignment, PlacedStatement, PlacedEntry, PlacedRule, PlacedGroup, PlacedPort, PlacedMemory, PlacedActor}
use Rattle.tape.specs.Tape.{flat_d, is_typed, one_if, flat_val, flat_assignment, flats, flat_statement, flat_entry, flat_rule, flat_group, flat_port, flat_size, flat_memory, flat_signed, flat_actor}
use Rattle.tape.specs.Walk.{hit, add}
use Rattle.row06_names.specs.Walk.{Seen, test}
use Rattle.tape.proofs.Seens.{reset}
use Rattle.row06_names.proofs.Seens.{next, nothing}
use Rattle.tape.proofs.Does.{told, none, both, single, ends, many}
use Rattle.placed.proofs.Same.{pushed, some_onto, inputs_onto, outputs_onto}
use Rattle.row06_names.proofs.Parts.{val_names, ty_f, kind_f, expr_f, decl_f, vals_f, assign_f, statement_f, entries_f, rule_f, group_f, sign_f, ports_f, memories_f, actor_f, DoesAll, type_does, expr_does}

-- the names met in a rule, and in the declarations
abbrev inside : Seen → (ps vs : List (List ℕ)) → Seen
inside s ps vs = record { signed = s.signed; declared = s.declared; inputs = s.inputs; outputs = s.outputs; taken = s.taken; present = ps; vals = vs }

abbrev pub heading : (sg dc ip op tk : List (List ℕ)) → Seen
heading sg dc ip op tk = record { signed = sg; declared = dc; inputs = ip; outputs = op; taken = tk; present = []; vals = [] }

abbrev pub final : Actor → Seen
final a =
    heading (pushed a.signature []) (pushed (port_names a.ports) []) (inputs_onto a.ports []) (outputs_onto a.ports []) (pushed (memory_names a.memories) (pushed (port_names a.ports) []))

pub is_input : (b : Bool) (d : Declared) → leb 2 (2 * one_if b + is_typed d) ≡ b
unfolding one_if is_typed
is_input true untyped = refl
is_input true (Declared.typed t) = refl
is_input false untyped = refl
is_input false (Declared.typed t) = refl

is_output : (b : Bool) (d : Declared) → ltb (2 * one_if b + is_typed d) 2 ≡ not b
unfolding one_if is_typed
is_output true untyped = refl
is_output true (Declared.typed t) = refl
is_output false untyped = refl
is_output false (Declared.typed t) = refl

port_next : (text : List ℕ) (sg dc ip op tk : List (List ℕ)) (p : Port) → Spelled text p.called
    → next text (heading sg dc ip op tk) 43 p.called.at (2 * one_if p.input + is_typed p.type)
    ≡ heading sg (p.called.spelled ∷ dc) (add p.input p.called.spelled ip) (add (not p.input) p.called.spelled op) (p.called.spelled ∷ tk)
unfolding next hit add reset
port_next text sg dc ip op tk p h = let a = is_input p.input p.type in let b = is_output p.input p.type in cc

module _ (text : List ℕ) (all : Seen) where
  decl_does : (s : Seen) (d : Declared) → PlacedDeclared text d → DoesAll text all s (flat_d d) (decl_f all d) s
  unfolding flat_d decl_f declared_items each kind_f
  decl_does s untyped h = none
  decl_does s (Declared.typed t) h = told (sym (append-nil (ty_f all t))) (type_does text all s t h)

  -- ---- statements

  vals_does : (s : Seen) (ps lets : List (List ℕ)) (vs : List Val) → Every (PlacedVal text) vs → DoesAll text all (inside s ps lets) (flats flat_val vs) (vals_f all lets vs) (inside s ps (pushed (val_names vs) lets))
  unfolding flats flat_val vals_f pushed val_names expr_f test next hit add reset
  vals_does s ps lets [] h = none
  vals_does s ps lets (v ∷ vs) h =
      both (both (both (decl_does _ v.type h.0.type) (expr_does text all (inside s ps lets) v.value h.0.value))
      (single _ _ _ (ap (λ (l : List ℕ). among lets l || among all.taken l) (sym h.0.called)) (ap (λ (l : List ℕ). inside s ps (l ∷ lets)) (sym h.0.called))))
      (vals_does s ps (v.called.spelled ∷ lets) vs h.1)

  assign_does : (s : Seen) (x : Assignment) → PlacedAssignment text x → DoesAll text all s (flat_assignment x) (assign_f all s.vals x) s
  unfolding flat_assignment assign_f expr_f test next hit add reset
  assign_does s (assign n e) h = both (expr_does text all s e h.1) (single _ _ _ (ap (λ (l : List ℕ). not (among all.outputs l)) (sym h.0)) refl)
  assign_does s (write n x e) h = ends _ _ _ (both (expr_does text all s x h.1) (expr_does text all s e h.2)) (refl, refl)

  statement_does : (s : Seen) (ps : List (List ℕ)) (x : Statement) → PlacedStatement text x → DoesAll text all (inside s ps []) (flat_statement x) (statement_f all x) (inside s ps [])
  unfolding flat_statement statement_f test next hit add reset when
  statement_does s ps (alone x) h = assign_does (inside s ps []) x h
  statement_does s ps (scoped vs l) h =
      let lets = pushed (val_names vs) [] in
      told (append-nil _) (both (both (both (single _ _ _ refl refl) (vals_does s ps [] vs h.0)) (many flat_assignment (assign_f all lets) (assign_does (inside s ps lets)) l h.1)) (single _ _ _ refl refl))

  -- ---- rules and groups

  entries_does : (s : Seen) (ps : List (List ℕ)) (es : List Entry) → Every (PlacedEntry text) es → DoesAll text all (inside s ps []) (flats flat_entry es) (entries_f all ps es) (inside s (pushed (entry_names es) ps) [])
  unfolding flats flat_entry entries_f pushed entry_names each test next hit add reset
  entries_does s ps [] h = none
  entries_does s ps (e ∷ es) h =
      both (single _ _ _ (ap (λ (l : List ℕ). not (among all.declared l) || among ps l) (sym h.0)) (ap (λ (l : List ℕ). inside s (l ∷ ps) []) (sym h.0)))
      (entries_does s (e.called.spelled ∷ ps) es h.1)

  rule_does : (s : Seen) (r : Rule) → PlacedRule text r → DoesAll text all (inside s [] []) (flat_rule r) (rule_f all r) (inside s [] [])
  unfolding flat_rule rule_f test next hit add reset when
  rule_does s r h =
      let ps = pushed (entry_names r.list) [] in
      told (append-nil _) (both (both (both (single _ _ _ refl refl) (entries_does s [] r.list h.list)) (many flat_statement (statement_f all) (statement_does s ps) r.body h.body)) (single _ _ _ refl refl))

  group_does : (s : Seen) (g : Group) → PlacedGroup text g → DoesAll text all (inside s [] []) (flat_group g) (group_f all g) (inside s [] [])
  unfolding flat_group group_f test next hit add reset when
  group_does s g h = ends _ _ _ (both (single _ _ _ refl refl) (many flat_rule (rule_f all) (rule_does s) g.rules h)) (refl, refl)

  -- ---- declarations and the actor

  module _ (ip op dc : List (List ℕ)) where
    signed_does : (tk sg : List (List ℕ)) (ns : List Name) → Every (Spelled text) ns → DoesAll text all (heading sg dc ip op tk) (flats flat_signed ns) (sign_f all sg ns) (heading (pushed ns sg) dc ip op tk)
    unfolding flats flat_signed sign_f pushed test next hit add reset
    signed_does tk sg [] h = none
    signed_does tk sg (n ∷ ns) h =
        both (single _ _ _ (ap (λ (l : List ℕ). among sg l || not (among all.declared l)) (sym h.0)) (ap (λ (l : List ℕ). heading (l ∷ sg) dc ip op tk) (sym h.0))) (signed_does tk (n.spelled ∷ sg) ns h.1)

    size_does : (s : Seen) (z : Size) → DoesAll text all s (flat_size z) [] s
    unfolding flat_size test next hit add reset when
    size_does s one = none
    size_does s (cells n) = single _ _ _ refl refl

    memories_does : (sg tk : List (List ℕ)) (ms : List Memory) → Every (PlacedMemory text) ms → DoesAll text all (heading sg dc ip op tk) (flats flat_memory ms) (memories_f all tk ms) (heading sg dc ip op (pushed (memory_names ms) tk))
    unfolding flats flat_memory memories_f memory_names pushed test next hit add reset
    memories_does sg tk [] h = none
    memories_does sg tk (m ∷ ms) h =
        both (both (told (append-nil (decl_f all m.type)) (both (decl_does _ m.type h.0.type) (size_does _ m.size))) (single _ _ _ (ap (among tk) (sym h.0.called)) (ap (λ (l : List ℕ). heading sg dc ip op (l ∷ tk)) (sym h.0.called))))
        (memories_does sg (m.called.spelled ∷ tk) ms h.1)

  ports_does : (sg dc ip op tk : List (List ℕ)) (ps : List Port) → Every (PlacedPort text) ps
      → DoesAll text all (heading sg dc ip op tk) (flats flat_port ps) (ports_f all tk ps) (heading sg (pushed (port_names ps) dc) (inputs_onto ps ip) (outputs_onto ps op) (pushed (port_names ps) tk))
  unfolding flats flat_port ports_f port_names pushed some_onto test
  ports_does sg dc ip op tk [] h = none
  ports_does sg dc ip op tk (p ∷ ps) h =
      both (both (decl_does _ p.type h.0.type) (single _ _ _ (ap (λ (l : List ℕ). not (among all.signed l) || among tk l) (sym h.0.called)) (port_next text sg dc ip op tk p h.0.called)))
      (ports_does sg (p.called.spelled ∷ dc) (add p.input p.called.spelled ip) (add (not p.input) p.called.spelled op) (p.called.spelled ∷ tk) ps h.1)

  pub actor_does : (a : Actor) → PlacedActor text a → DoesAll text all nothing (flat_actor a) (actor_f all a) (final a)
  unfolding flat_actor actor_f test next hit add reset when
  actor_does a h =
      both (both (both (both (single _ _ _ refl refl) (signed_does [] [] [] [] [] a.signature h.signature)) (ports_does _ [] [] [] [] a.ports h.ports)) (memories_does _ _ _ _ _ a.memories h.memories))
      (many flat_group (group_f all) (group_does (final a)) a.groups h.groups)
