-- THE THEOREM: the text and the places of a tree that is read from it give back every name and every sized constant. Assumes nothing.
-- The words say so of themselves, and each production's names and constants are its words'.
use mathlib.Core.Path.{◌≡◌}
use mathlib.Core.List.{List, ◌∷◌, ◌++◌}
use Prim.Native.Nat.{ℕ}
use Rattle.language.specs.Text.{Name}
use Rattle.language.specs.Words.{Word, words, words_of}
use Rattle.language.specs.Reader.{tree}
use Rattle.language.specs.Parser.{parse}
use Rattle.language.specs.Tree.{Ty, Amount, Expr, Declared, Port, Memory, Entry, Val, Assignment, Statement, Rule, Group, Actor, spelled_of, memory_names}
use Rattle.language.specs.Grammar.{Types, TypeSort, t_plus, t_minus, t_term, t_number, t_environment, t_port, t_log, t_ceil, t_floor, t_max, t_within, t_entry, t_one, Amounts, a_given, a_value, Sort, Derives, d_if, d_expr, d_cond, d_bins, d_bin, d_up, d_unary, d_plain, d_bits, d_typed, d_copies, d_joined, d_part, d_beside, d_cell, d_read, d_inside, d_base, d_bit, d_range, d_case, d_arm, d_default}
use Rattle.language.specs.Grammar.{Declares, y_untyped, y_typed, Vals, v_val, Assigns, i_assign, i_write, Statements, s_alone, s_let, Entries, e_present, e_absent, Rules, r_rule, Groups, g_or, Constraints, k_or, k_and, Ports, o_input, o_output, Memories, h_reg, h_ff, Names, n_name, Actors, actor}
use Rattle.language.proofs.Main.{grammar_correct}
use Rattle.words.proofs.Runs.{IsRun, AllRuns, no_more, more, all_runs}
use Rattle.placed.specs.Placed.{Spelled, Every, PlacedType, PlacedAmount, PlacedExpr, PlacedDeclared, PlacedVal, PlacedAssignment, PlacedStatement, PlacedEntry, PlacedRule, PlacedGroup, PlacedPort, PlacedMemory, PlacedActor}
use Rattle.placed.proofs.Every.{every_append}
use Rattle.placed.proofs.Lists.{many_each, some_each, commas_each}

module _ (text : List ℕ) where
  abbrev Good : List Word → Type 0
  Good ws = Every (IsRun text) ws

  goods : {ws : List Word} → AllRuns text ws → Good ws
  goods no_more = tt
  goods (more r l) = (r, goods l)

  -- the words of the first part and of the rest
  first_words : (a b : List Word) → Good (a ++ b) → Good a
  first_words a b n = (every_append (IsRun text) a b n).0

  later_words : (a b : List Word) → Good (a ++ b) → Good b
  later_words a b n = (every_append (IsRun text) a b n).1

  rest_words : (w : Word) (a : List Word) → Good (w ∷ a) → Good a
  rest_words w a n = n.1

  -- ## Types and expressions

  types_placed : {k : TypeSort} {a : List Word} {t : Ty} → Types k a t → Good a → PlacedType text t
  unfolding IsRun
  types_placed (t_plus {a = a} p x y) n = (types_placed x (first_words a _ n), types_placed y (later_words a _ n).1)
  types_placed (t_minus {a = a} p x y) n = (types_placed x (first_words a _ n), types_placed y (later_words a _ n).1)
  types_placed (t_term x) n = types_placed x n
  types_placed t_number n = tt
  types_placed t_environment n = n.0
  types_placed (t_port p q) n = n.0
  types_placed (t_log {a = a} p q r x) n = types_placed x (first_words a _ n.1.1)
  types_placed (t_ceil {a = a} p q r x) n = types_placed x (first_words a _ n.1.1)
  types_placed (t_floor {a = a} p q r x) n = types_placed x (first_words a _ n.1.1)
  types_placed (t_max {a = a} p q r x) n = types_placed x (first_words a _ n.1.1)
  types_placed (t_within {a = a} p q x) n = types_placed x (first_words a _ n.1)
  types_placed (t_entry {a = a} p x y) n = (types_placed x (first_words a _ n), types_placed y (later_words a _ n).1)
  types_placed (t_one x) n = types_placed x n

  amounts_placed : {a : List Word} {x : Amount} → Amounts a x → Good a → PlacedAmount text x
  unfolding IsRun
  amounts_placed a_given n = n.0
  amounts_placed (a_value p) n = n.1.0

  module _ (ms : List (List ℕ)) where
    derived : {k : Sort} {a : List Word} {x : Expr} → Derives ms k a x → Good a → PlacedExpr text x
    unfolding IsRun
    derived (d_if {a = a} {b = b} p q r x y z) n =
        (derived x (first_words a _ n.1), derived y (first_words b _ (later_words a _ n.1).1), derived z (later_words b _ (later_words a _ n.1).1).1)
    derived (d_expr x) n = derived x n
    derived (d_cond {a = a} {b = b} p q x y z) n = (derived x (first_words a _ n), derived y (first_words b _ (later_words a _ n).1), derived z (later_words b _ (later_words a _ n).1).1)
    derived (d_bins x) n = derived x n
    derived (d_bin s {a = a} p e x y) n = (derived x (first_words a _ n), derived y (later_words a _ n).1)
    derived (d_up x) n = derived x n
    derived (d_unary p e x) n = derived x n.1
    derived d_plain n = tt
    derived (d_bits x) n = (tt, amounts_placed x n.1)
    derived (d_typed {a = a} p q t x) n = (types_placed t (first_words a _ n.1), amounts_placed x (later_words a _ n.1).1)
    derived (d_copies {a = a} p q x) n = derived x (first_words a _ n.1.1)
    derived (d_joined {a = a} p q x) n = derived x (first_words a _ n.1)
    derived (d_part x) n = derived x n
    derived (d_beside {a = a} p x y) n = (derived x (first_words a _ n), derived y (later_words a _ n).1)
    derived (d_cell {a = a} p q e x) n = (n.0, derived x (first_words a _ n.1.1))
    derived (d_read e) n = n.0
    derived (d_inside {a = a} p q x) n = derived x (first_words a _ n.1)
    derived (d_base x) n = derived x n
    derived (d_bit {a = a} {b = b} p q x t) n = (derived x (first_words a _ n), types_placed t (first_words b _ (later_words a _ n).1))
    derived (d_range {a = a} {b = b} {c = c} p q r x t u) n =
        (derived x (first_words a _ n), types_placed t (first_words b _ (later_words a _ n).1), types_placed u (first_words c _ (later_words b _ (later_words a _ n).1).1))
    derived (d_case {a = a} p q r s x y) n = (derived x (first_words a _ n.1.1), derived y (later_words a _ n.1.1).1.1)
    derived (d_arm {a = a} p q x y) n = (derived x (first_words a _ n.1.1), derived y (later_words a _ n.1.1).1)
    derived (d_default {a = a} p q r x) n = derived x (first_words a _ n.1.1)

  -- ## Statements, rules and groups

  declares_placed : {a : List Word} {t : Declared} → Declares a t → Good a → PlacedDeclared text t
  declares_placed y_untyped n = tt
  declares_placed (y_typed {a = a} p q t) n = types_placed t (first_words a _ n.1)

  entries_placed : (a : List Word) (x : Entry) → Entries a x → Good a → PlacedEntry text x
  unfolding IsRun
  entries_placed w v (e_present p q r s) n = n.0
  entries_placed w v (e_absent p q r s) n = n.0

  module _ (ms : List (List ℕ)) where
    vals_placed : (a : List Word) (v : Val) → Vals ms a v → Good a → PlacedVal text v
    unfolding IsRun
    vals_placed w v (v_val {a = a} {b = b} p q r t d) n =
        let m = later_words a _ n.1 in record { type = declares_placed t (first_words a _ n.1); called = m.0; value = derived ms d (first_words b _ m.1.1) }

    assigns_placed : (a : List Word) (x : Assignment) → Assigns ms a x → Good a → PlacedAssignment text x
    unfolding IsRun
    assigns_placed w v (i_assign {a = a} p q e d) n = (n.0, derived ms d (first_words a _ n.1.1))
    assigns_placed w v (i_write {a = a} {b = b} p q r s e d f) n = (n.0, derived ms d (first_words a _ n.1.1), derived ms f (first_words b _ (later_words a _ n.1.1).1.1))

    statements_placed : (a : List Word) (x : Statement) → Statements ms a x → Good a → PlacedStatement text x
    statements_placed w v (s_alone {a = a} {x = x} d) n = assigns_placed a x d n
    statements_placed w v (s_let {a = a} {b = b} p q r d f) n =
        (some_each Good first_words later_words rest_words (Vals ms) (PlacedVal text) vals_placed d (first_words a _ n.1), some_each Good first_words later_words rest_words (Assigns ms) (PlacedAssignment text) assigns_placed f (first_words b _ (later_words a _ n.1).1))

    rules_placed : (a : List Word) (x : Rule) → Rules ms a x → Good a → PlacedRule text x
    unfolding IsRun
    rules_placed w v (r_rule {a = a} {b = b} p q r s d f) n =
        record {
          called = n.0;
          list = commas_each Good first_words later_words rest_words Entries (PlacedEntry text) entries_placed d (first_words a _ n.1.1);
          body = many_each Good first_words later_words rest_words (Statements ms) (PlacedStatement text) statements_placed f (first_words b _ (later_words a _ n.1.1).1.1);
        }

    groups_placed : (a : List Word) (g : Group) → Groups ms a g → Good a → PlacedGroup text g
    groups_placed w v (g_or {a = a} p q r d) n = some_each Good first_words later_words rest_words (Rules ms) (PlacedRule text) rules_placed d (first_words a _ n.1.1)

    constraints_placed : {a : List Word} {l : List Group} → Constraints ms a l → Good a → Every (PlacedGroup text) l
    constraints_placed (k_or {a = a} {g = g} d) n = (groups_placed a g d n, tt)
    constraints_placed (k_and {a = a} p q r d) n = some_each Good first_words later_words rest_words (Groups ms) (PlacedGroup text) groups_placed d (first_words a _ n.1.1)

  -- ## Declarations and the actor

  ports_placed : (a : List Word) (x : Port) → Ports a x → Good a → PlacedPort text x
  unfolding IsRun
  ports_placed w v (o_input {a = a} p q t) n = record { type = declares_placed t (first_words a _ n.1); called = (later_words a _ n.1).0 }
  ports_placed w v (o_output {a = a} p q t) n = record { type = declares_placed t (first_words a _ n.1); called = (later_words a _ n.1).0 }

  memories_placed : (a : List Word) (x : Memory) → Memories a x → Good a → PlacedMemory text x
  unfolding IsRun
  memories_placed w v (h_reg {a = a} p q t z) n = record { type = declares_placed t (first_words a _ n.1); called = (later_words a _ n.1).0 }
  memories_placed w v (h_ff {a = a} p q t z) n = record { type = declares_placed t (first_words a _ n.1); called = (later_words a _ n.1).0 }

  names_placed : (a : List Word) (x : Name) → Names a x → Good a → Spelled text x
  unfolding IsRun
  names_placed w v n_name n = n.0

  actors_placed : {ws : List Word} {a : Actor} → Actors ws a → Good ws → PlacedActor text a
  unfolding IsRun
  actors_placed (actor {a = a} {b = b} {c = c} {d = d} {ms = ms} p q r s x y z k) n =
      let ports = (later_words a _ n.1.1).1.1 in
      let memories = later_words b _ ports in
      record {
        called = n.0;
        signature = commas_each Good first_words later_words rest_words Names (Spelled text) names_placed x (first_words a _ n.1.1);
        ports = some_each Good first_words later_words rest_words Ports (PlacedPort text) ports_placed y (first_words b _ ports);
        memories = many_each Good first_words later_words rest_words Memories (PlacedMemory text) memories_placed z (first_words c _ memories);
        groups = constraints_placed (spelled_of (memory_names ms)) k (first_words d _ (later_words c _ memories));
      }

pub placed : {text : List ℕ} {ws : List Word} {a : Actor} → words_of text ≡ words ws → parse ws ≡ tree a → PlacedActor text a
placed {text} {ws} {a} lexed parses = actors_placed text (grammar_correct.sound ws a parses) (goods text (all_runs text ws lexed))
