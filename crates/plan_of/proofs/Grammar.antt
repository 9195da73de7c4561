-- What the productions give of a tree: it is formed, and it has no more words than its text.
use Prim.Native.Nat.{ℕ, suc, ◌+◌, ◌*◌, ◌≤◌}
use mathlib.Core.Path.{◌≡◌, refl}
use mathlib.Core.List.{List, [], ◌∷◌, ◌++◌}
use native.Mathlib.Omega.{arith}
use lib.ListN.{length, length-append}
use Rattle.language.specs.Text.{Name}
use Rattle.language.specs.Words.{Word, name, fixed}
use Rattle.language.specs.Tree.{Expr, plain, sized, copies, read, cell, bit, range, inside, joined, beside, unary, binary, choice, either, select, arm, default}
use Rattle.language.specs.Tree.{Declared, Port, Size, Memory, Entry, Val, Assignment, Statement, Rule, Group, Actor, spelled_of, memory_names}
use Rattle.language.specs.Grammar.{Sort, expr, cond, bin, base, Derives, d_if, d_expr, d_cond, d_bins, d_bin, d_up, d_unary, d_plain, d_bits, d_typed, d_copies, d_joined, d_part, d_beside, d_cell, d_read, d_inside, d_base, d_bit, d_range, d_case, d_arm, d_default}
use Rattle.language.specs.Grammar as Grammar
use Rattle.language.specs.Grammar.{Many, m_none, m_more, Some, s_some, Commas, c_one, c_more, Declares, y_untyped, y_typed, Vals, v_val, Assigns, i_assign, i_write, Statements, s_alone, s_let, Entries, e_present, e_absent, Rules, r_rule, Groups, g_or, Constraints, k_or, k_and, Ports, o_input, o_output, Sizes, z_one, z_cells, Memories, h_reg, h_ff, Names, n_name, Actors, actor}
use Rattle.placed.specs.Placed.{Every}
use Rattle.placed.proofs.Every.{every_append}
use Rattle.placed.proofs.Worded.{type_words_law, expr_words_law, actor_worded}
use Rattle.plan_of.specs.Formed.{Kind, whole, parts, arms, FormedAt, NotEmpty, FormedAssignment, FormedStatement, FormedRule, FormedGroup, Formed}
use Rattle.plan_of.specs.Accepted.{Grammatical, NumberWord}
use Rattle.plan_of.specs.Lengths.{total, declared_words, size_words, port_words, memory_words, val_words, assignment_words, statement_words, rule_words, group_words, actor_words}

abbrev kind_of : Sort → Kind
kind_of expr = whole
kind_of cond = whole
kind_of (bin n) = whole
kind_of base = whole
kind_of Grammar.parts = parts
kind_of Grammar.arms = arms

whole_part : (ms : List (List ℕ)) (e : Expr) → FormedAt ms whole e → FormedAt ms parts e
whole_part ms (plain n) f = f
whole_part ms (sized w a) f = f
whole_part ms (copies n e) f = f
whole_part ms (read n) f = f
whole_part ms (cell n a) f = f
whole_part ms (bit e p i) f = f
whole_part ms (range e p i j) f = f
whole_part ms (inside p e) f = f
whole_part ms (joined p e) f = f
whole_part ms (beside a b) f = absurd f.0
whole_part ms (unary u e) f = f
whole_part ms (binary o a b) f = f
whole_part ms (choice c a b) f = f
whole_part ms (either p c a b) f = f
whole_part ms (select p e a) f = f
whole_part ms (arm n e r) f = absurd f.0
whole_part ms (default p e) f = absurd f.0

-- the words of the first part and of the rest
first_words : (a b : List Word) → Every NumberWord (a ++ b) → Every NumberWord a
first_words a b h = (every_append NumberWord a b h).0

later_words : (a b : List Word) → Every NumberWord (a ++ b) → Every NumberWord b
later_words a b h = (every_append NumberWord a b h).1

module _ (ms : List (List ℕ)) where
  derived : {k : Sort} {a : List Word} {x : Expr} → Derives ms k a x → Every NumberWord a → FormedAt ms (kind_of k) x
  derived (d_if {a = a} {b = b} {c = c} p q r x y z) n =
      (tt, derived x (first_words a _ n.1), derived y (first_words b _ (later_words a _ n.1).1), derived z (later_words b _ (later_words a _ n.1).1).1)
  derived (d_expr x) n = derived x n
  derived (d_cond {a = a} {b = b} {c = c} p q x y z) n = (tt, derived x (first_words a _ n), derived y (first_words b _ (later_words a _ n).1), derived z (later_words b _ (later_words a _ n).1).1)
  derived (d_bins x) n = derived x n
  derived (d_bin s {a = a} {b = b} p e x y) n = (tt, derived x (first_words a _ n), derived y (later_words a _ n).1)
  derived (d_up x) n = derived x n
  derived (d_unary p e x) n = (tt, derived x n.1)
  derived d_plain n = (tt, n.0)
  derived (d_bits x) n = tt
  derived (d_typed p q t x) n = tt
  derived (d_copies {a = a} p q x) n = (tt, derived x (first_words a _ n.1.1))
  derived (d_joined {a = a} p q x) n = (tt, derived x (first_words a _ n.1))
  derived (d_part {x = e} x) n = whole_part ms e (derived x n)
  derived (d_beside {a = a} {b = b} p x y) n = (tt, derived x (first_words a _ n), derived y (later_words a _ n).1)
  derived (d_cell {a = a} p q e x) n = (tt, e, derived x (first_words a _ n.1.1))
  derived (d_read e) n = (tt, e)
  derived (d_inside {a = a} p q x) n = (tt, derived x (first_words a _ n.1))
  derived (d_base x) n = derived x n
  derived (d_bit {a = a} p q x t) n = (tt, derived x (first_words a _ n))
  derived (d_range {a = a} p q r x t u) n = (tt, derived x (first_words a _ n))
  derived (d_case {a = a} {b = b} p q r s x y) n = (tt, derived x (first_words a _ n.1.1), derived y (later_words a _ n.1.1).1.1)
  derived (d_arm {a = a} {b = b} p q x y) n = (tt, derived x (first_words a _ n.1.1), derived y (later_words a _ n.1.1).1, n.0)
  derived (d_default {a = a} p q r x) n = (tt, derived x (first_words a _ n.1.1))

-- ## Lists of a kind

module _ {T : Type 0} (D : List Word → T → Type 0) where
  -- what small numbers give of each
  module _ (P : T → Type 0) (one : (a : List Word) (x : T) → D a x → Every NumberWord a → P x) where
    many_formed : {a : List Word} {l : List T} → Many D a l → Every NumberWord a → Every P l
    many_formed m_none n = tt
    many_formed (m_more {a = a} {b = b} {x = x} d r) n = (one a x d (first_words a b n), many_formed r (later_words a b n))

    some_formed : {a : List Word} {l : List T} → Some D a l → Every NumberWord a → Every P l
    some_formed (s_some {a = a} {b = b} {x = x} d r) n = (one a x d (first_words a b n), many_formed r (later_words a b n))

  some_some : {a : List Word} {l : List T} → Some D a l → NotEmpty l
  some_some (s_some d r) = tt

  commas_some : {a : List Word} {l : List T} → Commas D a l → NotEmpty l
  commas_some (c_one d) = tt
  commas_some (c_more p d r) = tt

  -- words counted
  module _ (f : T → ℕ) (one : (a : List Word) (x : T) → D a x → f x ≤ length a) where
    many_words : {a : List Word} {l : List T} → Many D a l → total f l ≤ length a
    unfolding total
    many_words m_none = omega arith
    many_words (m_more {a = a} {b = b} {x = x} d r) = let q = one a x d in let e = many_words r in let h = length-append a b in omega arith

    some_words : {a : List Word} {l : List T} → Some D a l → total f l ≤ length a
    unfolding total
    some_words (s_some {a = a} {b = b} {x = x} d r) = let q = one a x d in let e = many_words r in let h = length-append a b in omega arith

  commas_words : (k : ℕ) → ((a : List Word) (x : T) → D a x → k ≤ length a) → {a : List Word} {l : List T} → Commas D a l → suc k * length l ≤ length a + 1
  commas_words k one (c_one {a = a} {x = x} d) = let q = one a x d in omega arith
  commas_words k one (c_more {a = a} {b = b} {x = x} p d r) = let q = one a x d in let e = commas_words k one r in let h = length-append a (fixed "," p ∷ b) in omega arith

-- ## Statements, rules and groups

module _ (ms : List (List ℕ)) where
  -- formed
  assigns_formed : (a : List Word) (x : Assignment) → Assigns ms a x → Every NumberWord a → FormedAssignment ms x
  assigns_formed a x (i_assign {a = b} p q e d) n = (e, derived ms d (first_words b _ n.1.1))
  assigns_formed a x (i_write {a = b} {b = c} p q r s e d f) n = (e, derived ms d (first_words b _ n.1.1), derived ms f (first_words c _ (later_words b _ n.1.1).1.1))

  vals_formed : (a : List Word) (v : Val) → Vals ms a v → Every NumberWord a → FormedAt ms whole v.value
  vals_formed a v (v_val {a = b} {b = c} p q r t d) n = derived ms d (first_words c _ (later_words b _ n.1).1.1)

  statements_formed : (a : List Word) (x : Statement) → Statements ms a x → Every NumberWord a → FormedStatement ms x
  statements_formed a x (s_alone {a = b} {x = y} d) n = assigns_formed b y d n
  statements_formed a x (s_let {a = b} {b = c} p q r d f) n =
      (some_formed (Vals ms) (λ v. FormedAt ms whole v.value) vals_formed d (first_words b _ n.1), some_formed (Assigns ms) (FormedAssignment ms) assigns_formed f (first_words c _ (later_words b _ n.1).1))

  rules_formed : (a : List Word) (x : Rule) → Rules ms a x → Every NumberWord a → FormedRule ms x
  rules_formed a x (r_rule {a = b} {b = c} p q r s d f) n = (commas_some Entries d, many_formed (Statements ms) (FormedStatement ms) statements_formed f (first_words c _ (later_words b _ n.1.1).1.1))

  groups_formed : (a : List Word) (x : Group) → Groups ms a x → Every NumberWord a → FormedGroup ms x
  groups_formed a x (g_or {a = b} p q r d) n = (some_some (Rules ms) d, some_formed (Rules ms) (FormedRule ms) rules_formed d (first_words b _ n.1.1))

  constraints_formed : {a : List Word} {l : List Group} → Constraints ms a l → Every NumberWord a → NotEmpty l × Every (FormedGroup ms) l
  constraints_formed (k_or {a = a} {g = g} d) n = (tt, (groups_formed a g d n, tt))
  constraints_formed (k_and {a = b} p q r d) n = (some_some (Groups ms) d, some_formed (Groups ms) (FormedGroup ms) groups_formed d (first_words b _ n.1.1))

-- ## The actor

pub actor_formed : {ws : List Word} {a : Actor} → Actors ws a → Every NumberWord ws → Formed a
actor_formed (actor {a = b} {b = c} {c = d} {d = e} {ms = ms} p q r s x y z k) n =
    let h = later_words d _ (later_words c _ (later_words b _ n.1.1).1.1) in
    let g = constraints_formed (spelled_of (memory_names ms)) k (first_words e _ h) in
    (commas_some Names x, g.0, g.1)

pub actor_grammatical : {ws : List Word} {a : Actor} → Actors ws a → Every NumberWord ws → Grammatical ws a
actor_grammatical d n = record { formed = actor_formed d n; worded = actor_worded d }

-- ## An actor's words

declares_words : {a : List Word} {t : Declared} → Declares a t → declared_words t ≡ length a
unfolding declared_words
declares_words y_untyped = refl
declares_words (y_typed {a = a} p q t) = let e = type_words_law t in let h = length-append a (fixed ">" q ∷ []) in omega arith

module _ (ms : List (List ℕ)) where
  vals_words : (a : List Word) (v : Val) → Vals ms a v → val_words v ≤ length a
  unfolding val_words
  vals_words a v (v_val {a = b} {b = c} {n = n} p q r t d) =
      let e = declares_words t in let f = expr_words_law ms d in let h = length-append b (name n ∷ fixed "=" q ∷ (c ++ (fixed ";" r ∷ []))) in let i = length-append c (fixed ";" r ∷ []) in omega arith

  assigns_words : (a : List Word) (x : Assignment) → Assigns ms a x → assignment_words x ≤ length a
  unfolding assignment_words
  assigns_words a x (i_assign {a = b} p q e d) = let f = expr_words_law ms d in let h = length-append b (fixed ";" q ∷ []) in omega arith
  assigns_words a x (i_write {a = b} {b = c} p q r s e d f) =
      let u = expr_words_law ms d in let v = expr_words_law ms f in let h = length-append b (fixed "]" q ∷ fixed "=" r ∷ (c ++ (fixed ";" s ∷ []))) in let i = length-append c (fixed ";" s ∷ []) in omega arith

  statements_words : (a : List Word) (x : Statement) → Statements ms a x → statement_words x ≤ length a
  unfolding statement_words
  statements_words a x (s_alone {a = b} {x = y} d) = assigns_words b y d
  statements_words a x (s_let {a = b} {b = c} p q r d f) =
      let u = some_words (Vals ms) val_words vals_words d in let v = some_words (Assigns ms) assignment_words assigns_words f in
      let h = length-append b (fixed "in" q ∷ (c ++ (fixed "end" r ∷ []))) in let i = length-append c (fixed "end" r ∷ []) in omega arith

  entry_words : (a : List Word) (x : Entry) → Entries a x → 5 ≤ length a
  entry_words a x (e_present p q r s) = omega arith
  entry_words a x (e_absent p q r s) = omega arith

  rules_words : (a : List Word) (x : Rule) → Rules ms a x → rule_words x ≤ length a
  unfolding rule_words
  rules_words a x (r_rule {n = n} {a = b} {b = c} {es = es} p q r s d f) =
      let u : 6 * length es ≤ length b + 1 = commas_words Entries 5 entry_words d in let v = many_words (Statements ms) statement_words statements_words f in
      let h = length-append b (fixed ")" q ∷ fixed "{" r ∷ (c ++ (fixed "}" s ∷ []))) in let i = length-append c (fixed "}" s ∷ []) in omega arith

  groups_words : (a : List Word) (x : Group) → Groups ms a x → group_words x ≤ length a
  unfolding group_words
  groups_words a x (g_or {a = b} p q r d) = let u = some_words (Rules ms) rule_words rules_words d in let h = length-append b (fixed ")" r ∷ []) in omega arith

  constraints_words : {a : List Word} {l : List Group} → Constraints ms a l → total group_words l ≤ length a
  unfolding total
  constraints_words (k_or {a = a} {g = g} d) = let u = groups_words a g d in omega arith
  constraints_words (k_and {a = b} p q r d) = let u = some_words (Groups ms) group_words groups_words d in let h = length-append b (fixed ")" r ∷ []) in omega arith

ports_words : (a : List Word) (x : Port) → Ports a x → port_words x ≤ length a
unfolding port_words
ports_words a x (o_input {a = b} {n = n} p q t) = let e = declares_words t in let h = length-append b (name n ∷ fixed ";" q ∷ []) in omega arith
ports_words a x (o_output {a = b} {n = n} p q t) = let e = declares_words t in let h = length-append b (name n ∷ fixed ";" q ∷ []) in omega arith

sizes_words : {a : List Word} {z : Size} → Sizes a z → size_words z ≡ length a
unfolding size_words
sizes_words z_one = refl
sizes_words z_cells = refl

memories_words : (a : List Word) (x : Memory) → Memories a x → memory_words x ≤ length a
unfolding memory_words
memories_words a x (h_reg {a = b} {b = c} {n = n} p q t z) =
    let e = declares_words t in let f = sizes_words z in let h = length-append b (name n ∷ (c ++ (fixed ";" q ∷ []))) in let i = length-append c (fixed ";" q ∷ []) in omega arith
memories_words a x (h_ff {a = b} {b = c} {n = n} p q t z) =
    let e = declares_words t in let f = sizes_words z in let h = length-append b (name n ∷ (c ++ (fixed ";" q ∷ []))) in let i = length-append c (fixed ";" q ∷ []) in omega arith

name_words : (a : List Word) (x : Name) → Names a x → 1 ≤ length a
name_words a x n_name = omega arith

pub actor_words_law : {ws : List Word} {a : Actor} → Actors ws a → actor_words a ≤ length ws
unfolding actor_words
actor_words_law (actor {a = b} {b = c} {c = d} {d = e} {ns = ns} {ms = ms} p q r s x y z k) =
    let u : 2 * length ns ≤ length b + 1 = commas_words Names 1 name_words x in
    let v = some_words Ports port_words ports_words y in
    let w = many_words Memories memory_words memories_words z in
    let t = constraints_words (spelled_of (memory_names ms)) k in
    let f = length-append b (fixed ")" q ∷ fixed "{" r ∷ (c ++ (d ++ (e ++ (fixed "}" s ∷ []))))) in
    let g = length-append c (d ++ (e ++ (fixed "}" s ∷ []))) in let h = length-append d (e ++ (fixed "}" s ∷ [])) in let i = length-append e (fixed "}" s ∷ []) in
    omega arith
