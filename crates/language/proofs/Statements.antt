-- Statements, rules and groups, in each of the four inductions, over the facts of expressions and of lists. Assumes nothing.
use mathlib.Core.Path.{◌≡◌, refl, ap, ◌∙◌}
use mathlib.Core.Bool.{Bool, true, false}
use mathlib.Core.List.{List, [], ◌∷◌, ◌++◌, append_assoc}
use Prim.Native.Nat.{ℕ, suc, ◌+◌, ◌*◌, ◌<◌}
use native.Mathlib.Omega.{arith}
use lib.ListN.{length}
use Rattle.language.specs.Text.{Name, among, same}
use Rattle.language.specs.Words.{Word, name, fixed, bytes}
use Rattle.language.specs.Tree.{Declared, Entry, Val, Assignment, Statement, alone, Rule, Group}
use Rattle.language.specs.Grammar.{the, figure, operator_in, operators, m_none, Some, s_some, c_one, Declares, y_untyped, y_typed, Vals, v_val, Assigns, i_assign, i_write}
use Rattle.language.specs.Grammar.{Statements, s_alone, s_let, Entries, e_present, e_absent, Rules, r_rule, Groups, g_or, Constraints, k_or, k_and}
use Rattle.language.specs.Reader.{ok, on, is_name, is_digits, is, is_the, is_figure, expect, some_p}
use Rattle.language.specs.Parser.{declared_p, entry_p, Start, opens, names, is_start, val_p, assignment_p, statement_p, rule_p, group_p, constraint_p}
use Rattle.language.proofs.Tests.{name_tells, is_tells, the_tells, figure_tells, start_word, start_tells}
use Rattle.language.proofs.Laws.{Misses, on_hit, on_miss, Good, g_ok, g_bad, at_good, if_good, expect_good, bind_good, until_good, last_good, done}
use Rattle.language.proofs.Laws.{Settled, s_ok, s_bad, on_settled, if_settled, bind_settled, expect_settled, until_settled}
use Rattle.language.proofs.Laws.{Agrees, a_ok, bind_agrees, until_agrees, if_agrees, else_agrees, Never, nowhere, Pair, ok_pair, bad_pair, bind_pair, on_pair, expect_pair, until_pair, if_pair}
use Rattle.language.proofs.Lists.{many_good, some_good, many_settled, some_settled, Opens, many_complete, some_complete, many_pair, some_pair, commas_good, commas_settled, commas_complete, commas_pair}
use Rattle.language.proofs.Types.{ZERO, type_good, type_settled, type_complete, type_pair}
use Rattle.language.proofs.Good.{any_name, zero_expr, expr_good}
use Rattle.language.proofs.Settled.{expr_settled}
use Rattle.language.proofs.Complete.{expr_complete}
use Rattle.language.proofs.Like.{off, expr_pair}

-- ---- what is read is derived, and a fault can be finished

pub declared_good : (f : ℕ) (ws : List Word) → Good Declares ws (declared_p f ws)
unfolding declared_p
declared_good f ws = at_good (is_tells "<") ws _ _
    (λ p r e. until_good (λ l. fixed "<" p ∷ l) ">" _ (λ l m. refl) e (type_good f r) (λ k t d. (fixed ">" 0 ∷ [], _, y_typed p 0 d))
    (λ k t q x d e₁. g_ok (fixed "<" p ∷ (k ++ (fixed ">" q ∷ []))) (e₁ ∙ simp append_assoc) (y_typed p q d)))
    (g_ok [] refl y_untyped)

-- the shortest entry
abbrev ENTRY : List Word
ENTRY = name any_name ∷ fixed "." 0 ∷ the "p" 0 ∷ fixed "." 0 ∷ figure 1 0 ∷ []

entry_good : (f : ℕ) (ws : List Word) → Good Entries ws (entry_p f ws)
unfolding entry_p
entry_good f ws = at_good name_tells ws _ _
    (λ n r e. expect_good (λ l. name n ∷ l) "." r _ (λ l m. refl) e (fixed "." 0 ∷ the "p" 0 ∷ fixed "." 0 ∷ figure 1 0 ∷ []) _ (e_present 0 0 0 0)
    (λ p x e₁. at_good (the_tells "p") x _ _
    (λ q y i. expect_good (λ l. name n ∷ fixed "." p ∷ the "p" q ∷ l) "." y _ (λ l m. refl) (rw (e₁, i) refl) (fixed "." 0 ∷ figure 1 0 ∷ []) _ (e_present p q 0 0)
    (λ s z e₂. at_good (figure_tells 1) z _ _ (λ t l j. g_ok (name n ∷ fixed "." p ∷ the "p" q ∷ fixed "." s ∷ figure 1 t ∷ []) (rw (e₂, j) refl) (e_present p q s t))
    (at_good (figure_tells 0) z _ _ (λ t l j. g_ok (name n ∷ fixed "." p ∷ the "p" q ∷ fixed "." s ∷ figure 0 t ∷ []) (rw (e₂, j) refl) (e_absent p q s t))
    (g_bad (name n ∷ fixed "." p ∷ the "p" q ∷ fixed "." s ∷ []) (figure 1 0 ∷ []) _ e₂ (e_present p q s 0)))))
    (g_bad (name n ∷ fixed "." p ∷ []) (the "p" 0 ∷ fixed "." 0 ∷ figure 1 0 ∷ []) _ e₁ (e_present p 0 0 0))))
    (g_bad [] ENTRY _ refl (e_present 0 0 0 0))

module _ (ms : List (List ℕ)) where
  val_good : (f p : ℕ) (ws : List Word) → Good (Vals ms) (fixed "val" p ∷ ws) (val_p ms f p ws)
  unfolding val_p
  val_good f p ws = bind_good (λ l. fixed "val" p ∷ l) _ (λ l m. refl) refl (declared_good f ws) (λ k t d. (name any_name ∷ fixed "=" 0 ∷ ZERO ∷ fixed ";" 0 ∷ [], _, v_val p 0 0 d zero_expr))
      (λ k t x d e. at_good name_tells x _ _
      (λ n y i. expect_good (λ l. fixed "val" p ∷ (k ++ (name n ∷ l))) "=" y _ (λ l m. simp append_assoc) (e ∙ ap (λ (l : List Word). fixed "val" p ∷ (k ++ l)) i) (fixed "=" 0 ∷ ZERO ∷ fixed ";" 0 ∷ []) _ (v_val p 0 0 d zero_expr)
      (λ q z e₁. until_good (λ l. fixed "val" p ∷ (k ++ (name n ∷ fixed "=" q ∷ l))) ";" _ (λ l m. simp append_assoc) e₁ (expr_good ms f false z) (λ k₂ t₂ d₂. (fixed ";" 0 ∷ [], _, v_val p q 0 d d₂))
      (λ k₂ t₂ s z d₂ e₂. g_ok (fixed "val" p ∷ (k ++ (name n ∷ fixed "=" q ∷ (k₂ ++ (fixed ";" s ∷ []))))) (e₂ ∙ simp append_assoc) (v_val p q s d d₂))))
      (g_bad (fixed "val" p ∷ k) (name any_name ∷ fixed "=" 0 ∷ ZERO ∷ fixed ";" 0 ∷ []) _ e (v_val p 0 0 d zero_expr)))

  assignment_good : (f : ℕ) (n : Name) (ws : List Word) → Good (Assigns ms) (name n ∷ ws) (assignment_p ms f n ws)
  unfolding assignment_p
  assignment_good f n ws = if_good (among ms n.spelled)
      (λ i. expect_good (λ l. name n ∷ l) "[" ws _ (λ l m. refl) refl (fixed "[" 0 ∷ ZERO ∷ fixed "]" 0 ∷ fixed "=" 0 ∷ ZERO ∷ fixed ";" 0 ∷ []) _ (i_write 0 0 0 0 i zero_expr zero_expr)
      (λ p r e. until_good (λ l. name n ∷ fixed "[" p ∷ l) "]" _ (λ l m. refl) e (expr_good ms f false r) (λ k t d. (fixed "]" 0 ∷ fixed "=" 0 ∷ ZERO ∷ fixed ";" 0 ∷ [], _, i_write p 0 0 0 i d zero_expr))
      (λ k t q x d e₁. expect_good (λ l. name n ∷ fixed "[" p ∷ (k ++ (fixed "]" q ∷ l))) "=" x _ (λ l m. simp append_assoc) e₁ (fixed "=" 0 ∷ ZERO ∷ fixed ";" 0 ∷ []) _ (i_write p q 0 0 i d zero_expr)
      (λ s y e₂. until_good (λ l. name n ∷ fixed "[" p ∷ (k ++ (fixed "]" q ∷ fixed "=" s ∷ l))) ";" _ (λ l m. simp append_assoc) e₂ (expr_good ms f false y) (λ k₂ t₂ d₂. (fixed ";" 0 ∷ [], _, i_write p q s 0 i d d₂))
      (λ k₂ t₂ u z d₂ e₃. g_ok (name n ∷ fixed "[" p ∷ (k ++ (fixed "]" q ∷ fixed "=" s ∷ (k₂ ++ (fixed ";" u ∷ []))))) (e₃ ∙ simp append_assoc) (i_write p q s u i d d₂))))))
      (λ i. expect_good (λ l. name n ∷ l) "=" ws _ (λ l m. refl) refl (fixed "=" 0 ∷ ZERO ∷ fixed ";" 0 ∷ []) _ (i_assign 0 0 i zero_expr)
      (λ p r e. until_good (λ l. name n ∷ fixed "=" p ∷ l) ";" _ (λ l m. refl) e (expr_good ms f false r) (λ k t d. (fixed ";" 0 ∷ [], _, i_assign p 0 i d))
      (λ k t q x d e₁. g_ok (name n ∷ fixed "=" p ∷ (k ++ (fixed ";" q ∷ []))) (e₁ ∙ simp append_assoc) (i_assign p q i d))))

  -- an assignment to some name, be it a memory or not
  any_assigns : (c : List Word) × (l : List Assignment) × Some (Assigns ms) c l
  any_assigns = go (among ms []) refl
    where
      go : (b : Bool) → among ms [] ≡ b → (c : List Word) × (l : List Assignment) × Some (Assigns ms) c l
      go true i = (_, _, s_some (i_write {n = any_name} 0 0 0 0 i zero_expr zero_expr) m_none)
      go false i = (_, _, s_some (i_assign {n = any_name} 0 0 i zero_expr) m_none)

  any_vals : (c : List Word) × (l : List Val) × Some (Vals ms) c l
  any_vals = (_, _, s_some (v_val {n = any_name} 0 0 0 y_untyped zero_expr) m_none)

  vals_good : (f : ℕ) (ws : List Word) → Good (Some (Vals ms)) ws (some_p (is "val") (λ f p r. val_p ms f p r) f ws)
  vals_good f ws = some_good (is "val") _ (λ f x p r i. rw (is_tells "val" x p i) (val_good f p r)) any_vals.0 any_vals.1 any_vals.2 f ws

  assigns_good : (f : ℕ) (ws : List Word) → Good (Some (Assigns ms)) ws (some_p is_name (λ f n r. assignment_p ms f n r) f ws)
  assigns_good f ws = some_good is_name _ (λ f x n r i. rw (name_tells x n i) (assignment_good f n r)) any_assigns.0 any_assigns.1 any_assigns.2 f ws

  statement_good : (f : ℕ) (a : Start) (ws : List Word) → Good (Statements ms) (start_word a ∷ ws) (statement_p ms f a ws)
  unfolding statement_p start_word
  statement_good f (names n) ws = last_good (λ l. l) alone ok (λ l m. refl) refl (assignment_good f n ws) (λ k t d. s_alone d) done
  statement_good f (opens p) ws = until_good (λ l. fixed "let" p ∷ l) "in" _ (λ l m. refl) refl (vals_good f ws) (λ k t d. (fixed "in" 0 ∷ (any_assigns.0 ++ (fixed "end" 0 ∷ [])), _, s_let p 0 0 d any_assigns.2))
      (λ k vs q x d e. until_good (λ l. fixed "let" p ∷ (k ++ (fixed "in" q ∷ l))) "end" _ (λ l m. simp append_assoc) e (assigns_good f x) (λ k₂ t d₂. (fixed "end" 0 ∷ [], _, s_let p q 0 d d₂))
      (λ k₂ l s y d₂ e₁. g_ok (fixed "let" p ∷ (k ++ (fixed "in" q ∷ (k₂ ++ (fixed "end" s ∷ []))))) (e₁ ∙ simp append_assoc) (s_let p q s d d₂)))

  rule_good : (f : ℕ) (n : Name) (ws : List Word) → Good (Rules ms) (name n ∷ ws) (rule_p ms f n ws)
  unfolding rule_p
  rule_good f n ws = expect_good (λ l. name n ∷ l) "(" ws _ (λ l m. refl) refl (fixed "(" 0 ∷ (ENTRY ++ (fixed ")" 0 ∷ fixed "{" 0 ∷ fixed "}" 0 ∷ []))) _ (r_rule 0 0 0 0 (c_one (e_present 0 0 0 0)) m_none)
      (λ p r e. until_good (λ l. name n ∷ fixed "(" p ∷ l) ")" _ (λ l m. refl) e (commas_good _ (λ f ws. entry_good f ws) f r) (λ k t d. (fixed ")" 0 ∷ fixed "{" 0 ∷ fixed "}" 0 ∷ [], _, r_rule p 0 0 0 d m_none))
      (λ k es q x d e₁. expect_good (λ l. name n ∷ fixed "(" p ∷ (k ++ (fixed ")" q ∷ l))) "{" x _ (λ l m. simp append_assoc) e₁ (fixed "{" 0 ∷ fixed "}" 0 ∷ []) _ (r_rule p q 0 0 d m_none)
      (λ s y e₂. until_good (λ l. name n ∷ fixed "(" p ∷ (k ++ (fixed ")" q ∷ fixed "{" s ∷ l))) "}" _ (λ l m. simp append_assoc) e₂
      (many_good is_start _ (λ f x a r i. rw (start_tells x a i) (statement_good f a r)) f y) (λ k₂ t d₂. (fixed "}" 0 ∷ [], _, r_rule p q s 0 d d₂))
      (λ k₂ l t z d₂ e₃. g_ok (name n ∷ fixed "(" p ∷ (k ++ (fixed ")" q ∷ fixed "{" s ∷ (k₂ ++ (fixed "}" t ∷ []))))) (e₃ ∙ simp append_assoc) (r_rule p q s t d d₂)))))

  any_rules : (c : List Word) × (l : List Rule) × Some (Rules ms) c l
  any_rules = (_, _, s_some (r_rule {n = any_name} 0 0 0 0 (c_one (e_present {n = any_name} 0 0 0 0)) m_none) m_none)

  group_good : (f p : ℕ) (ws : List Word) → Good (Groups ms) (fixed "or" p ∷ ws) (group_p ms f p ws)
  unfolding group_p
  group_good f p ws = expect_good (λ l. fixed "or" p ∷ l) "(" ws _ (λ l m. refl) refl (fixed "(" 0 ∷ (any_rules.0 ++ (fixed ")" 0 ∷ []))) _ (g_or p 0 0 any_rules.2)
      (λ q r e. until_good (λ l. fixed "or" p ∷ fixed "(" q ∷ l) ")" _ (λ l m. refl) e
      (some_good is_name _ (λ f x n r i. rw (name_tells x n i) (rule_good f n r)) any_rules.0 any_rules.1 any_rules.2 f r) (λ k t d. (fixed ")" 0 ∷ [], _, g_or p q 0 d))
      (λ k l s x d e₁. g_ok (fixed "or" p ∷ fixed "(" q ∷ (k ++ (fixed ")" s ∷ []))) (e₁ ∙ simp append_assoc) (g_or p q s d)))

  any_groups : (c : List Word) × (l : List Group) × Some (Groups ms) c l
  any_groups = (_, _, s_some (g_or 0 0 0 any_rules.2) m_none)

  pub any_constraint : (c : List Word) × (l : List Group) × Constraints ms c l
  any_constraint = (_, _, k_and 0 0 0 any_groups.2)

  pub constraint_good : (f : ℕ) (ws : List Word) → Good (Constraints ms) ws (constraint_p ms f ws)
  unfolding constraint_p
  constraint_good f ws = at_good (is_tells "or") ws _ _ (λ p r e. last_good (λ l. l) (λ g. g ∷ []) ok (λ l m. refl) e (group_good f p r) (λ k t d. k_or d) done)
      (expect_good (λ l. l) "and" ws _ (λ l m. refl) refl any_constraint.0 any_constraint.1 any_constraint.2
      (λ p r e. expect_good (λ l. fixed "and" p ∷ l) "(" r _ (λ l m. refl) e (fixed "(" 0 ∷ (any_groups.0 ++ (fixed ")" 0 ∷ []))) _ (k_and p 0 0 any_groups.2)
      (λ q x e₁. until_good (λ l. fixed "and" p ∷ fixed "(" q ∷ l) ")" _ (λ l m. refl) e₁
      (some_good (is "or") _ (λ f x p r i. rw (is_tells "or" x p i) (group_good f p r)) any_groups.0 any_groups.1 any_groups.2 f x) (λ k t d. (fixed ")" 0 ∷ [], _, k_and p q 0 d))
      (λ k l s y d e₂. g_ok (fixed "and" p ∷ fixed "(" q ∷ (k ++ (fixed ")" s ∷ []))) (e₂ ∙ simp append_assoc) (k_and p q s d)))))

-- ---- the fuel is enough

pub declared_settled : (f : ℕ) (ws : List Word) → 16 * length ws < f → Settled (suc (length ws)) (declared_p f ws)
unfolding declared_p
declared_settled f ws h = on_settled (is "<") ws _ _ (λ p r e. until_settled ">" _ (type_settled f r (omega arith)) (λ t q x i. s_ok x (omega arith))) (s_ok ws (omega arith))

entry_settled : (f : ℕ) (ws : List Word) → Settled (length ws) (entry_p f ws)
unfolding entry_p
entry_settled f ws = on_settled is_name ws _ _
    (λ n r e. expect_settled "." r _ (λ p x i. on_settled (is_the "p") x _ _
    (λ q y j. expect_settled "." y _ (λ s z k. on_settled (is_figure 1) z _ _ (λ t l n. s_ok l (omega arith)) (on_settled (is_figure 0) z _ _ (λ t l n. s_ok l (omega arith)) s_bad)))
    s_bad))
    s_bad

module _ (ms : List (List ℕ)) where
  val_settled : (f p : ℕ) (ws : List Word) → 16 * length ws + 6 < f → Settled (suc (length ws)) (val_p ms f p ws)
  unfolding val_p
  val_settled f p ws h = bind_settled _ (declared_settled f ws (omega arith)) (λ t x i. on_settled is_name x _ _
      (λ n y j. expect_settled "=" y _ (λ q z k. until_settled ";" _ (expr_settled ms f false z (omega arith)) (λ e s l n. s_ok l (omega arith)))) s_bad)

  assignment_settled : (f : ℕ) (n : Name) (ws : List Word) → 16 * length ws + 6 < f → Settled (suc (length ws)) (assignment_p ms f n ws)
  unfolding assignment_p
  assignment_settled f n ws h = if_settled (among ms n.spelled)
      (expect_settled "[" ws _ (λ p r e. until_settled "]" _ (expr_settled ms f false r (omega arith)) (λ a q x i. expect_settled "=" x _
      (λ s y j. until_settled ";" _ (expr_settled ms f false y (omega arith)) (λ v t z k. s_ok z (omega arith))))))
      (expect_settled "=" ws _ (λ p r e. until_settled ";" _ (expr_settled ms f false r (omega arith)) (λ a q x i. s_ok x (omega arith))))

  statement_settled : (f : ℕ) (a : Start) (ws : List Word) → 16 * length ws + 6 < f → Settled (suc (length ws)) (statement_p ms f a ws)
  unfolding statement_p
  statement_settled f (names n) ws h = bind_settled _ (assignment_settled f n ws h) (λ a x i. s_ok x (omega arith))
  statement_settled f (opens p) ws h = until_settled "in" _ (some_settled (is "val") _ val_settled f ws (omega arith))
      (λ vs q x i. until_settled "end" _ (some_settled is_name _ assignment_settled f x (omega arith)) (λ l s y j. s_ok y (omega arith)))

  rule_settled : (f : ℕ) (n : Name) (ws : List Word) → 16 * length ws + 6 < f → Settled (suc (length ws)) (rule_p ms f n ws)
  unfolding rule_p
  rule_settled f n ws h = expect_settled "(" ws _ (λ p r e. until_settled ")" _ (commas_settled _ (λ f ws i. entry_settled f ws) f r (omega arith)) (λ es q x i. expect_settled "{" x _
      (λ s y j. until_settled "}" _ (many_settled is_start _ statement_settled f y (omega arith)) (λ l t z k. s_ok z (omega arith)))))

  group_settled : (f p : ℕ) (ws : List Word) → 16 * length ws + 6 < f → Settled (suc (length ws)) (group_p ms f p ws)
  unfolding group_p
  group_settled f p ws h = expect_settled "(" ws _ (λ q r e. until_settled ")" _ (some_settled is_name _ rule_settled f r (omega arith)) (λ l s x i. s_ok x (omega arith)))

  pub constraint_settled : (f : ℕ) (ws : List Word) → 16 * length ws < f → Settled (length ws) (constraint_p ms f ws)
  unfolding constraint_p
  constraint_settled f ws h = on_settled (is "or") ws _ _ (λ p r e. bind_settled _ (group_settled f p r (omega arith)) (λ g x i. s_ok x (omega arith)))
      (expect_settled "and" ws _ (λ p r e. expect_settled "(" r _ (λ q x i. until_settled ")" _ (some_settled (is "or") _ group_settled f x (omega arith)) (λ l s y j. s_ok y (omega arith)))))

-- ---- what is derived is read

pub declared_complete : {ws : List Word} {t : Declared} → Declares ws t → (f : ℕ) (rest : List Word) → Misses (is "<") rest → Agrees t rest (declared_p f (ws ++ rest))
unfolding declared_p on is
declared_complete y_untyped f rest e = rw (on_miss (is "<") _ _ rest e) a_ok
declared_complete (y_typed p q d) f rest e = simp append_assoc (until_agrees ">" _ (type_complete d f _ (refl, refl, refl)) a_ok)

entry_complete : (ws : List Word) (x : Entry) → Entries ws x → (f : ℕ) (rest : List Word) → Agrees x rest (entry_p f (ws ++ rest))
unfolding entry_p on is_name is_the is_figure is expect same bytes
entry_complete ws x (e_present p q r s) f rest = a_ok
entry_complete ws x (e_absent p q r s) f rest = a_ok

module _ (ms : List (List ℕ)) where
  val_opens : (ws : List Word) (x : Val) → Vals ms ws x → Opens (is "val") (λ f p r. val_p ms f p r) ws x
  unfolding val_p on is_name is_digits is expect operator_in operators
  val_opens ws x (v_val {a = a} {b = b} {n = n} p q r d d') = record {
    first = fixed "val" p;
    next = a ++ (name n ∷ fixed "=" q ∷ (b ++ (fixed ";" r ∷ [])));
    seen = p;
    begins = refl;
    passes = refl;
    reads = λ f rest. simp append_assoc (bind_agrees _ (declared_complete d f _ refl) (until_agrees ";" _ (expr_complete ms d' f ";" r rest refl (refl, refl, refl, refl, refl) refl) a_ok));
  }

  assign_opens : (ws : List Word) (x : Assignment) → Assigns ms ws x → Opens is_name (λ f n r. assignment_p ms f n r) ws x
  unfolding assignment_p on is_name is_digits is expect operator_in operators
  assign_opens ws x (i_assign {n = n} {a = a} p q i d) = record {
    first = name n;
    next = fixed "=" p ∷ (a ++ (fixed ";" q ∷ []));
    seen = n;
    begins = refl;
    passes = refl;
    reads = λ f rest. simp append_assoc (else_agrees (among ms n.spelled) _ _ i (until_agrees ";" _ (expr_complete ms d f ";" q rest refl (refl, refl, refl, refl, refl) refl) a_ok));
  }
  assign_opens ws x (i_write {n = n} {a = a} {b = b} p q r s i d d') = record {
    first = name n;
    next = fixed "[" p ∷ (a ++ (fixed "]" q ∷ fixed "=" r ∷ (b ++ (fixed ";" s ∷ []))));
    seen = n;
    begins = refl;
    passes = refl;
    reads = λ f rest. simp append_assoc
        (if_agrees (among ms n.spelled) _ _ i (until_agrees "]" _ (expr_complete ms d f "]" q _ refl (refl, refl, refl, refl, refl) refl) (until_agrees ";" _ (expr_complete ms d' f ";" s rest refl (refl, refl, refl, refl, refl) refl) a_ok)));
  }

  alone_opens : (ws : List Word) (x : Assignment) → Opens is_name (λ f n r. assignment_p ms f n r) ws x → Opens is_start (λ f a r. statement_p ms f a r) ws (alone x)
  unfolding statement_p is_start
  alone_opens ws x o = record {
    first = name o.seen;
    next = o.next;
    seen = names o.seen;
    begins = o.begins ∙ ap (λ (y : Word). y ∷ o.next) (name_tells o.first o.seen o.passes);
    passes = refl;
    reads = λ f rest. bind_agrees _ (o.reads f rest) a_ok;
  }

  statement_opens : (ws : List Word) (x : Statement) → Statements ms ws x → Opens is_start (λ f a r. statement_p ms f a r) ws x
  unfolding statement_p on is_start is_name is
  statement_opens ws x (s_alone {x = y} d) = alone_opens ws y (assign_opens ws y d)
  statement_opens ws x (s_let {a = a} {b = b} p q r d d') = record {
    first = fixed "let" p;
    next = a ++ (fixed "in" q ∷ (b ++ (fixed "end" r ∷ [])));
    seen = opens p;
    begins = refl;
    passes = refl;
    reads = λ f rest. simp append_assoc (until_agrees "in" _ (some_complete (is "val") _ val_opens d f _ refl) (until_agrees "end" _ (some_complete is_name _ assign_opens d' f _ refl) a_ok));
  }

  rule_opens : (ws : List Word) (x : Rule) → Rules ms ws x → Opens is_name (λ f n r. rule_p ms f n r) ws x
  unfolding rule_p on is_start is_name is expect
  rule_opens ws x (r_rule {n = n} {a = a} {b = b} p q r s d d') = record {
    first = name n;
    next = fixed "(" p ∷ (a ++ (fixed ")" q ∷ fixed "{" r ∷ (b ++ (fixed "}" s ∷ []))));
    seen = n;
    begins = refl;
    passes = refl;
    reads = λ f rest. simp append_assoc (until_agrees ")" _ (commas_complete _ entry_complete d f _ refl) (until_agrees "}" _ (many_complete is_start _ statement_opens d' f _ refl) a_ok));
  }

  group_opens : (ws : List Word) (x : Group) → Groups ms ws x → Opens (is "or") (λ f p r. group_p ms f p r) ws x
  unfolding group_p on is_name is expect
  group_opens ws x (g_or {a = a} p q r d) = record {
    first = fixed "or" p;
    next = fixed "(" q ∷ (a ++ (fixed ")" r ∷ []));
    seen = p;
    begins = refl;
    passes = refl;
    reads = λ f rest. simp append_assoc (until_agrees ")" _ (some_complete is_name _ rule_opens d f _ refl) a_ok);
  }

  or_complete : (ws : List Word) (x : Group) → Opens (is "or") (λ f p r. group_p ms f p r) ws x → (f : ℕ) (rest : List Word) → Agrees (x ∷ []) rest (constraint_p ms f (ws ++ rest))
  unfolding constraint_p
  or_complete ws x o f rest = rw (o.begins, on_hit (is "or") _ _ o.first (o.next ++ rest) o.seen o.passes) (bind_agrees _ (o.reads f rest) a_ok)

  pub constraint_complete : {ws : List Word} {l : List Group} → Constraints ms ws l → (f : ℕ) (rest : List Word) → Agrees l rest (constraint_p ms f (ws ++ rest))
  unfolding constraint_p on is expect
  constraint_complete (k_or {a = a} {g = g} d) f rest = or_complete a g (group_opens a g d) f rest
  constraint_complete (k_and p q r d) f rest = simp append_assoc (until_agrees ")" _ (some_complete (is "or") _ group_opens d f _ refl) a_ok)

-- ---- no word past a fault is looked at

module _ (w : Word) (r c : List Word) where
  pub declared_pair : (f : ℕ) (ws ws' : List Word) → Pair Never w r c ws ws' (declared_p f ws) (declared_p f ws')
  unfolding declared_p
  declared_pair f ws ws' = on_pair (is "<") _ _ ws ws' (λ p s s'. until_pair ">" _ nowhere (type_pair w r c f s s') (λ t q s s'. ok_pair _)) (ok_pair _)

  entry_pair : (f : ℕ) (ws ws' : List Word) → Pair Never w r c ws ws' (entry_p f ws) (entry_p f ws')
  unfolding entry_p
  entry_pair f ws ws' = on_pair is_name _ _ ws ws'
      (λ n s s'. expect_pair "." _ s s' (λ p s s'. on_pair (is_the "p") _ _ s s'
      (λ q s s'. expect_pair "." _ s s' (λ t s s'. on_pair (is_figure 1) _ _ s s' (λ t s s'. ok_pair _) (on_pair (is_figure 0) _ _ s s' (λ t s s'. ok_pair _) bad_pair)))
      bad_pair))
      bad_pair

  module _ (ms : List (List ℕ)) where
    val_pair : (f p : ℕ) (ws ws' : List Word) → Pair Never w r c ws ws' (val_p ms f p ws) (val_p ms f p ws')
    unfolding val_p
    val_pair f p ws ws' = bind_pair _ nowhere (declared_pair f ws ws') (λ t s s'. on_pair is_name _ _ s s'
        (λ n s s'. expect_pair "=" _ s s' (λ q s s'. until_pair ";" _ off (expr_pair ms w r c f false s s') (λ e q s s'. ok_pair _))) bad_pair)

    assignment_pair : (f : ℕ) (n : Name) (ws ws' : List Word) → Pair Never w r c ws ws' (assignment_p ms f n ws) (assignment_p ms f n ws')
    unfolding assignment_p
    assignment_pair f n ws ws' = if_pair (among ms n.spelled)
        (expect_pair "[" _ ws ws' (λ p s s'. until_pair "]" _ off (expr_pair ms w r c f false s s') (λ a q s s'. expect_pair "=" _ s s' (λ q s s'. until_pair ";" _ off (expr_pair ms w r c f false s s') (λ e t s s'. ok_pair _)))))
        (expect_pair "=" _ ws ws' (λ p s s'. until_pair ";" _ off (expr_pair ms w r c f false s s') (λ e q s s'. ok_pair _)))

    statement_pair : (f : ℕ) (a : Start) (ws ws' : List Word) → Pair Never w r c ws ws' (statement_p ms f a ws) (statement_p ms f a ws')
    unfolding statement_p
    statement_pair f (names n) ws ws' = bind_pair _ nowhere (assignment_pair f n ws ws') (λ a s s'. ok_pair _)
    statement_pair f (opens p) ws ws' = until_pair "in" _ nowhere (some_pair (is "val") _ val_pair f ws ws')
        (λ vs q s s'. until_pair "end" _ nowhere (some_pair is_name _ assignment_pair f s s') (λ l t s s'. ok_pair _))

    rule_pair : (f : ℕ) (n : Name) (ws ws' : List Word) → Pair Never w r c ws ws' (rule_p ms f n ws) (rule_p ms f n ws')
    unfolding rule_p
    rule_pair f n ws ws' = expect_pair "(" _ ws ws' (λ p s s'. until_pair ")" _ nowhere (commas_pair _ entry_pair f s s') (λ es q s s'. expect_pair "{" _ s s'
        (λ t s s'. until_pair "}" _ nowhere (many_pair is_start _ statement_pair f s s') (λ l t s s'. ok_pair _))))

    group_pair : (f p : ℕ) (ws ws' : List Word) → Pair Never w r c ws ws' (group_p ms f p ws) (group_p ms f p ws')
    unfolding group_p
    group_pair f p ws ws' = expect_pair "(" _ ws ws' (λ q s s'. until_pair ")" _ nowhere (some_pair is_name _ rule_pair f s s') (λ l t s s'. ok_pair _))

    pub constraint_pair : (f : ℕ) (ws ws' : List Word) → Pair Never w r c ws ws' (constraint_p ms f ws) (constraint_p ms f ws')
    unfolding constraint_p
    constraint_pair f ws ws' = on_pair (is "or") _ _ ws ws' (λ p s s'. bind_pair _ nowhere (group_pair f p s s') (λ g s s'. ok_pair _))
        (expect_pair "and" _ ws ws' (λ p s s'. expect_pair "(" _ s s' (λ q s s'. until_pair ")" _ nowhere (some_pair (is "or") _ group_pair f s s') (λ l t s s'. ok_pair _))))
