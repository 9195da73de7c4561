-- A plan is short: at most 64 numbers and eight for each word of its actor.
use Prim.Native.Nat.{ℕ, suc, ◌+◌, ◌*◌, ◌≤◌}
use mathlib.Core.Path.{◌≡◌, refl}
use mathlib.Core.List.{List, [], ◌∷◌, ◌++◌}
use native.Mathlib.Omega.{arith}
use lib.ListN.{length, length-append}
use Rattle.language.specs.Tree.{Expr, plain, sized, copies, read, cell, bit, range, inside, joined, beside, unary, binary, choice, either, select, arm, default}
use Rattle.language.specs.Tree.{Memory, Val, Assignment, assign, write, Statement, alone, scoped, Rule, Group}
use Rattle.language.specs.Parts.{each}
use Rattle.language.specs.Counts.{expr_words, rules_of}
use Rattle.language.specs.Sizes.{Setting, Let, val_extent}
use Rattle.plan.specs.Items.{encode}
use Rattle.plan_of.specs.PlanOf.{Slot, extents, constant, code, assignment_code, lets_from, vals_code, body_code, rule_code, port_number, memory_numbers, rule_numbers, plan_of}
use Rattle.plan_of.specs.Lengths.{total, val_words, assignment_words, statement_words, rule_words, group_words, memory_words, actor_words}
use Rattle.plan_of.proofs.Sections.{length_fixed, port_one, memory_two, rule_three}
use Rattle.plan_of.proofs.Checks.{some_words}
use Rattle.plan.proofs.Lists.{four_long}

module _ (s : Setting) where
  code_short : (lets : List (Let Slot)) (d : ℕ) (e : Expr) → length (code s lets d e) ≤ expr_words e
  unfolding code expr_words constant
  code_short lets d (plain n) = omega arith
  code_short lets d (sized w a) = some_words (sized w a)
  code_short lets d (copies n e) = simp length-append (let q = code_short lets d e in omega arith)
  code_short lets d (read n) = omega arith
  code_short lets d (cell n e) = simp length-append (let q = code_short lets d e in omega arith)
  code_short lets d (bit e p i) = simp length-append (let q = code_short lets d e in omega arith)
  code_short lets d (range e p i j) = simp length-append (let q = code_short lets d e in omega arith)
  code_short lets d (inside p e) = let q = code_short lets d e in omega arith
  code_short lets d (joined p e) = let q = code_short lets d e in omega arith
  code_short lets d (beside a b) = simp length-append (let q = code_short lets d a in let r = code_short lets d b in omega arith)
  code_short lets d (unary u e) = simp length-append (let q = code_short lets d e in omega arith)
  code_short lets d (binary o a b) = simp length-append (let q = code_short lets d a in let r = code_short lets d b in omega arith)
  code_short lets d (choice c a b) = simp length-append (let p = code_short lets d c in let q = code_short lets d a in let r = code_short lets d b in omega arith)
  code_short lets d (either p c a b) = simp length-append (let p = code_short lets d c in let q = code_short lets d a in let r = code_short lets d b in omega arith)
  code_short lets d (select p e a) = simp length-append (let q = code_short lets d e in let r = code_short lets (suc d) a in omega arith)
  code_short lets d (arm n e r) = simp length-append (let p = code_short lets d e in let q = code_short lets d r in omega arith)
  code_short lets d (default p e) = let q = code_short lets d e in omega arith

  assignment_short : (lets : List (Let Slot)) (x : Assignment) → length (assignment_code s lets x) ≤ assignment_words x
  unfolding assignment_code assignment_words
  assignment_short lets (assign n e) = simp length-append (let q = code_short lets 0 e in omega arith)
  assignment_short lets (write n a e) = simp length-append (let q = code_short lets 0 a in let r = code_short lets 0 e in omega arith)

  assignments_short : (lets : List (Let Slot)) (l : List Assignment) → length (each (assignment_code s lets) l) ≤ total assignment_words l
  unfolding each total
  assignments_short lets [] = omega arith
  assignments_short lets (x ∷ l) = simp length-append (let q = assignment_short lets x in let r = assignments_short lets l in omega arith)

  vals_short : (k : ℕ) (lets : List (Let Slot)) (vs : List Val) → length (vals_code s k lets vs) ≤ total val_words vs
  unfolding vals_code total val_words
  vals_short k lets [] = omega arith
  vals_short k lets (v ∷ vs) =
      simp length-append (let q = code_short lets 0 v.value in let r = vals_short (suc k) (record { called = v.called.spelled; holds = record { number = k; holds = val_extent s (extents lets) v } } ∷ lets) vs in omega arith)

  body_short : (k : ℕ) (l : List Statement) → length (body_code s k l) ≤ total statement_words l
  unfolding body_code total statement_words
  body_short k [] = omega arith
  body_short k (alone x ∷ l) = simp length-append (let q = assignment_short [] x in let r = body_short k l in omega arith)
  body_short k (scoped vs xs ∷ l) = simp length-append (let p = vals_short k [] vs in let q = assignments_short (lets_from s k [] vs) xs in let r = body_short (k + length vs) l in omega arith)

  -- three numbers for a rule, and its code
  rules_short : (rs : List Rule) → 3 * length rs + length (each (rule_code s) rs) ≤ 4 * total rule_words rs
  unfolding each total rule_words rule_code
  rules_short [] = omega arith
  rules_short (r ∷ rs) =
      simp length-append (let p = length_fixed encode 4 four_long (body_code s 0 r.body) in let q = body_short 0 r.body in let t = rules_short rs in omega arith)

  each_total : (gs : List Group) → length gs + total rule_words (each (λ g. g.rules) gs) ≤ total group_words gs
  unfolding each total group_words
  each_total [] = omega arith
  each_total (g ∷ gs) = let q = each_total gs in let r = total_append g.rules (each (λ g. g.rules) gs) in omega arith
    where
      total_append : (l m : List Rule) → total rule_words (l ++ m) ≡ total rule_words l + total rule_words m
      total_append [] m = omega arith
      total_append (x ∷ l) m = let q = total_append l m in omega arith

  memories_short : (ms : List Memory) → 2 * length ms ≤ total memory_words ms
  unfolding total memory_words
  memories_short [] = omega arith
  memories_short (m ∷ ms) = let q = memories_short ms in omega arith

  pub plan_short : length (plan_of s) ≤ 64 + 8 * actor_words s.actor
  unfolding plan_of actor_words rules_of
  plan_short =
      simp length-append
      (let a = length_fixed (port_number s) 1 (port_one s) s.actor.signature in
      let b = length_fixed (memory_numbers s) 2 (memory_two s) s.actor.memories in
      let c = length_fixed (λ g. length g.rules ∷ []) 1 (λ g. refl) s.actor.groups in
      let d = length_fixed (rule_numbers s) 3 (rule_three s) (rules_of s.actor) in
      let e = rules_short (rules_of s.actor) in
      let f = each_total s.actor.groups in
      let g = memories_short s.actor.memories in
      omega arith)
