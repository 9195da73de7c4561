-- Expressions: what is read is derived, and where a fault is, what has been read can be finished; one induction over the fuel. Assumes nothing.
use mathlib.Core.Path.{◌≡◌, refl, sym, ap, ◌∙◌}
use mathlib.Core.Bool.{Bool, true, false}
use mathlib.Core.List.{List, [], ◌∷◌, ◌++◌, append_assoc, append-nil}
use mathlib.Core.Option.{none, some}
use Prim.Native.Nat.{ℕ, zero, suc, ◌≤◌}
use native.Mathlib.Omega.{arith}
use native.Mathlib.Decide.{dec_le}
use Rattle.language.specs.Text.{Name, among}
use Rattle.language.specs.Words.{Word, num, name, digits, fixed, Numeral}
use Rattle.language.specs.Tree.{Breadth, Amount, value}
use Rattle.language.specs.Tree.{Expr, plain, sized, read, inside, beside, unary, binary, choice, either, select, arm, default}
use Rattle.language.specs.Grammar.{Operator, Amounts, a_given, a_value, expr, cond, bin, base, parts, arms, Derives, d_if, d_expr, d_cond, d_bins, d_bin, d_up, d_unary, d_plain, d_bits, d_typed}
use Rattle.language.specs.Grammar.{d_copies, d_joined, d_part, d_beside, d_cell, d_read, d_inside, d_base, d_bit, d_range, d_case, d_arm, d_default}
use Rattle.language.specs.Reader.{ok}
use Rattle.language.specs.Parser.{arm_ends, is_operator, is_prefix, amount_p, part_p, expr_p, cond_l, bin_p, bin_l, operand_p, number_p, named_p, part_l, arms_p}
use Rattle.language.proofs.Tests.{never, differ, num_tells, name_tells, digits_tells, is_tells, operator_tells, operator_high, prefix_tells}
use Rattle.language.proofs.Laws.{Misses, Leaves, v_ok, v_dry, bind_leaves, on_leaves, if_leaves}
use Rattle.language.proofs.Laws.{Acc, Good, g_ok, g_bad, g_dry, on_good, at_good, if_good, expect_good, rest_good, bind_good, until_good, last_good, lift_good, done}
use Rattle.language.proofs.Types.{ZERO, type_good}

-- ---- what a loop leaves: after operands with operators below m, the next operator that any loop takes is not below m

abbrev Room : Bool → ℕ → List Word → Type 0
Room b j ws = (w : Word) (r : List Word) (n : ℕ) (o : Operator) → arm_ends b ws ≡ false → ws ≡ w ∷ r → is_operator n w ≡ some o → j ≤ suc o.level

room_of : (b : Bool) (m : ℕ) (ws : List Word) → Misses (is_operator m) ws → Room b (suc m) ws
room_of b m [] miss w r n o i e h = never (cc)
room_of b m (x ∷ s) miss w r n o i e h = let k = operator_tells n w o h in
    let z : is_operator m (fixed k.sign k.at) ≡ none = let y : x ≡ w = cc in let v = k.word in cc in
    let g = operator_high m k.sign k.at o k.listed z in omega arith

module _ (ms : List (List ℕ)) where
  mutual
    unfolding expr_p

    bin_p_leaves_law : (f : ℕ) (b : Bool) (m : ℕ) (ws : List Word) → Leaves (Room b (suc m)) (bin_p ms f b m ws)
    bin_p_leaves_law zero b m ws = v_dry
    bin_p_leaves_law (suc f) b m ws = bind_leaves _ _ (λ a x. bin_l_leaves_law f b m a x)

    bin_l_leaves_law : (f : ℕ) (b : Bool) (m : ℕ) (a : Expr) (ws : List Word) → Leaves (Room b (suc m)) (bin_l ms f b m a ws)
    bin_l_leaves_law zero b m a ws = v_dry
    bin_l_leaves_law (suc f) b m a ws = if_leaves (arm_ends b ws) (λ i. v_ok (λ w r n o j. differ (sym j ∙ i)))
        (λ i. on_leaves (is_operator m) ws _ _ (λ o r. bind_leaves _ _ (λ c x. bin_l_leaves_law f b m (binary o.which a c) x)) (λ j. v_ok (room_of b m ws j)))

-- ---- the shortest text of each sort, with which a fault is finished

abbrev pub any_name : Name
any_name = record { at = 0; spelled = [] }

module _ {ms : List (List ℕ)} where
  zero_bin : (n : ℕ) → Derives ms (bin n) (ZERO ∷ []) (plain (record { at = 0; value = 0; long = 1 }))
  zero_bin zero = d_plain
  zero_bin (suc n) = d_up (zero_bin n)

  pub zero_expr : Derives ms expr (ZERO ∷ []) (plain (record { at = 0; value = 0; long = 1 }))
  zero_expr = d_expr (d_bins (zero_bin 9))

  zero_arms : Derives ms arms (fixed "_" 0 ∷ fixed "=>" 0 ∷ ZERO ∷ fixed "}" 0 ∷ []) (default 0 (plain (record { at = 0; value = 0; long = 1 })))
  zero_arms = d_default 0 0 0 zero_expr

  raise : (j n : ℕ) {a : List Word} {x : Expr} → j ≤ n → Derives ms (bin j) a x → Derives ms (bin n) a x
  raise j zero {a = a} {x = x} h d = let e : j ≡ 0 = omega arith in rw e at d
  raise j (suc n) {a = a} {x = x} h d = go (dec_le j n) (λ i. raise j n i d)
    where
      go : Dec (j ≤ n) → (j ≤ n → Derives ms (bin n) a x) → Derives ms (bin (suc n)) a x
      go (yes i) k = d_up (k i)
      go (no i) k = let e : j ≡ suc n = omega arith in rw e at d

-- ---- the parts that call no expression

amount_good : {D : List Word → Expr → Type 0} {all : List Word} (acc : List Word → List Word) (w : Breadth) (ws : List Word) → Acc acc → all ≡ acc ws
    → ((p : List Word) (x : Amount) → Amounts p x → D (acc p) (sized w x)) → Good D all (amount_p w ws)
unfolding amount_p
amount_good acc w ws law e make = at_good digits_tells ws _ _ (λ n r i. g_ok (acc (digits n ∷ [])) (e ∙ ap acc i ∙ law (digits n ∷ []) r) (make _ _ a_given))
    (expect_good acc "'d" ws _ law e (fixed "'d" 0 ∷ name any_name ∷ []) _ (make _ _ (a_value 0))
    (λ p r e₁. at_good name_tells r _ _ (λ n x i. g_ok (acc (fixed "'d" p ∷ name n ∷ [])) (e₁ ∙ ap (λ (l : List Word). acc (fixed "'d" p ∷ l)) i ∙ law (fixed "'d" p ∷ name n ∷ []) x) (make _ _ (a_value p)))
    (g_bad (acc (fixed "'d" p ∷ [])) (name any_name ∷ []) _ (e₁ ∙ law (fixed "'d" p ∷ []) r) (rw (law (fixed "'d" p ∷ []) (name any_name ∷ [])) at (make _ _ (a_value {n = any_name} p))))))

part_good : (ms : List (List ℕ)) (f : ℕ) {all : List Word} (q : List Word) (a : Expr) (ws : List Word) → Derives ms base q a → all ≡ q ++ ws → Good (Derives ms (bin 0)) all (part_p f a ws)
unfolding part_p
part_good ms f q a ws d e = at_good (is_tells "[") ws _ _
    (λ p r i. bind_good (λ l. q ++ (fixed "[" p ∷ l)) _ (λ l m. simp append_assoc) (e ∙ ap (λ (l : List Word). q ++ l) i) (type_good f r) (λ k t d₁. (fixed "]" 0 ∷ [], _, d_bit p 0 d d₁))
    (λ k t x d₁ e₁. at_good (is_tells ":") x _ _
    (λ s y j. until_good (λ l. q ++ (fixed "[" p ∷ (k ++ (fixed ":" s ∷ l)))) "]" _ (λ l m. simp append_assoc) (e₁ ∙ ap (λ (l : List Word). q ++ (fixed "[" p ∷ (k ++ l))) j) (type_good f y)
    (λ k₂ t₂ d₂. (fixed "]" 0 ∷ [], _, d_range p s 0 d d₁ d₂))
    (λ k₂ t₂ u z d₂ e₂. g_ok (q ++ (fixed "[" p ∷ (k ++ (fixed ":" s ∷ (k₂ ++ (fixed "]" u ∷ [])))))) (e₂ ∙ simp append_assoc) (d_range p s u d d₁ d₂)))
    (expect_good (λ l. q ++ (fixed "[" p ∷ (k ++ l))) "]" x _ (λ l m. simp append_assoc) e₁ (fixed "]" 0 ∷ []) _ (d_bit p 0 d d₁)
    (λ s y e₂. g_ok (q ++ (fixed "[" p ∷ (k ++ (fixed "]" s ∷ [])))) (e₂ ∙ simp append_assoc) (d_bit p s d d₁)))))
    (g_ok q e (d_base d))

-- ---- the parser

module _ (ms : List (List ℕ)) where
  mutual
    unfolding expr_p

    pub expr_good : (f : ℕ) (b : Bool) (ws : List Word) → Good (Derives ms expr) ws (expr_p ms f b ws)
    expr_good zero b ws = g_dry
    expr_good (suc f) b ws = at_good (is_tells "if") ws _ _
        (λ p r e. until_good (λ l. fixed "if" p ∷ l) "then" _ (λ l m. refl) e (expr_good f false r) (λ k t d. (fixed "then" 0 ∷ ZERO ∷ fixed "else" 0 ∷ ZERO ∷ [], _, d_if p 0 0 d zero_expr zero_expr))
        (λ k₁ a q x d₁ e₁. until_good (λ l. fixed "if" p ∷ (k₁ ++ (fixed "then" q ∷ l))) "else" _ (λ l m. simp append_assoc) e₁ (expr_good f false x) (λ k t d. (fixed "else" 0 ∷ ZERO ∷ [], _, d_if p q 0 d₁ d zero_expr))
        (λ k₂ c s y d₂ e₂. last_good (λ l. fixed "if" p ∷ (k₁ ++ (fixed "then" q ∷ (k₂ ++ (fixed "else" s ∷ l))))) (either p a c) ok (λ l m. simp append_assoc) e₂ (expr_good f b y) (λ k t d. d_if p q s d₁ d₂ d) done)))
        (lift_good (λ p t d. d_expr d) (last_good (λ l. l) (λ t. t) (λ a x. cond_l ms f b a x) (λ l m. refl) refl (bin_good f b 9 ws) (λ p t d. d_bins d) (λ q u x d e. cond_l_good_law f b q u x d e)))

    cond_l_good_law : (f : ℕ) (b : Bool) {all : List Word} (q : List Word) (a : Expr) (ws : List Word) → Derives ms cond q a → all ≡ q ++ ws → Good (Derives ms cond) all (cond_l ms f b a ws)
    cond_l_good_law zero b q a ws d e = g_dry
    cond_l_good_law (suc f) b q a ws d e = at_good (is_tells "?") ws _ _
        (λ p r i. until_good (λ l. q ++ (fixed "?" p ∷ l)) ":" _ (λ l m. simp append_assoc) (e ∙ ap (λ (l : List Word). q ++ l) i) (expr_good f false r) (λ k t d₁. (fixed ":" 0 ∷ ZERO ∷ [], _, d_cond p 0 d d₁ (zero_bin 9)))
        (λ k₁ c s x d₁ e₁. last_good (λ l. q ++ (fixed "?" p ∷ (k₁ ++ (fixed ":" s ∷ l)))) (choice a c) (λ a x. cond_l ms f b a x) (λ l m. simp append_assoc) e₁ (bin_good f b 9 x) (λ k t d₂. d_cond p s d d₁ d₂)
        (λ q u x d e. cond_l_good_law f b q u x d e)))
        (g_ok q e d)

    bin_good : (f : ℕ) (b : Bool) (n : ℕ) (ws : List Word) → Good (Derives ms (bin n)) ws (bin_p ms f b n ws)
    bin_good zero b n ws = g_dry
    bin_good (suc f) b n ws = bind_good (λ l. l) _ (λ l m. refl) refl (operand_good f ws) (λ p t d. ([], t, raise 0 n (omega arith) (rw append-nil d)))
        (λ p t x d e. bin_l_good_law f b n 0 p t x (omega arith) (λ w r m o i j h. omega arith) d e)

    bin_l_good_law : (f : ℕ) (b : Bool) (n : ℕ) {all : List Word} (j : ℕ) (q : List Word) (a : Expr) (ws : List Word) → j ≤ n → Room b j ws → Derives ms (bin j) q a → all ≡ q ++ ws
        → Good (Derives ms (bin n)) all (bin_l ms f b n a ws)
    bin_l_good_law zero b n j q a ws l room d e = g_dry
    bin_l_good_law (suc f) b n j q a ws l room d e = if_good (arm_ends b ws) (λ i. g_ok q e (raise j n l d))
        (λ i. on_good (is_operator n) ws _ _
        (λ x o r h k. let t = operator_tells n x o h in
        let up : Derives ms (bin (suc o.level)) q a = raise j (suc o.level) (room x r n o i k h) d in
        rest_good (λ l. q ++ (fixed t.sign t.at ∷ l)) _ (λ l m. simp append_assoc) (e ∙ ap (λ (l : List Word). q ++ l) (k ∙ ap (λ (y : Word). y ∷ r) t.word)) (bin_p_leaves_law ms f b o.level r) (bin_good f b o.level r)
        (λ p c d₁. ([], binary o.which a c, raise (suc o.level) n t.low (d_bin t.sign t.at t.listed up (rw append-nil d₁))))
        (λ p c y room' d₁ e₁. bin_l_good_law f b n (suc o.level) (q ++ (fixed t.sign t.at ∷ p)) (binary o.which a c) y t.low room' (d_bin t.sign t.at t.listed up d₁) (e₁ ∙ simp append_assoc)))
        (g_ok q e (raise j n l d)))

    operand_good : (f : ℕ) (ws : List Word) → Good (Derives ms (bin 0)) ws (operand_p ms f ws)
    operand_good zero ws = g_dry
    operand_good (suc f) ws = at_good num_tells ws _ _ (λ n r e. rw e (number_good f n r))
        (at_good (is_tells "<") ws _ _
        (λ p r e. until_good (λ l. fixed "<" p ∷ l) ">" _ (λ l m. refl) e (type_good f r) (λ k t d. (fixed ">" 0 ∷ fixed "'d" 0 ∷ name any_name ∷ [], _, d_typed p 0 d (a_value 0)))
        (λ k t q x d e₁. amount_good (λ l. fixed "<" p ∷ (k ++ (fixed ">" q ∷ l))) (Breadth.typed p t) x (λ l m. simp append_assoc) e₁ (λ k₂ y d₂. d_typed p q d d₂)))
        (at_good name_tells ws _ _ (λ n r e. rw e (named_good f n r))
        (at_good (is_tells "(") ws _ _
        (λ p r e. until_good (λ l. fixed "(" p ∷ l) ")" _ (λ l m. refl) e (expr_good f false r) (λ k t d. (fixed ")" 0 ∷ [], _, d_base (d_inside p 0 d)))
        (λ k t q x d e₁. part_good ms f (fixed "(" p ∷ (k ++ (fixed ")" q ∷ []))) (inside p t) x (d_inside p q d) (e₁ ∙ simp append_assoc)))
        (at_good (is_tells "{") ws _ _
        (λ p r e. bind_good (λ l. fixed "{" p ∷ l) _ (λ l m. refl) e (expr_good f false r) (λ k t d. (fixed "}" 0 ∷ [], _, d_joined p 0 (d_part d)))
        (λ k t x d e₁. until_good (λ l. fixed "{" p ∷ l) "}" _ (λ l m. refl) e₁ (part_l_good_law f k t x (d_part d) refl) (λ k t d. (fixed "}" 0 ∷ [], _, d_joined p 0 d))
        (λ k t q y d e₂. g_ok (fixed "{" p ∷ (k ++ (fixed "}" q ∷ []))) (e₂ ∙ simp append_assoc) (d_joined p q d))))
        (on_good is_prefix ws _ _
        (λ x u r h k. let t = prefix_tells x u h in
        last_good (λ l. fixed t.sign u.at ∷ l) (unary u) ok (λ l m. refl) (k ∙ ap (λ (y : Word). y ∷ r) t.word) (operand_good f r) (λ p c d. d_unary u.at t.listed d) done)
        (at_good (is_tells "case") ws _ _
        (λ p r e. expect_good (λ l. fixed "case" p ∷ l) "(" r _ (λ l m. refl) e (fixed "(" 0 ∷ ZERO ∷ fixed ")" 0 ∷ fixed "{" 0 ∷ fixed "_" 0 ∷ fixed "=>" 0 ∷ ZERO ∷ fixed "}" 0 ∷ []) _ (d_case p 0 0 0 zero_expr zero_arms)
        (λ q x e₁. until_good (λ l. fixed "case" p ∷ fixed "(" q ∷ l) ")" _ (λ l m. refl) e₁ (expr_good f false x)
        (λ k t d. (fixed ")" 0 ∷ fixed "{" 0 ∷ fixed "_" 0 ∷ fixed "=>" 0 ∷ ZERO ∷ fixed "}" 0 ∷ [], _, d_case p q 0 0 d zero_arms))
        (λ k a s y d e₂. expect_good (λ l. fixed "case" p ∷ fixed "(" q ∷ (k ++ (fixed ")" s ∷ l))) "{" y _ (λ l m. simp append_assoc) e₂
        (fixed "{" 0 ∷ fixed "_" 0 ∷ fixed "=>" 0 ∷ ZERO ∷ fixed "}" 0 ∷ []) _ (d_case p q s 0 d zero_arms)
        (λ u z e₃. last_good (λ l. fixed "case" p ∷ fixed "(" q ∷ (k ++ (fixed ")" s ∷ fixed "{" u ∷ l))) (select p a) ok (λ l m. simp append_assoc) e₃ (arms_good f z) (λ k₂ t d₂. d_case p q s u d d₂) done))))
        (g_bad [] (ZERO ∷ []) _ refl d_plain)))))))

    number_good : (f : ℕ) (n : Numeral) (ws : List Word) → Good (Derives ms (bin 0)) (num n ∷ ws) (number_p ms f n ws)
    number_good zero n ws = g_dry
    number_good (suc f) n ws = at_good digits_tells ws _ _ (λ m r e. g_ok (num n ∷ digits m ∷ []) (rw e refl) (d_bits a_given))
        (at_good (is_tells "'d") ws _ _
        (λ p r e. at_good name_tells r _ _ (λ m x i. g_ok (num n ∷ fixed "'d" p ∷ name m ∷ []) (rw (e, i) refl) (d_bits (a_value p))) (g_bad (num n ∷ fixed "'d" p ∷ []) (name any_name ∷ []) _ (rw e refl) (d_bits (a_value p))))
        (at_good (is_tells "{") ws _ _
        (λ p r e. until_good (λ l. num n ∷ fixed "{" p ∷ l) "}" _ (λ l m. refl) (rw e refl) (expr_good f false r) (λ k t d. (fixed "}" 0 ∷ [], _, d_copies p 0 d))
        (λ k t q x d e₁. g_ok (num n ∷ fixed "{" p ∷ (k ++ (fixed "}" q ∷ []))) (e₁ ∙ simp append_assoc) (d_copies p q d)))
        (g_ok (num n ∷ []) refl d_plain)))

    named_good : (f : ℕ) (n : Name) (ws : List Word) → Good (Derives ms (bin 0)) (name n ∷ ws) (named_p ms f n ws)
    named_good zero n ws = g_dry
    named_good (suc f) n ws = if_good (among ms n.spelled)
        (λ i. expect_good (λ l. name n ∷ l) "[" ws _ (λ l m. refl) refl (fixed "[" 0 ∷ ZERO ∷ fixed "]" 0 ∷ []) _ (d_cell 0 0 i zero_expr)
        (λ p r e. until_good (λ l. name n ∷ fixed "[" p ∷ l) "]" _ (λ l m. refl) e (expr_good f false r) (λ k t d. (fixed "]" 0 ∷ [], _, d_cell p 0 i d))
        (λ k t q x d e₁. g_ok (name n ∷ fixed "[" p ∷ (k ++ (fixed "]" q ∷ []))) (e₁ ∙ simp append_assoc) (d_cell p q i d))))
        (λ i. part_good ms f (name n ∷ []) (read n) ws (d_read i) refl)

    part_l_good_law : (f : ℕ) {all : List Word} (q : List Word) (a : Expr) (ws : List Word) → Derives ms parts q a → all ≡ q ++ ws → Good (Derives ms parts) all (part_l ms f a ws)
    part_l_good_law zero q a ws d e = g_dry
    part_l_good_law (suc f) q a ws d e = at_good (is_tells ",") ws _ _
        (λ p r i. last_good (λ l. q ++ (fixed "," p ∷ l)) (beside a) (λ a x. part_l ms f a x) (λ l m. simp append_assoc) (e ∙ ap (λ (l : List Word). q ++ l) i) (expr_good f false r) (λ k t d₁. d_beside p d d₁)
        (λ q u x d e. part_l_good_law f q u x d e))
        (g_ok q e d)

    pub arms_good : (f : ℕ) (ws : List Word) → Good (Derives ms arms) ws (arms_p ms f ws)
    arms_good zero ws = g_dry
    arms_good (suc f) ws = at_good num_tells ws _ _
        (λ n r e. expect_good (λ l. num n ∷ l) "=>" r _ (λ l m. refl) e (fixed "=>" 0 ∷ ZERO ∷ fixed "|" 0 ∷ fixed "_" 0 ∷ fixed "=>" 0 ∷ ZERO ∷ fixed "}" 0 ∷ []) _ (d_arm 0 0 zero_expr zero_arms)
        (λ p x e₁. until_good (λ l. num n ∷ fixed "=>" p ∷ l) "|" _ (λ l m. refl) e₁ (expr_good f true x) (λ k t d. (fixed "|" 0 ∷ fixed "_" 0 ∷ fixed "=>" 0 ∷ ZERO ∷ fixed "}" 0 ∷ [], _, d_arm p 0 d zero_arms))
        (λ k a q y d e₂. last_good (λ l. num n ∷ fixed "=>" p ∷ (k ++ (fixed "|" q ∷ l))) (arm n a) ok (λ l m. simp append_assoc) e₂ (arms_good f y) (λ k₂ t d₂. d_arm p q d d₂) done)))
        (at_good (is_tells "_") ws _ _
        (λ p r e. expect_good (λ l. fixed "_" p ∷ l) "=>" r _ (λ l m. refl) e (fixed "=>" 0 ∷ ZERO ∷ fixed "}" 0 ∷ []) _ (d_default p 0 0 zero_expr)
        (λ q x e₁. until_good (λ l. fixed "_" p ∷ fixed "=>" q ∷ l) "}" _ (λ l m. refl) e₁ (expr_good f false x) (λ k t d. (fixed "}" 0 ∷ [], _, d_default p q 0 d))
        (λ k t s y d e₂. g_ok (fixed "_" p ∷ fixed "=>" q ∷ (k ++ (fixed "}" s ∷ []))) (e₂ ∙ simp append_assoc) (d_default p q s d))))
        (g_bad [] (fixed "_" 0 ∷ fixed "=>" 0 ∷ ZERO ∷ fixed "}" 0 ∷ []) _ refl zero_arms))
