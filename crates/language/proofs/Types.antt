-- Types, in each of the four inductions: what is read is derived and a fault can be finished; the fuel is enough; what is derived is read; no word past a fault is looked at.
-- Assumes nothing.
use mathlib.Core.Path.{◌≡◌, refl, ap, ◌∙◌}
use mathlib.Core.List.{List, [], ◌∷◌, ◌++◌, append_assoc}
use Prim.Native.Nat.{ℕ, zero, suc, ◌+◌, ◌*◌, ◌<◌}
use Prim.Native.String.{String}
use native.Mathlib.Omega.{arith}
use lib.ListN.{length}
use Rattle.language.specs.Text.{Name, same}
use Rattle.language.specs.Words.{Word, num, name, fixed, Numeral, bytes}
use Rattle.language.specs.Tree.{Ty, number, environment, port, plus, minus, log, ceil, floor, most, entry, within}
use Rattle.language.specs.Grammar.{the, figure, TypeSort, type, term, entries, Types, t_plus, t_minus, t_term, t_number, t_environment, t_port, t_log, t_ceil, t_floor, t_max, t_within, t_entry, t_one}
use Rattle.language.specs.Reader.{Res, ok, bind, on, is_num, is_name, is, is_the, expect, until}
use Rattle.language.specs.Parser.{type_p, type_l, term_p, entry_l}
use Rattle.language.proofs.Tests.{num_tells, name_tells, is_tells, the_tells}
use Rattle.language.proofs.Laws.{Misses, on_miss, Good, g_ok, g_bad, g_dry, at_good, expect_good, bind_good, until_good, last_good}
use Rattle.language.proofs.Laws.{Settled, s_ok, s_bad, more, on_settled, bind_settled, expect_settled, until_settled}
use Rattle.language.proofs.Laws.{Agrees, a_ok, a_dry, Reaches, r_at, r_dry, until_agrees, chain_agrees, bind_reaches, stops, goes}
use Rattle.language.proofs.Laws.{Never, nowhere, Pair, ok_pair, bad_pair, dry_pair, bind_pair, on_pair, expect_pair, until_pair}

-- ---- what is read is derived, and a fault can be finished, by the shortest text

abbrev pub ZERO : Word
ZERO = figure 0 0

pub zero_type : Types type (ZERO ∷ []) (number (record { at = 0; value = 0; long = 1 }))
zero_type = t_term t_number

-- `log`, `ceil` and `floor` of a type
call_good : {all : List Word} (v : String) (h : ℕ → Ty → Ty) → ((a : List Word) (x : Ty) (p q r : ℕ) → Types type a x → Types term (fixed v p ∷ fixed "(" q ∷ (a ++ (fixed ")" r ∷ []))) (h p x))
    → (read : List Word → Res Ty) → ((ws : List Word) → Good (Types type) ws (read ws))
    → (p : ℕ) (r : List Word) → all ≡ fixed v p ∷ r → Good (Types term) all (expect "(" r (λ q x. until (read x) ")" (λ a s y. ok (h p a) y)))
call_good v h make read good p r e = expect_good (λ l. fixed v p ∷ l) "(" r _ (λ l m. refl) e (fixed "(" 0 ∷ ZERO ∷ fixed ")" 0 ∷ []) _ (make _ _ p 0 0 zero_type)
    (λ q x e₁. until_good (λ l. fixed v p ∷ fixed "(" q ∷ l) ")" _ (λ l m. refl) e₁ (good x) (λ k t d. (fixed ")" 0 ∷ [], _, make _ _ p q 0 d))
    (λ k t s y d e₂. g_ok (fixed v p ∷ fixed "(" q ∷ (k ++ (fixed ")" s ∷ []))) (e₂ ∙ simp append_assoc) (make _ _ p q s d)))

mutual
  unfolding type_p

  pub type_good : (f : ℕ) (ws : List Word) → Good (Types type) ws (type_p f ws)
  type_good zero ws = g_dry
  type_good (suc f) ws = last_good (λ l. l) (λ t. t) (λ a x. type_l f a x) (λ l m. refl) refl (term_good f ws) (λ p t d. t_term d) (λ q u x d e. type_l_good_law f q u x d e)

  type_l_good_law : (f : ℕ) {all : List Word} (q : List Word) (a : Ty) (ws : List Word) → Types type q a → all ≡ q ++ ws → Good (Types type) all (type_l f a ws)
  type_l_good_law zero q a ws d e = g_dry
  type_l_good_law (suc f) q a ws d e = at_good (is_tells "+") ws _ _
      (λ p r i. last_good (λ l. q ++ (fixed "+" p ∷ l)) (plus a) (λ a x. type_l f a x) (λ l m. simp append_assoc) (e ∙ ap (λ (l : List Word). q ++ l) i) (term_good f r) (λ k t d₁. t_plus p d d₁)
      (λ q u x d e. type_l_good_law f q u x d e))
      (at_good (is_tells "-") ws _ _
      (λ p r i. last_good (λ l. q ++ (fixed "-" p ∷ l)) (minus a) (λ a x. type_l f a x) (λ l m. simp append_assoc) (e ∙ ap (λ (l : List Word). q ++ l) i) (term_good f r) (λ k t d₁. t_minus p d d₁)
      (λ q u x d e. type_l_good_law f q u x d e))
      (g_ok q e d))

  term_good : (f : ℕ) (ws : List Word) → Good (Types term) ws (term_p f ws)
  term_good zero ws = g_dry
  term_good (suc f) ws = at_good num_tells ws _ _ (λ n r e. g_ok (num n ∷ []) e t_number)
      (at_good name_tells ws _ _
      (λ n r e. at_good (is_tells ".") r _ _
      (λ p x i. at_good (the_tells "type") x _ _ (λ q y j. g_ok (name n ∷ fixed "." p ∷ the "type" q ∷ []) (rw (e, i, j) refl) (t_port p q))
      (g_bad (name n ∷ fixed "." p ∷ []) (the "type" 0 ∷ []) _ (rw (e, i) refl) (t_port p 0)))
      (g_ok (name n ∷ []) e t_environment))
      (at_good (is_tells "log") ws _ _ (call_good "log" log (λ a x p q r d. t_log p q r d) (λ x. type_p f x) (λ x. type_good f x))
      (at_good (is_tells "ceil") ws _ _ (call_good "ceil" ceil (λ a x p q r d. t_ceil p q r d) (λ x. type_p f x) (λ x. type_good f x))
      (at_good (is_tells "floor") ws _ _ (call_good "floor" floor (λ a x p q r d. t_floor p q r d) (λ x. type_p f x) (λ x. type_good f x))
      (at_good (is_tells "max") ws _ _
      (λ p r e. expect_good (λ l. fixed "max" p ∷ l) "(" r _ (λ l m. refl) e (fixed "(" 0 ∷ ZERO ∷ fixed ")" 0 ∷ []) _ (t_max p 0 0 (t_one zero_type))
      (λ q x e₁. bind_good (λ l. fixed "max" p ∷ fixed "(" q ∷ l) _ (λ l m. refl) e₁ (type_good f x) (λ k t d. (fixed ")" 0 ∷ [], _, t_max p q 0 (t_one d)))
      (λ k t y d e₂. until_good (λ l. fixed "max" p ∷ fixed "(" q ∷ l) ")" _ (λ l m. refl) e₂ (entry_l_good_law f k t y (t_one d) refl) (λ k t d. (fixed ")" 0 ∷ [], _, t_max p q 0 d))
      (λ k t s z d e₃. g_ok (fixed "max" p ∷ fixed "(" q ∷ (k ++ (fixed ")" s ∷ []))) (e₃ ∙ simp append_assoc) (t_max p q s d)))))
      (at_good (is_tells "(") ws _ _
      (λ p r e. until_good (λ l. fixed "(" p ∷ l) ")" _ (λ l m. refl) e (type_good f r) (λ k t d. (fixed ")" 0 ∷ [], _, t_within p 0 d))
      (λ k t s x d e₁. g_ok (fixed "(" p ∷ (k ++ (fixed ")" s ∷ []))) (e₁ ∙ simp append_assoc) (t_within p s d)))
      (g_bad [] (ZERO ∷ []) _ refl t_number)))))))

  entry_l_good_law : (f : ℕ) {all : List Word} (q : List Word) (a : Ty) (ws : List Word) → Types entries q a → all ≡ q ++ ws → Good (Types entries) all (entry_l f a ws)
  entry_l_good_law zero q a ws d e = g_dry
  entry_l_good_law (suc f) q a ws d e = at_good (is_tells ",") ws _ _
      (λ p r i. last_good (λ l. q ++ (fixed "," p ∷ l)) (entry a) (λ a x. entry_l f a x) (λ l m. simp append_assoc) (e ∙ ap (λ (l : List Word). q ++ l) i) (type_good f r) (λ k t d₁. t_entry p d d₁)
      (λ q u x d e. entry_l_good_law f q u x d e))
      (g_ok q e d)

-- ---- the fuel is enough

mutual
  unfolding type_p

  pub type_settled : (f : ℕ) (ws : List Word) → 16 * length ws + 2 < f → Settled (length ws) (type_p f ws)
  type_settled zero ws h = absurd (omega arith)
  type_settled (suc f) ws h = bind_settled _ (term_settled f ws (omega arith)) (λ a x i. more (omega arith) (type_l_settled_law f a x (omega arith)))

  type_l_settled_law : (f : ℕ) (a : Ty) (ws : List Word) → 16 * length ws < f → Settled (suc (length ws)) (type_l f a ws)
  type_l_settled_law zero a ws h = absurd (omega arith)
  type_l_settled_law (suc f) a ws h = on_settled (is "+") ws _ _ (λ p r e. bind_settled _ (term_settled f r (omega arith)) (λ c x i. more (omega arith) (type_l_settled_law f _ x (omega arith))))
      (on_settled (is "-") ws _ _ (λ p r e. bind_settled _ (term_settled f r (omega arith)) (λ c x i. more (omega arith) (type_l_settled_law f _ x (omega arith))))
      (s_ok ws (omega arith)))

  term_settled : (f : ℕ) (ws : List Word) → 16 * length ws + 1 < f → Settled (length ws) (term_p f ws)
  term_settled zero ws h = absurd (omega arith)
  term_settled (suc f) ws h = on_settled is_num ws _ _ (λ n r e. s_ok r (omega arith))
      (on_settled is_name ws _ _ (λ n r e. on_settled (is ".") r _ _ (λ p x i. on_settled (is_the "type") x _ _ (λ q y j. s_ok y (omega arith)) s_bad) (s_ok r (omega arith)))
      (on_settled (is "log") ws _ _ (λ p r e. expect_settled "(" r _ (λ q x i. until_settled ")" _ (type_settled f x (omega arith)) (λ a s y j. s_ok y (omega arith))))
      (on_settled (is "ceil") ws _ _ (λ p r e. expect_settled "(" r _ (λ q x i. until_settled ")" _ (type_settled f x (omega arith)) (λ a s y j. s_ok y (omega arith))))
      (on_settled (is "floor") ws _ _ (λ p r e. expect_settled "(" r _ (λ q x i. until_settled ")" _ (type_settled f x (omega arith)) (λ a s y j. s_ok y (omega arith))))
      (on_settled (is "max") ws _ _ (λ p r e. expect_settled "(" r _ (λ q x i. bind_settled _ (type_settled f x (omega arith)) (λ a y j. until_settled ")" _ (entry_l_settled_law f a y (omega arith)) (λ a s z k. s_ok z (omega arith)))))
      (on_settled (is "(") ws _ _ (λ p r e. until_settled ")" _ (type_settled f r (omega arith)) (λ a s x i. s_ok x (omega arith)))
      s_bad))))))

  entry_l_settled_law : (f : ℕ) (a : Ty) (ws : List Word) → 16 * length ws < f → Settled (suc (length ws)) (entry_l f a ws)
  entry_l_settled_law zero a ws h = absurd (omega arith)
  entry_l_settled_law (suc f) a ws h = on_settled (is ",") ws _ _ (λ p r e. bind_settled _ (type_settled f r (omega arith)) (λ c x i. more (omega arith) (entry_l_settled_law f _ x (omega arith)))) (s_ok ws (omega arith))

-- ---- what is derived is read

-- what may follow a type
abbrev pub EndsType : List Word → Type 0
EndsType rest = Misses (is "+") rest × Misses (is "-") rest × Misses (is ".") rest

abbrev Claim : TypeSort → List Word → Ty → Type 0
Claim type ws t = (f : ℕ) (rest : List Word) → Misses (is ".") rest → Reaches (λ f. type_l f t rest) (type_p f (ws ++ rest))
Claim term ws t = (f : ℕ) (rest : List Word) → Misses (is ".") rest → Agrees t rest (term_p f (ws ++ rest))
Claim entries ws t = (f : ℕ) (rest : List Word) → EndsType rest → Reaches (λ f. entry_l f t rest) (bind (type_p f (ws ++ rest)) (λ a y. entry_l f a y))

reads : (ws : List Word) (t : Ty) → Claim type ws t → (f : ℕ) (rest : List Word) → EndsType rest → Agrees t rest (type_p f (ws ++ rest))
unfolding type_p
reads ws t c f rest e = stops (λ f. type_l f t rest) refl (λ f. on_miss (is "+") _ _ rest e.0 ∙ on_miss (is "-") _ _ rest e.1) (c f rest e.2)

plus_claim : (p : ℕ) (a b : List Word) (x y : Ty) → Claim type a x → Claim term b y → Claim type (a ++ (fixed "+" p ∷ b)) (plus x y)
unfolding type_p on is
plus_claim p a b x y ca cb f rest e = simp append_assoc (goes (λ f. type_l f x (fixed "+" p ∷ (b ++ rest))) _ refl (λ f. bind_reaches _ (cb f rest e) (r_at f refl)) (ca f _ refl))

minus_claim : (p : ℕ) (a b : List Word) (x y : Ty) → Claim type a x → Claim term b y → Claim type (a ++ (fixed "-" p ∷ b)) (minus x y)
unfolding type_p on is
minus_claim p a b x y ca cb f rest e = simp append_assoc (goes (λ f. type_l f x (fixed "-" p ∷ (b ++ rest))) _ refl (λ f. bind_reaches _ (cb f rest e) (r_at f refl)) (ca f _ refl))

term_claim : (a : List Word) (x : Ty) → Claim term a x → Claim type a x
unfolding type_p
term_claim a x c zero rest e = r_dry
term_claim a x c (suc f) rest e = bind_reaches _ (c f rest e) (r_at f refl)

number_claim : (n : Numeral) → Claim term (num n ∷ []) (number n)
unfolding type_p on is_num
number_claim n zero rest e = a_dry
number_claim n (suc f) rest e = a_ok

environment_claim : (n : Name) → Claim term (name n ∷ []) (environment n)
unfolding type_p on is_num is_name
environment_claim n zero rest e = a_dry
environment_claim n (suc f) rest e = rw (on_miss (is ".") _ _ rest e) a_ok

port_claim : (n : Name) (p q : ℕ) → Claim term (name n ∷ fixed "." p ∷ the "type" q ∷ []) (port n)
unfolding type_p on is_num is_name is is_the same bytes
port_claim n p q zero rest e = a_dry
port_claim n p q (suc f) rest e = a_ok

log_claim : (p q r : ℕ) (a : List Word) (x : Ty) → Claim type a x → Claim term (fixed "log" p ∷ fixed "(" q ∷ (a ++ (fixed ")" r ∷ []))) (log p x)
unfolding type_p on is_num is_name is expect
log_claim p q r a x c zero rest e = a_dry
log_claim p q r a x c (suc f) rest e = simp append_assoc (until_agrees ")" _ (reads a x c f _ (refl, refl, refl)) a_ok)

ceil_claim : (p q r : ℕ) (a : List Word) (x : Ty) → Claim type a x → Claim term (fixed "ceil" p ∷ fixed "(" q ∷ (a ++ (fixed ")" r ∷ []))) (ceil p x)
unfolding type_p on is_num is_name is expect
ceil_claim p q r a x c zero rest e = a_dry
ceil_claim p q r a x c (suc f) rest e = simp append_assoc (until_agrees ")" _ (reads a x c f _ (refl, refl, refl)) a_ok)

floor_claim : (p q r : ℕ) (a : List Word) (x : Ty) → Claim type a x → Claim term (fixed "floor" p ∷ fixed "(" q ∷ (a ++ (fixed ")" r ∷ []))) (floor p x)
unfolding type_p on is_num is_name is expect
floor_claim p q r a x c zero rest e = a_dry
floor_claim p q r a x c (suc f) rest e = simp append_assoc (until_agrees ")" _ (reads a x c f _ (refl, refl, refl)) a_ok)

max_claim : (p q r : ℕ) (a : List Word) (x : Ty) → Claim entries a x → Claim term (fixed "max" p ∷ fixed "(" q ∷ (a ++ (fixed ")" r ∷ []))) (most p x)
unfolding type_p on is_num is_name is expect
max_claim p q r a x c zero rest e = a_dry
max_claim p q r a x c (suc f) rest e = simp append_assoc (chain_agrees _ (λ b y. entry_l f b y) ")" _ (stops (λ f. entry_l f x (fixed ")" r ∷ rest)) refl (λ f. refl) (c f _ (refl, refl, refl))) a_ok)

within_claim : (p q : ℕ) (a : List Word) (x : Ty) → Claim type a x → Claim term (fixed "(" p ∷ (a ++ (fixed ")" q ∷ []))) (within p x)
unfolding type_p on is_num is_name is
within_claim p q a x c zero rest e = a_dry
within_claim p q a x c (suc f) rest e = simp append_assoc (until_agrees ")" _ (reads a x c f _ (refl, refl, refl)) a_ok)

one_claim : (a : List Word) (x : Ty) → Claim type a x → Claim entries a x
one_claim a x c f rest e = bind_reaches _ (reads a x c f rest e) (r_at f refl)

entry_claim : (p : ℕ) (a b : List Word) (x y : Ty) → Claim entries a x → Claim type b y → Claim entries (a ++ (fixed "," p ∷ b)) (entry x y)
unfolding type_p on is
entry_claim p a b x y ca cb f rest e = simp append_assoc (goes (λ f. entry_l f x (fixed "," p ∷ (b ++ rest))) _ refl (λ f. bind_reaches _ (reads b y cb f rest e) (r_at f refl)) (ca f _ (refl, refl, refl)))

complete : {s : TypeSort} {ws : List Word} {t : Ty} → Types s ws t → Claim s ws t
complete (t_plus {a = a} {b = b} p d d') = plus_claim p a b _ _ (complete d) (complete d')
complete (t_minus {a = a} {b = b} p d d') = minus_claim p a b _ _ (complete d) (complete d')
complete (t_term {a = a} d) = term_claim a _ (complete d)
complete t_number = number_claim _
complete t_environment = environment_claim _
complete (t_port p q) = port_claim _ p q
complete (t_log {a = a} p q r d) = log_claim p q r a _ (complete d)
complete (t_ceil {a = a} p q r d) = ceil_claim p q r a _ (complete d)
complete (t_floor {a = a} p q r d) = floor_claim p q r a _ (complete d)
complete (t_max {a = a} p q r d) = max_claim p q r a _ (complete d)
complete (t_within {a = a} p q d) = within_claim p q a _ (complete d)
complete (t_entry {a = a} {b = b} p d d') = entry_claim p a b _ _ (complete d) (complete d')
complete (t_one {a = a} d) = one_claim a _ (complete d)

pub type_complete : {ws : List Word} {t : Ty} → Types type ws t → (f : ℕ) (rest : List Word) → EndsType rest → Agrees t rest (type_p f (ws ++ rest))
type_complete {ws = ws} d f rest e = reads ws _ (complete d) f rest e

-- ---- no word past a fault is looked at

module _ (w : Word) (r c : List Word) where
  mutual
    unfolding type_p

    pub type_pair : (f : ℕ) (ws ws' : List Word) → Pair Never w r c ws ws' (type_p f ws) (type_p f ws')
    type_pair zero ws ws' = dry_pair
    type_pair (suc f) ws ws' = bind_pair _ nowhere (term_pair f ws ws') (λ a s s'. type_l_pair_law f a s s')

    type_l_pair_law : (f : ℕ) (a : Ty) (ws ws' : List Word) → Pair Never w r c ws ws' (type_l f a ws) (type_l f a ws')
    type_l_pair_law zero a ws ws' = dry_pair
    type_l_pair_law (suc f) a ws ws' = on_pair (is "+") _ _ ws ws' (λ p s s'. bind_pair _ nowhere (term_pair f s s') (λ e s s'. type_l_pair_law f _ s s'))
        (on_pair (is "-") _ _ ws ws' (λ p s s'. bind_pair _ nowhere (term_pair f s s') (λ e s s'. type_l_pair_law f _ s s')) (ok_pair a))

    term_pair : (f : ℕ) (ws ws' : List Word) → Pair Never w r c ws ws' (term_p f ws) (term_p f ws')
    term_pair zero ws ws' = dry_pair
    term_pair (suc f) ws ws' = on_pair is_num _ _ ws ws' (λ n s s'. ok_pair _)
        (on_pair is_name _ _ ws ws' (λ n s s'. on_pair (is ".") _ _ s s' (λ p s s'. on_pair (is_the "type") _ _ s s' (λ q s s'. ok_pair _) bad_pair) (ok_pair _))
        (on_pair (is "log") _ _ ws ws' (λ p s s'. expect_pair "(" _ s s' (λ q s s'. until_pair ")" _ nowhere (type_pair f s s') (λ a q s s'. ok_pair _)))
        (on_pair (is "ceil") _ _ ws ws' (λ p s s'. expect_pair "(" _ s s' (λ q s s'. until_pair ")" _ nowhere (type_pair f s s') (λ a q s s'. ok_pair _)))
        (on_pair (is "floor") _ _ ws ws' (λ p s s'. expect_pair "(" _ s s' (λ q s s'. until_pair ")" _ nowhere (type_pair f s s') (λ a q s s'. ok_pair _)))
        (on_pair (is "max") _ _ ws ws' (λ p s s'. expect_pair "(" _ s s' (λ q s s'. bind_pair _ nowhere (type_pair f s s') (λ a s s'. until_pair ")" _ nowhere (entry_l_pair_law f a s s') (λ e q s s'. ok_pair _))))
        (on_pair (is "(") _ _ ws ws' (λ p s s'. until_pair ")" _ nowhere (type_pair f s s') (λ a q s s'. ok_pair _))
        bad_pair))))))

    entry_l_pair_law : (f : ℕ) (a : Ty) (ws ws' : List Word) → Pair Never w r c ws ws' (entry_l f a ws) (entry_l f a ws')
    entry_l_pair_law zero a ws ws' = dry_pair
    entry_l_pair_law (suc f) a ws ws' = on_pair (is ",") _ _ ws ws' (λ p s s'. bind_pair _ nowhere (type_pair f s s') (λ e s s'. entry_l_pair_law f _ s s')) (ok_pair a)
