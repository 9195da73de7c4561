-- Expressions: what is derived is what is read, unless the fuel runs out; by induction over the derivation. Assumes nothing.
use mathlib.Core.Path.{◌≡◌, refl, ap}
use mathlib.Core.Bool.{Bool, true, false}
use mathlib.Core.List.{List, [], ◌∷◌, ◌++◌, append_assoc}
use mathlib.Core.Option.{Option, none, some}
use Prim.Native.Nat.{ℕ, zero, suc, ◌≤◌, ◌<◌}
use Prim.Native.String.{String}
use native.Mathlib.Omega.{arith}
use Rattle.language.specs.Text.{Name, among}
use Rattle.language.specs.Words.{Word, num, name, fixed, Numeral}
use Rattle.language.specs.Tree.{Ty, Breadth, bits, Amount}
use Rattle.language.specs.Tree.{Expr, plain, sized, copies, read, cell, bit, range, inside, joined, beside, unary, binary, choice, either, select, arm, default}
use Rattle.language.specs.Grammar.{Operator, operators, operator_in, prefixes, prefix_in, Types, type, Amounts, a_given, a_value, Sort, expr, cond, bin, base, parts, arms, Derives, d_if, d_expr, d_cond, d_bins, d_bin, d_up, d_unary, d_plain, d_bits, d_typed}
use Rattle.language.specs.Grammar.{d_copies, d_joined, d_part, d_beside, d_cell, d_read, d_inside, d_base, d_bit, d_range, d_case, d_arm, d_default}
use Rattle.language.specs.Reader.{ok, bind, on, is_num, is_name, is_digits, is, expect}
use Rattle.language.specs.Parser.{is_word, ahead, arm_ends, below, is_operator, prefix_at, is_prefix, amount_p, part_p, expr_p, cond_l, bin_p, bin_l, operand_p, part_l, arms_p}
use Rattle.language.specs.declared.Unary.{Unary}
use Rattle.language.proofs.Tests.{never, operator_passes, operator_fails, not_operator, not_prefix, prefix_passes}
use Rattle.language.proofs.Laws.{Misses, on_hit, on_miss, Agrees, a_ok, a_dry, Reaches, r_at, r_dry, bind_agrees, until_agrees, chain_agrees, bind_reaches, until_reaches, through, stops, goes, either_way, if_reaches, if_agrees, when_true}
use Rattle.language.proofs.Types.{type_complete}

-- ---- what may follow

-- nothing with which an operand would go on, and no `=>`
abbrev pub Quiet : List Word → Type 0
Quiet rest = Misses is_digits rest × Misses (is "'d") rest × Misses (is "{") rest × Misses (is "[") rest × Misses (is "=>") rest

-- and no loop of a level below n goes on
pub record EndsBin (ms : List (List ℕ)) (b : Bool) (n : ℕ) (rest : List Word) : Type 0 where
  pub stop : (m f : ℕ) (a : Expr) → m < n → bin_l ms (suc f) b m a rest ≡ ok a rest
  pub quiet : Quiet rest

-- what may follow an expression
pub record Ends (ms : List (List ℕ)) (b : Bool) (rest : List Word) : Type 0 where
  pub bins : EndsBin ms b 10 rest
  pub quest : Misses (is "?") rest

not_end : (b : Bool) (x : Word) (l : List Word) → ahead l ≡ false → arm_ends b (x ∷ l) ≡ false
unfolding arm_ends
not_end false x l e = refl
not_end true x l e = go (is "|" x)
  where
    go : (v : Option ℕ) → elim v as (λ (z : Option ℕ). Bool) [ some p ↦ ahead l | none ↦ false ] ≡ false
    go (some p) = e
    go none = refl

word_misses : (v : String) (ws : List Word) → Misses (is v) ws → is_word v ws ≡ false
unfolding is_word
word_misses v [] e = refl
word_misses v (x ∷ r) e = go (is v x) e
  where
    go : (z : Option ℕ) → z ≡ none → elim z as (λ (z : Option ℕ). Bool) [ some p ↦ true | none ↦ false ] ≡ false
    go (some p) h = never (cc)
    go none h = refl

module _ (ms : List (List ℕ)) where
  word_bins : (b : Bool) (n : ℕ) (v : String) (p : ℕ) (r : List Word) → operator_in operators v ≡ none → Quiet (fixed v p ∷ r) → EndsBin ms b n (fixed v p ∷ r)
  unfolding bin_l is_operator below
  word_bins b n v p r e q = record { stop = λ m f a h. either_way (arm_ends b (fixed v p ∷ r)) (on_miss (is_operator m) _ _ (fixed v p ∷ r) (ap (below m) e)); quiet = q }

  pub ends_word : (b : Bool) (v : String) (p : ℕ) (r : List Word) → operator_in operators v ≡ none → Quiet (fixed v p ∷ r) → is "?" (fixed v p) ≡ none → Ends ms b (fixed v p ∷ r)
  ends_word b v p r e q h = record { bins = word_bins b 10 v p r e q; quest = h }

  ends_operator : (b : Bool) (s : String) (p : ℕ) (o : Operator) (r : List Word) → operator_in operators s ≡ some o → EndsBin ms b (suc o.level) (fixed s p ∷ r)
  unfolding bin_l is_digits operator_in operators
  ends_operator b s p o r e = record {
    stop = λ m f a h. either_way (arm_ends b (fixed s p ∷ r)) (on_miss (is_operator m) _ _ (fixed s p ∷ r) (operator_fails m s p o e (omega arith)));
    quiet = (refl, not_operator "'d" s p o refl e, not_operator "{" s p o refl e, not_operator "[" s p o refl e, not_operator "=>" s p o refl e);
  }

  ends_arm : (p : ℕ) (r : List Word) → ahead r ≡ true → Ends ms true (fixed "|" p ∷ r)
  unfolding bin_l arm_ends is is_digits
  ends_arm p r e = record { bins = record { stop = λ m f a h. when_true (arm_ends true (fixed "|" p ∷ r)) _ _ e; quiet = (refl, refl, refl, refl, refl) }; quest = refl }

  less : (b : Bool) (n : ℕ) (rest : List Word) → EndsBin ms b (suc n) rest → EndsBin ms b n rest
  less b n rest e = record { stop = λ m f a h. e.stop m f a (omega arith); quiet = e.quiet }

  -- ---- the claim of each sort: it is read; or, where it may go on, the reader comes to the loop with it in hand

  abbrev pub Claim : Sort → List Word → Expr → Type 0
  Claim expr ws t = (b : Bool) (f : ℕ) (rest : List Word) → Ends ms b rest → Agrees t rest (expr_p ms f b (ws ++ rest))
  Claim cond ws t = (b : Bool) (f : ℕ) (rest : List Word) → EndsBin ms b 10 rest → Reaches (λ f. cond_l ms f b t rest) (bind (bin_p ms f b 9 (ws ++ rest)) (λ a x. cond_l ms f b a x))
  Claim (bin zero) ws t = (f : ℕ) (rest : List Word) → Quiet rest → Agrees t rest (operand_p ms f (ws ++ rest))
  Claim (bin (suc n)) ws t = (b : Bool) (N f : ℕ) (rest : List Word) → suc n ≤ N → EndsBin ms b (suc n) rest → Reaches (λ f. bin_l ms f b N t rest) (bin_p ms f b N (ws ++ rest))
  Claim base ws t = (f : ℕ) (rest : List Word) → Reaches (λ f. part_p f t rest) (operand_p ms f (ws ++ rest))
  Claim parts ws t = (f : ℕ) (rest : List Word) → Ends ms false rest → Reaches (λ f. part_l ms f t rest) (bind (expr_p ms f false (ws ++ rest)) (λ a x. part_l ms f a x))
  Claim arms ws t = (f : ℕ) (rest : List Word) → Agrees t rest (arms_p ms f (ws ++ rest))

  climbs : (n : ℕ) (ws : List Word) (t : Expr) → Claim (bin n) ws t → (b : Bool) (N f : ℕ) (rest : List Word) → n ≤ N → EndsBin ms b n rest → Reaches (λ f. bin_l ms f b N t rest) (bin_p ms f b N (ws ++ rest))
  unfolding bin_l
  climbs zero ws t c b N zero rest l e = r_dry
  climbs zero ws t c b N (suc f) rest l e = bind_reaches _ (c f rest e.quiet) (r_at f refl)
  climbs (suc n) ws t c b N f rest l e = c b N f rest l e

  reads : (n : ℕ) (ws : List Word) (t : Expr) → Claim (bin n) ws t → (b : Bool) (f : ℕ) (rest : List Word) → EndsBin ms b (suc n) rest → Agrees t rest (bin_p ms f b n (ws ++ rest))
  unfolding bin_l
  reads n ws t c b f rest e = stops (λ f. bin_l ms f b n t rest) refl (λ f. e.stop n f t (omega arith)) (climbs n ws t c b n f rest (omega arith) (less b n rest e))

  if_claim : (p q r : ℕ) (a b c : List Word) (x y z : Expr) → Claim expr a x → Claim expr b y → Claim expr c z → Claim expr (fixed "if" p ∷ (a ++ (fixed "then" q ∷ (b ++ (fixed "else" r ∷ c))))) (either p x y z)
  unfolding expr_p on is is_digits operator_in operators
  if_claim p q r a b c x y z ca cb cc' h zero rest e = a_dry
  if_claim p q r a b c x y z ca cb cc' h (suc f) rest e = simp append_assoc
      (until_agrees "then" _ (ca false f _ (ends_word false "then" q _ refl (refl, refl, refl, refl, refl) refl))
      (until_agrees "else" _ (cb false f _ (ends_word false "else" r _ refl (refl, refl, refl, refl, refl) refl)) (bind_agrees _ (cc' h f rest e) a_ok)))

  expr_claim : (a : List Word) (x : Expr) → ((rest : List Word) → Misses (is "if") (a ++ rest)) → Claim cond a x → Claim expr a x
  unfolding expr_p
  expr_claim a x i c h zero rest e = a_dry
  expr_claim a x i c h (suc f) rest e = rw (on_miss (is "if") _ _ (a ++ rest) (i rest)) (stops (λ f. cond_l ms f h x rest) refl (λ f. on_miss (is "?") _ _ rest e.quest) (c h f rest e.bins))

  bins_claim : (a : List Word) (x : Expr) → Claim (bin 9) a x → Claim cond a x
  bins_claim a x c h f rest e = bind_reaches _ (reads 9 a x c h f rest e) (r_at f refl)

  cond_claim : (p q : ℕ) (a b c : List Word) (x y z : Expr) → Claim cond a x → Claim expr b y → Claim (bin 9) c z → Claim cond (a ++ (fixed "?" p ∷ (b ++ (fixed ":" q ∷ c)))) (choice x y z)
  unfolding expr_p on is is_digits operator_in operators
  cond_claim p q a b c x y z ca cb cc' h f rest e = simp append_assoc
      (goes (λ f. cond_l ms f h x (fixed "?" p ∷ (b ++ (fixed ":" q ∷ (c ++ rest))))) _ refl
      (λ f. until_reaches ":" _ (cb false f _ (ends_word false ":" q _ refl (refl, refl, refl, refl, refl) refl)) (bind_reaches _ (reads 9 c z cc' h f rest e) (r_at f refl)))
      (ca h f _ (word_bins h 10 "?" p _ refl (refl, refl, refl, refl, refl))))

  up_claim : (n : ℕ) (a : List Word) (x : Expr) → Claim (bin n) a x → Claim (bin (suc n)) a x
  up_claim n a x c h N f rest l e = climbs n a x c h N f rest (omega arith) (less h n rest e)

  bin_claim : (s : String) (p : ℕ) (o : Operator) (a b : List Word) (x y : Expr) → operator_in operators s ≡ some o → ((rest : List Word) → Misses (is "=>") rest → ahead (b ++ rest) ≡ false)
      → Claim (bin (suc o.level)) a x → Claim (bin o.level) b y → Claim (bin (suc o.level)) (a ++ (fixed s p ∷ b)) (binary o.which x y)
  unfolding expr_p
  bin_claim s p o a b x y i j ca cb h N f rest l e = simp append_assoc
      (goes (λ f. bin_l ms f h N x (fixed s p ∷ (b ++ rest))) _ refl
      (λ f. if_reaches _ (arm_ends h (fixed s p ∷ (b ++ rest))) _ _ (not_end h (fixed s p) (b ++ rest) (j rest e.quiet.4))
      (rw (on_hit (is_operator N) _ _ (fixed s p) (b ++ rest) o (operator_passes N s p o i l)) (bind_reaches _ (reads o.level b y cb h f rest e) (r_at f refl))))
      (ca h N f _ l (ends_operator h s p o _ i)))

  unary_claim : (s : String) (p : ℕ) (u : Unary) (a : List Word) (x : Expr) → prefix_in prefixes s ≡ some u → Claim (bin 0) a x → Claim (bin 0) (fixed s p ∷ a) (unary (record { which = u; at = p }) x)
  unfolding expr_p is_num is_name prefix_in prefixes
  unary_claim s p u a x i c zero rest e = a_dry
  unary_claim s p u a x i c (suc f) rest e =
      rw (
        on_miss is_num _ _ (fixed s p ∷ (a ++ rest)) refl,
        on_miss (is "<") _ _ (fixed s p ∷ (a ++ rest)) (not_prefix "<" s p u refl i),
        on_miss is_name _ _ (fixed s p ∷ (a ++ rest)) refl,
        on_miss (is "(") _ _ (fixed s p ∷ (a ++ rest)) (not_prefix "(" s p u refl i),
        on_miss (is "{") _ _ (fixed s p ∷ (a ++ rest)) (not_prefix "{" s p u refl i),
        on_hit is_prefix _ _ (fixed s p) (a ++ rest) _ (prefix_passes s p u i),
      )
      (bind_agrees _ (c f rest e) a_ok)

  plain_claim : (n : Numeral) → Claim (bin 0) (num n ∷ []) (plain n)
  unfolding expr_p on is_num
  plain_claim n zero rest e = a_dry
  plain_claim n (suc zero) rest e = a_dry
  plain_claim n (suc (suc f)) rest e = rw (on_miss is_digits _ _ rest e.0, on_miss (is "'d") _ _ rest e.1, on_miss (is "{") _ _ rest e.2) a_ok

  bits_claim : (n : Numeral) (a : List Word) (x : Amount) → Amounts a x → Claim (bin 0) (num n ∷ a) (sized (bits n) x)
  unfolding expr_p on is_num is_digits is_name is
  bits_claim n a x i zero rest e = a_dry
  bits_claim n a x i (suc zero) rest e = a_dry
  bits_claim n a x a_given (suc (suc f)) rest e = a_ok
  bits_claim n a x (a_value p) (suc (suc f)) rest e = a_ok

  amount_claim : (w : Breadth) {a : List Word} {x : Amount} → Amounts a x → (rest : List Word) → Agrees (sized w x) rest (amount_p w (a ++ rest))
  unfolding amount_p on is_digits is_name is expect
  amount_claim w a_given rest = a_ok
  amount_claim w (a_value p) rest = a_ok

  typed_claim : (p q : ℕ) (a b : List Word) (t : Ty) (x : Amount) → Types type a t → Amounts b x → Claim (bin 0) (fixed "<" p ∷ (a ++ (fixed ">" q ∷ b))) (sized (Breadth.typed p t) x)
  unfolding expr_p on is_num is
  typed_claim p q a b t x d i zero rest e = a_dry
  typed_claim p q a b t x d i (suc f) rest e = simp append_assoc (until_agrees ">" _ (type_complete d f _ (refl, refl, refl)) (amount_claim _ i rest))

  copies_claim : (n : Numeral) (p q : ℕ) (a : List Word) (x : Expr) → Claim expr a x → Claim (bin 0) (num n ∷ fixed "{" p ∷ (a ++ (fixed "}" q ∷ []))) (copies n x)
  unfolding expr_p on is_num is_digits is operator_in operators
  copies_claim n p q a x c zero rest e = a_dry
  copies_claim n p q a x c (suc zero) rest e = a_dry
  copies_claim n p q a x c (suc (suc f)) rest e = simp append_assoc (until_agrees "}" _ (c false f _ (ends_word false "}" q _ refl (refl, refl, refl, refl, refl) refl)) a_ok)

  joined_claim : (p q : ℕ) (a : List Word) (x : Expr) → Claim parts a x → Claim (bin 0) (fixed "{" p ∷ (a ++ (fixed "}" q ∷ []))) (joined p x)
  unfolding expr_p on is_num is_name is_digits is operator_in operators
  joined_claim p q a x c zero rest e = a_dry
  joined_claim p q a x c (suc f) rest e = simp append_assoc
      (chain_agrees _ (λ b y. part_l ms f b y) "}" _ (stops (λ f. part_l ms f x (fixed "}" q ∷ rest)) refl (λ f. refl) (c f _ (ends_word false "}" q _ refl (refl, refl, refl, refl, refl) refl))) a_ok)

  part_claim : (a : List Word) (x : Expr) → Claim expr a x → Claim parts a x
  part_claim a x c f rest e = bind_reaches _ (c false f rest e) (r_at f refl)

  beside_claim : (p : ℕ) (a b : List Word) (x y : Expr) → Claim parts a x → Claim expr b y → Claim parts (a ++ (fixed "," p ∷ b)) (beside x y)
  unfolding expr_p on is_digits is operator_in operators
  beside_claim p a b x y ca cb f rest e = simp append_assoc
      (goes (λ f. part_l ms f x (fixed "," p ∷ (b ++ rest))) _ refl (λ f. bind_reaches _ (cb false f rest e) (r_at f refl)) (ca f _ (ends_word false "," p _ refl (refl, refl, refl, refl, refl) refl)))

  cell_claim : (n : Name) (p q : ℕ) (a : List Word) (x : Expr) → among ms n.spelled ≡ true → Claim expr a x → Claim (bin 0) (name n ∷ fixed "[" p ∷ (a ++ (fixed "]" q ∷ []))) (cell n x)
  unfolding expr_p on is_num is_name is_digits is expect operator_in operators
  cell_claim n p q a x i c zero rest e = a_dry
  cell_claim n p q a x i c (suc zero) rest e = a_dry
  cell_claim n p q a x i c (suc (suc f)) rest e = simp append_assoc
      (if_agrees (among ms n.spelled) _ _ i (until_agrees "]" _ (c false f _ (ends_word false "]" q _ refl (refl, refl, refl, refl, refl) refl)) a_ok))

  read_claim : (n : Name) → among ms n.spelled ≡ false → Claim base (name n ∷ []) (read n)
  unfolding expr_p on is_num is_name is
  read_claim n i zero rest = r_dry
  read_claim n i (suc zero) rest = r_dry
  read_claim n i (suc (suc f)) rest = if_reaches _ (among ms n.spelled) _ _ i (r_at f refl)

  inside_claim : (p q : ℕ) (a : List Word) (x : Expr) → Claim expr a x → Claim base (fixed "(" p ∷ (a ++ (fixed ")" q ∷ []))) (inside p x)
  unfolding expr_p on is_num is_name is_digits is operator_in operators
  inside_claim p q a x c zero rest = r_dry
  inside_claim p q a x c (suc f) rest = simp append_assoc (until_reaches ")" _ (c false f _ (ends_word false ")" q _ refl (refl, refl, refl, refl, refl) refl)) (r_at f refl))

  base_claim : (a : List Word) (x : Expr) → Claim base a x → Claim (bin 0) a x
  unfolding part_p
  base_claim a x c f rest e = through (λ f. part_p f x rest) (λ f. rw (on_miss (is "[") _ _ rest e.3) a_ok) (c f rest)

  bit_claim : (p q : ℕ) (a b : List Word) (x : Expr) (i : Ty) → Claim base a x → Types type b i → Claim (bin 0) (a ++ (fixed "[" p ∷ (b ++ (fixed "]" q ∷ [])))) (bit x p i)
  unfolding part_p on is expect
  bit_claim p q a b x i c d f rest e = simp append_assoc
      (through (λ f. part_p f x (fixed "[" p ∷ (b ++ (fixed "]" q ∷ rest)))) (λ f. bind_agrees _ (type_complete d f _ (refl, refl, refl)) a_ok) (c f _))

  range_claim : (p q r : ℕ) (a b c : List Word) (x : Expr) (i j : Ty) → Claim base a x → Types type b i → Types type c j
      → Claim (bin 0) (a ++ (fixed "[" p ∷ (b ++ (fixed ":" q ∷ (c ++ (fixed "]" r ∷ [])))))) (range x p i j)
  unfolding part_p on is
  range_claim p q r a b c x i j ca d d' f rest e = simp append_assoc
      (through (λ f. part_p f x (fixed "[" p ∷ (b ++ (fixed ":" q ∷ (c ++ (fixed "]" r ∷ rest))))))
      (λ f. bind_agrees _ (type_complete d f _ (refl, refl, refl)) (until_agrees "]" _ (type_complete d' f _ (refl, refl, refl)) a_ok)) (ca f _))

  case_claim : (p q r s : ℕ) (a b : List Word) (x y : Expr) → Claim expr a x → Claim arms b y → Claim (bin 0) (fixed "case" p ∷ fixed "(" q ∷ (a ++ (fixed ")" r ∷ fixed "{" s ∷ b))) (select p x y)
  unfolding expr_p on is_num is_name is_digits is_prefix prefix_at prefix_in prefixes is expect operator_in operators
  case_claim p q r s a b x y ca cb zero rest e = a_dry
  case_claim p q r s a b x y ca cb (suc f) rest e = simp append_assoc
      (until_agrees ")" _ (ca false f _ (ends_word false ")" r _ refl (refl, refl, refl, refl, refl) refl)) (bind_agrees _ (cb f rest) a_ok))

  arm_claim : (n : Numeral) (p q : ℕ) (a b : List Word) (x y : Expr) → ((rest : List Word) → ahead (b ++ rest) ≡ true) → Claim expr a x → Claim arms b y
      → Claim arms (num n ∷ fixed "=>" p ∷ (a ++ (fixed "|" q ∷ b))) (arm n x y)
  unfolding expr_p on is_num is expect
  arm_claim n p q a b x y i ca cb zero rest = a_dry
  arm_claim n p q a b x y i ca cb (suc f) rest = simp append_assoc (until_agrees "|" _ (ca true f _ (ends_arm q (b ++ rest) (i rest))) (bind_agrees _ (cb f rest) a_ok))

  default_claim : (p q r : ℕ) (a : List Word) (x : Expr) → Claim expr a x → Claim arms (fixed "_" p ∷ fixed "=>" q ∷ (a ++ (fixed "}" r ∷ []))) (default p x)
  unfolding expr_p on is_num is_digits is expect operator_in operators
  default_claim p q r a x c zero rest = a_dry
  default_claim p q r a x c (suc f) rest = simp append_assoc (until_agrees "}" _ (c false f _ (ends_word false "}" r _ refl (refl, refl, refl, refl, refl) refl)) a_ok)

  -- ---- what a text begins with: not with `if`, of cond, bin and base; not with a number and `=>` or with `_`, but for arms

  abbrev NoIf : Sort → List Word → Type 0
  NoIf expr ws = Unit {0}
  NoIf cond ws = (rest : List Word) → Misses (is "if") (ws ++ rest)
  NoIf (bin n) ws = (rest : List Word) → Misses (is "if") (ws ++ rest)
  NoIf base ws = (rest : List Word) → Misses (is "if") (ws ++ rest)
  NoIf parts ws = Unit {0}
  NoIf arms ws = Unit {0}

  no_if : {s : Sort} {ws : List Word} {t : Expr} → Derives ms s ws t → NoIf s ws
  unfolding is prefix_in prefixes
  no_if (d_if p q r da db dc) = tt
  no_if (d_expr d) = tt
  no_if (d_cond p q da db dc) = λ rest. simp append_assoc (no_if da _)
  no_if (d_bins d) = no_if d
  no_if (d_bin s p e da db) = λ rest. simp append_assoc (no_if da _)
  no_if (d_up d) = no_if d
  no_if (d_unary {s = s} {u = u} p e d) = λ rest. not_prefix "if" s p u refl e
  no_if d_plain = λ rest. refl
  no_if (d_bits d) = λ rest. refl
  no_if (d_typed p q d d') = λ rest. refl
  no_if (d_copies p q d) = λ rest. refl
  no_if (d_joined p q d) = λ rest. refl
  no_if (d_part d) = tt
  no_if (d_beside p d d') = tt
  no_if (d_cell p q e d) = λ rest. refl
  no_if (d_read e) = λ rest. refl
  no_if (d_inside p q d) = λ rest. refl
  no_if (d_base d) = no_if d
  no_if (d_bit p q d d') = λ rest. simp append_assoc (no_if d _)
  no_if (d_range p q r d d' d'') = λ rest. simp append_assoc (no_if d _)
  no_if (d_case p q r s da db) = λ rest. refl
  no_if (d_arm p q da db) = tt
  no_if (d_default p q r d) = tt

  abbrev NoArm : Sort → List Word → Type 0
  NoArm expr ws = (rest : List Word) → Misses (is "=>") rest → ahead (ws ++ rest) ≡ false
  NoArm cond ws = (rest : List Word) → Misses (is "=>") rest → ahead (ws ++ rest) ≡ false
  NoArm (bin n) ws = (rest : List Word) → Misses (is "=>") rest → ahead (ws ++ rest) ≡ false
  NoArm base ws = (rest : List Word) → Misses (is "=>") rest → ahead (ws ++ rest) ≡ false
  NoArm parts ws = Unit {0}
  NoArm arms ws = (rest : List Word) → ahead (ws ++ rest) ≡ true

  amount_start : (n : Numeral) {a : List Word} {x : Amount} → Amounts a x → (rest : List Word) → ahead (num n ∷ (a ++ rest)) ≡ false
  unfolding ahead is_word is_num is
  amount_start n a_given rest = refl
  amount_start n (a_value p) rest = refl

  no_arm : {s : Sort} {ws : List Word} {t : Expr} → Derives ms s ws t → NoArm s ws
  unfolding ahead is_word is_num is prefix_in prefixes operator_in operators
  no_arm (d_if p q r da db dc) = λ rest e. refl
  no_arm (d_expr d) = no_arm d
  no_arm (d_cond p q da db dc) = λ rest e. simp append_assoc (no_arm da _ refl)
  no_arm (d_bins d) = no_arm d
  no_arm (d_bin s {o = o} p i da db) = λ rest e. simp append_assoc (no_arm da _ (not_operator "=>" s p o refl i))
  no_arm (d_up d) = no_arm d
  no_arm (d_unary {s = s} {u = u} {a = a} p i d) = λ rest e. word_misses "_" (fixed s p ∷ (a ++ rest)) (not_prefix "_" s p u refl i)
  no_arm d_plain = λ rest e. word_misses "=>" rest e
  no_arm (d_bits {n = n} d) = λ rest e. amount_start n d rest
  no_arm (d_typed p q d d') = λ rest e. refl
  no_arm (d_copies p q d) = λ rest e. refl
  no_arm (d_joined p q d) = λ rest e. refl
  no_arm (d_part d) = tt
  no_arm (d_beside p d d') = tt
  no_arm (d_cell p q i d) = λ rest e. refl
  no_arm (d_read i) = λ rest e. refl
  no_arm (d_inside p q d) = λ rest e. refl
  no_arm (d_base d) = no_arm d
  no_arm (d_bit p q d d') = λ rest e. simp append_assoc (no_arm d _ refl)
  no_arm (d_range p q r d d' d'') = λ rest e. simp append_assoc (no_arm d _ refl)
  no_arm (d_case p q r s da db) = λ rest e. refl
  no_arm (d_arm p q da db) = λ rest. refl
  no_arm (d_default p q r d) = λ rest. refl

  complete : {s : Sort} {ws : List Word} {t : Expr} → Derives ms s ws t → Claim s ws t
  complete (d_if {a = a} {b = b} {c = c} p q r da db dc) = if_claim p q r a b c _ _ _ (complete da) (complete db) (complete dc)
  complete (d_expr {a = a} d) = expr_claim a _ (no_if d) (complete d)
  complete (d_cond {a = a} {b = b} {c = c} p q da db dc) = cond_claim p q a b c _ _ _ (complete da) (complete db) (complete dc)
  complete (d_bins {a = a} d) = bins_claim a _ (complete d)
  complete (d_bin s {o = o} {a = a} {b = b} p e da db) = bin_claim s p o a b _ _ e (no_arm db) (complete da) (complete db)
  complete (d_up {n = n} {a = a} d) = up_claim n a _ (complete d)
  complete (d_unary {s = s} {u = u} {a = a} p e d) = unary_claim s p u a _ e (complete d)
  complete (d_plain {n = n}) = plain_claim n
  complete (d_bits {n = n} {a = a} d) = bits_claim n a _ d
  complete (d_typed {a = a} {b = b} p q d d') = typed_claim p q a b _ _ d d'
  complete (d_copies {n = n} {a = a} p q d) = copies_claim n p q a _ (complete d)
  complete (d_joined {a = a} p q d) = joined_claim p q a _ (complete d)
  complete (d_part {a = a} d) = part_claim a _ (complete d)
  complete (d_beside {a = a} {b = b} p d d') = beside_claim p a b _ _ (complete d) (complete d')
  complete (d_cell {n = n} {a = a} p q e d) = cell_claim n p q a _ e (complete d)
  complete (d_read {n = n} e) = read_claim n e
  complete (d_inside {a = a} p q d) = inside_claim p q a _ (complete d)
  complete (d_base {a = a} d) = base_claim a _ (complete d)
  complete (d_bit {a = a} {b = b} p q d d') = bit_claim p q a b _ _ (complete d) d'
  complete (d_range {a = a} {b = b} {c = c} p q r d d' d'') = range_claim p q r a b c _ _ _ (complete d) d' d''
  complete (d_case {a = a} {b = b} p q r s da db) = case_claim p q r s a b _ _ (complete da) (complete db)
  complete (d_arm {n = n} {a = a} {b = b} p q da db) = arm_claim n p q a b _ _ (no_arm db) (complete da) (complete db)
  complete (d_default {a = a} p q r d) = default_claim p q r a _ (complete d)

  -- an expression before a fixed word
  pub expr_complete : {ws : List Word} {t : Expr} → Derives ms expr ws t → (f : ℕ) (v : String) (p : ℕ) (r : List Word) → operator_in operators v ≡ none → Quiet (fixed v p ∷ r) → is "?" (fixed v p) ≡ none
      → Agrees t (fixed v p ∷ r) (expr_p ms f false (ws ++ (fixed v p ∷ r)))
  expr_complete d f v p r e q h = complete d false f (fixed v p ∷ r) (ends_word false v p r e q h)
