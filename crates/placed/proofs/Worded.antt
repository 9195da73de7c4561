-- THE THEOREM: where row 7 finds no fault, each type has at most 64 words and each whole expression at most 256. Assumes nothing.
-- Each production's words are counted, and stand from its first word on among the words of the actor, where the row looks for them.
use mathlib.Core.Path.{◌≡◌, refl, ◌∙◌}
use mathlib.Core.Logic.{⊎_elim}
use mathlib.Core.Bool.{Bool, true, false, not}
use mathlib.Core.List.{List, [], ◌∷◌, ◌++◌}
use Prim.Native.Nat.{ℕ, zero, suc, ◌≤◌, ◌<◌}
use native.Mathlib.Omega.{arith}
use native.Mathlib.Decide.{dec_lt}
use lib.ListN.{length, drop, length-append}
use lib.Dec.{eqb, leb}
use borrow.Author.Tests.{eq-eqb, eqb-true, leb-true}
use Rattle.language.specs.Words.{Word, fixed, place_of}
use Rattle.language.specs.Names.{when}
use Rattle.language.specs.Reader.{tree}
use Rattle.language.specs.Parser.{parse}
use Rattle.language.specs.Tree.{Ty, Amount, Expr, Declared, Port, Memory, Val, Assignment, Statement, Rule, Group, Actor, spelled_of, memory_names}
use Rattle.language.specs.Parts.{each, Item, reads, items, breadth_items, amount_items, declared_items, type_start, breadth_start, start, assigned, wholes, statements, val_items, actor_items, types, numbers}
use Rattle.language.specs.Counts.{type_words, breadth_words, amount_words, expr_words, word_after, too_many, size_faults, val_names, rules_of, limit_faults}
use Rattle.language.specs.Grammar.{Types, TypeSort, t_plus, t_minus, t_term, t_number, t_environment, t_port, t_log, t_ceil, t_floor, t_max, t_within, t_entry, t_one, Amounts, a_given, a_value}
use Rattle.language.specs.Grammar.{Sort, expr, Derives, d_if, d_expr, d_cond, d_bins, d_bin, d_up, d_unary, d_plain, d_bits, d_typed, d_copies, d_joined, d_part, d_beside, d_cell, d_read, d_inside, d_base, d_bit, d_range, d_case, d_arm, d_default}
use Rattle.language.specs.Grammar.{Declares, y_untyped, y_typed, Vals, v_val, Assigns, i_assign, i_write, Statements, s_alone, s_let, Rules, r_rule, Groups, g_or, Constraints, k_or, k_and, Ports, o_input, o_output, Memories, h_reg, h_ff, Actors, actor}
use Rattle.language.proofs.Main.{grammar_correct}
use Rattle.placed.specs.Members as Members
use Rattle.placed.specs.Members.{Member}
use Rattle.placed.specs.Placed.{Every}
use Rattle.placed.specs.Worded.{Worded, Short}
use Rattle.placed.proofs.Members.{member_none, member_cases, member_append}
use Rattle.placed.proofs.Every.{append_nils, every_nil, every_map, every_both, append_every, every_flat}
use Rattle.placed.proofs.Lists.{many_each, some_each}

-- ## Words counted

pub type_words_law : {k : TypeSort} {a : List Word} {t : Ty} → Types k a t → length a ≡ type_words t
unfolding type_words
type_words_law (t_plus {a = a} {b = b} p x y) = let q = type_words_law x in let r = type_words_law y in length-append a _ ∙ omega arith
type_words_law (t_minus {a = a} {b = b} p x y) = let q = type_words_law x in let r = type_words_law y in length-append a _ ∙ omega arith
type_words_law (t_term x) = type_words_law x
type_words_law t_number = refl
type_words_law t_environment = refl
type_words_law (t_port p q) = refl
type_words_law (t_log {a = a} p q r x) = let e = type_words_law x in let f = length-append a (fixed ")" r ∷ []) in omega arith
type_words_law (t_ceil {a = a} p q r x) = let e = type_words_law x in let f = length-append a (fixed ")" r ∷ []) in omega arith
type_words_law (t_floor {a = a} p q r x) = let e = type_words_law x in let f = length-append a (fixed ")" r ∷ []) in omega arith
type_words_law (t_max {a = a} p q r x) = let e = type_words_law x in let f = length-append a (fixed ")" r ∷ []) in omega arith
type_words_law (t_within {a = a} p q x) = let e = type_words_law x in let f = length-append a (fixed ")" q ∷ []) in omega arith
type_words_law (t_entry {a = a} {b = b} p x y) = let q = type_words_law x in let r = type_words_law y in length-append a _ ∙ omega arith
type_words_law (t_one x) = type_words_law x

amount_words_law : {a : List Word} {x : Amount} → Amounts a x → length a ≡ amount_words x
unfolding amount_words
amount_words_law a_given = refl
amount_words_law (a_value p) = refl

module _ (ms : List (List ℕ)) where
  pub expr_words_law : {k : Sort} {a : List Word} {x : Expr} → Derives ms k a x → length a ≡ expr_words x
  unfolding expr_words breadth_words
  expr_words_law (d_if {a = a} {b = b} {c = c} p q r x y z) =
      let e = expr_words_law x in let f = expr_words_law y in let g = expr_words_law z in
      let h = length-append a (fixed "then" q ∷ (b ++ (fixed "else" r ∷ c))) in let i = length-append b (fixed "else" r ∷ c) in omega arith
  expr_words_law (d_expr x) = expr_words_law x
  expr_words_law (d_cond {a = a} {b = b} {c = c} p q x y z) =
      let e = expr_words_law x in let f = expr_words_law y in let g = expr_words_law z in
      let h = length-append a (fixed "?" p ∷ (b ++ (fixed ":" q ∷ c))) in let i = length-append b (fixed ":" q ∷ c) in omega arith
  expr_words_law (d_bins x) = expr_words_law x
  expr_words_law (d_bin s {a = a} {b = b} p o x y) = let e = expr_words_law x in let f = expr_words_law y in let h = length-append a (fixed s p ∷ b) in omega arith
  expr_words_law (d_up x) = expr_words_law x
  expr_words_law (d_unary p e x) = let f = expr_words_law x in omega arith
  expr_words_law d_plain = refl
  expr_words_law (d_bits x) = let f = amount_words_law x in omega arith
  expr_words_law (d_typed {a = a} {b = b} p q t x) = let e = type_words_law t in let f = amount_words_law x in let h = length-append a (fixed ">" q ∷ b) in omega arith
  expr_words_law (d_copies {a = a} p q x) = let e = expr_words_law x in let h = length-append a (fixed "}" q ∷ []) in omega arith
  expr_words_law (d_joined {a = a} p q x) = let e = expr_words_law x in let h = length-append a (fixed "}" q ∷ []) in omega arith
  expr_words_law (d_part x) = expr_words_law x
  expr_words_law (d_beside {a = a} {b = b} p x y) = let e = expr_words_law x in let f = expr_words_law y in let h = length-append a (fixed "," p ∷ b) in omega arith
  expr_words_law (d_cell {a = a} p q o x) = let e = expr_words_law x in let h = length-append a (fixed "]" q ∷ []) in omega arith
  expr_words_law (d_read e) = refl
  expr_words_law (d_inside {a = a} p q x) = let e = expr_words_law x in let h = length-append a (fixed ")" q ∷ []) in omega arith
  expr_words_law (d_base x) = expr_words_law x
  expr_words_law (d_bit {a = a} {b = b} p q x t) =
      let e = expr_words_law x in let f = type_words_law t in let h = length-append a (fixed "[" p ∷ (b ++ (fixed "]" q ∷ []))) in let i = length-append b (fixed "]" q ∷ []) in omega arith
  expr_words_law (d_range {a = a} {b = b} {c = c} p q r x t u) =
      let e = expr_words_law x in let f = type_words_law t in let g = type_words_law u in
      let h = length-append a (fixed "[" p ∷ (b ++ (fixed ":" q ∷ (c ++ (fixed "]" r ∷ []))))) in let i = length-append b (fixed ":" q ∷ (c ++ (fixed "]" r ∷ []))) in let j = length-append c (fixed "]" r ∷ []) in omega arith
  expr_words_law (d_case {a = a} {b = b} p q r s x y) = let e = expr_words_law x in let f = expr_words_law y in let h = length-append a (fixed ")" r ∷ fixed "{" s ∷ b) in omega arith
  expr_words_law (d_arm {a = a} {b = b} p q x y) = let e = expr_words_law x in let f = expr_words_law y in let h = length-append a (fixed "|" q ∷ b) in omega arith
  expr_words_law (d_default {a = a} p q r x) = let e = expr_words_law x in let h = length-append a (fixed "}" r ∷ []) in omega arith

-- ## The first word of a type and of an expression

abbrev FirstAt : ℕ → List Word → Type 0
FirstAt p [] = ⊥
FirstAt p (w ∷ ws) = place_of w ≡ p

first_more : (p : ℕ) (a b : List Word) → FirstAt p a → FirstAt p (a ++ b)
first_more p [] b h = absurd h
first_more p (w ∷ a) b h = h

type_first : {k : TypeSort} {a : List Word} {t : Ty} → Types k a t → FirstAt (type_start t) a
unfolding type_start place_of
type_first (t_plus {a = a} p x y) = first_more _ a _ (type_first x)
type_first (t_minus {a = a} p x y) = first_more _ a _ (type_first x)
type_first (t_term x) = type_first x
type_first t_number = refl
type_first t_environment = refl
type_first (t_port p q) = refl
type_first (t_log p q r x) = refl
type_first (t_ceil p q r x) = refl
type_first (t_floor p q r x) = refl
type_first (t_max p q r x) = refl
type_first (t_within p q x) = refl
type_first (t_entry {a = a} p x y) = first_more _ a _ (type_first x)
type_first (t_one x) = type_first x

module _ (ms : List (List ℕ)) where
  first_at : {k : Sort} {a : List Word} {x : Expr} → Derives ms k a x → FirstAt (start x) a
  unfolding start breadth_start place_of
  first_at (d_if p q r x y z) = refl
  first_at (d_expr x) = first_at x
  first_at (d_cond {a = a} p q x y z) = first_more _ a _ (first_at x)
  first_at (d_bins x) = first_at x
  first_at (d_bin s {a = a} p o x y) = first_more _ a _ (first_at x)
  first_at (d_up x) = first_at x
  first_at (d_unary p e x) = refl
  first_at d_plain = refl
  first_at (d_bits x) = refl
  first_at (d_typed p q t x) = refl
  first_at (d_copies p q x) = refl
  first_at (d_joined p q x) = refl
  first_at (d_part x) = first_at x
  first_at (d_beside {a = a} p x y) = first_more _ a _ (first_at x)
  first_at (d_cell p q o x) = refl
  first_at (d_read e) = refl
  first_at (d_inside p q x) = refl
  first_at (d_base x) = first_at x
  first_at (d_bit {a = a} p q x t) = first_more _ a _ (first_at x)
  first_at (d_range {a = a} p q r x t u) = first_more _ a _ (first_at x)
  first_at (d_case p q r s x y) = refl
  first_at (d_arm p q x y) = refl
  first_at (d_default p q r x) = refl

-- ## Row 7 finds it: from some word at place p on there are n words

data Reaches (p n : ℕ) : List Word → Type 0 where
  here : {w : Word} {a : List Word} → place_of w ≡ p → n ≤ length (w ∷ a) → Reaches p n (w ∷ a)
  later : {w : Word} {a : List Word} → Reaches p n a → Reaches p n (w ∷ a)

reach_more : {p n : ℕ} {a : List Word} (b : List Word) → Reaches p n a → Reaches p n (a ++ b)
reach_more b (here {w = w} {a = a} e h) = here {a = a ++ b} e (let q = length-append a b in omega arith)
reach_more b (later r) = later (reach_more b r)

reach_after : {p n : ℕ} {a : List Word} (b : List Word) → Reaches p n a → Reaches p n (b ++ a)
reach_after [] r = r
reach_after (w ∷ b) r = later (reach_after b r)

reach_first : (p n : ℕ) (a : List Word) → FirstAt p a → length a ≡ n → Reaches p n a
reach_first p n [] f e = absurd f
reach_first p n (w ∷ a) f e = here {a = a} f (omega arith)

-- a list longer than n has something after n
drop_some : (n : ℕ) (l : List Word) → n < length l → (v : Word) × (vs : List Word) × (drop n l ≡ v ∷ vs)
drop_some n [] h = absurd (omega arith)
drop_some zero (w ∷ l) h = (w, l, refl)
drop_some (suc n) (w ∷ l) h = drop_some n l (omega arith)

after_here : (w : Word) (a : List Word) (p n : ℕ) → word_after (w ∷ a) p n ≡ [] → place_of w ≡ p → length (w ∷ a) ≤ n
unfolding word_after each
after_here w a p n k e = go (dec_lt n (length (w ∷ a)))
  where
    go : Dec (n < length (w ∷ a)) → length (w ∷ a) ≤ n
    go (yes q) = let d = drop_some n (w ∷ a) q in let x = rw (word_after, eq-eqb (place_of w) p e, d.2) at k in let z : ◌≡◌ {A = ℕ} 0 1 = cc in absurd (omega arith)
    go (no q) = omega arith

reach_long : {p n : ℕ} {a : List Word} → Reaches p n a → n ≤ length a
reach_long (here e h) = h
reach_long (later r) = let q = reach_long r in omega arith

reached : {p m : ℕ} (n : ℕ) {a : List Word} → Reaches p m a → word_after a p n ≡ [] → m ≤ n
unfolding word_after
reached {p} {m} n (here {w = w} {a = a} e h) k = let q = after_here w a p n k e in omega arith
reached {p} {m} n (later {w = w} {a = a} r) k = go (eqb (place_of w) p) refl k (λ q. reached n r q)
  where
    go : (b : Bool) → eqb (place_of w) p ≡ b → word_after (w ∷ a) p n ≡ [] → (word_after a p n ≡ [] → m ≤ n) → m ≤ n
    go true e k f = let q = after_here w a p n k (eqb-true (place_of w) p e) in let l = reach_long r in omega arith
    go false e k f = f (rw (word_after, e) at k)

-- ## Where the parts of an actor stand among its words

module _ (ws : List Word) where
  -- words that are a part of the actor's
  record Part (a : List Word) : Type 0 where
    pub reaches : {p n : ℕ} → Reaches p n a → Reaches p n ws

  first_words : (a b : List Word) → Part (a ++ b) → Part a
  first_words a b s = record { reaches = λ r. s.reaches (reach_more b r) }

  later_words : (a b : List Word) → Part (a ++ b) → Part b
  later_words a b s = record { reaches = λ r. s.reaches (reach_after a r) }

  rest_words : (w : Word) (a : List Word) → Part (w ∷ a) → Part a
  rest_words w a s = record { reaches = λ r. s.reaches (later r) }

  abbrev TypeIn : Ty → Type 0
  TypeIn t = Reaches (type_start t) (type_words t) ws

  abbrev ItemIn : Item → Type 0
  ItemIn (Item.type t) = TypeIn t
  ItemIn (Item.number n) = Unit {0}
  ItemIn (reads n) = Unit {0}
  ItemIn (Item.value n) = Unit {0}

  record Within (l : List Item) : Type 0 where
    pub all : (x : Item) → Member x l → ItemIn x

  none : Within []
  none = record { all = λ x m. absurd (member_none m) }

  two : {x y : List Item} → Within x → Within y → Within (x ++ y)
  two {x} {y} h k = record { all = λ i m. ⊎_elim (λ n. h.all i n) (λ n. k.all i n) (member_append x m) }

  one : {x : Item} → ItemIn x → Within (x ∷ [])
  one {x} h = record { all = λ i m. ⊎_elim (λ e. rw e h) (λ n. absurd (member_none n)) (member_cases m) }

  type_in_law : {k : TypeSort} {a : List Word} {t : Ty} → Types k a t → Part a → TypeIn t
  type_in_law {a = a} {t = t} d s = s.reaches (reach_first (type_start t) (type_words t) a (type_first d) (type_words_law d))

  amount_in : {a : List Word} {x : Amount} → Amounts a x → Within (amount_items x)
  unfolding amount_items
  amount_in a_given = none
  amount_in (a_value p) = one tt

  module _ (ms : List (List ℕ)) where
    items_in : {k : Sort} {a : List Word} {x : Expr} → Derives ms k a x → Part a → Within (items x)
    unfolding items breadth_items
    items_in (d_if {a = a} {b = b} p q r x y z) s =
        let t = rest_words _ _ s in let u = rest_words _ _ (later_words a _ t) in
        two (items_in x (first_words a _ t)) (two (items_in y (first_words b _ u)) (items_in z (rest_words _ _ (later_words b _ u))))
    items_in (d_expr x) s = items_in x s
    items_in (d_cond {a = a} {b = b} p q x y z) s =
        let u = rest_words _ _ (later_words a _ s) in two (items_in x (first_words a _ s)) (two (items_in y (first_words b _ u)) (items_in z (rest_words _ _ (later_words b _ u))))
    items_in (d_bins x) s = items_in x s
    items_in (d_bin o {a = a} p e x y) s = two (items_in x (first_words a _ s)) (items_in y (rest_words _ _ (later_words a _ s)))
    items_in (d_up x) s = items_in x s
    items_in (d_unary p e x) s = items_in x (rest_words _ _ s)
    items_in d_plain s = none
    items_in (d_bits x) s = amount_in x
    items_in (d_typed {a = a} p q t x) s = two (one (type_in_law t (first_words a _ (rest_words _ _ s)))) (amount_in x)
    items_in (d_copies {a = a} p q x) s = two (one tt) (items_in x (first_words a _ (rest_words _ _ (rest_words _ _ s))))
    items_in (d_joined {a = a} p q x) s = items_in x (first_words a _ (rest_words _ _ s))
    items_in (d_part x) s = items_in x s
    items_in (d_beside {a = a} p x y) s = two (items_in x (first_words a _ s)) (items_in y (rest_words _ _ (later_words a _ s)))
    items_in (d_cell {a = a} p q e x) s = items_in x (first_words a _ (rest_words _ _ (rest_words _ _ s)))
    items_in (d_read e) s = one tt
    items_in (d_inside {a = a} p q x) s = items_in x (first_words a _ (rest_words _ _ s))
    items_in (d_base x) s = items_in x s
    items_in (d_bit {a = a} {b = b} p q x t) s = two (items_in x (first_words a _ s)) (one (type_in_law t (first_words b _ (rest_words _ _ (later_words a _ s)))))
    items_in (d_range {a = a} {b = b} {c = c} p q r x t u) s =
        let i = rest_words _ _ (later_words a _ s) in
        two (items_in x (first_words a _ s)) (two (one (type_in_law t (first_words b _ i))) (one (type_in_law u (first_words c _ (rest_words _ _ (later_words b _ i))))))
    items_in (d_case {a = a} p q r e x y) s =
        let t = rest_words _ _ (rest_words _ _ s) in two (items_in x (first_words a _ t)) (items_in y (rest_words _ _ (rest_words _ _ (later_words a _ t))))
    items_in (d_arm {a = a} p q x y) s =
        let t = rest_words _ _ (rest_words _ _ s) in two (items_in x (first_words a _ t)) (items_in y (rest_words _ _ (later_words a _ t)))
    items_in (d_default {a = a} p q r x) s = items_in x (first_words a _ (rest_words _ _ (rest_words _ _ s)))

  -- a whole expression, and what stands in it
  abbrev WholeIn : Expr → Type 0
  WholeIn e = Reaches (start e) (expr_words e) ws

  record ExprIn (e : Expr) : Type 0 where
    pub whole : WholeIn e
    pub things : Within (items e)

  declared_in : {a : List Word} {t : Declared} → Declares a t → Part a → Within (declared_items t)
  unfolding declared_items
  declared_in y_untyped s = none
  declared_in (y_typed {a = a} p q t) s = one (type_in_law t (first_words a _ (rest_words _ _ s)))

  record ValIn (v : Val) : Type 0 where
    pub type : Within (declared_items v.type)
    pub value : ExprIn v.value

  record StatementIn (x : Statement) : Type 0 where
    pub vals : Within (val_items x)
    pub exprs : Every ExprIn (wholes x)

  each_within : {A : Type 0} (f : A → List Item) (l : List A) → Every (λ x. Within (f x)) l → Within (each f l)
  unfolding each
  each_within f [] h = none
  each_within f (x ∷ l) h = two h.0 (each_within f l h.1)

  module _ (ms : List (List ℕ)) where
    expr_in : {a : List Word} {x : Expr} → Derives ms expr a x → Part a → ExprIn x
    expr_in {a} {x} d s = record { whole = s.reaches (reach_first (start x) (expr_words x) a (first_at ms d) (expr_words_law ms d)); things = items_in ms d s }

    assigns_in : (a : List Word) (x : Assignment) → Assigns ms a x → Part a → Every ExprIn (assigned x)
    unfolding assigned
    assigns_in w v (i_assign {a = a} p q e d) s = (expr_in d (first_words a _ (rest_words _ _ (rest_words _ _ s))), tt)
    assigns_in w v (i_write {a = a} {b = b} p q r z e d f) s =
        let t = rest_words _ _ (rest_words _ _ s) in (expr_in d (first_words a _ t), (expr_in f (first_words b _ (rest_words _ _ (rest_words _ _ (later_words a _ t)))), tt))

    vals_in_law : (a : List Word) (v : Val) → Vals ms a v → Part a → ValIn v
    vals_in_law w v (v_val {a = a} {b = b} p q r t d) s =
        let u = rest_words _ _ s in record { type = declared_in t (first_words a _ u); value = expr_in d (first_words b _ (rest_words _ _ (rest_words _ _ (later_words a _ u)))) }

    statements_in : (a : List Word) (x : Statement) → Statements ms a x → Part a → StatementIn x
    unfolding val_items wholes
    statements_in w v (s_alone {a = a} {x = x} d) s = record { vals = none; exprs = assigns_in a x d s }
    statements_in w v (s_let {a = a} {b = b} {vs = vs} {l = l} p q r d f) s =
        let t = rest_words _ _ s in
        let h = some_each Part first_words later_words rest_words (Vals ms) ValIn vals_in_law d (first_words a _ t) in
        let k = some_each Part first_words later_words rest_words (Assigns ms) (λ x. Every ExprIn (assigned x)) assigns_in f (first_words b _ (rest_words _ _ (later_words a _ t))) in
        record {
          vals = each_within (λ v. declared_items v.type) vs (every_map _ _ (λ v i. i.type) vs h);
          exprs = append_every ExprIn (each (λ v. v.value ∷ []) vs) (each assigned l) (every_flat ExprIn (λ v. v.value ∷ []) vs (every_map _ _ (λ v i. (i.value, tt)) vs h)) (every_flat ExprIn assigned l k);
        }

    abbrev RuleIn : Rule → Type 0
    RuleIn r = Every StatementIn r.body

    rules_in : (a : List Word) (x : Rule) → Rules ms a x → Part a → RuleIn x
    rules_in w v (r_rule {a = a} {b = b} p q r z d f) s =
        many_each Part first_words later_words rest_words (Statements ms) StatementIn statements_in f (first_words b _ (rest_words _ _ (rest_words _ _ (later_words a _ (rest_words _ _ (rest_words _ _ s))))))

    abbrev GroupIn : Group → Type 0
    GroupIn g = Every RuleIn g.rules

    groups_in : (a : List Word) (g : Group) → Groups ms a g → Part a → GroupIn g
    groups_in w v (g_or {a = a} p q r d) s = some_each Part first_words later_words rest_words (Rules ms) RuleIn rules_in d (first_words a _ (rest_words _ _ (rest_words _ _ s)))

    constraints_in : {a : List Word} {l : List Group} → Constraints ms a l → Part a → Every GroupIn l
    constraints_in (k_or {a = a} {g = g} d) s = (groups_in a g d s, tt)
    constraints_in (k_and {a = a} p q r d) s = some_each Part first_words later_words rest_words (Groups ms) GroupIn groups_in d (first_words a _ (rest_words _ _ (rest_words _ _ s)))

  ports_in : (a : List Word) (x : Port) → Ports a x → Part a → Within (declared_items x.type)
  ports_in w v (o_input {a = a} p q t) s = declared_in t (first_words a _ (rest_words _ _ s))
  ports_in w v (o_output {a = a} p q t) s = declared_in t (first_words a _ (rest_words _ _ s))

  memories_in : (a : List Word) (x : Memory) → Memories a x → Part a → Within (declared_items x.type)
  memories_in w v (h_reg {a = a} p q t z) s = declared_in t (first_words a _ (rest_words _ _ s))
  memories_in w v (h_ff {a = a} p q t z) s = declared_in t (first_words a _ (rest_words _ _ s))

  record ActorIn (a : Actor) : Type 0 where
    pub ports : Every (λ (p : Port). Within (declared_items p.type)) a.ports
    pub memories : Every (λ (m : Memory). Within (declared_items m.type)) a.memories
    pub body : Every StatementIn (statements a)

  actors_in : {a : List Word} {x : Actor} → Actors a x → Part a → ActorIn x
  unfolding statements
  actors_in (actor {a = a} {b = b} {c = c} {d = d} {ms = ms} {gs = gs} p q r e x y z k) s =
      let t = rest_words _ _ (rest_words _ _ (later_words a _ (rest_words _ _ (rest_words _ _ s)))) in
      let u = later_words b _ t in
      record {
        ports = some_each Part first_words later_words rest_words Ports (λ (p : Port). Within (declared_items p.type)) ports_in y (first_words b _ t);
        memories = many_each Part first_words later_words rest_words Memories (λ (m : Memory). Within (declared_items m.type)) memories_in z (first_words c _ u);
        body = every_flat StatementIn (λ g. each (λ r. r.body) g.rules) gs
            (every_map _ _ (λ g h. every_flat StatementIn (λ r. r.body) g.rules h) gs (constraints_in (spelled_of (memory_names ms)) k (first_words d _ (later_words c _ u))));
      }

  -- ## What row 7 finds

  types_in : (l : List Item) → Within l → Every TypeIn (types l)
  unfolding types
  types_in [] h = tt
  types_in (Item.type t ∷ l) h = (h.all (Item.type t) (Members.here refl), types_in l (record { all = λ x m. h.all x (Members.there m) }))
  types_in (Item.number n ∷ l) h = types_in l (record { all = λ x m. h.all x (Members.there m) })
  types_in (reads n ∷ l) h = types_in l (record { all = λ x m. h.all x (Members.there m) })
  types_in (Item.value n ∷ l) h = types_in l (record { all = λ x m. h.all x (Members.there m) })

  all_in : {a : Actor} → ActorIn a → Within (actor_items a)
  unfolding actor_items
  all_in {a} h =
      two (each_within (λ p. declared_items p.type) a.ports h.ports) (two (each_within (λ m. declared_items m.type) a.memories h.memories)
      (each_within (λ s. val_items s ++ each items (wholes s)) (statements a) (every_map _ _ (λ s i. two i.vals (each_within items (wholes s) (every_map _ _ (λ e j. j.things) (wholes s) i.exprs))) (statements a) h.body)))

pub actor_worded : {ws : List Word} {a : Actor} → Actors ws a → Worded ws a
actor_worded {ws} {a} d =
    let h = actors_in ws d (record { reaches = λ r. r }) in
    record {
      in_types = every_map _ _ (λ t r. reached 64 r) (types (actor_items a)) (types_in ws (actor_items a) (all_in ws h));
      in_wholes = every_flat _ wholes (statements a) (every_map _ _ (λ s i. every_map _ _ (λ e j. reached 256 j.whole) (wholes s) i.exprs) (statements a) h.body);
    }

-- ## Where row 7 finds no fault

module _ {ws : List Word} {a : Actor} (w : Worded ws a) (h : limit_faults ws a ≡ []) where
  -- a part that is short, or has no word too many
  one_short : (n limit : ℕ) {l : List ℕ} → (l ≡ [] → n ≤ limit) → ◌≡◌ {A = List ℕ} (elim (leb n limit) [ true ↦ [] | false ↦ l ]) [] → n ≤ limit
  one_short n limit {l} f e = go (leb n limit) refl e
    where
      go : (b : Bool) → leb n limit ≡ b → ◌≡◌ {A = List ℕ} (elim b [ true ↦ [] | false ↦ l ]) [] → n ≤ limit
      go true k e = leb-true n limit k
      go false k e = f e

  pub short_actor : Short a
  unfolding limit_faults
  short_actor =
      let b = append_nils (too_many 16 a.signature) _ h in
      let c = append_nils (too_many 8 (memory_names a.memories)) _ b.1 in
      let d = append_nils (size_faults 0 a.memories) _ c.1 in
      let e = append_nils (each (λ g. g.at ∷ []) (drop 8 a.groups)) _ d.1 in
      let f = append_nils (too_many 32 (each (λ r. r.called ∷ []) (rules_of a))) _ e.1 in
      let g = append_nils (each (λ r. too_many 16 (each val_names r.body)) (rules_of a)) _ f.1 in
      let i = append_nils (each (λ n. when (not (leb n.value 64)) n.at) (numbers (actor_items a))) _ g.1 in
      let j = append_nils (each (λ t. elim (leb (type_words t) 64) [ true ↦ [] | false ↦ word_after ws (type_start t) 64 ]) (types (actor_items a))) _ i.1 in
      record {
        in_types = every_map _ _ (λ t q. one_short (type_words t) 64 q.0 q.1) (types (actor_items a)) (every_both _ _ (types (actor_items a)) w.in_types (every_nil _ (types (actor_items a)) j.0));
        in_wholes = every_map _ _ (λ e q. one_short (expr_words e) 256 q.0 q.1) (each wholes (statements a)) (every_both _ _ (each wholes (statements a)) w.in_wholes (every_nil _ (each wholes (statements a)) j.1));
      }

pub parsed_short : (ws : List Word) {a : Actor} → parse ws ≡ tree a → limit_faults ws a ≡ [] → Short a
parsed_short ws {a} parses h = short_actor (actor_worded (grammar_correct.sound ws a parses)) h
