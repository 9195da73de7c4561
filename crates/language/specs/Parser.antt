-- The reader of actors: a total function from words to the actor, or to the index of the first word that continues no actor. Assumes nothing: these are definitions.
-- It goes by recursive descent with fuel, of which each call takes one. proofs/Main.antt proves it to be the grammar (`Statement`).
use Rattle.std.specs.Prelude.{Bool, true, false, List, [], ◌∷◌, ℕ, zero, suc, ◌+◌, ◌*◌, ltb, length}
use Rattle.std.proofs.Math.Option.{Option, none, some}
use Prim.Native.String.{String}
use lib.Text.{eqt}
use Rattle.language.specs.Text.{Name, among}
use Rattle.language.specs.Words.{Word, num, name, digits, fixed, Numeral}
use Rattle.language.specs.Tree.{Ty, number, environment, port, plus, minus, log, ceil, floor, most, entry, within, Breadth, bits, Amount, given, value, Prefix}
use Rattle.language.specs.Tree.{Expr, plain, sized, copies, read, cell, bit, range, inside, joined, beside, unary, binary, choice, either, select, arm, default}
use Rattle.language.specs.Tree.{Declared, untyped, Port, Size, one, cells, Memory, Entry, Val, Assignment, assign, write, Statement, alone, scoped, Rule, Group, Actor, spelled_of, memory_names}
use Rattle.language.specs.Grammar.{loosest, Operator, operators, operator_in, prefixes, prefix_in}
use Rattle.language.specs.Reader.{Res, ok, bad, dry, bind, on, is_num, is_name, is_digits, is, is_the, is_figure, expect, until, many_p, some_p, commas_p, Verdict, whole}
use Rattle.language.specs.declared.Unary.{Unary}

-- ---- types

unfoldable mutual
  pub type_p : ℕ → List Word → Res Ty
  type_p zero ws = dry
  type_p (suc f) ws = bind (term_p f ws) (λ a x. type_l f a x)

  pub type_l : ℕ → Ty → List Word → Res Ty
  type_l zero a ws = dry
  type_l (suc f) a ws =
      on (is "+") ws (λ p r. bind (term_p f r) (λ c x. type_l f (plus a c) x))
      (λ ws. on (is "-") ws (λ p r. bind (term_p f r) (λ c x. type_l f (minus a c) x))
      (λ ws. ok a ws))

  pub term_p : ℕ → List Word → Res Ty
  term_p zero ws = dry
  term_p (suc f) ws =
      on is_num ws (λ n r. ok (number n) r)
      (λ ws. on is_name ws (λ n r. on (is ".") r (λ p x. on (is_the "type") x (λ q y. ok (port n) y) (λ x. bad x)) (λ r. ok (environment n) r))
      (λ ws. on (is "log") ws (λ p r. expect "(" r (λ q x. until (type_p f x) ")" (λ a s y. ok (log p a) y)))
      (λ ws. on (is "ceil") ws (λ p r. expect "(" r (λ q x. until (type_p f x) ")" (λ a s y. ok (ceil p a) y)))
      (λ ws. on (is "floor") ws (λ p r. expect "(" r (λ q x. until (type_p f x) ")" (λ a s y. ok (floor p a) y)))
      (λ ws. on (is "max") ws (λ p r. expect "(" r (λ q x. bind (type_p f x) (λ a y. until (entry_l f a y) ")" (λ e s z. ok (most p e) z))))
      (λ ws. on (is "(") ws (λ p r. until (type_p f r) ")" (λ a q x. ok (within p a) x))
      (λ ws. bad ws)))))))

  pub entry_l : ℕ → Ty → List Word → Res Ty
  entry_l zero a ws = dry
  entry_l (suc f) a ws = on (is ",") ws (λ p r. bind (type_p f r) (λ c x. entry_l f (entry a c) x)) (λ ws. ok a ws)

-- ---- the words after a `|` in an arm say whether it ends the arm: a number and `=>`, or `_`

unfoldable pub is_word : String → List Word → Bool
is_word v [] = false
is_word v (x ∷ r) = elim (is v x) [ some p ↦ true | none ↦ false ]

unfoldable pub ahead : List Word → Bool
ahead [] = false
ahead (x ∷ r) = elim (is_num x) [ some n ↦ is_word "=>" r | none ↦ is_word "_" (x ∷ r) ]

-- an arm's expression ends here: b says whether an arm may end at all
unfoldable pub arm_ends : Bool → List Word → Bool
arm_ends false ws = false
arm_ends true [] = false
arm_ends true (x ∷ r) = elim (is "|" x) [ some p ↦ ahead r | none ↦ false ]

-- ---- operators

-- an operator of a level below n
unfoldable pub below : ℕ → Option Operator → Option Operator
below n none = none
below n (some o) = elim (ltb o.level n) [ true ↦ some o | false ↦ none ]

unfoldable pub is_operator : ℕ → Word → Option Operator
is_operator n (num m) = none
is_operator n (name m) = none
is_operator n (digits m) = none
is_operator n (fixed s p) = below n (operator_in operators s)

unfoldable pub prefix_at : ℕ → Option Unary → Option Prefix
prefix_at p none = none
prefix_at p (some u) = some (record { which = u; at = p })

unfoldable pub is_prefix : Word → Option Prefix
is_prefix (num m) = none
is_prefix (name m) = none
is_prefix (digits m) = none
is_prefix (fixed s p) = prefix_at p (prefix_in prefixes s)

-- ---- expressions

-- the value of a sized constant
unfoldable pub amount_p : Breadth → List Word → Res Expr
amount_p w ws =
    on is_digits ws (λ n r. ok (sized w (given n)) r)
    (λ ws. expect "'d" ws (λ p r. on is_name r (λ n x. ok (sized w (value n)) x) (λ r. bad r)))

-- what follows a name that is no memory, or parentheses: bit positions, or nothing
unfoldable pub part_p : ℕ → Expr → List Word → Res Expr
part_p f e ws =
    on (is "[") ws
    (λ p r. bind (type_p f r) (λ i x. on (is ":") x (λ q y. until (type_p f y) "]" (λ j s z. ok (range e p i j) z)) (λ x. expect "]" x (λ q y. ok (bit e p i) y))))
    (λ ws. ok e ws)

-- ms the memories; b whether a `|` that ends an arm may follow
module _ (ms : List (List ℕ)) where
  unfoldable mutual
    pub expr_p : ℕ → Bool → List Word → Res Expr
    expr_p zero b ws = dry
    expr_p (suc f) b ws =
        on (is "if") ws
        (λ p r. until (expr_p f false r) "then" (λ a q x. until (expr_p f false x) "else" (λ c s y. bind (expr_p f b y) (λ d z. ok (either p a c d) z))))
        (λ ws. bind (bin_p f b loosest ws) (λ a x. cond_l f b a x))

    pub cond_l : ℕ → Bool → Expr → List Word → Res Expr
    cond_l zero b a ws = dry
    cond_l (suc f) b a ws =
        on (is "?") ws (λ p r. until (expr_p f false r) ":" (λ c q x. bind (bin_p f b loosest x) (λ d y. cond_l f b (choice a c d) y)))
        (λ ws. ok a ws)

    -- operands with operators of the levels below n between them
    pub bin_p : ℕ → Bool → ℕ → List Word → Res Expr
    bin_p zero b n ws = dry
    bin_p (suc f) b n ws = bind (operand_p f ws) (λ a x. bin_l f b n a x)

    pub bin_l : ℕ → Bool → ℕ → Expr → List Word → Res Expr
    bin_l zero b n a ws = dry
    bin_l (suc f) b n a ws =
        elim (arm_ends b ws) [
          | true ↦ ok a ws
          | false ↦ on (is_operator n) ws (λ o r. bind (bin_p f b o.level r) (λ c x. bin_l f b n (binary o.which a c) x)) (λ ws. ok a ws)
        ]

    pub operand_p : ℕ → List Word → Res Expr
    operand_p zero ws = dry
    operand_p (suc f) ws =
        on is_num ws (λ n r. number_p f n r)
        (λ ws. on (is "<") ws (λ p r. until (type_p f r) ">" (λ t q x. amount_p (Breadth.typed p t) x))
        (λ ws. on is_name ws (λ n r. named_p f n r)
        (λ ws. on (is "(") ws (λ p r. until (expr_p f false r) ")" (λ e q x. part_p f (inside p e) x))
        (λ ws. on (is "{") ws (λ p r. bind (expr_p f false r) (λ a x. until (part_l f a x) "}" (λ e q y. ok (joined p e) y)))
        (λ ws. on is_prefix ws (λ u r. bind (operand_p f r) (λ e x. ok (unary u e) x))
        (λ ws. on (is "case") ws (λ p r. expect "(" r (λ q x. until (expr_p f false x) ")" (λ e s y. expect "{" y (λ t z. bind (arms_p f z) (λ c l. ok (select p e c) l)))))
        (λ ws. bad ws)))))))

    -- after a number: it is the width of a constant, the number of copies, or a constant itself
    pub number_p : ℕ → Numeral → List Word → Res Expr
    number_p zero n ws = dry
    number_p (suc f) n ws =
        on is_digits ws (λ m r. ok (sized (bits n) (given m)) r)
        (λ ws. on (is "'d") ws (λ p r. on is_name r (λ m x. ok (sized (bits n) (value m)) x) (λ r. bad r))
        (λ ws. on (is "{") ws (λ p r. until (expr_p f false r) "}" (λ e q x. ok (copies n e) x))
        (λ ws. ok (plain n) ws)))

    pub named_p : ℕ → Name → List Word → Res Expr
    named_p zero n ws = dry
    named_p (suc f) n ws =
        elim (among ms n.spelled) [
          | true ↦ expect "[" ws (λ p r. until (expr_p f false r) "]" (λ a q x. ok (cell n a) x))
          | false ↦ part_p f (read n) ws
        ]

    pub part_l : ℕ → Expr → List Word → Res Expr
    part_l zero a ws = dry
    part_l (suc f) a ws = on (is ",") ws (λ p r. bind (expr_p f false r) (λ c x. part_l f (beside a c) x)) (λ ws. ok a ws)

    pub arms_p : ℕ → List Word → Res Expr
    arms_p zero ws = dry
    arms_p (suc f) ws =
        on is_num ws (λ n r. expect "=>" r (λ p x. until (expr_p f true x) "|" (λ a q y. bind (arms_p f y) (λ c z. ok (arm n a c) z))))
        (λ ws. on (is "_") ws (λ p r. expect "=>" r (λ q x. until (expr_p f false x) "}" (λ a s y. ok (default p a) y)))
        (λ ws. bad ws))

-- ---- statements, rules and groups

unfoldable pub declared_p : ℕ → List Word → Res Declared
declared_p f ws = on (is "<") ws (λ p r. until (type_p f r) ">" (λ t q x. ok (Declared.typed t) x)) (λ ws. ok untyped ws)

unfoldable pub entry_p : ℕ → List Word → Res Entry
entry_p f ws =
    on is_name ws
    (λ n r. expect "." r (λ p x. on (is_the "p") x
    (λ q y. expect "." y (λ s z. on (is_figure 1) z (λ t l. ok (record { called = n; present = true }) l)
    (λ z. on (is_figure 0) z (λ t l. ok (record { called = n; present = false }) l) (λ z. bad z))))
    (λ x. bad x)))
    (λ ws. bad ws)

-- how a statement begins: with `let`, at its place, or with a name
pub data Start : Type 0 where
  opens : ℕ → Start
  names : Name → Start

unfoldable pub is_start : Word → Option Start
is_start (num n) = none
is_start (name n) = some (names n)
is_start (digits n) = none
is_start (fixed s p) = elim (eqt "let" s) [ true ↦ some (opens p) | false ↦ none ]

module _ (ms : List (List ℕ)) where
  unfoldable pub val_p : ℕ → ℕ → List Word → Res Val
  val_p f p ws =
      bind (declared_p f ws) (λ t x. on is_name x
      (λ n y. expect "=" y (λ q z. until (expr_p ms f false z) ";" (λ e s l. ok (record { type = t; called = n; value = e }) l)))
      (λ x. bad x))

  unfoldable pub assignment_p : ℕ → Name → List Word → Res Assignment
  assignment_p f n ws =
      elim (among ms n.spelled) [
        | true ↦ expect "[" ws (λ p r. until (expr_p ms f false r) "]" (λ a q x. expect "=" x (λ s y. until (expr_p ms f false y) ";" (λ e t z. ok (write n a e) z))))
        | false ↦ expect "=" ws (λ p r. until (expr_p ms f false r) ";" (λ e q x. ok (assign n e) x))
      ]

  unfoldable pub statement_p : ℕ → Start → List Word → Res Statement
  statement_p f (names n) ws = bind (assignment_p f n ws) (λ a x. ok (alone a) x)
  statement_p f (opens p) ws =
      until (some_p (is "val") (λ f p r. val_p f p r) f ws) "in" (λ vs q x. until (some_p is_name (λ f n r. assignment_p f n r) f x) "end" (λ l s y. ok (scoped vs l) y))

  unfoldable pub rule_p : ℕ → Name → List Word → Res Rule
  rule_p f n ws =
      expect "(" ws (λ p r. until (commas_p (λ f l. entry_p f l) f r) ")" (λ es q x. expect "{" x
      (λ s y. until (many_p is_start (λ f a r. statement_p f a r) f y) "}" (λ l t z. ok (record { called = n; list = es; body = l }) z))))

  unfoldable pub group_p : ℕ → ℕ → List Word → Res Group
  group_p f p ws = expect "(" ws (λ q r. until (some_p is_name (λ f n r. rule_p f n r) f r) ")" (λ l s x. ok (record { at = p; rules = l }) x))

  unfoldable pub constraint_p : ℕ → List Word → Res (List Group)
  constraint_p f ws =
      on (is "or") ws (λ p r. bind (group_p f p r) (λ g x. ok (g ∷ []) x))
      (λ ws. expect "and" ws (λ p r. expect "(" r (λ q x. until (some_p (is "or") (λ f p r. group_p f p r) f x) ")" (λ l s y. ok l y))))

-- ---- declarations and the actor

-- how a port's declaration begins: an input or an output
unfoldable pub is_way : Word → Option Bool
is_way (num n) = none
is_way (name n) = none
is_way (digits n) = none
is_way (fixed s p) = elim (eqt "input" s) [ true ↦ some true | false ↦ elim (eqt "output" s) [ true ↦ some false | false ↦ none ] ]

unfoldable pub port_p : ℕ → Bool → List Word → Res Port
port_p f i ws = bind (declared_p f ws) (λ t x. on is_name x (λ n y. expect ";" y (λ q z. ok (record { input = i; type = t; called = n }) z)) (λ x. bad x))

-- `reg` or `ff`: what is read is the same
unfoldable pub is_store : Word → Option Bool
is_store (num n) = none
is_store (name n) = none
is_store (digits n) = none
is_store (fixed s p) = elim (eqt "reg" s) [ true ↦ some true | false ↦ elim (eqt "ff" s) [ true ↦ some false | false ↦ none ] ]

unfoldable pub memory_p : ℕ → Bool → List Word → Res Memory
memory_p f i ws =
    bind (declared_p f ws) (λ t x. on is_name x
    (λ n y. on is_num y (λ m z. expect ";" z (λ q l. ok (record { type = t; called = n; size = cells m }) l))
    (λ y. expect ";" y (λ q z. ok (record { type = t; called = n; size = one }) z)))
    (λ x. bad x))

unfoldable pub name_p : ℕ → List Word → Res Name
name_p f ws = on is_name ws (λ n r. ok n r) (λ ws. bad ws)

unfoldable pub actor_p : ℕ → List Word → Res Actor
actor_p f ws =
    on is_name ws
    (λ n r. expect "(" r (λ p x. until (commas_p (λ f l. name_p f l) f x) ")" (λ ns q y. expect "{" y
    (λ s z. bind (some_p is_way (λ f i r. port_p f i r) f z) (λ ps l. bind (many_p is_store (λ f i r. memory_p f i r) f l)
    (λ ms k. until (constraint_p (spelled_of (memory_names ms)) f k) "}" (λ gs t j. ok (record { called = n; signature = ns; ports = ps; memories = ms; groups = gs }) j)))))))
    (λ ws. bad ws)

-- fuel for every word, and some for the calls that take none
unfoldable pub parse : List Word → Verdict Actor
parse ws = whole (length ws) (actor_p (16 * length ws + 16) ws)
