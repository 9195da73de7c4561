-- The manual's grammar (section 5) as narrowed by 01, one constructor for each production: which words are a text of which kind, and what it says.
-- No order of reading is in it. Left recursion is left grouping, and levels are precedence. Assumes nothing: these are definitions.
use Rattle.std.specs.Prelude.{◌≡◌, Bool, true, false, List, [], ◌∷◌, ◌++◌, ℕ, zero, suc}
use Rattle.std.proofs.Math.Option.{Option, none, some}
use Prim.Native.String.{String}
use lib.Text.{eqt}
use Rattle.language.specs.Text.{Name, among}
use Rattle.language.specs.Words.{Word, num, name, digits, fixed, Numeral, bytes}
use Rattle.language.specs.Tree.{Ty, number, environment, port, plus, minus, log, ceil, floor, most, entry, within, Breadth, bits, Amount, given, value, Prefix}
use Rattle.language.specs.Tree.{Expr, plain, sized, copies, read, cell, bit, range, inside, joined, beside, unary, binary, choice, either, select, arm, default}
use Rattle.language.specs.Tree.{Declared, untyped, Port, Size, one, cells, Memory, Entry, Val, Assignment, assign, write, Statement, alone, scoped, Rule, Group, Actor, spelled_of, memory_names}
use Rattle.language.specs.declared.Unary.{Unary}
use Rattle.language.specs.declared.Unary.TheVariants.{Invert, Plus, Not, All, NotAll, Any, NotAny, Odd, NotOdd}
use Rattle.language.specs.declared.Binary.{Binary}
use Rattle.language.specs.declared.Binary.TheVariants.{Multiply, Divide, Remainder, Add, Subtract, Left, Right, Less, AtMost, Greater, AtLeast, Equal, Unequal, And, NotAnd, Xor, NotXor, Or, NotOr, Both, Either}

-- a name that is spelled so, and a number that is
abbrev pub the : String → ℕ → Word
the s p = name (record { at = p; spelled = bytes s })

abbrev pub figure : ℕ → ℕ → Word
figure v p = num (record { at = p; value = v; long = 1 })

-- ---- precedence is section 4.10's, "with `==` for `=` and `^~` as `~^`"

pub record Operator : Type 0 where
  pub sign : String
  pub level : ℕ
  pub which : Binary

abbrev operator : String → ℕ → Binary → Operator
operator s n o = record { sign = s; level = n; which = o }

-- the higher the level, the looser the operator binds; `?:` is looser than all of these
unfoldable pub operators : List Operator
operators =
    operator "*" 0 Multiply ∷ operator "/" 0 Divide ∷ operator "%" 0 Remainder ∷
    operator "+" 1 Add ∷ operator "-" 1 Subtract ∷
    operator "<<" 2 Left ∷ operator ">>" 2 Right ∷
    operator "<" 3 Less ∷ operator "<=" 3 AtMost ∷ operator ">" 3 Greater ∷ operator ">=" 3 AtLeast ∷
    operator "==" 4 Equal ∷ operator "!=" 4 Unequal ∷
    operator "&" 5 And ∷ operator "~&" 5 NotAnd ∷ operator "^" 5 Xor ∷ operator "~^" 5 NotXor ∷
    operator "|" 6 Or ∷ operator "~|" 6 NotOr ∷
    operator "&&" 7 Both ∷
    operator "||" 8 Either ∷ []

-- operands with any operators between them
abbrev pub loosest : ℕ
loosest = 9

unfoldable pub operator_in : List Operator → String → Option Operator
operator_in [] s = none
operator_in (o ∷ os) s = elim (eqt o.sign s) [ true ↦ some o | false ↦ operator_in os s ]

-- "unary operators: ! & ~& | ~| ^ ~^ + ~ (highest precedence)"
pub record Mark : Type 0 where
  pub sign : String
  pub which : Unary

abbrev mark : String → Unary → Mark
mark s u = record { sign = s; which = u }

unfoldable pub prefixes : List Mark
prefixes =
    mark "!" Not ∷ mark "&" All ∷ mark "~&" NotAll ∷ mark "|" Any ∷ mark "~|" NotAny ∷ mark "^" Odd ∷ mark "~^" NotOdd ∷ mark "+" Plus ∷ mark "~" Invert ∷ []

unfoldable pub prefix_in : List Mark → String → Option Unary
prefix_in [] s = none
prefix_in (m ∷ l) s = elim (eqt m.sign s) [ true ↦ some m.which | false ↦ prefix_in l s ]

-- ---- types. "Row 5 takes `max` anywhere in a type."

pub data TypeSort : Type 0 where
  type term entries : TypeSort

pub data Types : TypeSort → List Word → Ty → Type 0 where
  t_plus : {a b : List Word} {x y : Ty} (p : ℕ) → Types type a x → Types term b y → Types type (a ++ (fixed "+" p ∷ b)) (plus x y)
  t_minus : {a b : List Word} {x y : Ty} (p : ℕ) → Types type a x → Types term b y → Types type (a ++ (fixed "-" p ∷ b)) (minus x y)
  t_term : {a : List Word} {x : Ty} → Types term a x → Types type a x
  t_number : {n : Numeral} → Types term (num n ∷ []) (number n)
  t_environment : {n : Name} → Types term (name n ∷ []) (environment n)
  t_port : {n : Name} (p q : ℕ) → Types term (name n ∷ fixed "." p ∷ the "type" q ∷ []) (port n)
  t_log : {a : List Word} {x : Ty} (p q r : ℕ) → Types type a x → Types term (fixed "log" p ∷ fixed "(" q ∷ (a ++ (fixed ")" r ∷ []))) (log p x)
  t_ceil : {a : List Word} {x : Ty} (p q r : ℕ) → Types type a x → Types term (fixed "ceil" p ∷ fixed "(" q ∷ (a ++ (fixed ")" r ∷ []))) (ceil p x)
  t_floor : {a : List Word} {x : Ty} (p q r : ℕ) → Types type a x → Types term (fixed "floor" p ∷ fixed "(" q ∷ (a ++ (fixed ")" r ∷ []))) (floor p x)
  t_max : {a : List Word} {x : Ty} (p q r : ℕ) → Types entries a x → Types term (fixed "max" p ∷ fixed "(" q ∷ (a ++ (fixed ")" r ∷ []))) (most p x)
  t_within : {a : List Word} {x : Ty} (p q : ℕ) → Types type a x → Types term (fixed "(" p ∷ (a ++ (fixed ")" q ∷ []))) (within p x)
  t_entry : {a b : List Word} {x y : Ty} (p : ℕ) → Types entries a x → Types type b y → Types entries (a ++ (fixed "," p ∷ b)) (entry x y)
  t_one : {a : List Word} {x : Ty} → Types type a x → Types entries a x

-- ---- the value of a sized constant

pub data Amounts : List Word → Amount → Type 0 where
  a_given : {n : Numeral} → Amounts (digits n ∷ []) (given n)
  a_value : {n : Name} (p : ℕ) → Amounts (fixed "'d" p ∷ name n ∷ []) (value n)

-- ---- expressions, where `ms` are the names that the actor declares as memories

-- a whole expression; one that begins with no `if`; `bin n`: an operand, or operands with operators of the levels below n between them;
-- what may be indexed; the parts of a concatenation; the arms of a case, to its `}`
pub data Sort : Type 0 where
  expr cond : Sort
  bin : ℕ → Sort
  base parts arms : Sort

pub data Derives (ms : List (List ℕ)) : Sort → List Word → Expr → Type 0 where
  -- "`if` stands only where a whole expression begins .. and its `else` runs as far as it can."
  d_if : {a b c : List Word} {x y z : Expr} (p q r : ℕ) → Derives ms expr a x → Derives ms expr b y → Derives ms expr c z
      → Derives ms expr (fixed "if" p ∷ (a ++ (fixed "then" q ∷ (b ++ (fixed "else" r ∷ c))))) (either p x y z)
  d_expr : {a : List Word} {x : Expr} → Derives ms cond a x → Derives ms expr a x
  -- "All operators group to the left, `?:` included."
  d_cond : {a b c : List Word} {x y z : Expr} (p q : ℕ) → Derives ms cond a x → Derives ms expr b y → Derives ms (bin loosest) c z
      → Derives ms cond (a ++ (fixed "?" p ∷ (b ++ (fixed ":" q ∷ c)))) (choice x y z)
  d_bins : {a : List Word} {x : Expr} → Derives ms (bin loosest) a x → Derives ms cond a x
  d_bin : (s : String) {o : Operator} {a b : List Word} {x y : Expr} (p : ℕ) → operator_in operators s ≡ some o → Derives ms (bin (suc o.level)) a x → Derives ms (bin o.level) b y
      → Derives ms (bin (suc o.level)) (a ++ (fixed s p ∷ b)) (binary o.which x y)
  d_up : {n : ℕ} {a : List Word} {x : Expr} → Derives ms (bin n) a x → Derives ms (bin (suc n)) a x
  d_unary : {s : String} {u : Unary} {a : List Word} {x : Expr} (p : ℕ) → prefix_in prefixes s ≡ some u → Derives ms (bin 0) a x → Derives ms (bin 0) (fixed s p ∷ a) (unary (record { which = u; at = p }) x)
  -- constants
  d_plain : {n : Numeral} → Derives ms (bin 0) (num n ∷ []) (plain n)
  d_bits : {n : Numeral} {a : List Word} {x : Amount} → Amounts a x → Derives ms (bin 0) (num n ∷ a) (sized (bits n) x)
  d_typed : {a b : List Word} {t : Ty} {x : Amount} (p q : ℕ) → Types type a t → Amounts b x → Derives ms (bin 0) (fixed "<" p ∷ (a ++ (fixed ">" q ∷ b))) (sized (Breadth.typed p t) x)
  -- "Replication is `n { e }`"
  d_copies : {n : Numeral} {a : List Word} {x : Expr} (p q : ℕ) → Derives ms expr a x → Derives ms (bin 0) (num n ∷ fixed "{" p ∷ (a ++ (fixed "}" q ∷ []))) (copies n x)
  d_joined : {a : List Word} {x : Expr} (p q : ℕ) → Derives ms parts a x → Derives ms (bin 0) (fixed "{" p ∷ (a ++ (fixed "}" q ∷ []))) (joined p x)
  d_part : {a : List Word} {x : Expr} → Derives ms expr a x → Derives ms parts a x
  d_beside : {a b : List Word} {x y : Expr} (p : ℕ) → Derives ms parts a x → Derives ms expr b y → Derives ms parts (a ++ (fixed "," p ∷ b)) (beside x y)
  -- "`name[...]` holds an address expression if the name was declared a memory, else bit positions written as types."
  d_cell : {n : Name} {a : List Word} {x : Expr} (p q : ℕ) → among ms n.spelled ≡ true → Derives ms expr a x → Derives ms (bin 0) (name n ∷ fixed "[" p ∷ (a ++ (fixed "]" q ∷ []))) (cell n x)
  d_read : {n : Name} → among ms n.spelled ≡ false → Derives ms base (name n ∷ []) (read n)
  d_inside : {a : List Word} {x : Expr} (p q : ℕ) → Derives ms expr a x → Derives ms base (fixed "(" p ∷ (a ++ (fixed ")" q ∷ []))) (inside p x)
  d_base : {a : List Word} {x : Expr} → Derives ms base a x → Derives ms (bin 0) a x
  d_bit : {a b : List Word} {x : Expr} {i : Ty} (p q : ℕ) → Derives ms base a x → Types type b i → Derives ms (bin 0) (a ++ (fixed "[" p ∷ (b ++ (fixed "]" q ∷ [])))) (bit x p i)
  d_range : {a b c : List Word} {x : Expr} {i j : Ty} (p q r : ℕ) → Derives ms base a x → Types type b i → Types type c j
      → Derives ms (bin 0) (a ++ (fixed "[" p ∷ (b ++ (fixed ":" q ∷ (c ++ (fixed "]" r ∷ [])))))) (range x p i j)
  -- "A case is `case (e) { n => e | ... | _ => e }`: other arms may be absent"
  d_case : {a b : List Word} {x y : Expr} (p q r s : ℕ) → Derives ms expr a x → Derives ms arms b y → Derives ms (bin 0) (fixed "case" p ∷ fixed "(" q ∷ (a ++ (fixed ")" r ∷ fixed "{" s ∷ b))) (select p x y)
  d_arm : {n : Numeral} {a b : List Word} {x y : Expr} (p q : ℕ) → Derives ms expr a x → Derives ms arms b y → Derives ms arms (num n ∷ fixed "=>" p ∷ (a ++ (fixed "|" q ∷ b))) (arm n x y)
  d_default : {a : List Word} {x : Expr} (p q r : ℕ) → Derives ms expr a x → Derives ms arms (fixed "_" p ∷ fixed "=>" q ∷ (a ++ (fixed "}" r ∷ []))) (default p x)

-- ---- lists: none or more of a kind, one or more, and one or more with commas between

module _ {T : Type 0} (D : List Word → T → Type 0) where
  pub data Many : List Word → List T → Type 0 where
    m_none : Many [] []
    m_more : {a b : List Word} {x : T} {l : List T} → D a x → Many b l → Many (a ++ b) (x ∷ l)

  pub data Some : List Word → List T → Type 0 where
    s_some : {a b : List Word} {x : T} {l : List T} → D a x → Many b l → Some (a ++ b) (x ∷ l)

  pub data Commas : List Word → List T → Type 0 where
    c_one : {a : List Word} {x : T} → D a x → Commas a (x ∷ [])
    c_more : {a b : List Word} {x : T} {l : List T} (p : ℕ) → D a x → Commas b l → Commas (a ++ (fixed "," p ∷ b)) (x ∷ l)

-- ---- statements, rules and groups

pub data Declares : List Word → Declared → Type 0 where
  y_untyped : Declares [] untyped
  y_typed : {a : List Word} {t : Ty} (p q : ℕ) → Types type a t → Declares (fixed "<" p ∷ (a ++ (fixed ">" q ∷ []))) (Declared.typed t)

-- "`let` .. `val`"
pub data Vals (ms : List (List ℕ)) : List Word → Val → Type 0 where
  v_val : {a b : List Word} {t : Declared} {n : Name} {x : Expr} (p q r : ℕ) → Declares a t → Derives ms expr b x
      → Vals ms (fixed "val" p ∷ (a ++ (name n ∷ fixed "=" q ∷ (b ++ (fixed ";" r ∷ []))))) (record { type = t; called = n; value = x })

-- "A memory read or written takes an address, also at size 1; without `[` it is 5 at the next word."
pub data Assigns (ms : List (List ℕ)) : List Word → Assignment → Type 0 where
  i_assign : {n : Name} {a : List Word} {x : Expr} (p q : ℕ) → among ms n.spelled ≡ false → Derives ms expr a x → Assigns ms (name n ∷ fixed "=" p ∷ (a ++ (fixed ";" q ∷ []))) (assign n x)
  i_write : {n : Name} {a b : List Word} {x y : Expr} (p q r s : ℕ) → among ms n.spelled ≡ true → Derives ms expr a x → Derives ms expr b y
      → Assigns ms (name n ∷ fixed "[" p ∷ (a ++ (fixed "]" q ∷ fixed "=" r ∷ (b ++ (fixed ";" s ∷ []))))) (write n x y)

pub data Statements (ms : List (List ℕ)) : List Word → Statement → Type 0 where
  s_alone : {a : List Word} {x : Assignment} → Assigns ms a x → Statements ms a (alone x)
  s_let : {a b : List Word} {vs : List Val} {l : List Assignment} (p q r : ℕ) → Some (Vals ms) a vs → Some (Assigns ms) b l
      → Statements ms (fixed "let" p ∷ (a ++ (fixed "in" q ∷ (b ++ (fixed "end" r ∷ []))))) (scoped vs l)

-- "rules bound by `.p.1` and `.p.0`"
pub data Entries : List Word → Entry → Type 0 where
  e_present : {n : Name} (p q r s : ℕ) → Entries (name n ∷ fixed "." p ∷ the "p" q ∷ fixed "." r ∷ figure 1 s ∷ []) (record { called = n; present = true })
  e_absent : {n : Name} (p q r s : ℕ) → Entries (name n ∷ fixed "." p ∷ the "p" q ∷ fixed "." r ∷ figure 0 s ∷ []) (record { called = n; present = false })

pub data Rules (ms : List (List ℕ)) : List Word → Rule → Type 0 where
  r_rule : {n : Name} {a b : List Word} {es : List Entry} {l : List Statement} (p q r s : ℕ) → Commas Entries a es → Many (Statements ms) b l
      → Rules ms (name n ∷ fixed "(" p ∷ (a ++ (fixed ")" q ∷ fixed "{" r ∷ (b ++ (fixed "}" s ∷ []))))) (record { called = n; list = es; body = l })

pub data Groups (ms : List (List ℕ)) : List Word → Group → Type 0 where
  g_or : {a : List Word} {l : List Rule} (p q r : ℕ) → Some (Rules ms) a l → Groups ms (fixed "or" p ∷ fixed "(" q ∷ (a ++ (fixed ")" r ∷ []))) (record { at = p; rules = l })

-- "then one `or (...)` of rules or one `and (...)` of such `or` groups"
pub data Constraints (ms : List (List ℕ)) : List Word → List Group → Type 0 where
  k_or : {a : List Word} {g : Group} → Groups ms a g → Constraints ms a (g ∷ [])
  k_and : {a : List Word} {l : List Group} (p q r : ℕ) → Some (Groups ms) a l → Constraints ms (fixed "and" p ∷ fixed "(" q ∷ (a ++ (fixed ")" r ∷ []))) l

-- ---- declarations and the actor

pub data Ports : List Word → Port → Type 0 where
  o_input : {a : List Word} {t : Declared} {n : Name} (p q : ℕ) → Declares a t → Ports (fixed "input" p ∷ (a ++ (name n ∷ fixed ";" q ∷ []))) (record { input = true; type = t; called = n })
  o_output : {a : List Word} {t : Declared} {n : Name} (p q : ℕ) → Declares a t → Ports (fixed "output" p ∷ (a ++ (name n ∷ fixed ";" q ∷ []))) (record { input = false; type = t; called = n })

pub data Sizes : List Word → Size → Type 0 where
  z_one : Sizes [] one
  z_cells : {n : Numeral} → Sizes (num n ∷ []) (cells n)

-- "`reg` and `ff` memories (alike)"
pub data Memories : List Word → Memory → Type 0 where
  h_reg : {a b : List Word} {t : Declared} {n : Name} {z : Size} (p q : ℕ) → Declares a t → Sizes b z → Memories (fixed "reg" p ∷ (a ++ (name n ∷ (b ++ (fixed ";" q ∷ []))))) (record { type = t; called = n; size = z })
  h_ff : {a b : List Word} {t : Declared} {n : Name} {z : Size} (p q : ℕ) → Declares a t → Sizes b z → Memories (fixed "ff" p ∷ (a ++ (name n ∷ (b ++ (fixed ";" q ∷ []))))) (record { type = t; called = n; size = z })

pub data Names : List Word → Name → Type 0 where
  n_name : {n : Name} → Names (name n ∷ []) n

-- "Signature, port declarations, memories, then .." the rules, which go by the memories declared before them
pub data Actors : List Word → Actor → Type 0 where
  actor : {n : Name} {a b c d : List Word} {ns : List Name} {ps : List Port} {ms : List Memory} {gs : List Group} (p q r s : ℕ)
      → Commas Names a ns → Some Ports b ps → Many Memories c ms → Constraints (spelled_of (memory_names ms)) d gs
      → Actors (name n ∷ fixed "(" p ∷ (a ++ (fixed ")" q ∷ fixed "{" r ∷ (b ++ (c ++ (d ++ (fixed "}" s ∷ []))))))) (record { called = n; signature = ns; ports = ps; memories = ms; groups = gs })
