-- What the tests of a word tell: a word that passes is such a word, and such a word passes. Assumes nothing.
use mathlib.Core.Path.{◌≡◌, refl, ap, ◌∙◌}
use mathlib.Core.Bool.{Bool, true, false, ◌&&◌}
use mathlib.Core.List.{List, [], ◌∷◌}
use mathlib.Core.Option.{Option, none, some}
use Prim.Native.Nat.{ℕ, suc, ◌≤◌, ◌<◌}
use Prim.Native.String.{String}
use native.Mathlib.Omega.{arith}
use lib.Dec.{T, eqb, ltb, eqb→eq, ltb→lt, lt→ltb}
use native.Mathlib.Decide.{dec_lt}
use lib.Text.{eqt, eqt→eq, eqt_refl}
use Rattle.language.specs.Text.{same}
use Rattle.language.specs.Words.{Word, num, name, digits, fixed, bytes}
use Rattle.language.specs.Tree.{Prefix}
use Rattle.language.specs.Grammar.{the, figure, Operator, operators, operator_in, prefixes, prefix_in}
use Rattle.language.specs.Reader.{is_num, is_name, is_digits, is, is_the, is_figure}
use Rattle.language.specs.Parser.{below, is_operator, prefix_at, is_prefix, Start, opens, names, is_start}
use Rattle.language.specs.declared.Unary.{Unary}

pub never : {A : Type 0} → ◌≡◌ {A = ℕ} 0 1 → A
never e = absurd (let h : suc 0 ≤ 0 = omega arith in omega arith)

pub differ : {A : Type 0} → false ≡ true → A
differ e = never (cc)

pub is_true : {b : Bool} → b ≡ true → T b
is_true {b = true} e = tt
is_true {b = false} e = differ e

same_eq : (s t : List ℕ) → same s t ≡ true → s ≡ t
unfolding same
same_eq [] [] e = refl
same_eq [] (b ∷ t) e = differ e
same_eq (a ∷ s) [] e = differ e
same_eq (a ∷ s) (b ∷ t) e = go (eqb a b) refl (same_eq s t) e
  where
    go : (v : Bool) → eqb a b ≡ v → (same s t ≡ true → s ≡ t) → (v && same s t) ≡ true → a ∷ s ≡ b ∷ t
    go true h i k = let p = eqb→eq a b (is_true h) in let q = i k in cc
    go false h i k = differ k

-- ---- a test tells which word has passed it

abbrev pub Tells : {A : Type 0} → (Word → Option A) → (A → Word) → Type 0
Tells {A} t w = (x : Word) (a : A) → t x ≡ some a → x ≡ w a

pub some_eq : {A : Type 0} {a b : A} → some a ≡ some b → a ≡ b
some_eq e = cc

pub num_tells : Tells is_num num
unfolding is_num
num_tells (num n) a e = ap num (some_eq e)
num_tells (name n) a e = never (cc)
num_tells (digits n) a e = never (cc)
num_tells (fixed s p) a e = never (cc)

pub name_tells : Tells is_name name
unfolding is_name
name_tells (num n) a e = never (cc)
name_tells (name n) a e = ap name (some_eq e)
name_tells (digits n) a e = never (cc)
name_tells (fixed s p) a e = never (cc)

pub digits_tells : Tells is_digits digits
unfolding is_digits
digits_tells (num n) a e = never (cc)
digits_tells (name n) a e = never (cc)
digits_tells (digits n) a e = ap digits (some_eq e)
digits_tells (fixed s p) a e = never (cc)

pub is_tells : (v : String) → Tells (is v) (fixed v)
unfolding is
is_tells v (num n) a e = never (cc)
is_tells v (name n) a e = never (cc)
is_tells v (digits n) a e = never (cc)
is_tells v (fixed s p) a e = go (eqt v s) refl e
  where
    go : (b : Bool) → eqt v s ≡ b → elim b as (λ (z : Bool). Option ℕ) [ true ↦ some p | false ↦ none ] ≡ some a → fixed s p ≡ fixed v a
    go true h k = let q = eqt→eq v s (is_true h) in let r = some_eq k in cc
    go false h k = never (cc)

pub the_tells : (v : String) → Tells (is_the v) (the v)
unfolding is_the
the_tells v (num n) a e = never (cc)
the_tells v (name n) a e = go (same (bytes v) n.spelled) refl e
  where
    go : (b : Bool) → same (bytes v) n.spelled ≡ b → elim b as (λ (z : Bool). Option ℕ) [ true ↦ some n.at | false ↦ none ] ≡ some a → name n ≡ the v a
    go true h k = let q = same_eq (bytes v) n.spelled h in let r = some_eq k in rw (q, ← r) refl
    go false h k = never (cc)
the_tells v (digits n) a e = never (cc)
the_tells v (fixed s p) a e = never (cc)

pub figure_tells : (v : ℕ) → Tells (is_figure v) (figure v)
unfolding is_figure
figure_tells v (num n) a e = go (eqb v n.value) (eqb 1 n.long) refl refl e
  where
    go : (b c : Bool) → eqb v n.value ≡ b → eqb 1 n.long ≡ c → elim b as (λ (z : Bool). Option ℕ) [ true ↦ elim c as (λ (z : Bool). Option ℕ) [ true ↦ some n.at | false ↦ none ] | false ↦ none ] ≡ some a
        → num n ≡ figure v a
    go true true h i k = let q = eqb→eq v n.value (is_true h) in let r = some_eq k in let s = eqb→eq 1 n.long (is_true i) in rw (q, s, ← r) refl
    go true false h i k = never (cc)
    go false c h i k = never (cc)
figure_tells v (name n) a e = never (cc)
figure_tells v (digits n) a e = never (cc)
figure_tells v (fixed s p) a e = never (cc)

unfoldable pub start_word : Start → Word
start_word (opens p) = fixed "let" p
start_word (names n) = name n

pub start_tells : Tells is_start start_word
unfolding is_start start_word
start_tells (num n) a e = never (cc)
start_tells (name n) a e = rw (← some_eq e) refl
start_tells (digits n) a e = never (cc)
start_tells (fixed s p) a e = go (eqt "let" s) refl e
  where
    go : (b : Bool) → eqt "let" s ≡ b → elim b as (λ (z : Bool). Option Start) [ true ↦ some (opens p) | false ↦ none ] ≡ some a → fixed s p ≡ start_word a
    go true h k = rw (← some_eq k, ← eqt→eq "let" s (is_true h)) refl
    go false h k = never (cc)

-- an operator's word is `fixed sign at`, and its level is below n
pub record OperatorAt (n : ℕ) (x : Word) (o : Operator) : Type 0 where
  pub sign : String
  pub at : ℕ
  pub word : x ≡ fixed sign at
  pub listed : operator_in operators sign ≡ some o
  pub low : o.level < n

below_tells : (n : ℕ) (v : Option Operator) (o : Operator) → below n v ≡ some o → (v ≡ some o) × (o.level < n)
unfolding below
below_tells n none o e = never (cc)
below_tells n (some q) o e = go (ltb q.level n) refl e
  where
    go : (b : Bool) → ltb q.level n ≡ b → elim b as (λ (z : Bool). Option Operator) [ true ↦ some q | false ↦ none ] ≡ some o → (some q ≡ some o) × (o.level < n)
    go true h k = (k, rw (some_eq k) at (ltb→lt q.level n (is_true h)))
    go false h k = never (cc)

pub operator_tells : (n : ℕ) (x : Word) (o : Operator) → is_operator n x ≡ some o → OperatorAt n x o
unfolding is_operator
operator_tells n (num m) o e = never (cc)
operator_tells n (name m) o e = never (cc)
operator_tells n (digits m) o e = never (cc)
operator_tells n (fixed s p) o e = let k = below_tells n (operator_in operators s) o e in record { sign = s; at = p; word = refl; listed = k.0; low = k.1 }

pub operator_passes : (n : ℕ) (s : String) (p : ℕ) (o : Operator) → operator_in operators s ≡ some o → o.level < n → is_operator n (fixed s p) ≡ some o
unfolding is_operator below
operator_passes n s p o e h = ap (below n) e ∙ go (ltb o.level n) (lt→ltb o.level n h)
  where
    go : (b : Bool) → T b → elim b as (λ (z : Bool). Option Operator) [ true ↦ some o | false ↦ none ] ≡ some o
    go true t = refl
    go false t = absurd t

pub operator_fails : (n : ℕ) (s : String) (p : ℕ) (o : Operator) → operator_in operators s ≡ some o → n ≤ o.level → is_operator n (fixed s p) ≡ none
unfolding is_operator below
operator_fails n s p o e h = ap (below n) e ∙ go (ltb o.level n) refl
  where
    go : (b : Bool) → ltb o.level n ≡ b → ◌≡◌ {A = Option Operator} (elim b as (λ (z : Bool). Option Operator) [ true ↦ some o | false ↦ none ]) none
    go true t = absurd (let k = ltb→lt o.level n (is_true t) in omega arith)
    go false t = refl

pub operator_high : (n : ℕ) (s : String) (p : ℕ) (o : Operator) → operator_in operators s ≡ some o → is_operator n (fixed s p) ≡ none → n ≤ o.level
operator_high n s p o e h = go (dec_lt o.level n)
  where
    go : Dec (o.level < n) → n ≤ o.level
    go (yes i) = let k = operator_passes n s p o e i in never (cc)
    go (no i) = omega arith

-- a prefix's word is `fixed sign at`
pub record PrefixAt (x : Word) (u : Prefix) : Type 0 where
  pub sign : String
  pub word : x ≡ fixed sign u.at
  pub listed : prefix_in prefixes sign ≡ some u.which

pub prefix_tells : (x : Word) (u : Prefix) → is_prefix x ≡ some u → PrefixAt x u
unfolding is_prefix prefix_at
prefix_tells (num m) u e = never (cc)
prefix_tells (name m) u e = never (cc)
prefix_tells (digits m) u e = never (cc)
prefix_tells (fixed s p) u e = go (prefix_in prefixes s) refl e
  where
    go : (v : Option Unary) → prefix_in prefixes s ≡ v → prefix_at p v ≡ some u → PrefixAt (fixed s p) u
    go none h k = never (cc)
    go (some q) h k = let r : record { which = q; at = p } ≡ u = some_eq k in record { sign = s; word = ap (λ (z : Prefix). fixed s z.at) r; listed = h ∙ ap (λ (z : Prefix). some z.which) r }

pub prefix_passes : (s : String) (p : ℕ) (u : Unary) → prefix_in prefixes s ≡ some u → is_prefix (fixed s p) ≡ some (record { which = u; at = p })
unfolding is_prefix prefix_at
prefix_passes s p u e = ap (prefix_at p) e

-- a sign of the one list or the other is no word that is not in it
is_other : (v s : String) (p : ℕ) → (v ≡ s → ⊥) → is v (fixed s p) ≡ none
unfolding is
is_other v s p h = go (eqt v s) refl
  where
    go : (b : Bool) → eqt v s ≡ b → ◌≡◌ {A = Option ℕ} (elim b as (λ (z : Bool). Option ℕ) [ true ↦ some p | false ↦ none ]) none
    go true e = absurd (h (eqt→eq v s (is_true e)))
    go false e = refl

pub not_operator : (v s : String) (p : ℕ) (o : Operator) → operator_in operators v ≡ none → operator_in operators s ≡ some o → is v (fixed s p) ≡ none
not_operator v s p o e h = is_other v s p (λ i. never (let j = ap (operator_in operators) i in cc))

pub not_prefix : (v s : String) (p : ℕ) (u : Unary) → prefix_in prefixes v ≡ none → prefix_in prefixes s ≡ some u → is v (fixed s p) ≡ none
not_prefix v s p u e h = is_other v s p (λ i. never (let j = ap (prefix_in prefixes) i in cc))

-- ---- a word passes its test

pub is_passes : (v : String) (p : ℕ) → is v (fixed v p) ≡ some p
unfolding is
is_passes v p = go (eqt v v) (eqt_refl v)
  where
    go : (b : Bool) → T b → elim b as (λ (z : Bool). Option ℕ) [ true ↦ some p | false ↦ none ] ≡ some p
    go true h = refl
    go false h = absurd h
