-- The operators by the kinds of their words: those between operands by their levels, and those before one. Assumes nothing.
use mathlib.Core.Path.{◌≡◌, refl, sym, ap, subst, ◌∙◌}
use mathlib.Core.Bool.{true, false}
use mathlib.Core.List.{List}
use mathlib.Core.Option.{Option, none, some}
use Prim.Native.Nat.{ℕ, zero, suc, ◌+◌, ◌-◌, ◌≤◌, ◌<◌}
use native.Mathlib.Omega.{arith}
use lib.Dec.{T}
use borrow.Author.Tests.{lt-ltb, le-ltb}
use Rattle.language.specs.Grammar.{Operator, operators, operator_in, prefixes, prefix_in}
use Rattle.language.specs.Parser.{below, is_operator, is_prefix, prefix_at}
use Rattle.language.specs.declared.Unary.{Unary}
use Rattle.signs.specs.Kinds.{spelled_words}
use Rattle.words.specs.Table.{word_of}
use Rattle.tape.specs.Tape.{unary_number, binary_number}
use Rattle.readers.specs.Marks.{unary_of, unary_in, binary_of, binary_in, count, fixed_of, level_of, level_in, is_mark, is_some}
use Rattle.readers.specs.Meets.{Kind, Level}

-- the operator of a kind, by its level
pub record Operates (text : List ℕ) (k n : ℕ) : Type 0 where
  pub operator : Operator
  pub here : (p l v : ℕ) → is_operator n (word_of text k p l v) ≡ some operator
  pub level : level_of k ≡ operator.level
  pub number : binary_number operator.which ≡ binary_of k

module _ (text : List ℕ) (n : ℕ) (p l v : ℕ) where
  operator_as : (k : ℕ) → is_operator n (word_of text k p l v) ≡ below n (operator_in operators (fixed_of k))
  unfolding is_operator word_of fixed_of operator_in operators below
  operator_as zero = refl
  operator_as (suc zero) = refl
  operator_as (suc (suc zero)) = refl
  operator_as (suc (suc (suc zero))) = refl
  operator_as (suc (suc (suc (suc k)))) = refl

none_below : (n : ℕ) (o : Option Operator) → n ≤ level_in o → below n o ≡ none
unfolding below level_in
none_below n none h = refl
none_below n (some o) h = simp (below, le-ltb _ _ h)

pub operator_miss : (text : List ℕ) (p l v k n : ℕ) → n ≤ level_of k → is_operator n (word_of text k p l v) ≡ none
unfolding level_of
operator_miss text p l v k n h = operator_as text n p l v k ∙ none_below n (operator_in operators (fixed_of k)) h

pub operator_of : (text : List ℕ) (k n : ℕ) → level_of k < n → n ≤ 9 → Operates text k n
unfolding level_of level_in binary_of binary_in below
operator_of text k n h g = go (operator_in operators (fixed_of k)) refl
  where
    far : 9 < n → ⊥
    far z = omega arith

    go : (o : Option Operator) → operator_in operators (fixed_of k) ≡ o → Operates text k n
    go none e = absurd (far (subst (λ (o : Option Operator). level_in o < n) e h))
    go (some o) e = record {
      operator = o;
      here = λ p l v. operator_as text n p l v k ∙ ap (below n) e ∙ simp (below, lt-ltb o.level n (subst (λ (o : Option Operator). level_in o < n) e h));
      level = ap level_in e;
      number = sym (ap binary_in e);
    }

-- an operator before its operand
pub record Marks (text : List ℕ) (k : ℕ) : Type 0 where
  pub which : Unary
  pub here : (p l v : ℕ) → is_prefix (word_of text k p l v) ≡ some (record { which = which; at = p })
  pub number : unary_number which ≡ unary_of k

module _ (text : List ℕ) (p l v : ℕ) where
  prefix_as : (k : ℕ) → is_prefix (word_of text k p l v) ≡ prefix_at p (prefix_in prefixes (fixed_of k))
  unfolding is_prefix word_of fixed_of prefix_in prefixes prefix_at
  prefix_as zero = refl
  prefix_as (suc zero) = refl
  prefix_as (suc (suc zero)) = refl
  prefix_as (suc (suc (suc zero))) = refl
  prefix_as (suc (suc (suc (suc k)))) = refl

none_mark : (p : ℕ) (u : Option Unary) → is_some u ≡ false → prefix_at p u ≡ none
unfolding prefix_at is_some
none_mark p none h = refl
none_mark p (some u) h = absurd (subst T h tt)

pub mark_miss : (text : List ℕ) (p l v k : ℕ) → is_mark k ≡ false → is_prefix (word_of text k p l v) ≡ none
unfolding is_mark
mark_miss text p l v k h = prefix_as text p l v k ∙ none_mark p (prefix_in prefixes (fixed_of k)) h

pub mark_of_law : (text : List ℕ) (k : ℕ) → is_mark k ≡ true → Marks text k
unfolding is_mark is_some unary_of unary_in prefix_at
mark_of_law text k h = go (prefix_in prefixes (fixed_of k)) refl
  where
    go : (u : Option Unary) → prefix_in prefixes (fixed_of k) ≡ u → Marks text k
    go none e = absurd (subst T (sym (subst (λ (o : Option Unary). is_some o ≡ true) e h)) tt)
    go (some u) e = record {
      which = u;
      here = λ p l v. prefix_as text p l v k ∙ ap (prefix_at p) e;
      number = sym (ap unary_in e);
    }

pub mark_not : (k j : ℕ) → is_mark k ≡ true → is_mark j ≡ false → k ≡ j → ⊥
mark_not k j h g q = subst T (sym h ∙ ap is_mark q ∙ g) tt

not_mark_0 : is_mark 0 ≡ false
unfolding is_mark is_some prefix_in prefixes fixed_of spelled_words
not_mark_0 = refl

pub not_mark_1 : is_mark 1 ≡ false
unfolding is_mark is_some prefix_in prefixes fixed_of spelled_words
not_mark_1 = refl

pub not_mark_2 : is_mark 2 ≡ false
unfolding is_mark is_some prefix_in prefixes fixed_of spelled_words
not_mark_2 = refl

pub not_mark_48 : is_mark 48 ≡ false
unfolding is_mark is_some prefix_in prefixes fixed_of spelled_words
not_mark_48 = refl

pub not_mark_36 : is_mark 36 ≡ false
unfolding is_mark is_some prefix_in prefixes fixed_of spelled_words
not_mark_36 = refl

pub not_mark_38 : is_mark 38 ≡ false
unfolding is_mark is_some prefix_in prefixes fixed_of spelled_words
not_mark_38 = refl

-- ---- what the code learns

pub level_as : (k k' l n : ℕ) → l ≡ level_of k → k ≡ k' → n ≤ l → n ≤ level_of k'
level_as k k' l n e q h = subst (λ (k : ℕ). n ≤ level_of k) q (subst (λ (l : ℕ). n ≤ l) e h)

pub level_below : (k l n : ℕ) → l ≡ level_of k → l < n → level_of k < n
level_below k l n e h = subst (λ (l : ℕ). l < n) e h

pub operator_inside : (w : List ℕ) (x k l n : ℕ) → Kind w x k → Level k l → l < n → n ≤ 9 → x < count w
operator_inside w x k l n a b h g = omega (arith, a.word, b.word)

pub mark_inside : (w : List ℕ) (x k : ℕ) → Kind w x k → is_mark k ≡ true → x < count w
mark_inside w x k a m = go (mark_not k 0 m not_mark_0) a.word
  where
    go : (k ≡ 0 → ⊥) → x < count w + (1 - k) → x < count w
    go h z = omega arith
