-- The laws of the expressions: what each function of the reader of lists is at a word of each kind. Assumes nothing.
use mathlib.Core.Path.{◌≡◌, refl, sym, ap, ◌∙◌}
use mathlib.Core.Bool.{Bool, true, false}
use mathlib.Core.List.{List, ◌∷◌}
use mathlib.Core.Option.{Option, some}
use Prim.Native.Nat.{ℕ, suc, ◌+◌, ◌≤◌, ◌<◌}
use native.Mathlib.Omega.{arith}
use lib.ListN.{drop}
use Rattle.language.specs.Text.{among}
use Rattle.language.specs.Words.{Word, Numeral}
use Rattle.language.specs.Tree.{Expr, copies, read, cell, inside, joined, beside, unary, binary, choice, either, select, arm, default}
use Rattle.language.specs.Grammar.{prefixes, prefix_in, loosest}
use Rattle.language.specs.Reader.{Res, ok, bad, bind, on, is, is_num, is_name, is_digits, expect, until}
use Rattle.language.specs.Parser.{part_p, expr_p, cond_l, bin_p, bin_l, operand_p, number_p, named_p, part_l, arms_p, arm_ends, is_operator, is_prefix, prefix_at}
use Rattle.signs.specs.Kinds.{spelled_words}
use Rattle.words.specs.Table.{word_of, word_at}
use Rattle.readers.specs.Marks.{count, kind_at, place_at, long_at, value_at, numeral_at, name_at, spelled_at, Marked, level_of, is_mark, is_memory}
use Rattle.readers.proofs.Spells.{kind_inside, kind_is, word, on_miss, on_is, off_is, num_miss, name_miss}
use Rattle.readers.proofs.Fixed.{s_open, s_comma, s_case, s_if, s_default, s_brace, s_ask, s_less}
use Rattle.type_reader.proofs.Operands.{operand_number}
use Rattle.expression_reader.proofs.Levels.{Operates, operator_miss, Marks, mark_miss, mark_not, not_mark_1, not_mark_2, not_mark_48, not_mark_36, not_mark_38}

module _ {text : List ℕ} {ms : List (List ℕ)} {w : List ℕ} {ws : List Word} (M : Marked text ms w ws) where
  on_at : {A S : Type 0} (test : Word → Option A) (g : A → List Word → Res S) (d : List Word → Res S) (x : ℕ) (a : A)
      → x < count w → ((p l v : ℕ) → p ≡ place_at w x → test (word_of text (kind_at w x) p l v) ≡ some a) → on test (drop x ws) g d ≡ g a (drop (x + 1) ws)
  unfolding on word_at
  on_at test g d x a i h = rw (M.word x i) (hit (ap (λ (k : ℕ). test (word_of text k (place_at w x) (long_at w x) (value_at w x))) (sym (kind_is w x i)) ∙ h _ _ _ refl))
    where
      hit : test (word_at text w x) ≡ some a → on test (word_at text w x ∷ drop (x + 1) ws) g d ≡ g a (drop (x + 1) ws)
      hit q = simp (on, q)

  module _ (f at : ℕ) where
    -- ---- operands

    module _ (n : Numeral) where
      number_copies : kind_at w at ≡ 38 → number_p ms (suc f) n (drop at ws) ≡ until (expr_p ms f false (drop (at + 1) ws)) "}" (λ e q x. ok (copies n e) x)
      unfolding expr_p on is_num is_name is_digits is is_prefix prefix_at prefix_in prefixes word_of spelled_words
      number_copies e = ap (number_p ms (suc f) n) (word M at 38 (omega arith) e)

    operand_named : kind_at w at ≡ 2 → operand_p ms (suc f) (drop at ws) ≡ named_p ms f (name_at text w at) (drop (at + 1) ws)
    unfolding expr_p on is_num is_name is_digits is is_prefix prefix_at prefix_in prefixes word_of spelled_words
    operand_named e = ap (operand_p ms (suc f)) (word M at 2 (omega arith) e)

    pub operand_inside : kind_at w at ≡ 36 → operand_p ms (suc f) (drop at ws) ≡ until (expr_p ms f false (drop (at + 1) ws)) ")" (λ e q x. part_p f (inside (place_at w at) e) x)
    unfolding expr_p on is_num is_name is_digits is is_prefix prefix_at prefix_in prefixes word_of spelled_words
    operand_inside e = ap (operand_p ms (suc f)) (word M at 36 (omega arith) e)

    pub operand_joined : kind_at w at ≡ 38 → operand_p ms (suc f) (drop at ws) ≡ bind (expr_p ms f false (drop (at + 1) ws)) (λ a x. until (part_l ms f a x) "}" (λ e q y. ok (joined (place_at w at) e) y))
    unfolding expr_p on is_num is_name is_digits is is_prefix prefix_at prefix_in prefixes word_of spelled_words
    operand_joined e = ap (operand_p ms (suc f)) (word M at 38 (omega arith) e)

    pub operand_case : kind_at w at ≡ 14 → operand_p ms (suc f) (drop at ws)
        ≡ expect "(" (drop (at + 1) ws) (λ q x. until (expr_p ms f false x) ")" (λ e s y. expect "{" y (λ t z. bind (arms_p ms f z) (λ c l. ok (select (place_at w at) e c) l))))
    unfolding expr_p on is_num is_name is_digits is is_prefix prefix_at prefix_in prefixes word_of spelled_words
    operand_case e = ap (operand_p ms (suc f)) (word M at 14 (omega arith) e)

    pub operand_unary : (k : ℕ) → at < count w → kind_at w at ≡ k → (z : Marks text k) → is_mark k ≡ true
        → operand_p ms (suc f) (drop at ws) ≡ bind (operand_p ms f (drop (at + 1) ws)) (λ e x. ok (unary (record { which = z.which; at = place_at w at }) e) x)
    unfolding expr_p
    operand_unary k i e z m = on_miss M is_num _ _ at (λ p l v. num_miss text p l v _ (λ q. not_one (sym e ∙ q))) ∙ off_is M "<" 48 at s_less _ _ (λ q. not_less (sym e ∙ q))
        ∙ on_miss M is_name _ _ at (λ p l v. name_miss text p l v _ (λ q. not_two (sym e ∙ q))) ∙ off_is M "(" 36 at s_open _ _ (λ q. not_open (sym e ∙ q)) ∙ off_is M "{" 38 at s_brace _ _ (λ q. not_brace (sym e ∙ q))
        ∙ on_at is_prefix _ _ at (record { which = z.which; at = place_at w at }) i (λ p l v q. rw (e, ← q) (z.here p l v))
      where
        not_one : k ≡ 1 → ⊥
        not_one = mark_not k 1 m not_mark_1

        not_two : k ≡ 2 → ⊥
        not_two = mark_not k 2 m not_mark_2

        not_less : k ≡ 48 → ⊥
        not_less = mark_not k 48 m not_mark_48

        not_open : k ≡ 36 → ⊥
        not_open = mark_not k 36 m not_mark_36

        not_brace : k ≡ 38 → ⊥
        not_brace = mark_not k 38 m not_mark_38

    pub operand_none : (kind_at w at ≡ 1 → ⊥) → (kind_at w at ≡ 2 → ⊥) → (kind_at w at ≡ 14 → ⊥) → (kind_at w at ≡ 36 → ⊥) → (kind_at w at ≡ 38 → ⊥) → (kind_at w at ≡ 48 → ⊥) → is_mark (kind_at w at) ≡ false
        → operand_p ms (suc f) (drop at ws) ≡ bad (drop at ws)
    unfolding expr_p
    operand_none h₁ h₂ h₃ h₄ h₅ h₆ h₇ = on_miss M is_num _ _ at (λ p l v. num_miss text p l v _ h₁) ∙ off_is M "<" 48 at s_less _ _ h₆ ∙ on_miss M is_name _ _ at (λ p l v. name_miss text p l v _ h₂)
        ∙ off_is M "(" 36 at s_open _ _ h₄ ∙ off_is M "{" 38 at s_brace _ _ h₅ ∙ on_miss M is_prefix _ _ at (λ p l v. mark_miss text p l v _ h₇) ∙ off_is M "case" 14 at s_case _ _ h₃

    -- ---- the parts of a concatenation, and arms

    module _ (a : Expr) where
      pub parts_more : kind_at w at ≡ 42 → part_l ms (suc f) a (drop at ws) ≡ bind (expr_p ms f false (drop (at + 1) ws)) (λ c x. part_l ms f (beside a c) x)
      unfolding expr_p
      parts_more e = on_is M "," 42 at s_comma _ _ e

      pub parts_stop : (kind_at w at ≡ 42 → ⊥) → part_l ms (suc f) a (drop at ws) ≡ ok a (drop at ws)
      unfolding expr_p
      parts_stop h = off_is M "," 42 at s_comma _ _ h

    pub arms_label : kind_at w at ≡ 1 → arms_p ms (suc f) (drop at ws)
        ≡ expect "=>" (drop (at + 1) ws) (λ p x. until (expr_p ms f true x) "|" (λ a q y. bind (arms_p ms f y) (λ c z. ok (arm (numeral_at w at) a c) z)))
    unfolding expr_p on is_num is_name is_digits is is_prefix prefix_at prefix_in prefixes word_of spelled_words
    arms_label e = ap (arms_p ms (suc f)) (word M at 1 (omega arith) e)

    pub arms_default : kind_at w at ≡ 22 → arms_p ms (suc f) (drop at ws) ≡ expect "=>" (drop (at + 1) ws) (λ q x. until (expr_p ms f false x) "}" (λ a s y. ok (default (place_at w at) a) y))
    unfolding expr_p on is_num is_name is_digits is is_prefix prefix_at prefix_in prefixes word_of spelled_words
    arms_default e = ap (arms_p ms (suc f)) (word M at 22 (omega arith) e)

    pub arms_none : (kind_at w at ≡ 1 → ⊥) → (kind_at w at ≡ 22 → ⊥) → arms_p ms (suc f) (drop at ws) ≡ bad (drop at ws)
    unfolding expr_p
    arms_none h g = on_miss M is_num _ _ at (λ p l v. num_miss text p l v _ h) ∙ off_is M "_" 22 at s_default _ _ g

    -- ---- expressions

    module _ (b : Bool) where
      pub expr_if : kind_at w at ≡ 15 → expr_p ms (suc f) b (drop at ws)
          ≡ until (expr_p ms f false (drop (at + 1) ws)) "then" (λ a q x. until (expr_p ms f false x) "else" (λ c s y. bind (expr_p ms f b y) (λ d z. ok (either (place_at w at) a c d) z)))
      unfolding expr_p
      expr_if e = on_is M "if" 15 at s_if _ _ e

      pub expr_bin : (kind_at w at ≡ 15 → ⊥) → expr_p ms (suc f) b (drop at ws) ≡ bind (bin_p ms f b loosest (drop at ws)) (λ a x. cond_l ms f b a x)
      unfolding expr_p
      expr_bin h = off_is M "if" 15 at s_if _ _ h

      pub bin_law : (n : ℕ) → bin_p ms (suc f) b n (drop at ws) ≡ bind (operand_p ms f (drop at ws)) (λ a x. bin_l ms f b n a x)
      unfolding expr_p
      bin_law n = refl

      module _ (a : Expr) where
        pub cond_more : kind_at w at ≡ 45 → cond_l ms (suc f) b a (drop at ws)
            ≡ until (expr_p ms f false (drop (at + 1) ws)) ":" (λ c q x. bind (bin_p ms f b loosest x) (λ d y. cond_l ms f b (choice a c d) y))
        unfolding expr_p
        cond_more e = on_is M "?" 45 at s_ask _ _ e

        pub cond_stop : (kind_at w at ≡ 45 → ⊥) → cond_l ms (suc f) b a (drop at ws) ≡ ok a (drop at ws)
        unfolding expr_p
        cond_stop h = off_is M "?" 45 at s_ask _ _ h

        pub bin_ends : (n : ℕ) → arm_ends b (drop at ws) ≡ true → bin_l ms (suc f) b n a (drop at ws) ≡ ok a (drop at ws)
        unfolding expr_p
        bin_ends n q = simp (bin_l, q)

        pub bin_stop : (n : ℕ) → arm_ends b (drop at ws) ≡ false → n ≤ level_of (kind_at w at) → bin_l ms (suc f) b n a (drop at ws) ≡ ok a (drop at ws)
        unfolding expr_p
        bin_stop n q h = simp (bin_l, q) (on_miss M (is_operator n) _ _ at (λ p l v. operator_miss text p l v _ n h))

        pub bin_more : (k n l : ℕ) → k ≡ kind_at w at → at < count w → arm_ends b (drop at ws) ≡ false → (z : Operates text k n) → l ≡ level_of k
            → bin_l ms (suc f) b n a (drop at ws) ≡ bind (bin_p ms f b l (drop (at + 1) ws)) (λ c x. bin_l ms f b n (binary z.operator.which a c) x)
        unfolding expr_p
        bin_more k n l e i q z h = simp (bin_l, q) (on_at (is_operator n) _ _ at z.operator i (λ p l v _. rw (← e) (z.here p l v))
            ∙ ap (λ (l : ℕ). bind (bin_p ms f b l (drop (at + 1) ws)) (λ c x. bin_l ms f b n (binary z.operator.which a c) x)) (sym (h ∙ z.level)))

  -- ---- operands that take two units of fuel

  module _ (f at : ℕ) where
    pub operand_copies : kind_at w at ≡ 1 → kind_at w (at + 1) ≡ 38 → operand_p ms (suc (suc f)) (drop at ws) ≡ until (expr_p ms f false (drop (at + 2) ws)) "}" (λ e q x. ok (copies (numeral_at w at) e) x)
    operand_copies e q = operand_number M (suc f) at e ∙ number_copies f (at + 1) (numeral_at w at) q ∙ ap (λ (y : ℕ). until (expr_p ms f false (drop y ws)) "}" (λ e q x. ok (copies (numeral_at w at) e) x)) two
      where
        two : at + 1 + 1 ≡ at + 2
        two = omega arith

    among_at : kind_at w at ≡ 2 → among ms (spelled_at text w at) ≡ is_memory (value_at w at)
    among_at e = let i = kind_inside w at 2 (omega arith) e in M.memory at i (sym (kind_is w at i) ∙ e)

    pub operand_cell : kind_at w at ≡ 2 → is_memory (value_at w at) ≡ true → operand_p ms (suc (suc f)) (drop at ws)
        ≡ expect "[" (drop (at + 1) ws) (λ p r. until (expr_p ms f false r) "]" (λ a q x. ok (cell (name_at text w at) a) x))
    unfolding expr_p
    operand_cell e q = operand_named (suc f) at e ∙ simp (named_p, among_at e ∙ q)

    pub operand_read : kind_at w at ≡ 2 → is_memory (value_at w at) ≡ false → operand_p ms (suc (suc f)) (drop at ws) ≡ part_p f (read (name_at text w at)) (drop (at + 1) ws)
    unfolding expr_p
    operand_read e q = operand_named (suc f) at e ∙ simp (named_p, among_at e ∙ q)
