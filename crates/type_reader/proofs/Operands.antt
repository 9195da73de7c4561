-- Constants and bit positions: what of an operand holds no expression, as the reader of lists has it at a word of each kind. Assumes nothing.
use mathlib.Core.Path.{◌≡◌, refl, sym, ap, ◌∙◌}
use mathlib.Core.List.{List}
use Prim.Native.Nat.{ℕ, suc, ◌+◌, ◌-◌}
use native.Mathlib.Omega.{arith}
use lib.ListN.{drop, take, get_or}
use Rattle.language.specs.Words.{Word, Numeral, value_in_base, base_of}
use Rattle.language.specs.Tree.{Ty, Breadth, bits, given, value, Expr, plain, sized, bit, range}
use Rattle.language.specs.Grammar.{prefixes, prefix_in}
use Rattle.language.specs.Reader.{ok, bad, bind, on, is, is_num, is_name, is_digits, expect, until}
use Rattle.language.specs.Parser.{type_p, part_p, amount_p, expr_p, operand_p, number_p, is_prefix, prefix_at}
use Rattle.signs.specs.Kinds.{spelled_words}
use Rattle.words.specs.Table.{word_of}
use Rattle.readers.specs.Marks.{kind_at, place_at, long_at, numeral_at, name_at, Marked}
use Rattle.type_reader.specs.Types.{positions_p, Valued}
use Rattle.readers.specs.Meets.{Finds, Lacks}
use Rattle.readers.proofs.Spells.{word, word_found, on_found, on_miss, on_is, off_is, expect_at, expect_bad, name_miss, digits_miss}
use Rattle.readers.proofs.Fixed.{s_value, s_brace, s_bracket, s_unbracket, s_colon}

-- the digits of a constant, as the table has them
abbrev pub digits_at : List ℕ → List ℕ → ℕ → Numeral
digits_at text w x = record { at = place_at w x; value = value_in_base (base_of (get_or text (place_at w x + 1) 0)) 0 (take (long_at w x - 2) (drop (place_at w x + 2) text)); long = long_at w x }

module _ {text : List ℕ} {ms : List (List ℕ)} {w : List ℕ} {ws : List Word} (M : Marked text ms w ws) where
  module _ (b : Breadth) (x : ℕ) where
    pub amount_given : kind_at w x ≡ 3 → amount_p b (drop x ws) ≡ ok (sized b (given (digits_at text w x))) (drop (x + 1) ws)
    unfolding amount_p on is_digits word_of
    amount_given e = ap (amount_p b) (word M x 3 (omega arith) e)

    pub amount_none : {i : ℕ} → (kind_at w x ≡ 3 → ⊥) → Lacks w x 23 i → amount_p b (drop x ws) ≡ bad (drop i ws)
    unfolding amount_p
    amount_none h g = on_miss M is_digits _ _ x (λ p l v. digits_miss text p l v _ h) ∙ expect_bad M "'d" 23 x s_value _ g.kind ∙ ap (λ (y : ℕ). bad (drop y ws)) (sym g.stays)

    value_name : {y : ℕ} → Finds w x 23 y → amount_p b (drop x ws) ≡ on is_name (drop y ws) (λ n y. ok (sized b (value n)) y) (λ r. bad r)
    unfolding amount_p on is_digits is expect word_of spelled_words
    value_name f = ap (amount_p b) (word_found M x 23 (omega arith) f)

    pub amount_value : {y z : ℕ} → Finds w x 23 y → Finds w y 2 z → amount_p b (drop x ws) ≡ ok (sized b (value (name_at text w y))) (drop z ws)
    unfolding on is_name word_of
    amount_value {y = y} f g = value_name f ∙ ap (λ (l : List Word). on is_name l (λ n y. ok (sized b (value n)) y) (λ r. bad r)) (word_found M y 2 (omega arith) g)

    pub amount_bad : {y i : ℕ} → Finds w x 23 y → Lacks w y 2 i → amount_p b (drop x ws) ≡ bad (drop i ws)
    amount_bad {y = y} f g = value_name f ∙ on_miss M is_name _ _ y (λ p l v. name_miss text p l v _ g.kind) ∙ ap (λ (y : ℕ). bad (drop y ws)) (sym g.stays)

  module _ (f x : ℕ) (e₀ : Expr) where
    pub part_more : kind_at w x ≡ 40 → part_p f e₀ (drop x ws) ≡ bind (type_p f (drop (x + 1) ws)) (λ i y. positions_p f (place_at w x) e₀ i y)
    unfolding part_p positions_p
    part_more e = on_is M "[" 40 x s_bracket _ _ e

    pub part_stop : (kind_at w x ≡ 40 → ⊥) → part_p f e₀ (drop x ws) ≡ ok e₀ (drop x ws)
    unfolding part_p
    part_stop h = off_is M "[" 40 x s_bracket _ _ h

    module _ (p : ℕ) (i : Ty) where
      pub positions_range : {y : ℕ} → Finds w x 44 y → positions_p f p e₀ i (drop x ws) ≡ until (type_p f (drop y ws)) "]" (λ j s z. ok (range e₀ p i j) z)
      unfolding positions_p
      positions_range g = on_found M s_colon _ _ g

      pub positions_bit : kind_at w x ≡ 41 → positions_p f p e₀ i (drop x ws) ≡ ok (bit e₀ p i) (drop (x + 1) ws)
      unfolding positions_p
      positions_bit e = off_is M ":" 44 x s_colon _ _ (λ q. other q e) ∙ expect_at M "]" 41 x s_unbracket (x + 1) _ e refl
        where
          other : {k : ℕ} → k ≡ 44 → k ≡ 41 → ⊥
          other p q = omega arith

      pub positions_none : {j : ℕ} → Lacks w x 44 j → (kind_at w x ≡ 41 → ⊥) → positions_p f p e₀ i (drop x ws) ≡ bad (drop j ws)
      unfolding positions_p
      positions_none h g = off_is M ":" 44 x s_colon _ _ h.kind ∙ expect_bad M "]" 41 x s_unbracket _ g ∙ ap (λ (y : ℕ). bad (drop y ws)) (sym h.stays)

  module _ (f at : ℕ) where
    pub operand_number : kind_at w at ≡ 1 → operand_p ms (suc f) (drop at ws) ≡ number_p ms f (numeral_at w at) (drop (at + 1) ws)
    unfolding expr_p on is_num word_of
    operand_number e = ap (operand_p ms (suc f)) (word M at 1 (omega arith) e)

    module _ (n : Numeral) where
      number_given : kind_at w at ≡ 3 → number_p ms (suc f) n (drop at ws) ≡ amount_p (bits n) (drop at ws)
      unfolding expr_p on is_num is_name is_digits is is_prefix prefix_at prefix_in prefixes word_of spelled_words amount_p expect
      number_given e = ap (number_p ms (suc f) n) (word M at 3 (omega arith) e) ∙ sym (ap (amount_p (bits n)) (word M at 3 (omega arith) e))

      number_value : kind_at w at ≡ 23 → number_p ms (suc f) n (drop at ws) ≡ amount_p (bits n) (drop at ws)
      unfolding expr_p on is_num is_name is_digits is is_prefix prefix_at prefix_in prefixes word_of spelled_words amount_p expect
      number_value e = ap (number_p ms (suc f) n) (word M at 23 (omega arith) e) ∙ sym (ap (amount_p (bits n)) (word M at 23 (omega arith) e))

      number_plain : (kind_at w at ≡ 3 → ⊥) → (kind_at w at ≡ 23 → ⊥) → (kind_at w at ≡ 38 → ⊥) → number_p ms (suc f) n (drop at ws) ≡ ok (plain n) (drop at ws)
      unfolding expr_p
      number_plain h₁ h₂ h₃ = on_miss M is_digits _ _ at (λ p l v. digits_miss text p l v _ h₁) ∙ off_is M "'d" 23 at s_value _ _ h₂ ∙ off_is M "{" 38 at s_brace _ _ h₃

    pub operand_typed : kind_at w at ≡ 48 → operand_p ms (suc f) (drop at ws) ≡ until (type_p f (drop (at + 1) ws)) ">" (λ t q x. amount_p (Breadth.typed (place_at w at) t) x)
    unfolding expr_p on is_num is_name is_digits is is_prefix prefix_at prefix_in prefixes word_of spelled_words
    operand_typed e = ap (operand_p ms (suc f)) (word M at 48 (omega arith) e)

  -- ---- operands that take two units of fuel

  module _ (f at : ℕ) where
    pub operand_given : kind_at w at ≡ 1 → kind_at w (at + 1) ≡ 3 → operand_p ms (suc (suc f)) (drop at ws) ≡ amount_p (bits (numeral_at w at)) (drop (at + 1) ws)
    operand_given e q = operand_number (suc f) at e ∙ number_given f (at + 1) (numeral_at w at) q

    pub operand_value : kind_at w at ≡ 1 → kind_at w (at + 1) ≡ 23 → operand_p ms (suc (suc f)) (drop at ws) ≡ amount_p (bits (numeral_at w at)) (drop (at + 1) ws)
    operand_value e q = operand_number (suc f) at e ∙ number_value f (at + 1) (numeral_at w at) q

    pub operand_width : kind_at w at ≡ 1 → Valued w (at + 1) → operand_p ms (suc (suc f)) (drop at ws) ≡ amount_p (bits (numeral_at w at)) (drop (at + 1) ws)
    operand_width e (Valued.digits q) = operand_given e q
    operand_width e (Valued.named q) = operand_value e q

    pub operand_plain : kind_at w at ≡ 1 → (kind_at w (at + 1) ≡ 3 → ⊥) → (kind_at w (at + 1) ≡ 23 → ⊥) → (kind_at w (at + 1) ≡ 38 → ⊥)
        → operand_p ms (suc (suc f)) (drop at ws) ≡ ok (plain (numeral_at w at)) (drop (at + 1) ws)
    operand_plain e h₁ h₂ h₃ = operand_number (suc f) at e ∙ number_plain f (at + 1) (numeral_at w at) h₁ h₂ h₃
