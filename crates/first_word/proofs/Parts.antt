-- Laws of the `'` words, and of what stands first at a place. Assumes nothing.
use mathlib.Core.Path.{◌≡◌, refl, sym, ap, ◌∙◌}
use mathlib.Core.Bool.{Bool, true, false, ◌&&◌}
use mathlib.Core.List.{List, [], ◌∷◌}
use Prim.Native.Nat.{ℕ, zero, suc, ◌+◌, ◌≤◌, ◌<◌}
use native.Mathlib.Omega.{arith}
use native.Mathlib.Numerals.{add-one}
use lib.Dec.{eqb}
use lib.ListN.{length, drop, get_or, drop_of_length-le}
use lib.Seq.{drop-cons}
use borrow.Author.Tests.{eq-eqb, ne_eqb}
use Rattle.language.specs.Words.{fixed, over, apart, word, wrong, bytes, begins, span, digit, name_byte, digit_in, gap, base_of, named_next, quote_next, sign_next, number_next, name_next, next}
use Rattle.signs.specs.Kinds.{kind_in, spelled_words, numbers_of}
use Rattle.signs.specs.Tells.{Tells, is_word, is_wrong, is_over, is_apart}
use Rattle.signs.specs.declared.Item.TheVariants.{Word as IsWord, Apart, Wrong}

and_false : (t : Bool) → (t && false) ≡ false
and_false true = refl
and_false false = refl

empty : (l : List ℕ) → length l ≡ 0 → l ≡ []
empty [] e = refl
empty (a ∷ l) e = absurd (omega (arith, e))

-- ---- `'` words

pub quote_over : (text : List ℕ) (x : ℕ) → length text ≤ x → quote_next (drop x text) ≡ wrong
unfolding quote_next
quote_over text x h = rw (drop_of_length-le text h)

pub quote_split : (text : List ℕ) (at : ℕ) → at + 1 < length text → drop (at + 1) text ≡ get_or text (at + 1) 0 ∷ drop (at + 2) text
quote_split text at h = let e : suc (at + 1) ≡ at + 2 = omega arith in drop-cons text (at + 1) 0 h ∙ ap (λ (x : ℕ). get_or text (at + 1) 0 ∷ drop x text) e

module _ (b : ℕ) (r : List ℕ) where
  digits_next : (text : List ℕ) (at n : ℕ) → at + (n + 2) ≤ length text → n ≡ length (span (digit_in (base_of b)) r) → 0 < n → Tells text at (quote_next (b ∷ r)) (IsWord 3 (n + 2) 0)
  unfolding quote_next numbers_of
  digits_next text at n k e h = go (span (digit_in (base_of b)) r) refl
    where
      go : (l : List ℕ) → span (digit_in (base_of b)) r ≡ l → Tells text at (quote_next (b ∷ r)) (IsWord 3 (n + 2) 0)
      go [] s = absurd (omega (arith, e ∙ ap length s, h))
      go (d ∷ ds) s =
          let q : n + 2 ≡ 3 + length ds = omega (arith, e ∙ ap length s) in
          let h' : 0 < 3 + length ds = omega arith in
          let k' : at + (3 + length ds) ≤ length text = omega (arith, q, k) in
          rw q (simp (quote_next, s) (is_word h' k' (λ p. refl)))

  module _ (e : length (span (digit_in (base_of b)) r) ≡ 0) where
    other_next : (base_of b ≡ 10 → ⊥) → quote_next (b ∷ r) ≡ wrong
    unfolding quote_next
    other_next h = simp (quote_next, empty (span (digit_in (base_of b)) r) e) (rw (ne_eqb (base_of b) 10 h))

    unnamed_next : named_next r ≡ false → quote_next (b ∷ r) ≡ wrong
    unfolding quote_next
    unnamed_next f = simp (quote_next, empty (span (digit_in (base_of b)) r) e) (rw (f, and_false (eqb (base_of b) 10)))

    bare_next : base_of b ≡ 10 → named_next r ≡ true → quote_next (b ∷ r) ≡ word 2 (fixed "'d")
    unfolding quote_next
    bare_next q f = simp (quote_next, empty (span (digit_in (base_of b)) r) e) (rw (q, f))

bare_numbers : (p : ℕ) → numbers_of (fixed "'d" p) ≡ 23 ∷ p ∷ 2 ∷ 0 ∷ []
unfolding numbers_of kind_in spelled_words bytes
bare_numbers p = refl

module _ (text : List ℕ) (at : ℕ) where
  pub quote_wrong : length text ≤ at + 1 → Tells text at (quote_next (drop (at + 1) text)) Wrong
  quote_wrong h = rw (quote_over text (at + 1) h) is_wrong

  module _ (h : at + 1 < length text) where
    pub quote_digits : (n : ℕ) → at + 2 + n ≤ length text → n ≡ length (span (digit_in (base_of (get_or text (at + 1) 0))) (drop (at + 2) text)) → 0 < n → Tells text at (quote_next (drop (at + 1) text)) (IsWord 3 (n + 2) 0)
    quote_digits n k e z = rw (quote_split text at h) (digits_next _ (drop (at + 2) text) text at n (omega arith) e z)

    -- no digits of the base stand there
    module _ (base n : ℕ) (q : base ≡ base_of (get_or text (at + 1) 0)) (d : n ≡ length (span (digit_in base) (drop (at + 2) text))) (z : n ≤ 0) where
      none : length (span (digit_in (base_of (get_or text (at + 1) 0))) (drop (at + 2) text)) ≡ 0
      none = rw (← q) (omega arith)

      pub quote_other : (base ≡ 10 → ⊥) → Tells text at (quote_next (drop (at + 1) text)) Wrong
      quote_other b = rw (quote_split text at h, other_next _ (drop (at + 2) text) none (λ k. b (q ∙ k))) is_wrong

      pub quote_unnamed : named_next (drop (at + 2) text) ≡ false → Tells text at (quote_next (drop (at + 1) text)) Wrong
      quote_unnamed f = rw (quote_split text at h, unnamed_next _ (drop (at + 2) text) none f) is_wrong

      pub quote_named : base ≡ 10 → named_next (drop (at + 2) text) ≡ true → Tells text at (quote_next (drop (at + 1) text)) (IsWord 23 2 0)
      quote_named b f =
          let o : 0 < 2 = omega arith in
          let k : at + 2 ≤ length text = omega arith in
          rw (quote_split text at h, bare_next _ (drop (at + 2) text) none (sym q ∙ b) f) (is_word o k bare_numbers)

pub ruleset quote_laws = (quote_wrong, quote_digits)

-- ---- what stands first

pub next_over : (text : List ℕ) (at : ℕ) → length text ≤ at → next (drop at text) ≡ over
unfolding next
next_over text at h = rw (drop_of_length-le text h)

module _ (text : List ℕ) (at : ℕ) (h : at < length text) where
  pub next_apart : (n : ℕ) → gap (drop at text) ≡ suc n → next (drop at text) ≡ apart (suc n)
  unfolding next
  next_apart n e = rw (drop-cons text at 0 h) (simp (next, rw (drop-cons text at 0 h) at e))

  pub apart_tells : (n : ℕ) → 0 < n → n ≡ gap (drop at text) → at + n ≤ length text → Tells text at (next (drop at text)) (Apart n)
  apart_tells zero k e l = absurd (omega (arith, k))
  apart_tells (suc n) k e l = rw (next_apart n (sym e)) (is_apart k l)

  module _ (g : gap (drop at text) ≡ 0) where
    pub next_number : digit (get_or text at 0) ≡ true → next (drop at text) ≡ number_next (span digit (drop at text))
    unfolding next
    next_number e = rw (drop-cons text at 0 h) (simp (next, rw (drop-cons text at 0 h) at g, e))

    module _ (e : digit (get_or text at 0) ≡ false) where
      pub next_name : name_byte (get_or text at 0) ≡ true → next (drop at text) ≡ name_next (span name_byte (drop at text))
      unfolding next
      next_name f = rw (drop-cons text at 0 h) (simp (next, rw (drop-cons text at 0 h) at g, e, f))

      module _ (f : name_byte (get_or text at 0) ≡ false) where
        pub next_quote : get_or text at 0 ≡ 39 → next (drop at text) ≡ quote_next (drop (at + 1) text)
        unfolding next
        next_quote q = rw (drop-cons text at 0 h, add-one) (simp (next, rw (drop-cons text at 0 h) at g, e, f, eq-eqb _ _ q))

        module _ (q : get_or text at 0 ≡ 39 → ⊥) where
          pub next_open : begins (47 ∷ 42 ∷ []) (drop at text) ≡ true → next (drop at text) ≡ wrong
          unfolding next bytes
          next_open o = rw (drop-cons text at 0 h) (simp (next, rw (drop-cons text at 0 h) at g, e, f, ne_eqb _ _ q, rw (drop-cons text at 0 h) at o))

          pub next_sign : begins (47 ∷ 42 ∷ []) (drop at text) ≡ false → next (drop at text) ≡ sign_next (drop at text)
          unfolding next bytes
          next_sign o = rw (drop-cons text at 0 h) (simp (next, rw (drop-cons text at 0 h) at g, e, f, ne_eqb _ _ q, rw (drop-cons text at 0 h) at o))

pub ruleset word_laws = (next_number, next_name, next_quote, next_open, next_sign, is_wrong)

pub ruleset next_laws = (next_over, apart_tells, is_over)
