-- Laws of the signs. Assumes nothing.
use mathlib.Core.Path.{◌≡◌, refl, sym, ap, ◌∙◌}
use mathlib.Core.Bool.{Bool, true, false, ◌&&◌}
use mathlib.Core.List.{List, [], ◌∷◌, map}
use mathlib.Core.Option as first
use Prim.Native.Nat.{ℕ, ◌+◌, ◌≤◌, ◌<◌}
use Prim.Native.String.{String}
use native.Mathlib.Omega.{arith}
use lib.Dec.{ltb, eqb}
use lib.ListN.{length, drop, get_or, length-drop}
use borrow.Author.Tests.{ltb-true, eqb-true}
use lib.Seq.{drop-cons}
use denote.Bor.{Bor}
use Rattle.std.specs.Prelude.{Option, Some, None}
use Rattle.std.specs.Option.{option_map}
use Rattle.std.specs.List.{find, list_all}
use Rattle.language.specs.Text.{same}
use Rattle.language.specs.Words.{Next, fixed, word, wrong, bytes, begins, first_of_law, signs, sign_next}
use Rattle.spelling.proofs.Laws.{both_left, both_right}
use Rattle.spans.proofs.Spans.{begins_length}
use Rattle.signs.specs.Kinds.{kind_in, spelled_words, numbers_of, kinds_end}
use Rattle.signs.specs.Signs.{sign_bytes}
use Rattle.signs.specs.Tells.{Tells, is_word, is_wrong}
use Rattle.signs.specs.declared.Item.TheVariants.{Word as IsWord, Wrong}

-- a sign as it is shown
unfoldable pub shown : String → String
shown s = elim (same (bytes s) (bytes "^~")) [ true ↦ "~^" | false ↦ s ]

unfoldable pub kind_of : String → ℕ
kind_of s = 4 + kind_in spelled_words (shown s)

-- it has a byte at least, is as long as it is shown, and has a kind
unfoldable plain : String → Bool
plain s = ltb 0 (length (bytes s)) && eqb (length (bytes (shown s))) (length (bytes s)) && ltb (kind_of s) kinds_end

signs_plain : list_all plain signs ≡ true
unfolding plain shown signs bytes same kind_of kind_in spelled_words
signs_plain = refl

-- ---- the table: each sign with its kind

abbrev pub Row : Type 0
Row = ℕ × Option ℕ × ℕ

abbrev pub stands : List ℕ → ℕ → Row → Bool
stands text at x = begins (sign_bytes x.0 x.1) (drop at text)

abbrev pub reads : Row → List ℕ × ℕ
reads x = (sign_bytes x.0 x.1, x.2)

unfoldable pub row_of : String → List ℕ × ℕ
row_of s = (bytes s, kind_of s)

abbrev next_of : first.Option String → Next
next_of first.none = wrong
next_of (first.some s) = word (length (bytes s)) (fixed (shown s))

-- what is told by the row that is found: its kind and how many bytes it has
abbrev pub Told : List ℕ → ℕ → Next → Option Row → Type 0
Told text at n None = Tells text at n Wrong
Told text at n (Some x) = Tells text at n (IsWord x.2 (length (sign_bytes x.0 x.1)) 0) × (x.2 < kinds_end)

module _ (text : List ℕ) (at : ℕ) (h : at ≤ length text) where
  here : (x : Row) (s : String) → sign_bytes x.0 x.1 ≡ bytes s → x.2 ≡ kind_of s → plain s ≡ true → begins (bytes s) (drop at text) ≡ true → Told text at (word (length (bytes s)) (fixed (shown s))) (Some x)
  unfolding kind_of plain numbers_of
  here x s p q e f =
      let m = begins_length (bytes s) (drop at text) f in
      let shape = both_left (ltb 0 (length (bytes s)) && eqb (length (bytes (shown s))) (length (bytes s))) (ltb (kind_of s) kinds_end) e in
      let some = ltb-true _ _ (both_left (ltb 0 (length (bytes s))) (eqb (length (bytes (shown s))) (length (bytes s))) shape) in
      let long = eqb-true _ _ (both_right (ltb 0 (length (bytes s))) (eqb (length (bytes (shown s))) (length (bytes s))) shape) in
      let small = ltb-true _ _ (both_right (ltb 0 (length (bytes s)) && eqb (length (bytes (shown s))) (length (bytes s))) (ltb (kind_of s) kinds_end) e) in
      let inside : at + length (bytes s) ≤ length text = omega (arith, m, length-drop at text) in
      let told : (k : ℕ) → numbers_of (fixed (shown s) k) ≡ kind_of s ∷ k ∷ length (bytes s) ∷ 0 ∷ [] = λ k. rw long in
      rw (p, q) (is_word some inside told, small)

  found : (l : List Row) (ss : List String) → map reads l ≡ map row_of ss → list_all plain ss ≡ true → Told text at (next_of (first_of_law ss (λ s. begins s (drop at text)))) (find (stands text at) l)
  unfolding first_of_law row_of
  found [] [] e a = is_wrong
  found [] (s ∷ ss) e a = cc
  found (x ∷ l) [] e a = cc
  found (x ∷ l) (s ∷ ss) e a = go (found l ss rest (both_right (plain s) (list_all plain ss) a)) (begins (bytes s) (drop at text)) refl
    where
      both : reads x ≡ row_of s
      both = cc

      p : sign_bytes x.0 x.1 ≡ bytes s
      p = ap (λ (w : List ℕ × ℕ). w.0) both

      q : x.2 ≡ kind_of s
      q = ap (λ (w : List ℕ × ℕ). w.1) both

      rest : map reads l ≡ map row_of ss
      rest = cc

      go : Told text at (next_of (first_of_law ss (λ w. begins w (drop at text)))) (find (stands text at) l) → (t : Bool) → begins (bytes s) (drop at text) ≡ t → Told text at (next_of (first_of_law (s ∷ ss) (λ w. begins w (drop at text)))) (find (stands text at) (x ∷ l))
      go r true f = let g : stands text at x ≡ true = ap (λ (w : List ℕ). begins w (drop at text)) p ∙ f in simp (first_of_law, f, g) (here x s p q (both_left (plain s) (list_all plain ss) a) f)
      go r false f = let g : stands text at x ≡ false = ap (λ (w : List ℕ). begins w (drop at text)) p ∙ f in simp (first_of_law, f, g) r

-- what is found in a table of the signs, the longest first, is what stands at the place
pub sign_found : (text : List ℕ) (at : ℕ) (l : List Row) (r o : Option (Bor Row)) → at ≤ length text → map reads l ≡ map row_of signs → option_map (λ x. x.now) r ≡ find (stands text at) l → r ≡ o → Told text at (sign_next (drop at text)) (option_map (λ x. x.now) o)
unfolding sign_next shown
sign_found text at l r o h e f g = rw (sym g, f) (found text at h l signs e signs_plain)

-- ---- whether a row's sign stands at a place

pub begins_one : (text : List ℕ) (at a : ℕ) → at < length text → begins (a ∷ []) (drop at text) ≡ eqb a (get_or text at 0)
unfolding begins
begins_one text at a h = rw (drop-cons text at 0 h) (simp (begins, and_true))
  where
    and_true : (t : Bool) → (t && true) ≡ t
    and_true true = refl
    and_true false = refl
