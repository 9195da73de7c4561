-- Whether an arm's expression ends at a word, by the kinds of the words. Assumes nothing.
use mathlib.Core.Path.{◌≡◌, refl, sym, ap, ◌∙◌}
use mathlib.Core.Bool.{Bool, true, false}
use mathlib.Core.List.{List, [], ◌∷◌}
use mathlib.Core.Option.{none, some}
use Prim.Native.Nat.{ℕ, ◌+◌, ◌≤◌}
use Prim.Native.String.{String}
use native.Mathlib.Omega.{arith}
use lib.Dec.{eqb, ltb}
use lib.ListN.{drop}
use borrow.Author.Tests.{ne_eqb, ltb-true, ltb-false}
use Rattle.language.specs.Words.{Word}
use Rattle.language.specs.Reader.{is, is_num}
use Rattle.language.specs.Parser.{is_word, ahead, arm_ends}
use Rattle.signs.specs.Kinds.{spelled_words}
use Rattle.words.specs.Table.{word_of, word_at}
use Rattle.readers.specs.Marks.{count, kind_at, place_at, long_at, value_at, Marked}
use Rattle.readers.proofs.Spells.{Spells, word, past, kind_is, kind_past, is_as, num_miss, is_miss, one_or}
use Rattle.readers.proofs.Fixed.{s_default, s_arrow, s_bar}

pub ends_off : (b : Bool) (ws : List Word) → b ≡ false → false ≡ arm_ends b ws
unfolding arm_ends
ends_off b ws e = rw e refl

module _ {text : List ℕ} {ms : List (List ℕ)} {w : List ℕ} {ws : List Word} (M : Marked text ms w ws) where
  -- a function of the words at an index, by the kind there
  by_kind : {A : Type 0} (F : List Word → A) (G : ℕ → A) (x : ℕ) → F [] ≡ G 0 → ((p l v : ℕ) (r : List Word) → F (word_of text (kind_at w x) p l v ∷ r) ≡ G (kind_at w x)) → F (drop x ws) ≡ G (kind_at w x)
  unfolding word_at
  by_kind F G x e h = go (ltb x (count w)) refl
    where
      go : (b : Bool) → ltb x (count w) ≡ b → F (drop x ws) ≡ G (kind_at w x)
      go true q = let i = ltb-true x (count w) q in
          ap F (M.word x i ∙ ap (λ (k : ℕ). word_of text k (place_at w x) (long_at w x) (value_at w x) ∷ drop (x + 1) ws) (sym (kind_is w x i))) ∙ h (place_at w x) (long_at w x) (value_at w x) (drop (x + 1) ws)
      go false q = ap F (past M x (ltb-false x (count w) q)) ∙ e ∙ sym (ap G (kind_past w x (ltb-false x (count w) q)))

  word_kind : (s : String) (j x : ℕ) → Spells s j → is_word s (drop x ws) ≡ eqb (kind_at w x) j
  unfolding is_word
  word_kind s j x sp = by_kind (is_word s) (λ (k : ℕ). eqb k j) x (sym (ne_eqb 0 j (no sp.kind))) (λ p l v r. rw (is_word, is_as text p l v s j (kind_at w x) sp) (go (eqb (kind_at w x) j) p))
    where
      no : 1 ≤ j → 0 ≡ j → ⊥
      no h q = omega arith

      go : (b : Bool) (p : ℕ) → elim (one_or b p) [ some p ↦ true | none ↦ false ] ≡ b
      go true p = refl
      go false p = refl

  ends_bar : (x : ℕ) → kind_at w x ≡ 53 → arm_ends true (drop x ws) ≡ ahead (drop (x + 1) ws)
  unfolding arm_ends is word_of spelled_words
  ends_bar x e = ap (arm_ends true) (word M x 53 (omega arith) e)

  pub ends_no : (x : ℕ) (b : Bool) → b ≡ true → (kind_at w x ≡ 53 → ⊥) → false ≡ arm_ends b (drop x ws)
  unfolding arm_ends
  ends_no x b e h = rw e (sym (by_kind (arm_ends true) (λ (k : ℕ). false) x refl (λ p l v r. rw (arm_ends, is_miss text p l v "|" 53 (kind_at w x) s_bar h) refl)))

  ahead_number : (x : ℕ) → kind_at w x ≡ 1 → ahead (drop x ws) ≡ is_word "=>" (drop (x + 1) ws)
  unfolding ahead is_num word_of
  ahead_number x e = ap ahead (word M x 1 (omega arith) e)

  ahead_other : (x : ℕ) → (kind_at w x ≡ 1 → ⊥) → ahead (drop x ws) ≡ is_word "_" (drop x ws)
  unfolding ahead is_word word_at
  ahead_other x h = go (ltb x (count w)) refl
    where
      at_word : (y : Word) (r : List Word) → is_num y ≡ none → ahead (y ∷ r) ≡ is_word "_" (y ∷ r)
      at_word y r q = simp (ahead, q)

      go : (b : Bool) → ltb x (count w) ≡ b → ahead (drop x ws) ≡ is_word "_" (drop x ws)
      go true q = let i = ltb-true x (count w) q in
          rw (M.word x i) (at_word (word_at text w x) (drop (x + 1) ws) (ap (λ (k : ℕ). is_num (word_of text k (place_at w x) (long_at w x) (value_at w x))) (sym (kind_is w x i)) ∙ num_miss text (place_at w x) (long_at w x) (value_at w x) (kind_at w x) h))
      go false q = rw (past M x (ltb-false x (count w) q)) refl

  pub ends_number : (x : ℕ) (b : Bool) (k : ℕ) → b ≡ true → kind_at w x ≡ 53 → kind_at w (x + 1) ≡ 1 → k ≡ kind_at w (x + 2) → eqb k 24 ≡ arm_ends b (drop x ws)
  ends_number x b k e h q z = rw (e, z) (sym (ends_bar x h ∙ ahead_number (x + 1) q ∙ word_kind "=>" 24 (x + 1 + 1) s_arrow ∙ ap (λ (y : ℕ). eqb (kind_at w y) 24) two))
    where
      two : x + 1 + 1 ≡ x + 2
      two = omega arith

  pub ends_default : (x : ℕ) (b : Bool) (k : ℕ) → b ≡ true → kind_at w x ≡ 53 → (kind_at w (x + 1) ≡ 1 → ⊥) → k ≡ kind_at w (x + 1) → eqb k 22 ≡ arm_ends b (drop x ws)
  ends_default x b k e h q z = rw (e, z) (sym (ends_bar x h ∙ ahead_other (x + 1) q ∙ word_kind "_" 22 (x + 1) s_default))
