-- The marks of names: the memories on the tape, and that a table whose names are remarked is a marked table. Assumes nothing.
use mathlib.Core.Path.{◌≡◌, refl, sym, ap, ◌∙◌}
use mathlib.Core.Bool.{Bool, true, false, ◌&&◌, ◌||◌}
use mathlib.Core.List.{List, [], ◌∷◌}
use Prim.Native.Nat.{ℕ, zero, suc, ◌+◌, ◌*◌, ◌≤◌, ◌<◌}
use native.Mathlib.Omega.{arith}
use mir.Val.{bool_byte}
use lib.Dec.{eqb}
use lib.ListN.{length, get_or, set, take, drop, length-set}
use lib.Seq.{get_or-set_same, get_or-set_other}
use borrow.Author.Tests.{eq-eqb, ne_eqb, eqb-true, eqb-false}
use Rattle.language.specs.Text.{same, among}
use Rattle.language.specs.Words.{Word, bytes, span, name_byte}
use Rattle.std.specs.List.{list_any}
use Rattle.std.specs.Cmp.Lexicographic.{pointwise}
use Rattle.std.specs.Simd.{first_chunks}
use Rattle.words.specs.Table.{word_of, word_at}
use Rattle.spelling.proofs.Laws.{same_eq}
use Rattle.tape.specs.Tape.{MEMORY, one_if}
use Rattle.readers.specs.Marks.{count, place_at, long_at, value_at, spelled_at, is_p, is_type, is_memory, Marked}
use Rattle.name_marks.specs.Marking.{WordsHeld, spelled_mark, name_mark, IsSpelled, Remarked, places_on, runs_at}

-- ---- std's `==` on bytes

eqb_back : (a b : ℕ) → eqb a b ≡ eqb b a
eqb_back a b = go (eqb b a) refl
  where
    go : (c : Bool) → eqb b a ≡ c → eqb a b ≡ c
    go true q = eq-eqb a b (sym (eqb-true b a q))
    go false q = ne_eqb a b (λ e. eqb-false b a q (sym e))

pub same_std : (s t : List ℕ) → pointwise eqb s t ≡ same s t
unfolding same
same_std [] [] = refl
same_std [] (b ∷ t) = refl
same_std (a ∷ s) [] = refl
same_std (a ∷ s) (b ∷ t) = ap (λ (x : Bool). eqb a b && x) (same_std s t)

pub same_back : (s t : List ℕ) → same s t ≡ same t s
unfolding same
same_back [] [] = refl
same_back [] (b ∷ t) = refl
same_back (a ∷ s) [] = refl
same_back (a ∷ s) (b ∷ t) = let e = eqb_back a b in let h = same_back s t in cc

-- ---- the mark of a spelling

module _ {s : List ℕ} where
  pub spelled_p : same (bytes "p") s ≡ true → IsSpelled s 1
  unfolding spelled_mark
  spelled_p e = record { is = sym (simp (spelled_mark, e)); small = omega arith }

  module _ (e : same (bytes "p") s ≡ false) where
    pub spelled_type : same (bytes "type") s ≡ true → IsSpelled s 2
    unfolding spelled_mark
    spelled_type q = record { is = sym (simp (spelled_mark, e, q)); small = omega arith }

    pub spelled_other : same (bytes "type") s ≡ false → IsSpelled s 0
    unfolding spelled_mark
    spelled_other q = record { is = sym (simp (spelled_mark, e, q)); small = omega arith }

pub one_byte : (b : Bool) → bool_byte b ≡ one_if b
unfolding one_if
one_byte true = refl
one_byte false = refl

-- ---- the memories on the tape

module _ (op p v : ℕ) (l : List ℕ) where
  pub places_memory : op ≡ MEMORY → places_on (op ∷ p ∷ v ∷ l) ≡ p ∷ places_on l
  unfolding places_on
  places_memory e = ap (λ (b : Bool). elim b as (λ (x : Bool). List ℕ) [ true ↦ p ∷ places_on l | false ↦ places_on l ]) (eq-eqb op MEMORY e)

  pub places_other : (op ≡ MEMORY → ⊥) → places_on (op ∷ p ∷ v ∷ l) ≡ places_on l
  unfolding places_on
  places_other e = ap (λ (b : Bool). elim b as (λ (x : Bool). List ℕ) [ true ↦ p ∷ places_on l | false ↦ places_on l ]) (ne_eqb op MEMORY e)

-- an item is a memory of a name
abbrev pub is_item : List ℕ → List ℕ → List ℕ → Bool
is_item text name item = eqb (get_or item 0 0) MEMORY && same (span name_byte (drop (get_or item 1 0) text)) name

-- an item of the tape is three numbers: the items with a memory of a name, and the memories
pub item_among : (text name : List ℕ) (k : ℕ) (l : List ℕ) → 3 * k ≤ length l → length l < 3 * k + 3 → list_any (is_item text name) (first_chunks 3 k l) ≡ among (runs_at text (places_on l)) name
unfolding places_on among runs_at
item_among text name zero [] h g = refl
item_among text name zero (a ∷ []) h g = refl
item_among text name zero (a ∷ b ∷ []) h g = refl
item_among text name zero (a ∷ b ∷ c ∷ l) h g = absurd (omega arith)
item_among text name (suc k) [] h g = absurd (omega arith)
item_among text name (suc k) (a ∷ []) h g = absurd (omega arith)
item_among text name (suc k) (a ∷ b ∷ []) h g = absurd (omega arith)
item_among text name (suc k) (op ∷ p ∷ v ∷ l) h g = go (eqb op MEMORY) (item_among text name k l (omega arith) (omega arith))
  where
    go : (b : Bool) → list_any (is_item text name) (first_chunks 3 k l) ≡ among (runs_at text (places_on l)) name
        → ((b && same (span name_byte (drop p text)) name) || list_any (is_item text name) (first_chunks 3 k l)) ≡ among (runs_at text (elim b [ true ↦ p ∷ places_on l | false ↦ places_on l ])) name
    go true q = here (same (span name_byte (drop p text)) name)
      where
        here : (b : Bool) → (b || list_any (is_item text name) (first_chunks 3 k l)) ≡ elim b [ true ↦ true | false ↦ among (runs_at text (places_on l)) name ]
        here true = refl
        here false = q
    go false q = q

-- ---- a pass over the words

module _ {text : List ℕ} {ms : List (List ℕ)} where
  pub remarked_start : {w : List ℕ} → Remarked text ms 0 w w
  remarked_start = record { size = refl; kind = λ j. refl; place = λ j. refl; long = λ j. refl; named = λ j h e. absurd (omega arith); other = λ j e. refl; later = λ j h. refl }

  module _ {i : ℕ} {w w' : List ℕ} (r : Remarked text ms i w w') where
    remarked_name : {v : ℕ} → get_or w (4 * i) 0 ≡ 2 → 4 * i + 3 < length w' → v ≡ name_mark ms (spelled_at text w i) → Remarked text ms (i + 1) w (set w' (4 * i + 3) v)
    remarked_name {v} k h e = record {
      size = length-set w' (4 * i + 3) v ∙ r.size;
      kind = λ j. get_or-set_other w' (4 * i + 3) (4 * j) v 0 (λ q. omega arith) ∙ r.kind j;
      place = λ j. get_or-set_other w' (4 * i + 3) (4 * j + 1) v 0 (λ q. omega arith) ∙ r.place j;
      long = λ j. get_or-set_other w' (4 * i + 3) (4 * j + 2) v 0 (λ q. omega arith) ∙ r.long j;
      named = λ j l q. this j (eqb j i) refl l q;
      other = λ j q. apart j (λ z. q (ap (λ (j : ℕ). get_or w (4 * j) 0) z ∙ k)) ∙ r.other j q;
      later = λ j l. apart j (λ z. omega arith) ∙ r.later j (omega arith);
    }
      where
        apart : (j : ℕ) → (j ≡ i → ⊥) → get_or (set w' (4 * i + 3) v) (4 * j + 3) 0 ≡ get_or w' (4 * j + 3) 0
        apart j q = get_or-set_other w' (4 * i + 3) (4 * j + 3) v 0 (λ z. q (omega arith))

        this : (j : ℕ) (b : Bool) → eqb j i ≡ b → j < i + 1 → get_or w (4 * j) 0 ≡ 2 → get_or (set w' (4 * i + 3) v) (4 * j + 3) 0 ≡ name_mark ms (spelled_at text w j)
        this j true q l g = rw (eqb-true j i q) (get_or-set_same w' (4 * i + 3) v 0 h ∙ e)
        this j false q l g = apart j (eqb-false j i q) ∙ r.named j (let z = eqb-false j i q in less z) g
          where
            less : (j ≡ i → ⊥) → j < i
            less z = omega arith

    -- the same by what stands in the table so far
    pub remarked_word : {v at long : ℕ} → get_or w' (4 * i) 0 ≡ 2 → 4 * i + 3 < length w' → at ≡ place_at w' i → long ≡ long_at w' i → v ≡ name_mark ms (take long (drop at text)) → Remarked text ms (i + 1) w (set w' (4 * i + 3) v)
    remarked_word k h p l e = remarked_name (sym (r.kind i) ∙ k) h (e ∙ ap (name_mark ms) (let a = p ∙ r.place i in let b = l ∙ r.long i in cc))

    pub remarked_skip : (get_or w' (4 * i) 0 ≡ 2 → ⊥) → Remarked text ms (i + 1) w w'
    remarked_skip k = record { size = r.size; kind = r.kind; place = r.place; long = r.long; named = λ j l q. r.named j (less j q l) q; other = r.other; later = λ j l. r.later j (omega arith) }
      where
        differ : (j : ℕ) → get_or w (4 * j) 0 ≡ 2 → j ≡ i → ⊥
        differ j q z = k (r.kind i ∙ ap (λ (j : ℕ). get_or w (4 * j) 0) (sym z) ∙ q)

        less : (j : ℕ) → get_or w (4 * j) 0 ≡ 2 → j < i + 1 → j < i
        less j q l = go (differ j q)
          where
            go : (j ≡ i → ⊥) → j < i
            go z = omega arith

-- ---- what the marks say

module _ (ms : List (List ℕ)) (s : List ℕ) where
  p_no_type : same (bytes "p") s ≡ true → same (bytes "type") s ≡ false
  unfolding bytes same
  p_no_type e = ap (same (bytes "type")) (sym (same_eq (bytes "p") s e))

  marked_by : (p t m : Bool) → same (bytes "p") s ≡ p → same (bytes "type") s ≡ t → among ms s ≡ m → (same (bytes "p") s ≡ is_p (name_mark ms s)) × (same (bytes "type") s ≡ is_type (name_mark ms s)) × (among ms s ≡ is_memory (name_mark ms s))
  unfolding name_mark spelled_mark one_if is_p is_type is_memory
  marked_by true t true e f g = (e ∙ simp (name_mark, spelled_mark, e, g), p_no_type e ∙ simp (name_mark, spelled_mark, e, g), g ∙ simp (name_mark, spelled_mark, e, g))
  marked_by true t false e f g = (e ∙ simp (name_mark, spelled_mark, e, g), p_no_type e ∙ simp (name_mark, spelled_mark, e, g), g ∙ simp (name_mark, spelled_mark, e, g))
  marked_by false true true e f g = (e ∙ simp (name_mark, spelled_mark, e, f, g), f ∙ simp (name_mark, spelled_mark, e, f, g), g ∙ simp (name_mark, spelled_mark, e, f, g))
  marked_by false true false e f g = (e ∙ simp (name_mark, spelled_mark, e, f, g), f ∙ simp (name_mark, spelled_mark, e, f, g), g ∙ simp (name_mark, spelled_mark, e, f, g))
  marked_by false false true e f g = (e ∙ simp (name_mark, spelled_mark, e, f, g), f ∙ simp (name_mark, spelled_mark, e, f, g), g ∙ simp (name_mark, spelled_mark, e, f, g))
  marked_by false false false e f g = (e ∙ simp (name_mark, spelled_mark, e, f, g), f ∙ simp (name_mark, spelled_mark, e, f, g), g ∙ simp (name_mark, spelled_mark, e, f, g))

  marks : (same (bytes "p") s ≡ is_p (name_mark ms s)) × (same (bytes "type") s ≡ is_type (name_mark ms s)) × (among ms s ≡ is_memory (name_mark ms s))
  marks = marked_by (same (bytes "p") s) (same (bytes "type") s) (among ms s) refl refl refl

module _ {text : List ℕ} {ms : List (List ℕ)} {w w' : List ℕ} (r : Remarked text ms (count w) w w') where
  pub same_count : count w' ≡ count w
  unfolding count
  same_count = r.kind 8192

  same_spelling : (i : ℕ) → spelled_at text w' i ≡ spelled_at text w i
  same_spelling i = let p = r.place i in let l = r.long i in cc

  same_word : (i : ℕ) → word_at text w i ≡ word_at text w' i
  unfolding word_at word_of
  same_word i = go (eqb (get_or w (4 * i) 0) 2) refl (r.kind i) (r.place i) (r.long i)
    where
      go : (b : Bool) → eqb (get_or w (4 * i) 0) 2 ≡ b → get_or w' (4 * i) 0 ≡ get_or w (4 * i) 0 → place_at w' i ≡ place_at w i → long_at w' i ≡ long_at w i → word_at text w i ≡ word_at text w' i
      go true e k p l = rw (k, p, l, eqb-true (get_or w (4 * i) 0) 2 e)
      go false e k p l = rw (k, p, l, r.other i (eqb-false _ _ e))

  module _ {ws : List Word} (H : WordsHeld text w ws) where
    same_words : (i : ℕ) → i < count w → drop i ws ≡ word_at text w' i ∷ drop (i + 1) ws
    same_words i h = H.word i h ∙ ap (λ (x : Word). x ∷ drop (i + 1) ws) (same_word i)

    inside : (i : ℕ) → i < count w' → i < count w
    inside i h = let e = same_count in omega arith

    pub held_again : WordsHeld text w' ws
    held_again = record {
      lexed = H.lexed;
      many = H.many ∙ sym same_count;
      word = λ i h. same_words i (inside i h);
    }

    by_mark : (i : ℕ) → i < count w' → get_or w' (4 * i) 0 ≡ 2 → value_at w' i ≡ name_mark ms (spelled_at text w i)
    by_mark i h k = r.named i (inside i h) (sym (r.kind i) ∙ k)

    -- a table whose names are remarked is a marked table
    pub marked_of : Marked text ms w' ws
    marked_of = record {
      many = H.many ∙ sym same_count;
      word = λ i h. same_words i (inside i h);
      the_p_law = λ i h k. ap (same (bytes "p")) (same_spelling i) ∙ (marks ms (spelled_at text w i)).0 ∙ ap is_p (sym (by_mark i h k));
      the_type_law = λ i h k. ap (same (bytes "type")) (same_spelling i) ∙ (marks ms (spelled_at text w i)).1 ∙ ap is_type (sym (by_mark i h k));
      memory = λ i h k. ap (among ms) (same_spelling i) ∙ (marks ms (spelled_at text w i)).2 ∙ ap is_memory (sym (by_mark i h k));
    }
