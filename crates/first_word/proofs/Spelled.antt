-- Laws of names and of the words that are spelled like names. Assumes nothing.
use mathlib.Core.Path.{◌≡◌, refl, sym, ap, ◌∙◌}
use mathlib.Core.Bool.{Bool, true, false, not, ◌&&◌, ◌||◌}
use mathlib.Core.List.{List, [], ◌∷◌, ◌++◌}
use mathlib.Core.Option.{Option, none, some}
use Prim.Native.Nat.{ℕ, suc, ◌+◌, ◌≤◌, ◌<◌}
use Prim.Native.String.{String}
use native.Mathlib.Omega.{arith}
use native.Mathlib.Nat.{not-suc-le-zero}
use lib.Dec.{ltb, eqb, T}
use lib.Text.{eqt, eqt→eq}
use lib.ListN.{length, drop, get_or, drop_of_length-le, length-drop}
use lib.Seq.{drop-cons}
use borrow.Author.Tests.{lt-ltb, le-ltb, eqb-true, ltb-true}
use Rattle.language.specs.Text.{same, index, among}
use Rattle.language.specs.Words.{fixed, word, wrong, bytes, spellings, some_of, plain_byte, letter, span, name_byte, digit, gap, after_gaps, keywords, left_out_law, first_of_law, good_name, own_name, name_next, named_next}
use Rattle.spelling.proofs.Laws.{all_below, below_all, rows_many, among_index, never, same_eq, spelling_at}
use Rattle.spelling.specs.Fixed.{fixed_names, row_of}
use Rattle.signs.specs.Kinds.{kind_in, spelled_words, numbers_of}
use Rattle.signs.specs.Signs.{row_kind}
use Rattle.signs.specs.Tells.{Tells, is_word, is_wrong}
use Rattle.signs.specs.declared.Item.TheVariants.{Word as IsWord, Wrong}
use Rattle.gaps.specs.Gaps.{AfterGaps}
use Rattle.spans.proofs.Spans.{span_next, span_std}
use Rattle.std.proofs.lemmas.List.Sums.{prefix_len-le-length}

not_is : (a : Bool) → not a ≡ true → a ≡ false
not_is true e = never (sym e)
not_is false e = refl

-- one of two holds, and the first does not
second : (a b : Bool) → (a || b) ≡ true → a ≡ false → b ≡ true
second true b e f = never f
second false b e f = e

index_is : (l : List (List ℕ)) (s : List ℕ) → index l s < length l → get_or l (index l s) [] ≡ s
unfolding index
index_is [] s h = absurd (not-suc-le-zero h)
index_is (n ∷ l) s h = go (index_is l s) (same n s) refl
  where
    go : (index l s < length l → get_or l (index l s) [] ≡ s) → (t : Bool) → same n s ≡ t → get_or (n ∷ l) (index (n ∷ l) s) [] ≡ s
    go ih true e = let z : index (n ∷ l) s ≡ 0 = simp (index, e) in rw z (same_eq n s e)
    go ih false e = let z : index (n ∷ l) s ≡ suc (index l s) = simp (index, e) in rw z (ih (omega (arith, z, h)))

some_is : (o : Option String) (s : String) → elim o as (λ (x : Option String). Bool) [ none ↦ false | some r ↦ eqt r s ] ≡ true → o ≡ some s
some_is none s e = never (sym e)
some_is (some r) s e = ap some (eqt→eq r s (holds (eqt r s) e))
  where
    holds : (b : Bool) → b ≡ true → T b
    holds true e = tt
    holds false e = never (sym e)

-- ---- the rows, each tested once

unfoldable spelling : ℕ → String
spelling k = get_or fixed_names k ""

unfoldable row_own : ℕ → Bool
row_own k = not (own_name (row_of k))

unfoldable row_first : ℕ → Bool
row_first k = elim (first_of_law ("_" ∷ (left_out_law ++ keywords)) (same (row_of k))) as (λ (x : Option String). Bool) [ none ↦ false | some r ↦ eqt r (spelling k) ]

unfoldable row_number : ℕ → Bool
row_number k = eqb (4 + kind_in spelled_words (spelling k)) (row_kind k)

unfoldable row_length : ℕ → Bool
row_length k = eqb (length (bytes (spelling k))) (length (row_of k))

module _ (k : ℕ) (h : k < 21) where
  own_row : own_name (row_of k) ≡ false
  unfolding row_own all_below own_name good_name row_of fixed_names spellings keywords left_out_law bytes among same some_of plain_byte letter digit name_byte spelling first_of_law kind_in spelled_words row_kind index
  own_row = not_is _ (below_all 21 row_own refl k h)

  first_row : first_of_law ("_" ∷ (left_out_law ++ keywords)) (same (row_of k)) ≡ some (spelling k)
  unfolding row_first all_below own_name good_name row_of fixed_names spellings keywords left_out_law bytes among same some_of plain_byte letter digit name_byte spelling first_of_law kind_in spelled_words row_kind index
  first_row = some_is _ (spelling k) (below_all 21 row_first refl k h)

  number_row : 4 + kind_in spelled_words (spelling k) ≡ row_kind k
  unfolding row_number all_below own_name good_name row_of fixed_names spellings keywords left_out_law bytes among same some_of plain_byte letter digit name_byte spelling first_of_law kind_in spelled_words row_kind index
  number_row = eqb-true _ _ (below_all 21 row_number refl k h)

  length_row : length (bytes (spelling k)) ≡ length (row_of k)
  unfolding row_length all_below own_name good_name row_of fixed_names spellings keywords left_out_law bytes among same some_of plain_byte letter digit name_byte spelling first_of_law kind_in spelled_words row_kind index
  length_row = eqb-true _ _ (below_all 21 row_length refl k h)

-- ---- a run by its row

row_run : (run : List ℕ) → index (spellings fixed_names) run < 21 → row_of (index (spellings fixed_names) run) ≡ run
unfolding row_of
row_run run h = index_is (spellings fixed_names) run (omega (arith, rows_many, h))

pub own_fixed : (run : List ℕ) → index (spellings fixed_names) run < 21 → own_name run ≡ false
own_fixed run h = ap own_name (sym (row_run run h)) ∙ own_row (index (spellings fixed_names) run) h

pub name_fixed : (text : List ℕ) (at n k : ℕ) (run : List ℕ) → 0 < n → at + n ≤ length text → n ≡ length run → k ≡ index (spellings fixed_names) run → k < 21 → Tells text at (name_next run) (IsWord (row_kind k) n 0)
unfolding name_next numbers_of
name_fixed text at n k run h l e q j =
    let r : row_of k ≡ run = ap row_of q ∙ row_run run (omega (arith, q, j)) in
    let m : length (bytes (spelling k)) ≡ n = length_row k j ∙ ap length r ∙ sym e in
    let f : first_of_law ("_" ∷ (left_out_law ++ keywords)) (same run) ≡ some (spelling k) = ap (λ (x : List ℕ). first_of_law ("_" ∷ (left_out_law ++ keywords)) (same x)) (sym r) ∙ first_row k j in
    let o : own_name run ≡ false = ap own_name (sym r) ∙ own_row k j in
    let g : name_next run ≡ word n (fixed (spelling k)) = simp (name_next, o) (rw f (ap (λ (x : ℕ). word x (fixed (spelling k))) (sym e))) in
    let r' : (p : ℕ) → numbers_of (fixed (spelling k) p) ≡ row_kind k ∷ p ∷ n ∷ 0 ∷ [] = λ p. rw (number_row k j, m) in
    rw g (is_word h l r')

-- ---- a run that is no row's

unfoldable left_right : ℕ → Bool
left_right j = ltb (index (spellings fixed_names) (bytes (get_or left_out_law j ""))) 21 || not (good_name (bytes (get_or left_out_law j "")))

unfoldable other_right : ℕ → Bool
other_right j = ltb (index (spellings fixed_names) (bytes (get_or ("_" ∷ (left_out_law ++ keywords)) j ""))) 21 || not (name_byte (get_or (bytes (get_or ("_" ∷ (left_out_law ++ keywords)) j "")) 0 0))

left_long : length (spellings left_out_law) ≡ 5
unfolding spellings left_out_law
left_long = refl

left_five : (j : ℕ) → j < 5 → j < length left_out_law
unfolding left_out_law
left_five j h = h

left_index : (run : List ℕ) → among (spellings left_out_law) run ≡ true → index (spellings left_out_law) run < 5
unfolding left_out_law spellings
left_index run e = ltb-true _ _ (sym (among_index (spellings left_out_law) [] run) ∙ e)

left_fact : (j : ℕ) → j < 5 → (ltb (index (spellings fixed_names) (bytes (get_or left_out_law j ""))) 21 || not (good_name (bytes (get_or left_out_law j "")))) ≡ true
unfolding left_right all_below own_name good_name row_of fixed_names spellings keywords left_out_law bytes among same some_of plain_byte letter digit name_byte spelling first_of_law kind_in spelled_words row_kind index
left_fact j h = below_all 5 left_right refl j h

good_left : (run : List ℕ) → 21 ≤ index (spellings fixed_names) run → among (spellings left_out_law) run ≡ true → good_name run ≡ false
good_left run h e =
    let i : index (spellings left_out_law) run < 5 = left_index run e in
    let q : get_or (spellings left_out_law) (index (spellings left_out_law) run) [] ≡ run = index_is (spellings left_out_law) run (omega (arith, left_long, i)) in
    let r : bytes (get_or left_out_law (index (spellings left_out_law) run) "") ≡ run = sym (spelling_at left_out_law (index (spellings left_out_law) run) (left_five _ i)) ∙ q in
    let t : (ltb (index (spellings fixed_names) run) 21 || not (good_name run)) ≡ true = rw r at (left_fact (index (spellings left_out_law) run) i) in
    not_is _ (second _ _ t (le-ltb _ _ h))

pub own_other : (run : List ℕ) → 21 ≤ index (spellings fixed_names) run → own_name run ≡ good_name run
unfolding own_name
own_other run h = go (among (spellings left_out_law) run) refl
  where
    and_true : (t : Bool) → (t && true) ≡ t
    and_true true = refl
    and_true false = refl

    go : (t : Bool) → among (spellings left_out_law) run ≡ t → own_name run ≡ good_name run
    go false e = simp (own_name, e, and_true)
    go true e =
        let b = good_left run h e in
        simp (own_name, b)

-- ---- a bad run

first_none : (l : List String) (t : List ℕ → Bool) → ((j : ℕ) → j < length l → t (bytes (get_or l j "")) ≡ false) → first_of_law l t ≡ none
unfolding first_of_law
first_none [] t h = refl
first_none (s ∷ l) t h = let e : t (bytes s) ≡ false = h 0 (omega arith) in simp (first_of_law, e) (first_none l t (λ j k. h (suc j) (omega arith)))

twenty_four : (j : ℕ) → j < length ("_" ∷ (left_out_law ++ keywords)) → j < 24
unfolding left_out_law keywords
twenty_four j k = k

other_fact : (j : ℕ) → j < 24 → (ltb (index (spellings fixed_names) (bytes (get_or ("_" ∷ (left_out_law ++ keywords)) j ""))) 21 || not (name_byte (get_or (bytes (get_or ("_" ∷ (left_out_law ++ keywords)) j "")) 0 0))) ≡ true
unfolding other_right all_below own_name good_name row_of fixed_names spellings keywords left_out_law bytes among same some_of plain_byte letter digit name_byte spelling first_of_law kind_in spelled_words row_kind index
other_fact j h = below_all 24 other_right refl j h

no_other : (run : List ℕ) → 21 ≤ index (spellings fixed_names) run → name_byte (get_or run 0 0) ≡ true → (j : ℕ) → j < 24 → same run (bytes (get_or ("_" ∷ (left_out_law ++ keywords)) j "")) ≡ false
no_other run h b j k = go (same run (bytes (get_or ("_" ∷ (left_out_law ++ keywords)) j ""))) refl
  where
    go : (t : Bool) → same run (bytes (get_or ("_" ∷ (left_out_law ++ keywords)) j "")) ≡ t → same run (bytes (get_or ("_" ∷ (left_out_law ++ keywords)) j "")) ≡ false
    go false e = e
    go true e =
        let r = same_eq run (bytes (get_or ("_" ∷ (left_out_law ++ keywords)) j "")) e in
        let t : (ltb (index (spellings fixed_names) run) 21 || not (name_byte (get_or run 0 0))) ≡ true = rw r (other_fact j k) in
        never (sym b ∙ not_is _ (second _ _ t (le-ltb _ _ h)))

pub name_wrong : (run : List ℕ) → 21 ≤ index (spellings fixed_names) run → good_name run ≡ false → name_byte (get_or run 0 0) ≡ true → name_next run ≡ wrong
unfolding name_next
name_wrong run h e b =
    let o : own_name run ≡ false = own_other run h ∙ e in
    let f : first_of_law ("_" ∷ (left_out_law ++ keywords)) (same run) ≡ none = first_none ("_" ∷ (left_out_law ++ keywords)) (same run) (λ j k. no_other run h b j (many j k)) in
    simp (name_next, o) (rw f)
  where
    many : (j : ℕ) → j < length ("_" ∷ (left_out_law ++ keywords)) → j < 24
    many j k = twenty_four j k

pub name_own : (text : List ℕ) (at n : ℕ) (run : List ℕ) → 0 < n → at + n ≤ length text → n ≡ length run → 21 ≤ index (spellings fixed_names) run → good_name run ≡ true → Tells text at (name_next run) (IsWord 2 n 0)
unfolding name_next numbers_of
name_own text at n run h l e k g =
    let o : own_name run ≡ true = own_other run k ∙ g in
    let h' : 0 < length run = omega arith in
    let l' : at + length run ≤ length text = omega arith in
    rw e (simp (name_next, o) (is_word h' l' (λ p. refl)))

pub span_head : (t : ℕ → Bool) (text : List ℕ) (at : ℕ) → at < length text → t (get_or text at 0) ≡ true → get_or (span t (drop at text)) 0 0 ≡ get_or text at 0
unfolding span
span_head t text at h e = rw (drop-cons text at 0 h) (simp (span, e))

-- ---- the run of name bytes at a place

module _ (text run : List ℕ) (at : ℕ) (h : at < length text) (b : name_byte (get_or text at 0) ≡ true) (e : run ≡ span name_byte (drop at text)) where
  some_long : 0 < length run
  some_long = omega (arith, ap length e, span_next name_byte text at h b)

  inside : at + length run ≤ length text
  inside = omega (arith, ap length e, span_std name_byte (drop at text), prefix_len-le-length name_byte (drop at text), length-drop at text)

  pub name_row : (k r : ℕ) → k ≡ index (spellings fixed_names) run → k < 21 → r ≡ row_kind k → Tells text at (name_next (span name_byte (drop at text))) (IsWord r (length run) 0)
  name_row k r i l q = rw (← e, q) (name_fixed text at (length run) k run some_long inside refl i l)

  pub name_good : 21 ≤ index (spellings fixed_names) run → good_name run ≡ true → Tells text at (name_next (span name_byte (drop at text))) (IsWord 2 (length run) 0)
  name_good k g = rw (← e) (name_own text at (length run) run some_long inside refl k g)

  pub name_bad : 21 ≤ index (spellings fixed_names) run → good_name run ≡ false → Tells text at (name_next (span name_byte (drop at text))) Wrong
  name_bad k g =
      let f : name_byte (get_or run 0 0) ≡ true = ap (λ (l : List ℕ). name_byte (get_or l 0 0)) e ∙ ap name_byte (span_head name_byte text at h b) ∙ b in
      let w = name_wrong run k g f in
      rw (← e, w) is_wrong

pub ruleset name_laws = (name_row, name_good, name_bad)

-- ---- a name after separators

pub named_none : (r : List ℕ) → gap r ≡ 0 → named_next r ≡ false
unfolding named_next
named_none r e = simp (named_next, e)

module _ (r : List ℕ) (h : 0 < gap r) where
  named_over : after_gaps (length r) r ≡ [] → named_next r ≡ false
  unfolding named_next
  named_over e = simp (named_next, lt-ltb _ _ h, e)

  named_some : {b : ℕ} {bs : List ℕ} → after_gaps (length r) r ≡ b ∷ bs → named_next r ≡ (not (digit b) && own_name (span name_byte (b ∷ bs)))
  unfolding named_next
  named_some e = simp (named_next, lt-ltb _ _ h, e)

module _ (text : List ℕ) (at p : ℕ) (w : AfterGaps text at p) where
  pub named_gap : gap (drop at text) ≡ 0 → named_next (drop at text) ≡ false
  named_gap e = named_none (drop at text) e

  module _ (h : 0 < gap (drop at text)) where
    pub named_end : length text ≤ p → named_next (drop at text) ≡ false
    named_end k = named_over (drop at text) h (w.is ∙ drop_of_length-le text k)

    pub named_here : p < length text → named_next (drop at text) ≡ (not (digit (get_or text p 0)) && own_name (span name_byte (drop p text)))
    named_here k = named_some (drop at text) h (w.is ∙ drop-cons text p 0 k) ∙ rw (drop-cons text p 0 k)
