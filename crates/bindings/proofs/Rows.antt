-- Laws of the lines and the table that holds them. Assumes nothing.
use mathlib.Core.Path.{◌≡◌, refl, sym, ap, ◌∙◌}
use mathlib.Core.Bool.{Bool, true, false}
use mathlib.Core.List.{List, [], ◌∷◌, ◌++◌, append_assoc}
use mathlib.Core.Logic.{◌⊎◌, inl, inr, ⊎_elim}
use Prim.Native.Nat.{ℕ, zero, suc, ◌+◌, ◌-◌, ◌*◌, ◌≤◌, ◌<◌}
use native.Mathlib.Omega.{arith}
use native.Mathlib.Nat.{add-zero, add-suc, suc-add}
use native.Mathlib.Numerals.{add-one, add-two}
use lib.Dec.{leb, eqb}
use borrow.Author.Tests.{le-leb, lt-leb, leb-true, leb-false}
use lib.ListN.{length, take, drop, get_or, set, length-set, length-drop, length-take, drop_of_length-le}
use borrow.Rule.Slice.PartMut.{put_mid}
use Rattle.std.proofs.lemmas.List.Edits.{sets-eq}
use Rattle.std.proofs.Common.{length-append}
use lib.Seq.{drop-nil, sets, take-suc, get_or-set_same, get_or-set_other, drop-cons}
use Rattle.language.specs.Bindings.{Got, got, lost, after, byte, fresh_name, lines, section, sections, Binding, Bindings, bindings_of, bound, wrong_at}
use Rattle.binding_names.specs.Names.{line_in, lines_in, names_of, Named, name_told, ReadsName}
use Rattle.bindings.specs.Table.{onto, cells, table_of, so_many, roomy, answer_of, table_after}
use Rattle.binding_numbers.specs.Steps.{Step, ended, valued, value, Reads}
use Rattle.bindings.specs.Steps.{line_of, line_told, lines_told, count, WidthsRead, ReadsLines}
use Rattle.binding_numbers.specs.declared.Went.{Went}
use Rattle.binding_numbers.specs.declared.Lost.{Lost}
use Rattle.bindings.specs.declared.Fault.{Fault}
use Rattle.bindings.specs.declared.Fault.TheVariants.{Wrong, NoRoom}
use Rattle.std.specs.Prelude.{Ok, Err, MatchResult}
use Rattle.binding_numbers.proofs.Numbers.{after_got, after_lost, went_in, went_small}

-- ---- runs of stores

drop_drop : (n a : ℕ) (t : List ℕ) → drop n (drop a t) ≡ drop (a + n) t
drop_drop n zero t = let z : 0 + n ≡ n = omega arith in rw z
drop_drop n (suc a) [] = drop-nil n ∙ sym (drop-nil (suc a + n))
drop_drop n (suc a) (b ∷ t) = rw (suc-add a n) (drop_drop n a t)

-- three numbers copied to a part of a table
pub three_stored : (t ys : List ℕ) (a k : ℕ) (vs : List ℕ) → ys ≡ vs → k ≡ length vs → a + length vs ≤ length t → put_mid a k t ys ≡ sets t a vs
three_stored t ys a k vs q e h = rw (q, e, sets-eq vs t a h, drop_drop) (sym (append_assoc (take a t) vs (drop (a + length vs) t)))

-- a run copied to the start of a table and one to the rest of it
pub both_stored : (t rest xs ys vs ws : List ℕ) (m n : ℕ) → xs ≡ vs → ys ≡ ws → rest ≡ drop m t → m ≡ length vs → n ≡ length ws → length vs + length ws ≤ length t → xs ++ (ys ++ drop n rest) ≡ sets t 0 (vs ++ ws)
both_stored t rest xs ys vs ws m n p q r f e h =
    let z : 0 + (length vs + length ws) ≡ length vs + length ws = omega arith in
    rw (p, q, r, f, e, sets-eq (vs ++ ws) t 0 (simp length-append (omega arith)), length-append, z, drop_drop) (sym (append_assoc vs ws (drop (length vs + length ws) t)))

order : (n k : ℕ) → (n ≤ k) ⊎ (k < n)
order n k = go (leb n k) refl
  where
    go : (b : Bool) → leb n k ≡ b → (n ≤ k) ⊎ (k < n)
    go true e = inl (leb-true n k e)
    go false e = inr (leb-false n k e)

under : (l : List ℕ) (b : ℕ) (vs : List ℕ) (k : ℕ) → k < b → get_or (sets l b vs) k 0 ≡ get_or l k 0
under l b [] k h = refl
under l b (v ∷ vs) k h = under (set l b v) (suc b) vs k (omega arith) ∙ get_or-set_other l b k v 0 (λ e. omega arith)

-- ---- a line stored

module _ (text t : List ℕ) (i a n v : ℕ) (h : 3 * i + 2 < length t) where
  stored_0 : get_or (sets t (3 * i) (a ∷ n ∷ v ∷ [])) (3 * i) 0 ≡ a
  stored_0 = under (set t (3 * i) a) (suc (3 * i)) (n ∷ v ∷ []) (3 * i) (omega arith) ∙ get_or-set_same t (3 * i) a 0 (omega arith)

  stored_1 : get_or (sets t (3 * i) (a ∷ n ∷ v ∷ [])) (3 * i + 1) 0 ≡ n
  stored_1 = rw add-one (under (set (set t (3 * i) a) (suc (3 * i)) n) (suc (suc (3 * i))) (v ∷ []) (suc (3 * i)) (omega arith) ∙ get_or-set_same (set t (3 * i) a) (suc (3 * i)) n 0 (simp length-set (omega arith)))

  stored_2 : get_or (sets t (3 * i) (a ∷ n ∷ v ∷ [])) (3 * i + 2) 0 ≡ v
  stored_2 = rw add-two (get_or-set_same (set (set t (3 * i) a) (suc (3 * i)) n) (suc (suc (3 * i))) v 0 (simp length-set (omega arith)))

  pub line_stored : line_in text (sets t (3 * i) (a ∷ n ∷ v ∷ [])) i ≡ record { called = record { at = a; spelled = take n (drop a text) }; value = v }
  unfolding line_in
  line_stored = rw (stored_0, stored_1, stored_2)

  pub named_stored : Named text t i → a + n ≤ length text → Named text (sets t (3 * i) (a ∷ n ∷ v ∷ [])) (i + 1)
  named_stored w q = record { lies = λ j k. ⊎_elim (λ l. here j (omega arith)) (λ l. before j l) (order i j) }
    where
      here : (j : ℕ) → j ≡ i → get_or (sets t (3 * i) (a ∷ n ∷ v ∷ [])) (3 * j) 0 + get_or (sets t (3 * i) (a ∷ n ∷ v ∷ [])) (3 * j + 1) 0 ≤ length text
      here j e = rw (e, stored_0, stored_1) q

      before : (j : ℕ) → j < i → get_or (sets t (3 * i) (a ∷ n ∷ v ∷ [])) (3 * j) 0 + get_or (sets t (3 * i) (a ∷ n ∷ v ∷ [])) (3 * j + 1) 0 ≤ length text
      before j l = rw (under t (3 * i) (a ∷ n ∷ v ∷ []) (3 * j) (omega arith), under t (3 * i) (a ∷ n ∷ v ∷ []) (3 * j + 1) (omega arith)) (w.lies j l)

pub lines_kept : (text t : List ℕ) (b : ℕ) (vs : List ℕ) (i : ℕ) → 3 * i ≤ b → lines_in text (sets t b vs) i ≡ lines_in text t i
unfolding lines_in line_in
lines_kept text t b vs zero h = refl
lines_kept text t b vs (suc i) h = rw (lines_kept text t b vs i (omega arith), under t b vs (3 * i) (omega arith), under t b vs (3 * i + 1) (omega arith), under t b vs (3 * i + 2) (omega arith))

-- ---- one line, and then the others

after_after : {S T U : Type 0} (w : Got S) (g : S → List ℕ → Got T) (h : T → List ℕ → Got U) → after (after w g) h ≡ after w (λ s r. after (g s r) h)
unfolding after
after_after (got s r) g h = refl
after_after (lost r) g h = refl

after_byte : {T U : Type 0} (b : ℕ) (r : List ℕ) (g : List ℕ → Got T) (h : T → List ℕ → Got U) → after (byte b r g) h ≡ byte b r (λ x. after (g x) h)
unfolding after byte
after_byte b [] g h = refl
after_byte b (c ∷ r) g h = elim (eqb b c) as (λ (t : Bool). after (elim t [ true ↦ g r | false ↦ lost (c ∷ r) ]) h ≡ elim t [ true ↦ after (g r) h | false ↦ lost (c ∷ r) ]) [ true ↦ refl | false ↦ refl ]

after_same : {S : Type 0} (w : Got S) → after w (λ s r. got s r) ≡ w
unfolding after
after_same (got s r) = refl
after_same (lost r) = refl

lines_line : (long most k : ℕ) (seen : List (List ℕ)) (bs : List ℕ) → lines long most (suc k) seen bs ≡ after (line_of long most seen bs) (λ b z. after (lines long most k (b.called.spelled ∷ seen) z) (λ l w. got (b ∷ l) w))
unfolding lines line_of valued ended after
lines_line long most k seen bs = simp (after_after, after_byte)

-- what has been read of k lines: the lines that are left, read from here, give what all give
pub record Upto (text : List ℕ) (most k : ℕ) (whole : Got (List Binding)) (t : List ℕ) (at i : ℕ) : Type 0 where
  pub few : i ≤ k
  pub inside : at ≤ length text
  pub named : Named text t i
  pub goes : whole ≡ after (lines (length text) most (k - i) (names_of (lines_in text t i)) (drop at text)) (λ l w. got (onto (lines_in text t i) l) w)

pub upto_start : (text : List ℕ) (most k : ℕ) (t : List ℕ) (at : ℕ) → at ≤ length text → Upto text most k (lines (length text) most k [] (drop at text)) t at 0
unfolding lines_in names_of onto
upto_start text most k t at h = record { few = omega arith; inside = h; named = record { lies = λ j l. absurd (let z : ◌≡◌ {A = ℕ} 0 1 = omega arith in omega arith) }; goes = let e : k - 0 ≡ k = omega arith in rw e (sym (after_same _)) }

module _ {text : List ℕ} {most k : ℕ} {whole : Got (List Binding)} {t : List ℕ} {at i : ℕ} (w : Upto text most k whole t at i) where
  left : Got Binding
  left = line_of (length text) most (names_of (lines_in text t i)) (drop at text)

  one : i < k → whole ≡ after left (λ b z. after (lines (length text) most (k - (i + 1)) (b.called.spelled ∷ names_of (lines_in text t i)) z) (λ l v. got (onto (lines_in text t i) (b ∷ l)) v))
  unfolding left after
  one h = w.goes ∙ (let e : k - i ≡ suc (k - (i + 1)) = omega arith in rw (e, lines_line) (simp (after_after)))

  pub upto_lost : {x : List ℕ} → i < k → line_of (length text) most (names_of (lines_in text t i)) (drop at text) ≡ lost x → whole ≡ lost x
  unfolding left
  upto_lost h e = one h ∙ after_lost _ e

  pub upto_next : {t' : List ℕ} {x : ℕ} → i < k → line_of (length text) most (names_of (lines_in text t i)) (drop at text) ≡ got (line_in text t' i) (drop x text) → lines_in text t' i ≡ lines_in text t i
      → Named text t' (i + 1) → x ≤ length text → Upto text most k whole t' x (i + 1)
  unfolding left lines_in names_of onto
  upto_next {t'} {x} h e q n l = record { few = omega arith; inside = l; named = n; goes = one h ∙ after_got _ e ∙ rw (add-one i, q) }

  pub upto_done : i ≡ k → whole ≡ got (onto (lines_in text t k) []) (drop at text)
  unfolding lines after
  upto_done e = w.goes ∙ (let z : k - i ≡ 0 = omega arith in rw (z, e))

pub named_none : (text t : List ℕ) → Named text t 0
named_none text t = record { lies = λ j l. absurd (let z : ◌≡◌ {A = ℕ} 0 1 = omega arith in omega arith) }

-- ---- what the answers of name, line and lines tell

module _ {text : List ℕ} {most : ℕ} {what : Got (List ℕ)} (from : ℕ) {r : Step} (w : Reads text most what (name_told text from) r) where
  pub name_went : {a : Went} → r ≡ Ok a → what ≡ got (take a.number (drop from text)) (drop a.next text)
  unfolding name_told
  name_went e = w.tells ∙ rw e

  pub name_lost : {l : Lost} → r ≡ Err l → what ≡ lost (drop l.at text)
  unfolding name_told
  name_lost e = w.tells ∙ rw e

module _ {text : List ℕ} (t : List ℕ) {most : ℕ} (i : ℕ) {what : Got Binding} {r : Step} (w : Reads text most what (line_told text t i) r) where
  pub line_went : {a : Went} → r ≡ Ok a → what ≡ got (line_in text t i) (drop a.next text)
  unfolding line_told
  line_went e = w.tells ∙ rw e

  pub line_lost : {l : Lost} → r ≡ Err l → what ≡ lost (drop l.at text)
  unfolding line_told
  line_lost e = w.tells ∙ rw e

module _ {text : List ℕ} (t : List ℕ) {most : ℕ} {what : Got (List Binding)} {r : Step} (w : Reads text most what (lines_told text t) r) where
  pub lines_went : {a : Went} → r ≡ Ok a → what ≡ got (onto (lines_in text t a.number) []) (drop a.next text)
  unfolding lines_told
  lines_went e = w.tells ∙ rw e

  pub lines_lost : {l : Lost} → r ≡ Err l → what ≡ lost (drop l.at text)
  unfolding lines_told
  lines_lost e = w.tells ∙ rw e

module _ {text t : List ℕ} where
  pub named_as : {i k : ℕ} → i ≡ k → Named text t i → Named text t k
  named_as e w = rw e at w

  pub named_went : (i : ℕ) {r : Step} {a : Went} → r ≡ Ok a → Named text t (i + count r) → Named text t (i + 1)
  named_went i e w = rw e at w

  pub named_value : {r : Step} {a : Went} → r ≡ Ok a → Named text t (value r) → Named text t a.number
  named_value e w = rw e at w

pub went_fits : {text : List ℕ} {seen : List (List ℕ)} {from : ℕ} {r : Step} {a : Went} → ReadsName text seen from r → r ≡ Ok a → from + a.number ≤ length text
went_fits w e = rw e at w.fits

-- a place that was lost, as the whole answers it
pub wrong_told : (r : Step) {f : Fault} → MatchResult r (λ x. ⊥) (λ l. f ≡ Wrong l.at) → (l : Lost) × (r ≡ Err l) × (f ≡ Wrong l.at)
wrong_told (Ok a) h = absurd h
wrong_told (Err l) h = (l, refl, h)

-- ---- a line from its parts

module _ (long most : ℕ) (seen : List (List ℕ)) (bs : List ℕ) where
  pub nameless : {x : List ℕ} → fresh_name seen bs ≡ lost x → line_of long most seen bs ≡ lost x
  unfolding line_of
  nameless e = after_lost _ e

  pub valueless : {s x y : List ℕ} → fresh_name seen bs ≡ got s x → valued most x ≡ lost y → line_of long most seen bs ≡ lost y
  unfolding line_of
  valueless e f = after_got _ e ∙ after_lost _ f

pub place_back : (text : List ℕ) (p : ℕ) → p ≤ length text → length text - length (drop p text) ≡ p
place_back text p h = simp length-drop (omega arith)

pub line_read : (text t : List ℕ) (most i from n v : ℕ) {x y : List ℕ} → 3 * i + 2 < length t → from ≤ length text → fresh_name (names_of (lines_in text t i)) (drop from text) ≡ got (take n (drop from text)) x → valued most x ≡ got v y
    → line_of (length text) most (names_of (lines_in text t i)) (drop from text) ≡ got (line_in text (sets t (3 * i) (from ∷ n ∷ v ∷ [])) i) y
unfolding line_of
line_read text t most i from n v h k e f = rw (line_stored text t i from n v h) (after_got _ e ∙ after_got _ f ∙ rw (place_back text from k))

-- ---- a section and the whole text

section_ended : (long most : ℕ) (bs : List ℕ) → section long most bs ≡ after (ended 16 bs) (λ k x. lines long most k [] x)
unfolding section ended after
section_ended long most bs = simp (after_after, after_byte)

module _ (long most : ℕ) (bs : List ℕ) where
  pub section_lost : {x : List ℕ} → ended 16 bs ≡ lost x → section long most bs ≡ lost x
  section_lost e = section_ended long most bs ∙ after_lost _ e

  pub section_went : {k : ℕ} {x : List ℕ} → ended 16 bs ≡ got k x → section long most bs ≡ lines long most k [] x
  section_went e = section_ended long most bs ∙ after_got _ e

module _ (text : List ℕ) where
  wrong_at_law : {p : ℕ} → p ≤ length text → sections text ≡ lost (drop p text) → bindings_of text ≡ wrong_at p
  unfolding bindings_of
  wrong_at_law {p} h e = simp (bindings_of, e) (ap wrong_at (place_back text p h))

  pub wrong_widths : {p : ℕ} → p ≤ length text → section (length text) 32 text ≡ lost (drop p text) → bindings_of text ≡ wrong_at p
  unfolding sections
  wrong_widths h e = wrong_at_law h (after_lost _ e)

  module _ {ws : List Binding} {r : List ℕ} (e : section (length text) 32 text ≡ got ws r) where
    pub wrong_values : {p : ℕ} → p ≤ length text → section (length text) 65535 r ≡ lost (drop p text) → bindings_of text ≡ wrong_at p
    unfolding sections
    wrong_values h f = wrong_at_law h (after_got _ e ∙ after_lost _ f)

    pub wrong_tail : {vs : List Binding} {p : ℕ} → p < length text → section (length text) 65535 r ≡ got vs (drop p text) → bindings_of text ≡ wrong_at p
    unfolding sections
    wrong_tail {vs} {p} h f = wrong_at_law (omega arith) (after_got _ e ∙ after_got _ f ∙ rw (drop-cons text p 0 h))

    pub right : {vs : List Binding} {p : ℕ} → length text ≤ p → section (length text) 65535 r ≡ got vs (drop p text) → bindings_of text ≡ bound (record { widths = ws; values = vs })
    unfolding sections bindings_of
    right {vs} {p} h f = let g : sections text ≡ got (record { widths = ws; values = vs }) [] = after_got _ e ∙ after_got _ f ∙ rw (drop_of_length-le text h) in simp (bindings_of, g)

-- ---- the table of a whole text

cells_onto : (r l : List Binding) → cells (onto r l) ≡ cells (onto r []) ++ cells l
unfolding cells onto
cells_onto [] l = refl
cells_onto (b ∷ r) l = cells_onto r (b ∷ l) ∙ sym (ap (λ (x : List ℕ). x ++ cells l) (cells_onto r (b ∷ [])) ∙ append_assoc (cells (onto r [])) (cells (b ∷ [])) (cells l))

three_more : (t : List ℕ) (k : ℕ) → 3 * suc k ≤ length t → take (3 * suc k) t ≡ take (3 * k) t ++ (get_or t (3 * k) 0 ∷ get_or t (3 * k + 1) 0 ∷ get_or t (3 * k + 2) 0 ∷ [])
three_more t k h =
    let e : 3 * suc k ≡ suc (suc (suc (3 * k))) = omega arith in
    rw (e, add-one, add-two, take-suc t (suc (suc (3 * k))) 0 (omega arith), take-suc t (suc (3 * k)) 0 (omega arith), take-suc t (3 * k) 0 (omega arith)) (simp append_assoc)

pub cells_lines : (text t : List ℕ) (k : ℕ) → Named text t k → 3 * k ≤ length t → cells (onto (lines_in text t k) []) ≡ take (3 * k) t
unfolding lines_in line_in onto cells
cells_lines text t zero w h = refl
cells_lines text t (suc k) w h =
    let l : length (take (get_or t (3 * k + 1) 0) (drop (get_or t (3 * k) 0) text)) ≡ get_or t (3 * k + 1) 0 = simp (length-take, length-drop) (omega (arith, w.lies k (omega arith))) in
    cells_onto (lines_in text t k) (line_in text t k ∷ []) ∙ rw (cells_lines text t k (record { lies = λ j q. w.lies j (omega arith) }) (omega arith), l, three_more t k h)

length_onto : (r l : List Binding) → length (onto r l) ≡ length r + length l
unfolding onto
length_onto [] l = sym (omega arith)
length_onto (b ∷ r) l = length_onto r (b ∷ l) ∙ (add-suc (length r) (length l) ∙ sym (suc-add (length r) (length l)))

length_lines_in_law : (text t : List ℕ) (k : ℕ) → length (lines_in text t k) ≡ k
unfolding lines_in
length_lines_in_law text t zero = refl
length_lines_in_law text t (suc k) = ap suc (length_lines_in_law text t k)

pub length_lines : (text t : List ℕ) (k : ℕ) → length (onto (lines_in text t k) []) ≡ k
length_lines text t k = length_onto (lines_in text t k) [] ∙ add-zero (length (lines_in text t k)) ∙ length_lines_in_law text t k

pub table_is : (text ws vs : List ℕ) (w v : ℕ) → Named text ws w → Named text vs v → 3 * w ≤ length ws → 3 * v ≤ length vs
    → take (3 * w) ws ++ take (3 * v) vs ≡ table_of (record { widths = onto (lines_in text ws w) []; values = onto (lines_in text vs v) [] })
unfolding table_of
table_is text ws vs w v n m h k = sym (rw (cells_lines text ws w n h, cells_lines text vs v m k))

-- ---- the answer

module _ (text t : List ℕ) where
  pub no_text_room : 2048 < length text → roomy text t ≡ false
  unfolding roomy
  no_text_room h = simp (roomy, lt-leb _ _ h)

  pub no_table_room : length text ≤ 2048 → length t < 96 → roomy text t ≡ false
  unfolding roomy
  no_table_room h k = simp (roomy, le-leb _ _ h, lt-leb _ _ k)

  pub room : length text ≤ 2048 → 96 ≤ length t → roomy text t ≡ true
  unfolding roomy
  room h k = simp (roomy, le-leb _ _ h, le-leb _ _ k)

  pub answer_none : roomy text t ≡ false → answer_of text t ≡ Err NoRoom
  unfolding answer_of
  answer_none e = simp (answer_of, e)

  pub table_none : roomy text t ≡ false → table_after text t ≡ t
  unfolding table_after
  table_none e = simp (table_after, e)

  module _ (e : roomy text t ≡ true) where
    pub answer_wrong : {p : ℕ} → bindings_of text ≡ wrong_at p → answer_of text t ≡ Err (Wrong p)
    unfolding answer_of
    answer_wrong f = simp (answer_of, e, f)

    pub table_wrong : {p : ℕ} → bindings_of text ≡ wrong_at p → table_after text t ≡ t
    unfolding table_after
    table_wrong f = simp (table_after, e, f)

    pub answer_bound : {b : Bindings} → bindings_of text ≡ bound b → answer_of text t ≡ Ok (so_many (length b.widths) (length b.values))
    unfolding answer_of
    answer_bound f = simp (answer_of, e, f)

    pub table_bound : {b : Bindings} → bindings_of text ≡ bound b → table_after text t ≡ sets t 0 (table_of b)
    unfolding table_after
    table_bound f = simp (table_after, e, f)

-- both sections are read: there must be no byte after the second, and then the table holds the lines of both
module _ (text t ws vs : List ℕ) (w at : ℕ) (z : Went) (r : Step) (short : length text ≤ 2048) (wide : 96 ≤ length t) (a : WidthsRead text ws w at) (b : ReadsLines text (section (length text) 65535 (drop at text)) r vs) (e : r ≡ Ok z) where
  pub place_told : z.next ≤ 2048
  place_told = omega (arith, short, went_in b.reads e)

  pub tail_told : z.next < length text → Err (Wrong z.next) ≡ answer_of text t
  tail_told h = sym (answer_wrong text t (room text t short wide) (wrong_tail text a.is h (lines_went vs b.reads e)))

  pub tail_table : z.next < length text → t ≡ table_after text t
  tail_table h = sym (table_wrong text t (room text t short wide) (wrong_tail text a.is h (lines_went vs b.reads e)))

  pub both_told : length text ≤ z.next → Ok (so_many w z.number) ≡ answer_of text t
  both_told h = sym (answer_bound text t (room text t short wide) (right text a.is h (lines_went vs b.reads e)) ∙ rw (length_lines text ws w, length_lines text vs z.number))

  pub both_table : 48 ≤ length vs → length text ≤ z.next → sets t 0 (take (3 * w) ws ++ take (3 * z.number) vs) ≡ table_after text t
  both_table k h =
      ap (λ (l : List ℕ). sets t 0 l) (table_is text ws vs w z.number a.named (named_value e b.named) (omega (arith, a.few, a.wide)) (omega (arith, went_small b.reads e, k)))
      ∙ sym (table_bound text t (room text t short wide) (right text a.is h (lines_went vs b.reads e)))
