-- Laws of the whole text: the words read so far, their table, and what is answered. Assumes nothing.
use mathlib.Core.Path.{◌≡◌, refl, sym, ap, ◌∙◌}
use mathlib.Core.Bool.{true, false}
use mathlib.Core.List.{List, [], ◌∷◌, ◌++◌, append_assoc, append-nil}
use mathlib.Core.Option.{Option, none, some}
use Prim.Native.Nat.{ℕ, suc, ◌+◌, ◌-◌, ◌*◌, ◌≤◌, ◌<◌}
use native.Mathlib.Omega.{arith}
use native.Mathlib.Nat.{add-zero, add-suc, suc-add}
use borrow.Author.Tests.{le-leb, lt-leb}
use lib.ListN.{length, drop, get_or, set, length-append}
use lib.Seq.{sets, drop-drop}
use Rattle.language.specs.Text.{earliest}
use Rattle.language.specs.Words.{Word, num, name, digits, fixed, Next, over, apart, word, wrong, next, Lexed, words, bad_at, push, words_from, words_of}
use Rattle.signs.specs.Kinds.{numbers_of}
use Rattle.words.specs.Table.{table_of}
use Rattle.signs.specs.Tells.{Tells, is_word, is_wrong, is_over, is_apart}
use Rattle.words.specs.Found.{until_from, words_until, roomy, found_of, table_after, left_in, left_kind, place_told, earlier_of}
use Rattle.signs.specs.declared.Item.{Item}
use Rattle.signs.specs.declared.Item.TheVariants.{Word as IsWord, Wrong, Apart, Over}
use Rattle.words.specs.declared.Fault.TheVariants.{Bad, NoRoom}
use Rattle.std.specs.Prelude.{Ok, Err}
use Rattle.words.specs.Found.{Place}
use Rattle.std.specs.Prelude.{None}

-- ---- what an answer tells

pub clash : {A : Type 0} → ◌≡◌ {A = ℕ} 0 1 → A
clash e = absurd (omega (arith, e))

pub record IsApart (text : List ℕ) (at : ℕ) (x : Next) (n : ℕ) : Type 0 where
  pub is : x ≡ apart n
  pub some : 0 < n
  pub inside : at + n ≤ length text

pub record IsFound (text : List ℕ) (at : ℕ) (x : Next) (k n v : ℕ) : Type 0 where
  pub shows : ℕ → Word
  pub is : x ≡ word n shows
  pub some : 0 < n
  pub inside : at + n ≤ length text
  pub numbers : (p : ℕ) → numbers_of (shows p) ≡ k ∷ p ∷ n ∷ v ∷ []

module _ {text : List ℕ} {at : ℕ} where
  pub tells_over : {x : Next} {i : Item} → Tells text at x i → i ≡ Over → x ≡ over
  tells_over is_over e = refl
  tells_over is_wrong e = clash (cc)
  tells_over (is_apart h k) e = clash (cc)
  tells_over (is_word h k q) e = clash (cc)

  pub tells_wrong : {x : Next} {i : Item} → Tells text at x i → i ≡ Wrong → x ≡ wrong
  tells_wrong is_over e = clash (cc)
  tells_wrong is_wrong e = refl
  tells_wrong (is_apart h k) e = clash (cc)
  tells_wrong (is_word h k q) e = clash (cc)

  pub tells_apart : {x : Next} {i : Item} {n : ℕ} → Tells text at x i → i ≡ Apart n → IsApart text at x n
  tells_apart is_over e = clash (cc)
  tells_apart is_wrong e = clash (cc)
  tells_apart {n = n} (is_apart {n = m} h k) e = let q : m ≡ n = cc in record { is = ap apart q; some = omega (arith, q, h); inside = omega (arith, q, k) }
  tells_apart (is_word h k q) e = clash (cc)

  pub tells_word : {x : Next} {i : Item} {k n v : ℕ} → Tells text at x i → i ≡ IsWord k n v → IsFound text at x k n v
  tells_word is_over e = clash (cc)
  tells_word is_wrong e = clash (cc)
  tells_word (is_apart h k) e = clash (cc)
  tells_word {k = k} {n = n} {v = v} (is_word {n = m} {k = j} {v = u} {w = w} h l f) e =
      let q : m ≡ n = cc in
      let r : j ≡ k = cc in
      let s : u ≡ v = cc in
      record { shows = w; is = ap (λ (y : ℕ). word y w) q; some = omega (arith, q, h); inside = omega (arith, q, l); numbers = λ p. f p ∙ rw (q, r, s) }

-- ---- the words so far, the last one first

unfoldable pub onto_w : List Word → List Word → List Word
onto_w [] l = l
onto_w (w ∷ r) l = onto_w r (w ∷ l)

unfoldable pub pushes : List Word → Lexed → Lexed
pushes [] x = x
pushes (w ∷ r) x = pushes r (push w x)

pushes_words : (r l : List Word) → pushes r (words l) ≡ words (onto_w r l)
unfolding pushes onto_w push
pushes_words [] l = refl
pushes_words (w ∷ r) l = pushes_words r (w ∷ l)

pushes_bad : (r : List Word) (p : ℕ) → pushes r (bad_at p) ≡ bad_at p
unfolding pushes push
pushes_bad [] p = refl
pushes_bad (w ∷ r) p = pushes_bad r p

length_onto : (r l : List Word) → length (onto_w r l) ≡ length r + length l
unfolding onto_w
length_onto [] l = sym (omega arith)
length_onto (w ∷ r) l = length_onto r (w ∷ l) ∙ (add-suc (length r) (length l) ∙ sym (suc-add (length r) (length l)))

four : (w : Word) → length (numbers_of w) ≡ 4
unfolding numbers_of
four (num n) = refl
four (name n) = refl
four (digits n) = refl
four (fixed s p) = refl

pub length_table : (l : List Word) → length (table_of l) ≡ 4 * length l
unfolding table_of
length_table [] = refl
length_table (w ∷ l) = length-append (numbers_of w) (table_of l) ∙ (let e = length_table l in let f = four w in omega (arith, e, f))

table_onto : (r l : List Word) → table_of (onto_w r l) ≡ table_of (onto_w r []) ++ table_of l
unfolding table_of onto_w
table_onto [] l = refl
table_onto (w ∷ r) l = table_onto r (w ∷ l) ∙ sym (ap (λ (x : List ℕ). x ++ table_of l) (table_onto r (w ∷ [])) ∙ append_assoc (table_of (onto_w r [])) (table_of (w ∷ [])) (table_of l) ∙ ap (λ (x : List ℕ). table_of (onto_w r []) ++ x) (append_assoc (numbers_of w) [] (table_of l)))

sets_append : (l : List ℕ) (b : ℕ) (vs ws : List ℕ) → sets l b (vs ++ ws) ≡ sets (sets l b vs) (b + length vs) ws
sets_append l b [] ws = rw add-zero
sets_append l b (v ∷ vs) ws = sets_append (set l b v) (suc b) vs ws ∙ ap (λ (n : ℕ). sets (sets (set l b v) (suc b) vs) n ws) (suc-add b (length vs) ∙ sym (add-suc b (length vs)))

-- one word more in the table
stored : (t : List ℕ) (r : List Word) (w : Word) (i k p n v : ℕ) → length r ≡ i → numbers_of w ≡ k ∷ p ∷ n ∷ v ∷ [] → sets (sets t 0 (table_of (onto_w r []))) (4 * i) (k ∷ p ∷ n ∷ v ∷ []) ≡ sets t 0 (table_of (onto_w (w ∷ r) []))
unfolding onto_w table_of
stored t r w i k p n v e f =
    let z : 0 + length (table_of (onto_w r [])) ≡ 4 * i = omega (arith, length_table (onto_w r []), length_onto r [], e) in
    sym (rw (table_onto r (w ∷ []), append-nil (numbers_of w), f, sets_append, z))

-- what has been read up to the place at: i words, with fuel for the rest
pub record Reading (text t₀ t : List ℕ) (at i : ℕ) : Type 0 where
  pub fuel : ℕ
  pub enough : length text < fuel + at
  pub done : List Word
  pub many : length done ≡ i
  pub few : i ≤ at
  pub inside : at ≤ length text
  pub goes : words_of text ≡ pushes done (words_from fuel at (drop at text))
  pub until : words_until text ≡ onto_w done (until_from fuel at (drop at text))
  pub holds : t ≡ sets t₀ 0 (table_of (onto_w done []))

pub reading_start : (text t : List ℕ) → Reading text t t 0 0
unfolding words_of words_until pushes onto_w table_of
reading_start text t = record { fuel = suc (length text); enough = omega arith; done = []; many = refl; few = omega arith; inside = omega arith; goes = refl; until = refl; holds = refl }

module _ (f at : ℕ) (bs : List ℕ) where
  pub from_over : next bs ≡ over → words_from (suc f) at bs ≡ words []
  unfolding words_from
  from_over e = simp (words_from, e)

  pub until_over : next bs ≡ over → until_from (suc f) at bs ≡ []
  unfolding until_from
  until_over e = simp (until_from, e)

  pub from_wrong : next bs ≡ wrong → words_from (suc f) at bs ≡ bad_at at
  unfolding words_from
  from_wrong e = simp (words_from, e)

  until_wrong : next bs ≡ wrong → until_from (suc f) at bs ≡ []
  unfolding until_from
  until_wrong e = simp (until_from, e)

  pub from_apart : {n : ℕ} → next bs ≡ apart n → words_from (suc f) at bs ≡ words_from f (at + n) (drop n bs)
  unfolding words_from
  from_apart e = simp (words_from, e)

  pub until_apart : {n : ℕ} → next bs ≡ apart n → until_from (suc f) at bs ≡ until_from f (at + n) (drop n bs)
  unfolding until_from
  until_apart e = simp (until_from, e)

  pub from_word : {n : ℕ} {w : ℕ → Word} → next bs ≡ word n w → words_from (suc f) at bs ≡ push (w at) (words_from f (at + n) (drop n bs))
  unfolding words_from
  from_word e = simp (words_from, e)

  pub until_word : {n : ℕ} {w : ℕ → Word} → next bs ≡ word n w → until_from (suc f) at bs ≡ w at ∷ until_from f (at + n) (drop n bs)
  unfolding until_from
  until_word e = simp (until_from, e)

module _ {text t₀ t : List ℕ} {at i : ℕ} (r : Reading text t₀ t at i) where
  spent : r.fuel ≡ suc (r.fuel - 1)
  spent = omega (arith, r.enough, r.inside)

  pub reading_apart : {n : ℕ} → IsApart text at (next (drop at text)) n → Reading text t₀ t (at + n) i
  reading_apart {n} a = record {
    fuel = r.fuel - 1;
    enough = omega (arith, r.enough, r.inside, a.some);
    done = r.done;
    many = r.many;
    few = omega (arith, r.few);
    inside = a.inside;
    goes = r.goes ∙ ap (pushes r.done) (ap (λ (f : ℕ). words_from f at (drop at text)) spent ∙ from_apart _ _ _ a.is ∙ ap (words_from (r.fuel - 1) (at + n)) (drop-drop n at text));
    until = r.until ∙ ap (onto_w r.done) (ap (λ (f : ℕ). until_from f at (drop at text)) spent ∙ until_apart _ _ _ a.is ∙ ap (until_from (r.fuel - 1) (at + n)) (drop-drop n at text));
    holds = r.holds;
  }

  pub reading_word : {k n v : ℕ} {t' : List ℕ} → IsFound text at (next (drop at text)) k n v → t' ≡ sets t (4 * i) (k ∷ at ∷ n ∷ v ∷ []) → Reading text t₀ t' (at + n) (i + 1)
  unfolding pushes onto_w
  reading_word {k} {n} {v} a e = record {
    fuel = r.fuel - 1;
    enough = omega (arith, r.enough, r.inside, a.some);
    done = a.shows at ∷ r.done;
    many = omega (arith, r.many);
    few = omega (arith, r.few, a.some);
    inside = a.inside;
    goes = r.goes ∙ ap (pushes r.done) (ap (λ (f : ℕ). words_from f at (drop at text)) spent ∙ from_word _ _ _ a.is ∙ ap (λ (x : List ℕ). push (a.shows at) (words_from (r.fuel - 1) (at + n) x)) (drop-drop n at text));
    until = r.until ∙ ap (onto_w r.done) (ap (λ (f : ℕ). until_from f at (drop at text)) spent ∙ until_word _ _ _ a.is ∙ ap (λ (x : List ℕ). a.shows at ∷ until_from (r.fuel - 1) (at + n) x) (drop-drop n at text));
    holds = e ∙ ap (λ (l : List ℕ). sets l (4 * i) (k ∷ at ∷ n ∷ v ∷ [])) r.holds ∙ stored _ r.done (a.shows at) i k at n v r.many (a.numbers at);
  }

  -- the end, and a bad word
  module _ (e : next (drop at text) ≡ over) where
    all : words_of text ≡ words (onto_w r.done [])
    all = r.goes ∙ ap (pushes r.done) (ap (λ (f : ℕ). words_from f at (drop at text)) spent ∙ from_over _ _ _ e) ∙ pushes_words r.done []

    pub found_all : roomy text t₀ ≡ true → found_of text t₀ ≡ Ok i
    unfolding found_of
    found_all h = simp (found_of, h, all) (ap Ok (length_onto r.done [] ∙ add-zero _ ∙ r.many))

    pub table_all : roomy text t₀ ≡ true → table_after text t₀ ≡ t
    unfolding table_after
    table_all h = simp (table_after, h) (ap (λ (l : List Word). sets t₀ 0 (table_of l)) (r.until ∙ ap (onto_w r.done) (ap (λ (f : ℕ). until_from f at (drop at text)) spent ∙ until_over _ _ _ e)) ∙ sym r.holds)

  module _ (e : next (drop at text) ≡ wrong) where
    pub found_bad : roomy text t₀ ≡ true → found_of text t₀ ≡ Err (Bad at)
    unfolding found_of
    found_bad h = let q : words_of text ≡ bad_at at = r.goes ∙ ap (pushes r.done) (ap (λ (f : ℕ). words_from f at (drop at text)) spent ∙ from_wrong _ _ _ e) ∙ pushes_bad r.done at in simp (found_of, h, q)

    pub table_bad : roomy text t₀ ≡ true → table_after text t₀ ≡ t
    unfolding table_after
    table_bad h = simp (table_after, h) (ap (λ (l : List Word). sets t₀ 0 (table_of l)) (r.until ∙ ap (onto_w r.done) (ap (λ (f : ℕ). until_from f at (drop at text)) spent ∙ until_wrong _ _ _ e)) ∙ sym r.holds)

module _ (text t : List ℕ) where
  pub no_text_room : 8192 < length text → roomy text t ≡ false
  unfolding roomy
  no_text_room h = simp (roomy, lt-leb _ _ h)

  pub no_table_room : length text ≤ 8192 → length t < 4 * length text → roomy text t ≡ false
  unfolding roomy
  no_table_room h k = simp (roomy, le-leb _ _ h, lt-leb _ _ k)

  pub room : length text ≤ 8192 → 4 * length text ≤ length t → roomy text t ≡ true
  unfolding roomy
  room h k = simp (roomy, le-leb _ _ h, le-leb _ _ k)

  pub found_none : roomy text t ≡ false → found_of text t ≡ Err NoRoom
  unfolding found_of
  found_none e = simp (found_of, e)

  pub table_none : roomy text t ≡ false → table_after text t ≡ t
  unfolding table_after
  table_none e = simp (table_after, e)

-- ---- row 4

told_earlier : (p : ℕ) (ps : List ℕ) → place_told (earliest (p ∷ ps)) ≡ earlier_of p (place_told (earliest ps))
unfolding earliest place_told earlier_of
told_earlier p ps = go (earliest ps) refl
  where
    go : (o : Option ℕ) → earliest ps ≡ o → place_told (earliest (p ∷ ps)) ≡ earlier_of p (place_told (earliest ps))
    go none e = simp (earliest, e)
    go (some q) e = simp (earliest, e)

module _ (t : List ℕ) (j m : ℕ) where
  pub left_here : left_kind (get_or t (4 * j) 0) ≡ true → place_told (earliest (left_in t j (suc m))) ≡ earlier_of (get_or t (4 * j + 1) 0) (place_told (earliest (left_in t (suc j) m)))
  unfolding left_in
  left_here e = let z : left_in t j (suc m) ≡ get_or t (4 * j + 1) 0 ∷ left_in t (suc j) m = simp (left_in, e) in rw z (told_earlier _ (left_in t (suc j) m))

  pub left_next : left_kind (get_or t (4 * j) 0) ≡ false → place_told (earliest (left_in t j (suc m))) ≡ place_told (earliest (left_in t (suc j) m))
  unfolding left_in
  left_next e = let z : left_in t j (suc m) ≡ left_in t (suc j) m = simp (left_in, e) in rw z

pub left_none : (t : List ℕ) (j m : ℕ) → m ≡ 0 → None ≡ place_told (earliest (left_in t j m))
unfolding left_in earliest place_told
left_none t j m e = rw e

-- the place found among the words from i on
abbrev pub left_from : List ℕ → ℕ → ℕ → Place
left_from t i n = place_told (earliest (left_in t i (n - i)))

pub from_before : (t : List ℕ) (i n : ℕ) → 0 < i → i ≤ n → left_from t (i - 1) n ≡ place_told (earliest (left_in t (i - 1) (suc (n - i))))
from_before t i n h k = let e : n - (i - 1) ≡ suc (n - i) = omega arith in rw e

pub from_here : (t : List ℕ) (i n : ℕ) → 0 < i → place_told (earliest (left_in t (suc (i - 1)) (n - i))) ≡ left_from t i n
from_here t i n h = let e : suc (i - 1) ≡ i = omega arith in rw e
