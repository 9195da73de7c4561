-- The table of a text's words holds those words: what word_at reads off the table and the text is the word. Assumes nothing.
use mathlib.Core.Path.{◌≡◌, refl, sym, ap, ◌∙◌}
use mathlib.Core.Bool.{Bool, true, false, not, ◌&&◌}
use mathlib.Core.List.{List, [], ◌∷◌, ◌++◌}
use mathlib.Core.Option.{Option, none, some}
use Prim.Native.Nat.{ℕ, zero, suc, ◌+◌, ◌-◌, ◌*◌, ◌≤◌, ◌<◌}
use Prim.Native.String.{String}
use native.Mathlib.Omega.{arith}
use native.Mathlib.Nat.{not-suc-le-zero, le_of_suc-le-suc}
use lib.Dec.{leb, ltb, eqb, T}
use lib.Text.{eqt, eqt→eq}
use borrow.Author.Tests.{eqb-true, eqb-false, leb-true, leb-false, ltb-true}
use lib.ListN.{length, take, drop, get_or}
use Rattle.language.specs.Text.{same, among}
use Rattle.language.specs.Words.{Word, num, name, digits, fixed, Next, over, apart, word, wrong, bytes, spellings, begins, span, digit, name_byte, digit_in, gap, base_of, value_in_base, named_next, own_name, number_next, name_next, quote_next, first_of_law, left_out_law, keywords, signs, sign_next, next, Lexed, words, bad_at, push, words_from, words_of, left_out}
use Rattle.spelling.proofs.Laws.{all_below, below_all, never, both_left, both_right}
use Rattle.signs.specs.Kinds.{numbers_of, kind_in, spelled_words}
use Rattle.words.specs.Table.{table_of, word_of, word_at}
use Rattle.words.specs.Found.{until_from, words_until, left_in, left_kind}
use Rattle.spans.proofs.Spans.{span_taken}
use lib.Seq.{drop-drop}
use Rattle.words.proofs.Whole.{clash, from_over, from_wrong, from_apart, from_word, until_over, until_apart, until_word}
use Rattle.first_word.proofs.Parts.{next_over, next_apart, next_number, next_name, next_quote, next_open, next_sign, quote_over, quote_split}

-- ---- a word that can be read back

unfoldable pub Back : List ℕ → Word → Type 0
Back text w = word_of text (get_or (numbers_of w) 0 0) (get_or (numbers_of w) 1 0) (get_or (numbers_of w) 2 0) (get_or (numbers_of w) 3 0) ≡ w

unfoldable Backs : List ℕ → ℕ → Next → Type 0
Backs text p over = Unit {0}
Backs text p (apart n) = Unit {0}
Backs text p (word n w) = Back text (w p)
Backs text p wrong = Unit {0}

holds : (b : Bool) → b ≡ true → T b
holds true e = tt
holds false e = never (sym e)

kind_is : (l : List String) (s : String) → kind_in l s < length l → get_or l (kind_in l s) "" ≡ s
unfolding kind_in
kind_is [] s h = absurd (not-suc-le-zero h)
kind_is (v ∷ l) s h = go (kind_is l s) (eqt v s) refl
  where
    go : (kind_in l s < length l → get_or l (kind_in l s) "" ≡ s) → (t : Bool) → eqt v s ≡ t → get_or (v ∷ l) (kind_in (v ∷ l) s) "" ≡ s
    go ih true e = let z : kind_in (v ∷ l) s ≡ 0 = simp (kind_in, e) in rw z (eqt→eq v s (holds (eqt v s) e))
    go ih false e = let z : kind_in (v ∷ l) s ≡ suc (kind_in l s) = simp (kind_in, e) in rw z (ih (omega (arith, z, h)))

many : length spelled_words ≡ 61
unfolding spelled_words
many = refl

back_fixed : (text : List ℕ) (s : String) (p : ℕ) → kind_in spelled_words s < 61 → Back text (fixed s p)
unfolding Back numbers_of word_of
back_fixed text s p h =
    let e : 4 + kind_in spelled_words s ≡ suc (suc (suc (suc (kind_in spelled_words s)))) = omega arith in
    rw e (ap (λ (x : String). fixed x p) (kind_is spelled_words s (omega (arith, many, h))))

-- every word that a list of fixed words shows has a kind
unfoldable kinds : (String → String) → List String → Bool
kinds g [] = true
kinds g (s ∷ l) = ltb (kind_in spelled_words (g s)) 61 && kinds g l

first_kind : (g : String → String) (l : List String) (t : List ℕ → Bool) (s : String) → kinds g l ≡ true → first_of_law l t ≡ some s → kind_in spelled_words (g s) < 61
unfolding kinds first_of_law
first_kind g [] t s k e = absurd (let z : ◌≡◌ {A = ℕ} 0 1 = cc in omega arith)
first_kind g (r ∷ l) t s k e = go (first_kind g l t s (both_right (ltb (kind_in spelled_words (g r)) 61) (kinds g l) k)) (t (bytes r)) refl
  where
    go : (first_of_law l t ≡ some s → kind_in spelled_words (g s) < 61) → (b : Bool) → t (bytes r) ≡ b → kind_in spelled_words (g s) < 61
    go ih true q = let z : first_of_law (r ∷ l) t ≡ some r = simp (first_of_law, q) in let y : r ≡ s = cc in rw (← y) (ltb-true _ _ (both_left (ltb (kind_in spelled_words (g r)) 61) (kinds g l) k))
    go ih false q = let z : first_of_law (r ∷ l) t ≡ first_of_law l t = simp (first_of_law, q) in ih (sym z ∙ e)

-- ---- each kind of word

number_backs : (text : List ℕ) (p : ℕ) (run : List ℕ) → Backs text p (number_next run)
unfolding Backs Back number_next numbers_of word_of
number_backs text p run = go (leb (value_in_base 10 0 run) 4_294_967_295) refl
  where
    go : (b : Bool) → leb (value_in_base 10 0 run) 4_294_967_295 ≡ b → Backs text p (number_next run)
    go true e = simp (number_next, e) refl
    go false e = simp (number_next, e) tt

name_kinds : kinds (λ s. s) ("_" ∷ (left_out_law ++ keywords)) ≡ true
unfolding kinds left_out_law keywords kind_in spelled_words
name_kinds = refl

own_back : (text : List ℕ) (p : ℕ) (run : List ℕ) → take (length run) (drop p text) ≡ run → Back text (name (record { at = p; spelled = run }))
unfolding Back numbers_of word_of
own_back text p run q = ap (λ (x : List ℕ). name (record { at = p; spelled = x })) q

name_backs : (text : List ℕ) (p : ℕ) (run : List ℕ) → take (length run) (drop p text) ≡ run → Backs text p (name_next run)
unfolding Backs name_next
name_backs text p run q = go (own_name run) refl
  where
    own : Back text (name (record { at = p; spelled = run }))
    own = own_back text p run q

    go : (b : Bool) → own_name run ≡ b → Backs text p (name_next run)
    go true e = simp (name_next, e) own
    go false e = simp (name_next, e) (rest (first_of_law ("_" ∷ (left_out_law ++ keywords)) (same run)) refl)
      where
        rest : (o : Option String) → first_of_law ("_" ∷ (left_out_law ++ keywords)) (same run) ≡ o → Backs text p (elim (first_of_law ("_" ∷ (left_out_law ++ keywords)) (same run)) as (λ (x : Option String). Next) [ some s ↦ word (length run) (fixed s) | none ↦ wrong ])
        rest none f = rw f tt
        rest (some s) f = rw f (back_fixed text s p (first_kind (λ s. s) ("_" ∷ (left_out_law ++ keywords)) (same run) s name_kinds f))

quote_back : (text : List ℕ) (p : ℕ) (d : ℕ) (ds : List ℕ) (b : ℕ) (r : List ℕ) → get_or text (p + 1) 0 ≡ b → drop (p + 2) text ≡ r → span (digit_in (base_of b)) r ≡ d ∷ ds
    → Back text (digits (record { at = p; value = value_in_base (base_of b) 0 (d ∷ ds); long = 3 + length ds }))
unfolding Back numbers_of word_of
quote_back text p d ds b r e f s =
    let n : 3 + length ds - 2 ≡ length (span (digit_in (base_of b)) r) = omega (arith, ap length s) in
    let v : take (3 + length ds - 2) (drop (p + 2) text) ≡ d ∷ ds = rw (n, f) (span_taken (digit_in (base_of b)) r ∙ s) in
    rw (v, e)

bare_kind : kind_in spelled_words "'d" < 61
unfolding kind_in spelled_words
bare_kind = omega arith

quote_backs : (text : List ℕ) (p : ℕ) (b : ℕ) (r : List ℕ) → get_or text (p + 1) 0 ≡ b → drop (p + 2) text ≡ r → Backs text p (quote_next (b ∷ r))
unfolding Backs quote_next
quote_backs text p b r e f = go (span (digit_in (base_of b)) r) refl
  where
    go : (l : List ℕ) → span (digit_in (base_of b)) r ≡ l → Backs text p (quote_next (b ∷ r))
    go (d ∷ ds) s = simp (quote_next, s) (quote_back text p d ds b r e f s)
    go [] s = simp (quote_next, s) (either (eqb (base_of b) 10 && named_next r))
      where
        either : (t : Bool) → Backs text p (elim t as (λ (x : Bool). Next) [ true ↦ word 2 (fixed "'d") | false ↦ wrong ])
        either true = back_fixed text "'d" p bare_kind
        either false = tt

unfoldable shown : String → String
shown s = elim (same (bytes s) (bytes "^~")) [ true ↦ "~^" | false ↦ s ]

sign_kinds : kinds shown signs ≡ true
unfolding kinds signs kind_in spelled_words shown same bytes
sign_kinds = refl

sign_backs : (text : List ℕ) (p : ℕ) (bs : List ℕ) → Backs text p (sign_next bs)
unfolding Backs sign_next shown
sign_backs text p bs = go (first_of_law signs (λ s. begins s bs)) refl
  where
    go : (o : Option String) → first_of_law signs (λ s. begins s bs) ≡ o → Backs text p (sign_next bs)
    go none f = simp (sign_next, f) tt
    go (some s) f = simp (sign_next, f) (back_fixed text (shown s) p (first_kind shown signs (λ s. begins s bs) s sign_kinds f))

quoted_at : (text : List ℕ) (p : ℕ) (b : Bool) → leb (length text) (p + 1) ≡ b → Backs text p (quote_next (drop (p + 1) text))
unfolding Backs
quoted_at text p true h = rw (quote_over text (p + 1) (leb-true _ _ h)) tt
quoted_at text p false h = rw (quote_split text p (leb-false _ _ h)) (quote_backs text p _ _ refl refl)

-- ---- what stands first

next_backs : (text : List ℕ) (p : ℕ) → Backs text p (next (drop p text))
unfolding Backs
next_backs text p = inside (leb (length text) p) refl
  where
    signs_on : (h : p < length text) (g : gap (drop p text) ≡ 0) (e : digit (get_or text p 0) ≡ false) (f : name_byte (get_or text p 0) ≡ false) (q : get_or text p 0 ≡ 39 → ⊥) (b : Bool) → begins (47 ∷ 42 ∷ []) (drop p text) ≡ b → Backs text p (next (drop p text))
    signs_on h g e f q true o = rw (next_open text p h g e f q o) tt
    signs_on h g e f q false o = rw (next_sign text p h g e f q o) (sign_backs text p (drop p text))

    quoted : (h : p < length text) → get_or text p 0 ≡ 39 → Backs text p (quote_next (drop (p + 1) text))
    quoted h q = quoted_at text p (leb (length text) (p + 1)) refl

    quotes : (h : p < length text) (g : gap (drop p text) ≡ 0) (e : digit (get_or text p 0) ≡ false) (f : name_byte (get_or text p 0) ≡ false) (b : Bool) → eqb (get_or text p 0) 39 ≡ b → Backs text p (next (drop p text))
    quotes h g e f true q = rw (next_quote text p h g e f (eqb-true _ _ q)) (quoted h (eqb-true _ _ q))
    quotes h g e f false q = signs_on h g e f (eqb-false _ _ q) (begins (47 ∷ 42 ∷ []) (drop p text)) refl

    names_on_law : (h : p < length text) (g : gap (drop p text) ≡ 0) (e : digit (get_or text p 0) ≡ false) (b : Bool) → name_byte (get_or text p 0) ≡ b → Backs text p (next (drop p text))
    names_on_law h g e true f = rw (next_name text p h g e f) (name_backs text p (span name_byte (drop p text)) (span_taken name_byte (drop p text)))
    names_on_law h g e false f = quotes h g e f (eqb (get_or text p 0) 39) refl

    numbers : (h : p < length text) (g : gap (drop p text) ≡ 0) (b : Bool) → digit (get_or text p 0) ≡ b → Backs text p (next (drop p text))
    numbers h g true e = rw (next_number text p h g e) (number_backs text p (span digit (drop p text)))
    numbers h g false e = names_on_law h g e (name_byte (get_or text p 0)) refl

    gaps : (h : p < length text) (n : ℕ) → gap (drop p text) ≡ n → Backs text p (next (drop p text))
    gaps h zero g = numbers h g (digit (get_or text p 0)) refl
    gaps h (suc n) g = rw (next_apart text p h n g) tt

    inside : (b : Bool) → leb (length text) p ≡ b → Backs text p (next (drop p text))
    inside true h = rw (next_over text p (leb-true _ _ h)) tt
    inside false h = gaps (leb-false _ _ h) (gap (drop p text)) refl

-- ---- all words of a text

pub data AllBack (text : List ℕ) : List Word → Type 0 where
  no_more : AllBack text []
  more : {w : Word} {ws : List Word} → Back text w → AllBack text ws → AllBack text (w ∷ ws)

back_of : (text : List ℕ) (p : ℕ) {x : Next} {k : ℕ} {w : ℕ → Word} → x ≡ word k w → Backs text p x → Back text (w p)
unfolding Backs
back_of text p n b = rw n at b

pushed : (text : List ℕ) (ws : List Word) (w : Word) (x : Lexed) → push w x ≡ words ws → Back text w → ((us : List Word) → x ≡ words us → AllBack text us) → AllBack text ws
unfolding push
pushed text ws w (words us) e b ih = let z : w ∷ us ≡ ws = cc in rw z at (more b (ih us refl))
pushed text ws w (bad_at q) e b ih = clash (cc)

from_back : (text : List ℕ) (f p : ℕ) (ws : List Word) → words_from f p (drop p text) ≡ words ws → AllBack text ws
unfolding words_from
from_back text zero p ws e = let z : [] ≡ ws = cc in let m : AllBack text [] = no_more in rw z at m
from_back text (suc f) p ws e = go (λ q us. from_back text f q us) (next (drop p text)) refl (next_backs text p)
  where
    go : ((q : ℕ) (us : List Word) → words_from f q (drop q text) ≡ words us → AllBack text us) → (x : Next) → next (drop p text) ≡ x → Backs text p (next (drop p text)) → AllBack text ws
    go ih over n b = let y = sym (from_over f p (drop p text) n) ∙ e in let z : [] ≡ ws = cc in let m : AllBack text [] = no_more in rw z at m
    go ih wrong n b = clash (let y = sym (from_wrong f p (drop p text) n) ∙ e in cc)
    go ih (apart k) n b = ih (p + k) ws (rw (← drop-drop k p text) (sym (from_apart f p (drop p text) n) ∙ e))
    go ih (word k w) n b = then (words_from f (p + k) (drop (p + k) text)) refl
      where
        then : (x : Lexed) → words_from f (p + k) (drop (p + k) text) ≡ x → AllBack text ws
        then x q = pushed text ws (w p) x (ap (push (w p)) (sym q ∙ ap (words_from f (p + k)) (sym (drop-drop k p text))) ∙ sym (from_word f p (drop p text) n) ∙ e) (back_of text p n b) (λ us r. ih (p + k) us (q ∙ r))

-- the words that were read are those of the definition
behind : (w : Word) (ws : List Word) (x : Lexed) → push w x ≡ words ws → (us : List Word) → ((vs : List Word) → x ≡ words vs → us ≡ vs) → w ∷ us ≡ ws
unfolding push
behind w ws (words vs) e us ih = ap (λ (l : List Word). w ∷ l) (ih vs refl) ∙ cc
behind w ws (bad_at q) e us ih = clash (cc)

until_from_law : (f p : ℕ) (bs : List ℕ) (ws : List Word) → words_from f p bs ≡ words ws → until_from f p bs ≡ ws
unfolding words_from until_from
until_from_law zero p bs ws e = cc
until_from_law (suc f) p bs ws e = go (λ q cs us. until_from_law f q cs us) (next bs) refl
  where
    go : ((q : ℕ) (cs : List ℕ) (us : List Word) → words_from f q cs ≡ words us → until_from f q cs ≡ us) → (x : Next) → next bs ≡ x → until_from (suc f) p bs ≡ ws
    go ih over n = until_over f p bs n ∙ (let y = sym (from_over f p bs n) ∙ e in cc)
    go ih wrong n = clash (let y = sym (from_wrong f p bs n) ∙ e in cc)
    go ih (apart k) n = until_apart f p bs n ∙ ih (p + k) (drop k bs) ws (sym (from_apart f p bs n) ∙ e)
    go ih (word k w) n = until_word f p bs n ∙ behind (w p) ws (words_from f (p + k) (drop k bs)) (sym (from_word f p bs n) ∙ e) (until_from f (p + k) (drop k bs)) (λ us r. ih (p + k) (drop k bs) us r)

pub until_all : (text : List ℕ) (ws : List Word) → words_of text ≡ words ws → words_until text ≡ ws
unfolding words_of words_until
until_all text ws e = until_from_law (suc (length text)) 0 text ws e

pub all_back : (text : List ℕ) (ws : List Word) → words_of text ≡ words ws → AllBack text ws
unfolding words_of
all_back text ws e = from_back text (suc (length text)) 0 ws e

-- ---- word i of the table

numbers_are : (w : Word) → numbers_of w ≡ get_or (numbers_of w) 0 0 ∷ get_or (numbers_of w) 1 0 ∷ get_or (numbers_of w) 2 0 ∷ get_or (numbers_of w) 3 0 ∷ []
unfolding numbers_of
numbers_are (num n) = refl
numbers_are (name n) = refl
numbers_are (digits n) = refl
numbers_are (fixed s p) = refl

first_word : (text : List ℕ) (a b c d : ℕ) (t : List ℕ) → word_at text (a ∷ b ∷ c ∷ d ∷ t) 0 ≡ word_of text a b c d
unfolding word_at
first_word text a b c d t = refl

later_word : (text : List ℕ) (a b c d : ℕ) (t : List ℕ) (i : ℕ) → word_at text (a ∷ b ∷ c ∷ d ∷ t) (suc i) ≡ word_at text t i
unfolding word_at
later_word text a b c d t i =
    let e : 4 * suc i ≡ suc (suc (suc (suc (4 * i)))) = omega arith in
    let f : 4 * suc i + 1 ≡ suc (suc (suc (suc (4 * i + 1)))) = omega arith in
    let g : 4 * suc i + 2 ≡ suc (suc (suc (suc (4 * i + 2)))) = omega arith in
    let h : 4 * suc i + 3 ≡ suc (suc (suc (suc (4 * i + 3)))) = omega arith in
    rw (f, g, h, e)

is_back : (text : List ℕ) (w : Word) → Back text w → word_of text (get_or (numbers_of w) 0 0) (get_or (numbers_of w) 1 0) (get_or (numbers_of w) 2 0) (get_or (numbers_of w) 3 0) ≡ w
unfolding Back
is_back text w b = b

table_at : (text : List ℕ) (ws : List Word) → AllBack text ws → (i : ℕ) → i < length ws → word_at text (table_of ws) i ≡ get_or ws i (fixed "" 0)
unfolding table_of
table_at text ws no_more i h = absurd (not-suc-le-zero h)
table_at text ws (more {w = w} {ws = us} b m) zero h = rw (numbers_are w) (first_word text _ _ _ _ (table_of us) ∙ is_back text w b)
table_at text ws (more {w = w} {ws = us} b m) (suc i) h = rw (numbers_are w) (later_word text _ _ _ _ (table_of us) i ∙ table_at text us m i (le_of_suc-le-suc h))

-- the law for whoever reads the table: word i of the table is word i of the text
pub word_at_law : (text : List ℕ) (ws : List Word) → words_of text ≡ words ws → (i : ℕ) → i < length ws → word_at text (table_of ws) i ≡ get_or ws i (fixed "" 0)
word_at_law text ws e i h = table_at text ws (all_back text ws e) i h

-- ---- row 4: the kinds that are left out are those of the words that are

unfoldable alike : Bool → Bool → Bool
alike true b = b
alike false b = not b

alike_eq : (a b : Bool) → alike a b ≡ true → a ≡ b
unfolding alike
alike_eq true b e = sym e
alike_eq false true e = never (sym e)
alike_eq false false e = refl

unfoldable left_test : ℕ → Bool
left_test k = alike (left_kind (4 + k)) (among (spellings left_out_law) (bytes (get_or spelled_words k "")))

left_fact : (k : ℕ) → k < 62 → left_kind (4 + k) ≡ among (spellings left_out_law) (bytes (get_or spelled_words k ""))
unfolding left_test all_below alike left_kind among spellings left_out_law bytes spelled_words same
left_fact k h = alike_eq _ _ (below_all 62 left_test refl k h)

kind_most : (l : List String) (s : String) → kind_in l s ≤ length l
unfolding kind_in
kind_most [] s = omega arith
kind_most (v ∷ l) s = elim (eqt v s) as (λ (t : Bool). elim t as (λ (x : Bool). ℕ) [ true ↦ 0 | false ↦ suc (kind_in l s) ] ≤ suc (length l)) [ true ↦ omega arith | false ↦ (let h = kind_most l s in omega (arith, h)) ]

left_fixed : (text : List ℕ) (s : String) (p : ℕ) → Back text (fixed s p) → left_kind (4 + kind_in spelled_words s) ≡ among (spellings left_out_law) (bytes s)
unfolding Back numbers_of word_of
left_fixed text s p b =
    let e : 4 + kind_in spelled_words s ≡ suc (suc (suc (suc (kind_in spelled_words s)))) = omega arith in
    let f : fixed (get_or spelled_words (kind_in spelled_words s) "") p ≡ fixed s p = rw e at b in
    let q : get_or spelled_words (kind_in spelled_words s) "" ≡ s = cc in
    left_fact (kind_in spelled_words s) (omega (arith, kind_most spelled_words s, many)) ∙ ap (λ (x : String). among (spellings left_out_law) (bytes x)) q

unfoldable opened : ℕ → ℕ → List ℕ → List ℕ
opened k p r = elim (left_kind k) [ true ↦ p ∷ r | false ↦ r ]

left_open : (t : List ℕ) (i m : ℕ) → left_in t i (suc m) ≡ opened (get_or t (4 * i) 0) (get_or t (4 * i + 1) 0) (left_in t (suc i) m)
unfolding left_in opened
left_open t i m = refl

opened_eq : {k l p q : ℕ} {r s : List ℕ} → k ≡ l → p ≡ q → r ≡ s → opened k p r ≡ opened l q s
opened_eq e f g = cc

left_end : (t : List ℕ) (i : ℕ) → left_in t i 0 ≡ []
unfolding left_in
left_end t i = refl

left_shift : (a b c d : ℕ) (t : List ℕ) (i m : ℕ) → left_in (a ∷ b ∷ c ∷ d ∷ t) (suc i) m ≡ left_in t i m
left_shift a b c d t i zero = left_end (a ∷ b ∷ c ∷ d ∷ t) (suc i) ∙ sym (left_end t i)
left_shift a b c d t i (suc m) =
    let e : 4 * suc i ≡ suc (suc (suc (suc (4 * i)))) = omega arith in
    let f : 4 * suc i + 1 ≡ suc (suc (suc (suc (4 * i + 1)))) = omega arith in
    let k : get_or (a ∷ b ∷ c ∷ d ∷ t) (4 * suc i) 0 ≡ get_or t (4 * i) 0 = ap (λ (n : ℕ). get_or (a ∷ b ∷ c ∷ d ∷ t) n 0) e in
    let p : get_or (a ∷ b ∷ c ∷ d ∷ t) (4 * suc i + 1) 0 ≡ get_or t (4 * i + 1) 0 = ap (λ (n : ℕ). get_or (a ∷ b ∷ c ∷ d ∷ t) n 0) f in
    left_open (a ∷ b ∷ c ∷ d ∷ t) (suc i) m ∙ opened_eq k p (left_shift a b c d t (suc i) m) ∙ sym (left_open t i m)

left_step : (k p n v : ℕ) (t : List ℕ) (m : ℕ) (l : List ℕ) (x : Bool) → left_kind k ≡ x → left_in t 0 m ≡ l → left_in (k ∷ p ∷ n ∷ v ∷ t) 0 (suc m) ≡ elim x as (λ (y : Bool). List ℕ) [ true ↦ p ∷ l | false ↦ l ]
unfolding left_in
left_step k p n v t m l true e f = simp (left_in, e) (ap (λ (r : List ℕ). p ∷ r) (left_shift k p n v t 0 m ∙ f))
left_step k p n v t m l false e f = simp (left_in, e) (left_shift k p n v t 0 m ∙ f)

left_table : (text : List ℕ) (ws : List Word) → AllBack text ws → left_in (table_of ws) 0 (length ws) ≡ left_out ws
unfolding table_of left_in left_out numbers_of left_kind
left_table text ws no_more = refl
left_table text ws (more {w = num n} {ws = us} b m) = left_step 1 _ _ _ (table_of us) (length us) (left_out us) false refl (left_table text us m)
left_table text ws (more {w = name n} {ws = us} b m) = left_step 2 _ _ _ (table_of us) (length us) (left_out us) false refl (left_table text us m)
left_table text ws (more {w = digits n} {ws = us} b m) = left_step 3 _ _ _ (table_of us) (length us) (left_out us) false refl (left_table text us m)
left_table text ws (more {w = fixed s p} {ws = us} b m) = left_step (4 + kind_in spelled_words s) p _ _ (table_of us) (length us) (left_out us) (among (spellings left_out_law) (bytes s)) (left_fixed text s p b) (left_table text us m)

-- the places that left_out looks at are those of the words of row 4
pub left_is : (text : List ℕ) (ws : List Word) → words_of text ≡ words ws → left_in (table_of ws) 0 (length ws) ≡ left_out ws
left_is text ws e = left_table text ws (all_back text ws e)
