-- What stands first in a text takes a byte at least, a name is the longest run of name bytes at its place, and a sized constant's digits are those after its `'`: so there are at most as many words as bytes, and a place decides its name or its value. Assumes nothing.
use mathlib.Core.Path.{◌≡◌, refl, sym, ap, ◌∙◌}
use mathlib.Core.Bool.{Bool, true, false, ◌&&◌}
use mathlib.Core.List.{List, [], ◌∷◌, ◌++◌}
use mathlib.Core.Option.{Option, none, some}
use Prim.Native.Nat.{ℕ, zero, suc, ◌+◌, ◌-◌, ◌≤◌, ◌<◌}
use Prim.Native.String.{String}
use native.Mathlib.Omega.{arith}
use lib.Dec.{leb, ltb, eqb}
use borrow.Author.Tests.{eqb-true, eqb-false, leb-true, leb-false, ltb-true}
use lib.ListN.{length, drop, get_or}
use lib.Seq.{drop-drop, drop-cons}
use Rattle.language.specs.Text.{same}
use Rattle.language.specs.Words.{Word, num, name, digits, fixed, Next, over, apart, word, wrong, bytes, begins, span, digit, name_byte, digit_in, gap, base_of, value_in_base, named_next, own_name, number_next, name_next, quote_next, first_of_law, left_out_law, keywords, signs, sign_next, next, Lexed, words, bad_at, push, words_from, words_of}
use Rattle.sized_constants.specs.Constant.{constant_at}
use Rattle.words.proofs.Whole.{clash, from_over, from_wrong, from_apart, from_word}
use Rattle.first_word.proofs.Parts.{next_over, next_apart, next_number, next_name, next_quote, next_open, next_sign, quote_over, quote_split}
use Rattle.spelling.proofs.Laws.{both_left, both_right}

-- a name is the run of name bytes at its place, and the value of a sized constant is that of the digits there
unfoldable pub IsRun : List ℕ → Word → Type 0
IsRun text (num n) = Unit {0}
IsRun text (name n) = n.spelled ≡ span name_byte (drop n.at text)
IsRun text (digits n) = n.value ≡ constant_at text n.at
IsRun text (fixed s p) = Unit {0}

unfoldable Firsts : List ℕ → ℕ → Next → Type 0
Firsts text p over = Unit {0}
Firsts text p (apart n) = Unit {0}
Firsts text p (word n w) = (0 < n) × IsRun text (w p)
Firsts text p wrong = Unit {0}

number_firsts : (text : List ℕ) (p : ℕ) (run : List ℕ) → 0 < length run → Firsts text p (number_next run)
unfolding Firsts number_next IsRun
number_firsts text p run h = go (leb (value_in_base 10 0 run) 4_294_967_295) refl
  where
    go : (b : Bool) → leb (value_in_base 10 0 run) 4_294_967_295 ≡ b → Firsts text p (number_next run)
    go true e = simp (number_next, e) (h, tt)
    go false e = simp (number_next, e) tt

name_firsts : (text : List ℕ) (p : ℕ) (run : List ℕ) → 0 < length run → run ≡ span name_byte (drop p text) → Firsts text p (name_next run)
unfolding Firsts name_next IsRun
name_firsts text p run h q = go (own_name run) refl
  where
    go : (b : Bool) → own_name run ≡ b → Firsts text p (name_next run)
    go true e = simp (name_next, e) (h, q)
    go false e = simp (name_next, e) (rest (first_of_law ("_" ∷ (left_out_law ++ keywords)) (same run)) refl)
      where
        rest : (o : Option String) → first_of_law ("_" ∷ (left_out_law ++ keywords)) (same run) ≡ o → Firsts text p (elim (first_of_law ("_" ∷ (left_out_law ++ keywords)) (same run)) as (λ (x : Option String). Next) [ some s ↦ word (length run) (fixed s) | none ↦ wrong ])
        rest none f = rw f tt
        rest (some s) f = rw f (h, tt)

constant_is : (text : List ℕ) (p : ℕ) (l : List ℕ) → span (digit_in (base_of (get_or text (p + 1) 0))) (drop (p + 2) text) ≡ l → value_in_base (base_of (get_or text (p + 1) 0)) 0 l ≡ constant_at text p
unfolding constant_at
constant_is text p l s = ap (value_in_base (base_of (get_or text (p + 1) 0)) 0) (sym s)

quote_firsts : (text : List ℕ) (p b : ℕ) (r : List ℕ) → ((l : List ℕ) → span (digit_in (base_of b)) r ≡ l → value_in_base (base_of b) 0 l ≡ constant_at text p) → Firsts text p (quote_next (b ∷ r))
unfolding Firsts quote_next IsRun
quote_firsts text p b r c = go (span (digit_in (base_of b)) r) refl
  where
    go : (l : List ℕ) → span (digit_in (base_of b)) r ≡ l → Firsts text p (quote_next (b ∷ r))
    go (d ∷ ds) s = simp (quote_next, s) (omega arith, c (d ∷ ds) s)
    go [] s = simp (quote_next, s) (either (eqb (base_of b) 10 && named_next r))
      where
        either : (t : Bool) → Firsts text p (elim t as (λ (x : Bool). Next) [ true ↦ word 2 (fixed "'d") | false ↦ wrong ])
        either true = (omega arith, tt)
        either false = tt

-- no sign is empty
unfoldable longs : List String → Bool
longs [] = true
longs (s ∷ l) = ltb 0 (length (bytes s)) && longs l

first_long : (l : List String) (t : List ℕ → Bool) (s : String) → longs l ≡ true → first_of_law l t ≡ some s → 0 < length (bytes s)
unfolding longs first_of_law
first_long [] t s k e = clash (cc)
first_long (r ∷ l) t s k e = go (first_long l t s (both_right (ltb 0 (length (bytes r))) (longs l) k)) (t (bytes r)) refl
  where
    go : (first_of_law l t ≡ some s → 0 < length (bytes s)) → (b : Bool) → t (bytes r) ≡ b → 0 < length (bytes s)
    go ih true q = let z : first_of_law (r ∷ l) t ≡ some r = simp (first_of_law, q) in let y : r ≡ s = cc in rw (← y) (ltb-true _ _ (both_left (ltb 0 (length (bytes r))) (longs l) k))
    go ih false q = let z : first_of_law (r ∷ l) t ≡ first_of_law l t = simp (first_of_law, q) in ih (sym z ∙ e)

signs_long : longs signs ≡ true
unfolding longs signs bytes
signs_long = refl

sign_firsts : (text : List ℕ) (p : ℕ) (bs : List ℕ) → Firsts text p (sign_next bs)
unfolding Firsts sign_next IsRun
sign_firsts text p bs = go (first_of_law signs (λ s. begins s bs)) refl
  where
    go : (o : Option String) → first_of_law signs (λ s. begins s bs) ≡ o → Firsts text p (sign_next bs)
    go none f = simp (sign_next, f) tt
    go (some s) f = simp (sign_next, f) (first_long signs (λ s. begins s bs) s signs_long f, tt)

quoted_at : (text : List ℕ) (p : ℕ) (b : Bool) → leb (length text) (p + 1) ≡ b → Firsts text p (quote_next (drop (p + 1) text))
unfolding Firsts
quoted_at text p true h = rw (quote_over text (p + 1) (leb-true _ _ h)) tt
quoted_at text p false h = rw (quote_split text p (leb-false _ _ h)) (quote_firsts text p _ _ (constant_is text p))

-- a run whose first byte passes is not empty
span_some : (t : ℕ → Bool) (text : List ℕ) (p : ℕ) → p < length text → t (get_or text p 0) ≡ true → 0 < length (span t (drop p text))
unfolding span
span_some t text p h e = rw (drop-cons text p 0 h) (let z : span t (get_or text p 0 ∷ drop (suc p) text) ≡ get_or text p 0 ∷ span t (drop (suc p) text) = simp (span, e) in rw z (omega arith))

next_firsts : (text : List ℕ) (p : ℕ) → Firsts text p (next (drop p text))
unfolding Firsts
next_firsts text p = inside (leb (length text) p) refl
  where
    signs_on : (h : p < length text) (g : gap (drop p text) ≡ 0) (e : digit (get_or text p 0) ≡ false) (f : name_byte (get_or text p 0) ≡ false) (q : get_or text p 0 ≡ 39 → ⊥) (b : Bool) → begins (47 ∷ 42 ∷ []) (drop p text) ≡ b → Firsts text p (next (drop p text))
    signs_on h g e f q true o = rw (next_open text p h g e f q o) tt
    signs_on h g e f q false o = rw (next_sign text p h g e f q o) (sign_firsts text p (drop p text))

    quotes : (h : p < length text) (g : gap (drop p text) ≡ 0) (e : digit (get_or text p 0) ≡ false) (f : name_byte (get_or text p 0) ≡ false) (b : Bool) → eqb (get_or text p 0) 39 ≡ b → Firsts text p (next (drop p text))
    quotes h g e f true q = rw (next_quote text p h g e f (eqb-true _ _ q)) (quoted_at text p (leb (length text) (p + 1)) refl)
    quotes h g e f false q = signs_on h g e f (eqb-false _ _ q) (begins (47 ∷ 42 ∷ []) (drop p text)) refl

    names_on_law : (h : p < length text) (g : gap (drop p text) ≡ 0) (e : digit (get_or text p 0) ≡ false) (b : Bool) → name_byte (get_or text p 0) ≡ b → Firsts text p (next (drop p text))
    names_on_law h g e true f = rw (next_name text p h g e f) (name_firsts text p (span name_byte (drop p text)) (span_some name_byte text p h f) refl)
    names_on_law h g e false f = quotes h g e f (eqb (get_or text p 0) 39) refl

    numbers : (h : p < length text) (g : gap (drop p text) ≡ 0) (b : Bool) → digit (get_or text p 0) ≡ b → Firsts text p (next (drop p text))
    numbers h g true e = rw (next_number text p h g e) (number_firsts text p (span digit (drop p text)) (span_some digit text p h e))
    numbers h g false e = names_on_law h g e (name_byte (get_or text p 0)) refl

    gaps : (h : p < length text) (n : ℕ) → gap (drop p text) ≡ n → Firsts text p (next (drop p text))
    gaps h zero g = numbers h g (digit (get_or text p 0)) refl
    gaps h (suc n) g = rw (next_apart text p h n g) tt

    inside : (b : Bool) → leb (length text) p ≡ b → Firsts text p (next (drop p text))
    inside true h = rw (next_over text p (leb-true _ _ h)) tt
    inside false h = gaps (leb-false _ _ h) (gap (drop p text)) refl

-- ---- all words of a text

pub data AllRuns (text : List ℕ) : List Word → Type 0 where
  no_more : AllRuns text []
  more : {w : Word} {ws : List Word} → IsRun text w → AllRuns text ws → AllRuns text (w ∷ ws)

-- the words from a place on: their names and constants are as the text has them, and there are at most as many as bytes are left
record Ran (text : List ℕ) (p : ℕ) (ws : List Word) : Type 0 where
  runs : AllRuns text ws
  few : length ws ≤ length text - p

ran_none : (text : List ℕ) (p : ℕ) {ws : List Word} → [] ≡ ws → Ran text p ws
ran_none text p z = let m : Ran text p [] = record { runs = no_more; few = omega arith } in rw z at m

first_of_word : (text : List ℕ) (p : ℕ) {x : Next} {k : ℕ} {w : ℕ → Word} → x ≡ word k w → Firsts text p x → (0 < k) × IsRun text (w p)
unfolding Firsts
first_of_word text p n b = rw n at b

word_inside : (text : List ℕ) (p : ℕ) {k : ℕ} {w : ℕ → Word} → next (drop p text) ≡ word k w → p < length text
word_inside text p n = go (leb (length text) p) refl
  where
    go : (b : Bool) → leb (length text) p ≡ b → p < length text
    go true h = clash (let z = sym (next_over text p (leb-true _ _ h)) ∙ n in cc)
    go false h = leb-false _ _ h

pushed : (text : List ℕ) (p k : ℕ) (ws : List Word) (w : Word) (x : Lexed) → push w x ≡ words ws → p < length text → (0 < k) × IsRun text w → ((us : List Word) → x ≡ words us → Ran text (p + k) us) → Ran text p ws
unfolding push
pushed text p k ws w (words us) e i b ih =
    let z : w ∷ us ≡ ws = cc in let r = ih us refl in let m : Ran text p (w ∷ us) = record { runs = more b.1 r.runs; few = omega (arith, b.0, r.few) } in rw z at m
pushed text p k ws w (bad_at q) e i b ih = clash (cc)

from_runs : (text : List ℕ) (f p : ℕ) (ws : List Word) → words_from f p (drop p text) ≡ words ws → Ran text p ws
unfolding words_from
from_runs text zero p ws e = ran_none text p (cc)
from_runs text (suc f) p ws e = go (λ q us. from_runs text f q us) (next (drop p text)) refl (next_firsts text p)
  where
    less : (k : ℕ) → Ran text (p + k) ws → Ran text p ws
    less k r = record { runs = r.runs; few = omega (arith, r.few) }

    go : ((q : ℕ) (us : List Word) → words_from f q (drop q text) ≡ words us → Ran text q us) → (x : Next) → next (drop p text) ≡ x → Firsts text p (next (drop p text)) → Ran text p ws
    go ih over n b = let y = sym (from_over f p (drop p text) n) ∙ e in ran_none text p (cc)
    go ih wrong n b = clash (let y = sym (from_wrong f p (drop p text) n) ∙ e in cc)
    go ih (apart k) n b = less k (ih (p + k) ws (rw (← drop-drop k p text) (sym (from_apart f p (drop p text) n) ∙ e)))
    go ih (word k w) n b = then (words_from f (p + k) (drop (p + k) text)) refl
      where
        then : (x : Lexed) → words_from f (p + k) (drop (p + k) text) ≡ x → Ran text p ws
        then x q = pushed text p k ws (w p) x (ap (push (w p)) (sym q ∙ ap (words_from f (p + k)) (sym (drop-drop k p text))) ∙ sym (from_word f p (drop p text) n) ∙ e) (word_inside text p n) (first_of_word text p n b) (λ us r. ih (p + k) us (q ∙ r))

module _ (text : List ℕ) (ws : List Word) (e : words_of text ≡ words ws) where
  pub all_runs : AllRuns text ws
  unfolding words_of
  all_runs = (from_runs text (suc (length text)) 0 ws e).runs

  -- there are at most as many words as bytes
  pub few_words : length ws ≤ length text
  unfolding words_of
  few_words = omega (arith, (from_runs text (suc (length text)) 0 ws e).few)
