-- Laws of the names of the bindings text, each at a place of the text, and of the names of the lines before. Assumes nothing.
use mathlib.Core.Path.{◌≡◌, refl, sym, ap, ◌∙◌}
use mathlib.Core.Bool.{Bool, true, false, not, ◌&&◌, ◌||◌}
use mathlib.Core.List.{List, [], ◌∷◌, ◌++◌}
use Prim.Native.Nat.{ℕ, zero, suc, ◌+◌, ◌-◌, ◌*◌, ◌≤◌, ◌<◌}
use native.Mathlib.Omega.{arith}
use native.Mathlib.Numerals.{add-one}
use native.Mathlib.Nat.{add-zero}
use lib.Dec.{leb, eqb}
use lib.ListN.{length, take, drop, get_or, drop_of_length-le, length-drop, length-take}
use lib.Seq.{drop-cons, take-suc, get_or-drop}
use borrow.Author.Tests.{lt-ltb, le-ltb, eq-eqb, ne_eqb, leb-true, leb-false}
use Rattle.language.specs.Text.{same, among}
use Rattle.language.specs.Words.{digit, name_byte, good_name}
use Rattle.language.specs.Bindings.{got, lost, may_end, may_go_on, name_from, fresh_name}
use Rattle.binding_names.specs.Names.{line_in, lines_in, names_of}
use Rattle.std.specs.List.{list_any, range_with_len}
use Rattle.std.specs.Cmp.Lexicographic.{pointwise}
use Rattle.spelling.proofs.Laws.{never}

-- ---- what stands at a place of a text

module _ (text : List ℕ) (x : ℕ) where
  pub name_over : (seen : List (List ℕ)) (s : List ℕ) → length text ≤ x → name_from seen s (drop x text) ≡ lost (drop x text)
  unfolding name_from
  name_over seen s h = rw (drop_of_length-le text h)

  pub fresh_over : (seen : List (List ℕ)) → length text ≤ x → fresh_name seen (drop x text) ≡ name_from seen [] (drop x text)
  unfolding name_from fresh_name
  fresh_over seen h = rw (drop_of_length-le text h)

  module _ (h : x < length text) where
    pub fresh_digit : (seen : List (List ℕ)) → digit (get_or text x 0) ≡ true → fresh_name seen (drop x text) ≡ lost (drop x text)
    unfolding fresh_name
    fresh_digit seen e = rw (drop-cons text x 0 h) (simp (fresh_name, e))

    pub fresh_other : (seen : List (List ℕ)) → digit (get_or text x 0) ≡ false → fresh_name seen (drop x text) ≡ name_from seen [] (drop x text)
    unfolding fresh_name
    fresh_other seen e = rw (drop-cons text x 0 h) (simp (fresh_name, e))

-- ---- a name's bytes so far

module _ (text : List ℕ) (from n : ℕ) (h : from + n < length text) where
  pub one_more : take (n + 1) (drop from text) ≡ take n (drop from text) ++ (get_or text (from + n) 0 ∷ [])
  one_more = let k : n < length (drop from text) = simp length-drop (omega arith) in rw (add-one, take-suc (drop from text) n 0 k, get_or-drop)

  module _ (seen : List (List ℕ)) where
    pub name_more : (name_byte (get_or text (from + n) 0) && may_go_on seen (take (n + 1) (drop from text))) ≡ true → name_from seen (take n (drop from text)) (drop (from + n) text) ≡ name_from seen (take (n + 1) (drop from text)) (drop (from + n + 1) text)
    unfolding name_from
    name_more e = rw (drop-cons text (from + n) 0 h, add-one (from + n)) (simp (name_from, ← one_more, e))

    pub name_ends : (name_byte (get_or text (from + n) 0) && may_go_on seen (take (n + 1) (drop from text))) ≡ false → may_end seen (take n (drop from text)) ≡ true → name_from seen (take n (drop from text)) (drop (from + n) text) ≡ got (take n (drop from text)) (drop (from + n) text)
    unfolding name_from
    name_ends e f = rw (drop-cons text (from + n) 0 h) (simp (name_from, ← one_more, e, f))

    pub name_stops : (name_byte (get_or text (from + n) 0) && may_go_on seen (take (n + 1) (drop from text))) ≡ false → may_end seen (take n (drop from text)) ≡ false → name_from seen (take n (drop from text)) (drop (from + n) text) ≡ lost (drop (from + n) text)
    unfolding name_from
    name_stops e f = rw (drop-cons text (from + n) 0 h) (simp (name_from, ← one_more, e, f))

pub run_length : (text : List ℕ) (from n : ℕ) → from + n ≤ length text → length (take n (drop from text)) ≡ n
run_length text from n h = simp (length-take, length-drop) (omega arith)

pub both_is : (a b : Bool) → a ≡ true → (a && b) ≡ b
both_is a b e = simp e

module _ (seen : List (List ℕ)) (s : List ℕ) where
  pub goes_short : length s < 31 → may_go_on seen s ≡ true
  unfolding may_go_on
  goes_short h = simp (may_go_on, lt-ltb _ _ h)

  pub goes_long : 31 < length s → may_go_on seen s ≡ false
  unfolding may_go_on
  goes_long h = simp (may_go_on, le-ltb (length s) 31 (omega arith), ne_eqb (length s) 31 (λ e. omega arith))

  pub goes_last : length s ≡ 31 → may_go_on seen s ≡ may_end seen s
  unfolding may_go_on
  goes_last h = simp (may_go_on, le-ltb (length s) 31 (omega arith), eq-eqb (length s) 31 h)

  pub ends_bad : good_name s ≡ false → may_end seen s ≡ false
  unfolding may_end
  ends_bad e = simp (may_end, e)

  pub ends_good : good_name s ≡ true → may_end seen s ≡ not (among seen s)
  unfolding may_end
  ends_good e = simp (may_end, e)

-- a byte of a name goes on while the name has under 31 bytes with it
pub goes_on_short : (text : List ℕ) (seen : List (List ℕ)) (from n : ℕ) → from + n + 1 ≤ length text → name_byte (get_or text (from + n) 0) ≡ true → n + 1 < 31 → true ≡ (name_byte (get_or text (from + n) 0) && may_go_on seen (take (n + 1) (drop from text)))
goes_on_short text seen from n h e s = let l = run_length text from (n + 1) (omega arith) in sym (both_is _ _ e ∙ goes_short seen _ (omega (arith, l, s)))

-- a name that may go on has at most 31 bytes
pub goes_most : (seen : List (List ℕ)) (s : List ℕ) → may_go_on seen s ≡ true → length s ≤ 31
goes_most seen s e = go (leb (length s) 31) refl
  where
    go : (b : Bool) → leb (length s) 31 ≡ b → length s ≤ 31
    go true q = leb-true (length s) 31 q
    go false q = never (sym e ∙ goes_long seen s (leb-false (length s) 31 q))

-- ---- the names of the lines before

-- `same` is what `==` on slices computes
same_is : (s t : List ℕ) → same s t ≡ pointwise eqb s t
unfolding same
same_is [] [] = refl
same_is [] (b ∷ t) = refl
same_is (a ∷ s) [] = refl
same_is (a ∷ s) (b ∷ t) = ap (λ (r : Bool). eqb a b && r) (same_is s t)

-- whether line i has this name
abbrev pub has_name : List ℕ → List ℕ → List ℕ → ℕ → Bool
has_name text t s i = pointwise eqb (take (get_or t (3 * i) 0 + get_or t (3 * i + 1) 0 - get_or t (3 * i) 0) (drop (get_or t (3 * i) 0) text)) s

swap : (a b c : Bool) → (a || (b || c)) ≡ (b || (a || c))
swap true true c = refl
swap true false c = refl
swap false b c = refl

any_more : (p : ℕ → Bool) (a n : ℕ) → list_any p (range_with_len a (suc n)) ≡ (p (a + n) || list_any p (range_with_len a n))
any_more p a zero = rw add-zero
any_more p a (suc n) = let e : a + suc n ≡ a + 1 + n = omega arith in rw (any_more p (a + 1) n, e) (swap (p a) (p (a + 1 + n)) (list_any p (range_with_len (a + 1) n)))

first : (a b : Bool) → (a || b) ≡ elim a [ true ↦ true | false ↦ b ]
first true b = refl
first false b = refl

-- the part from a place to the place n bytes on
pub part_is : (l : List ℕ) (a n : ℕ) → take (a + n - a) (drop a l) ≡ take n (drop a l)
part_is l a n = let e : a + n - a ≡ n = omega arith in rw e

pub any_among : (text t s : List ℕ) (k : ℕ) → list_any (has_name text t s) (range_with_len 0 k) ≡ among (names_of (lines_in text t k)) s
unfolding among names_of lines_in line_in
any_among text t s zero = refl
any_among text t s (suc k) =
    any_more (has_name text t s) 0 k ∙
    (let e : 0 + k ≡ k = omega arith in
    rw (e, any_among text t s k, ← same_is, part_is) (first (same (take (get_or t (3 * k + 1) 0) (drop (get_or t (3 * k) 0) text)) s) (among (names_of (lines_in text t k)) s)))
