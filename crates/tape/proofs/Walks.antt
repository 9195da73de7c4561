-- The names of a class on a part of the tape, item by item; the places so far. Assumes nothing.
use mathlib.Core.Path.{◌≡◌, refl, sym, ap, ◌∙◌}
use mathlib.Core.Bool.{Bool, true, false}
use mathlib.Core.List.{List, [], ◌∷◌, ◌++◌, append-nil}
use Rattle.std.proofs.lemmas.List.Elements.{filter-append}
use Rattle.std.proofs.lemmas.List.{map-append, map-id}
use Rattle.std.proofs.lemmas.List.FromFn.{map-range_with_len_more}
use mathlib.Core.Option.{Option, none, some}
use mathlib.Core.Logic.{⊎_elim}
use native.Mathlib.Numerals.{add-one}
use Prim.Native.Nat.{ℕ, zero, suc, min, ◌+◌, ◌-◌, ◌≤◌, ◌<◌}
use native.Mathlib.Omega.{arith}
use borrow.Author.Tests.{eq-eqb, ne_eqb}
use Rattle.language.specs.Text.{same, among, earliest}
use Rattle.words.specs.Found.{place_told, earlier_of}
use Rattle.words.specs.Found.{Place}
use Rattle.std.specs.Prelude.{Some, None, cond, map}
use Rattle.std.specs.List.{reduce, filter, range_with_len}
use Rattle.placed.proofs.Members.{member_append, member_left, member_right}
use Rattle.placed.proofs.Earliest.{earliest_same}
use Rattle.placed.specs.Placed.{name_from}
use Rattle.tape.specs.Walk.{op_at, place_at, value_at, hit, add, names_on, between, put, after, pick, marked}
use Rattle.tape.specs.declared.Class.{Class}

module _ (text t : List ℕ) (c : Class) (from : ℕ) (s : List ℕ) where
  -- whether the name is among those before item i
  abbrev pub Left : ℕ → Bool
  Left i = among (between text t c from i) s

  module _ (i : ℕ) (h : from < i) where
    last : names_on text t c from (i - from) ≡ add (hit c (op_at t (i - 1)) (value_at t (i - 1))) (name_from text (place_at t (i - 1))) (names_on text t c from (i - 1 - from))
    unfolding names_on
    last = let e : i - from ≡ suc (i - 1 - from) = omega arith in let f : from + (i - 1 - from) ≡ i - 1 = omega arith in rw (e, f)

    pub said_other : hit c (op_at t (i - 1)) (value_at t (i - 1)) ≡ false → Left (i - 1) ≡ Left i
    unfolding add
    said_other e = sym (ap (λ (l : List (List ℕ)). among l s) last ∙ simp (add, e))

    module _ (e : hit c (op_at t (i - 1)) (value_at t (i - 1)) ≡ true) where
      pub said_here : same (name_from text (place_at t (i - 1))) s ≡ true → true ≡ Left i
      unfolding add among
      said_here q = sym (ap (λ (l : List (List ℕ)). among l s) last ∙ simp (add, among, e, q))

      pub said_next : same (name_from text (place_at t (i - 1))) s ≡ false → Left (i - 1) ≡ Left i
      unfolding add among
      said_next q = sym (ap (λ (l : List (List ℕ)). among l s) last ∙ simp (add, among, e, q))

  pub said_none : (i : ℕ) → i ≤ from → false ≡ Left i
  unfolding names_on among
  said_none i h = let e : i - from ≡ 0 = omega arith in rw e

-- ---- the places so far

pub told_earlier : (p : ℕ) (ps : List ℕ) → place_told (earliest (p ∷ ps)) ≡ earlier_of p (place_told (earliest ps))
unfolding earliest place_told earlier_of
told_earlier p ps = go (earliest ps) refl
  where
    go : (o : Option ℕ) → earliest ps ≡ o → place_told (earliest (p ∷ ps)) ≡ earlier_of p (place_told (earliest ps))
    go none e = simp (earliest, e)
    go (some q) e = simp (earliest, e)

told_last : (p : ℕ) (ps : List ℕ) → place_told (earliest (ps ++ (p ∷ []))) ≡ earlier_of p (place_told (earliest ps))
told_last p ps = ap place_told (earliest_same {xs = ps ++ (p ∷ [])} {ys = p ∷ ps} (λ q m. ⊎_elim (λ n. member_right (p ∷ []) n) (λ n. member_left ps n) (member_append ps m)) (λ q m. ⊎_elim (λ n. member_right ps n) (λ n. member_left (p ∷ []) n) (member_append (p ∷ []) m))) ∙ told_earlier p ps

-- one more item, of which the test says this
module _ (f : ℕ → Bool) (t : List ℕ) (i : ℕ) {first : Place} (h : first ≡ place_told (earliest (marked f t i))) where
  pub fault_more : f i ≡ true → earlier_of (place_at t i) first ≡ place_told (earliest (marked f t (i + 1)))
  unfolding marked put
  fault_more e = rw (add-one i) (sym (ap (λ (b : Bool). place_told (earliest (put b (place_at t i) (marked f t i)))) e ∙ told_last _ _ ∙ ap (earlier_of (place_at t i)) (sym h)))

  pub fault_same : f i ≡ false → first ≡ place_told (earliest (marked f t (i + 1)))
  unfolding marked put
  fault_same e = rw (add-one i) (sym (ap (λ (b : Bool). place_told (earliest (put b (place_at t i) (marked f t i)))) e ∙ sym h))

pub no_fault : (f : ℕ → Bool) (t : List ℕ) → None ≡ place_told (earliest (marked f t 0))
unfolding marked earliest place_told
no_fault f t = refl

-- from where on items count after one more item: from the next on where the item has the operation, and else as before
pub after_here : (o : ℕ) (t : List ℕ) (i : ℕ) → op_at t i ≡ o → i + 1 ≡ after o t (i + 1)
unfolding after pick
after_here o t i e = rw (add-one i) (sym (simp (after, pick, eq-eqb _ _ e)))

pub after_same : (o : ℕ) (t : List ℕ) (i : ℕ) {x : ℕ} → (op_at t i ≡ o → ⊥) → x ≡ after o t i → x ≡ after o t (i + 1)
unfolding after pick
after_same o t i n e = rw (add-one i) (e ∙ sym (simp (after, pick, ne_eqb _ _ n)))

pub after_start : (o : ℕ) (t : List ℕ) → 0 ≡ after o t 0
unfolding after
after_start o t = refl

-- ---- the places as a chain of iterators

range_more : (n : ℕ) → range_with_len 0 (suc n) ≡ range_with_len 0 n ++ (n ∷ [])
range_more n =
    ap (range_with_len 0) (sym (add-one n)) ∙ sym (map-id (range_with_len 0 (n + 1))) ∙ map-range_with_len_more (λ (x : ℕ). x) 0 n n (omega arith)
    ∙ ap (λ (l : List ℕ). l ++ (n ∷ [])) (map-id (range_with_len 0 n))

marked_law : (f : ℕ → Bool) (t : List ℕ) (n : ℕ) → marked f t n ≡ map (place_at t) (filter f (range_with_len 0 n))
unfolding marked put
marked_law f t zero = refl
marked_law f t (suc n) =
    ap (put (f n) (place_at t n)) (marked_law f t n) ∙ go (f n) refl
    ∙ sym (ap (λ (l : List ℕ). map (place_at t) (filter f l)) (range_more n) ∙ ap (map (place_at t)) (filter-append f (range_with_len 0 n) (n ∷ [])) ∙ map-append (place_at t) (filter f (range_with_len 0 n)) (filter f (n ∷ [])))
  where
    this : (b : Bool) → f n ≡ b → filter f (n ∷ []) ≡ cond b (n ∷ []) []
    this true e = simp (filter, e)
    this false e = simp (filter, e)

    before : List ℕ
    before = map (place_at t) (filter f (range_with_len 0 n))

    go : (b : Bool) → f n ≡ b → put b (place_at t n) before ≡ before ++ map (place_at t) (filter f (n ∷ []))
    go true e = rw (this true e) refl
    go false e = rw (this false e) (sym (append-nil before))

min_told : (l : List ℕ) → reduce min l ≡ place_told (earliest l)
unfolding earliest place_told earlier_of
min_told [] = refl
min_told (x ∷ xs) = go x xs
  where
    nested : (x y : ℕ) (r : Place) → earlier_of (min x y) r ≡ earlier_of x (earlier_of y r)
    nested x y None = refl
    nested x y (Some q) = ap Some (omega arith)

    go : (x : ℕ) (xs : List ℕ) → reduce min (x ∷ xs) ≡ place_told (earliest (x ∷ xs))
    go x [] = refl
    go x (y ∷ ys) = go (min x y) ys ∙ told_earlier (min x y) ys ∙ nested x y _ ∙ sym (told_earlier x (y ∷ ys) ∙ ap (earlier_of x) (told_earlier y ys))

pub earliest_marked : (f : ℕ → Bool) (t : List ℕ) (n : ℕ) → reduce min (map (place_at t) (filter f (range_with_len 0 n))) ≡ place_told (earliest (marked f t n))
earliest_marked f t n = min_told _ ∙ sym (ap (λ (l : List ℕ). place_told (earliest l)) (marked_law f t n))
