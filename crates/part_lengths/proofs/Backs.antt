-- The items before one; back over a part of them; the places of the words. Each as a loop comes by it. Assumes nothing.
use mathlib.Core.Path.{◌≡◌, refl, sym, ap, ap₂, subst, ◌∙◌}
use mathlib.Core.Bool.{true, false}
use mathlib.Core.List.{List, [], ◌∷◌, ◌++◌}
use Prim.Native.Nat.{ℕ, zero, suc, ◌+◌, ◌*◌, ◌-◌, ◌≤◌, ◌<◌}
use native.Mathlib.Numerals.{add-one}
use native.Mathlib.Omega.{arith}
use lib.ListN.{get_or, drop}
use borrow.Author.Tests.{eq-eqb, ne_eqb, le-leb, lt-leb}
use Rattle.language.specs.Text.{earliest}
use Rattle.words.specs.Found.{place_told, earlier_of}
use Rattle.words.specs.Found.{Place}
use Rattle.std.specs.Prelude.{Option as Optional, Some, None}
use Rattle.std.specs.Option.{unwrap_or}
use Rattle.tape.specs.Walk.{op_at, place_at, value_at}
use Rattle.tape.proofs.Walks.{told_earlier}
use Rattle.part_lengths.specs.declared.Part.{Part}
use Rattle.part_lengths.specs.declared.Length.{Length}
use Rattle.part_lengths.specs.Parts.{Triple, before, holds_of, own_of, lead_in, over_of, one, back, rest, length_of, IsWhole, places_in, first_of, after_in, long_in, held_in, both_of}

-- ---- the items before one

pub before_last : (t : List ℕ) (i : ℕ) → 0 < i → before t i ≡ record { op = op_at t (i - 1); place = place_at t (i - 1); value = value_at t (i - 1) } ∷ before t (i - 1)
unfolding before
before_last t zero h = absurd (omega arith)
before_last t (suc i) h = let e : suc i - 1 ≡ i = omega arith in rw e

-- ---- back over a part

module _ (p : Part) (o q : ℕ) {w x : ℕ} (f : w ≡ holds_of o) (g : x ≡ own_of o) where
  pub over_leads : lead_in p o ≡ true → ◌≡◌ {A = Part} (record { wanted = p.wanted - 1 + w; words = p.words + x; start = Some q }) (over_of p o q)
  unfolding over_of
  over_leads e = sym (simp (over_of, e, sym f, sym g))

  pub over_follows : lead_in p o ≡ false → ◌≡◌ {A = Part} (record { wanted = p.wanted - 1 + w; words = p.words + x; start = p.start }) (over_of p o q)
  unfolding over_of
  over_follows e = sym (simp (over_of, e, sym f, sym g))

-- so far back: item i, with the part so far, where the whole part ends before item `end`
pub record Gone (t : List ℕ) (end i : ℕ) (p : Part) : Type 0 where
  pub inside : i ≤ end
  pub wanted : p.wanted ≤ 1 + 2 * (end - i)
  pub words : p.words ≤ 3 * (end - i)
  pub same : back one (before t end) ≡ back p (before t i)
  pub left : rest one (before t end) ≡ rest p (before t i)

pub gone_none : (t : List ℕ) (end : ℕ) → Gone t end end one
gone_none t end = record { inside = omega arith; wanted = omega arith; words = omega arith; same = refl; left = refl }

module _ (t : List ℕ) (end i : ℕ) (p : Part) (g : Gone t end i p) where
  whole_is : back p (before t i) ≡ p → rest p (before t i) ≡ before t i → IsWhole t end (length_of p i)
  whole_is e f =
      record {
        inside = g.inside;
        words = sym (ap (λ (p : Part). p.words) (g.same ∙ e));
        start = sym (ap (λ (p : Part). unwrap_or p.start 0) (g.same ∙ e));
        rest = sym (g.left ∙ f);
      }

  pub whole_first : i ≡ 0 → IsWhole t end (length_of p 0)
  unfolding before back rest
  whole_first e = subst (λ (k : ℕ). IsWhole t end (length_of p k)) e (whole_is (rw e) (rw e))

  module _ (h : 0 < i) where
    pub whole_here : p.wanted ≡ 0 → IsWhole t end (length_of p i)
    unfolding back rest
    whole_here e = whole_is (ap (back p) (before_last t i h) ∙ simp (back, eq-eqb _ _ e)) (ap (rest p) (before_last t i h) ∙ (simp (rest, eq-eqb _ _ e)) ∙ sym (before_last t i h))

    module _ (n : p.wanted ≡ 0 → ⊥) (a : holds_of (op_at t (i - 1)) ≤ 3) (b : own_of (op_at t (i - 1)) ≤ 3) {r : Part} (e : r ≡ over_of p (op_at t (i - 1)) (place_at t (i - 1))) where
      pub gone_more : Gone t end (i - 1) r
      unfolding back rest over_of
      gone_more =
          record {
            inside = let k = g.inside in omega arith;
            wanted = let k = ap (λ (p : Part). p.wanted) e in let l = g.wanted in let m = g.inside in omega arith;
            words = let k = ap (λ (p : Part). p.words) e in let l = g.words in let m = g.inside in omega arith;
            same = g.same ∙ ap (back p) (before_last t i h) ∙ simp (back, ne_eqb _ _ n) (ap (λ (q : Part). back q (before t (i - 1))) (sym e));
            left = g.left ∙ ap (rest p) (before_last t i h) ∙ simp (rest, ne_eqb _ _ n) (ap (λ (q : Part). rest q (before t (i - 1))) (sym e));
          }

-- ---- the places of the words

drop_places : (t : List ℕ) (k i m : ℕ) → drop k (places_in t i m) ≡ places_in t (i + k) (m - k)
unfolding places_in
drop_places t zero i m = let e : i + 0 ≡ i = omega arith in let f : m - 0 ≡ m = omega arith in rw (e, f)
drop_places t (suc k) i zero = let f : 0 - suc k ≡ 0 = omega arith in rw f
drop_places t (suc k) i (suc m) = let e : suc i + k ≡ i + suc k = omega arith in let f : suc m - suc k ≡ m - k = omega arith in drop_places t k (suc i) m ∙ rw (e, f)

module _ (t : List ℕ) (many i more : ℕ) where
  pub nth_none : many - i ≤ more → None ≡ place_told (earliest (first_of (drop more (places_in t i (many - i)))))
  unfolding places_in first_of earliest place_told
  nth_none h = let e : many - i - more ≡ 0 = omega arith in rw (drop_places t more i (many - i), e)

  pub nth_some : more < many - i → Some (get_or t (4 * (i + more) + 1) 0) ≡ place_told (earliest (first_of (drop more (places_in t i (many - i)))))
  unfolding places_in first_of earliest place_told
  nth_some h = let e : many - i - more ≡ suc (many - i - more - 1) = omega arith in rw (drop_places t more i (many - i), e)

module _ (t : List ℕ) (many p n : ℕ) where
  -- what is left from word i on
  abbrev pub Left : ℕ → List ℕ
  Left i = after_in (places_in t i (many - i)) p n

  pub left_all : after_in (places_in t 0 many) p n ≡ Left 0
  left_all = let e : many - 0 ≡ many = omega arith in rw e

  opens : (i : ℕ) → i < many → places_in t i (many - i) ≡ get_or t (4 * i + 1) 0 ∷ places_in t (suc i) (many - suc i)
  unfolding places_in
  opens i h = let e : many - i ≡ suc (many - suc i) = omega arith in rw e

  pub left_here : (i : ℕ) → i < many → get_or t (4 * i + 1) 0 ≡ p → Left i ≡ first_of (drop n (places_in t i (many - i)))
  unfolding after_in
  left_here i h e = ap (λ (l : List ℕ). after_in l p n) (opens i h) ∙ simp (after_in, eq-eqb _ _ e) (ap (λ (l : List ℕ). first_of (drop n l)) (sym (opens i h)))

  pub left_next : (i : ℕ) → i < many → (get_or t (4 * i + 1) 0 ≡ p → ⊥) → Left i ≡ Left (i + 1)
  unfolding after_in
  left_next i h e = rw (add-one i) (ap (λ (l : List ℕ). after_in l p n) (opens i h) ∙ simp (after_in, ne_eqb _ _ e))

  pub left_none : (i : ℕ) → many ≤ i → Left i ≡ []
  unfolding places_in after_in
  left_none i h = let e : many - i ≡ 0 = omega arith in rw e

-- ---- the earlier of two places

pub both_told : (xs ys : List ℕ) → both_of (place_told (earliest xs)) (place_told (earliest ys)) ≡ place_told (earliest (xs ++ ys))
unfolding both_of earliest place_told earlier_of
both_told [] ys = refl
both_told (x ∷ xs) ys = ap (λ (p : Place). both_of p (place_told (earliest ys))) (told_earlier x xs) ∙ go (place_told (earliest xs)) (place_told (earliest ys)) ∙ ap (earlier_of x) (both_told xs ys) ∙ sym (told_earlier x (xs ++ ys))
  where
    go : (a b : Place) → both_of (earlier_of x a) b ≡ earlier_of x (both_of a b)
    go None b = refl
    go (Some q) None = refl
    go (Some q) (Some r) = ap Some (omega arith)

-- ---- the parts that an item holds

module _ (ps : List ℕ) (limit words start : ℕ) where
  pub short : words ≤ limit → None ≡ place_told (earliest (long_in ps limit words start))
  unfolding long_in earliest place_told
  short h = sym (simp (long_in, le-leb _ _ h))

  pub long : limit < words → long_in ps limit words start ≡ after_in ps start limit
  unfolding long_in
  long h = simp (long_in, lt-leb _ _ h)

module _ (ps : List ℕ) (t : List ℕ) (end : ℕ) where
  abbrev Held : (last other : Optional ℕ) → Place → Type 0
  Held last other r = r ≡ place_told (earliest (held_in ps (before t end) last other))

  pub held_none : (other : Optional ℕ) → Held None other None
  unfolding held_in earliest place_told
  held_none other = refl

  module _ (limit : ℕ) {w : Length} (h : IsWhole t end w) {a : Place} (f : a ≡ place_told (earliest (long_in ps limit w.words w.start))) where
    first_is : long_in ps limit w.words w.start ≡ long_in ps limit (back one (before t end)).words (unwrap_or (back one (before t end)).start 0)
    first_is = ap₂ (long_in ps limit) h.words h.start

    pub held_one : Held (Some limit) None a
    unfolding held_in
    held_one = f ∙ ap (λ (l : List ℕ). place_told (earliest l)) first_is

    pub held_two : (other : ℕ) {v : Length} → IsWhole t w.at v → {b r : Place} → b ≡ place_told (earliest (long_in ps other v.words v.start)) → r ≡ both_of a b → Held (Some limit) (Some other) r
    unfolding held_in
    held_two other {v} k g q = q ∙ ap₂ both_of f g ∙ both_told _ _ ∙ ap (λ (l : List ℕ). place_told (earliest l)) (ap₂ (λ (x y : List ℕ). x ++ y) first_is second_is)
      where
        second_is : long_in ps other v.words v.start ≡ long_in ps other (back one (rest one (before t end))).words (unwrap_or (back one (rest one (before t end))).start 0)
        second_is = ap₂ (long_in ps other) k.words k.start ∙ ap (λ (l : List Triple). long_in ps other (back one l).words (unwrap_or (back one l).start 0)) h.rest
