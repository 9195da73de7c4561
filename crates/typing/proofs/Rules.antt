-- A type of the text that keeps rows 6 to 8 resolves to one that keeps this crate's rules, with the same value. Assumes nothing.
use mathlib.Core.Path.{◌≡◌, refl, sym, ap, ap₂, ◌∙◌}
use mathlib.Core.Bool.{Bool, true, false, not}
use mathlib.Core.List.{List, [], ◌∷◌, ◌++◌, append_assoc}
use Prim.Native.Nat.{ℕ, zero, suc, ◌+◌, ◌≤◌, ◌<◌, suc-le-suc}
use native.Mathlib.Nat.{le_trans, lt_of_lt_of_le, zero-lt-suc}
use native.Mathlib.Omega.{arith}
use lib.Dec.{leb}
use lib.ListN.{length, get_or, drop, length-append}
use borrow.Author.Tests.{leb-true}
use Rattle.language.specs.declared.Exact.{Exact}
use Rattle.language.specs.Text.{Name, same, index, among}
use Rattle.language.specs.Tree.{Ty}
use Rattle.language.specs.Parts.{each, type_ports}
use Rattle.language.specs.Names.{when, missing}
use Rattle.language.specs.Counts.{type_words}
use Rattle.language.specs.Types.{whole_of, plus_of, minus_of, log_of, floor_of, ceil_of, greater_of, width_of, exact_of, logs, rules_broken, type_faults}
use Rattle.type_value.specs.Terms.{Term, code, value_at, resolve, logs_in, Closed, Fine, TypeOf}
use Rattle.type_value.proofs.Bounds.{one_long, two_long}

-- ---- the same value

pub resolved : (widths values place : List ℕ → ℕ) (ws : List ℕ) → ((s : List ℕ) → widths s ≡ get_or ws (place s) 0) → (t : Ty) → exact_of widths values t ≡ value_at ws (resolve place values t)
unfolding exact_of value_at resolve
resolved widths values place ws h (Ty.number n) = refl
resolved widths values place ws h (Ty.environment n) = refl
resolved widths values place ws h (Ty.port n) = ap (λ (w : ℕ). whole_of w 0) (h n.spelled)
resolved widths values place ws h (Ty.plus s t) = ap₂ plus_of (resolved widths values place ws h s) (resolved widths values place ws h t)
resolved widths values place ws h (Ty.minus s t) = ap₂ minus_of (resolved widths values place ws h s) (resolved widths values place ws h t)
resolved widths values place ws h (Ty.log p t) = ap (λ (x : Exact). log_of (width_of x)) (resolved widths values place ws h t)
resolved widths values place ws h (Ty.ceil p t) = ap ceil_of (resolved widths values place ws h t)
resolved widths values place ws h (Ty.floor p t) = ap floor_of (resolved widths values place ws h t)
resolved widths values place ws h (Ty.most p t) = resolved widths values place ws h t
resolved widths values place ws h (Ty.entry s t) = ap₂ greater_of (resolved widths values place ws h s) (resolved widths values place ws h t)
resolved widths values place ws h (Ty.within p t) = resolved widths values place ws h t

-- ---- no faults in a whole are none in its parts

pub none_left : {A : Type 0} (l m : List A) → l ++ m ≡ [] → l ≡ []
none_left [] m e = refl
none_left (x ∷ l) m e = absurd (let z : ◌≡◌ {A = ℕ} 0 1 = cc in omega arith)

pub none_right : {A : Type 0} (l m : List A) → l ++ m ≡ [] → m ≡ []
none_right [] m e = e
none_right (x ∷ l) m e = absurd (let z : ◌≡◌ {A = ℕ} 0 1 = cc in omega arith)

pub each_append : {A B : Type 0} (f : A → List B) (l m : List A) → each f (l ++ m) ≡ each f l ++ each f m
unfolding each
each_append f [] m = refl
each_append {B = B} f (x ∷ l) m = ap (λ (r : List B). f x ++ r) (each_append f l m) ∙ sym (append_assoc (f x) (each f l) (each f m))

pub passed : (b : Bool) (p : ℕ) → when (not b) p ≡ [] → b ≡ true
unfolding when
passed true p e = refl
passed false p e = absurd (let z : ◌≡◌ {A = ℕ} 0 1 = cc in omega arith)

at_most_two : (l : List ℕ) → drop 2 l ≡ [] → length l ≤ 2
at_most_two [] e = omega arith
at_most_two (x ∷ []) e = omega arith
at_most_two (x ∷ (y ∷ l)) e = omega (arith, ap length e)

-- ---- a name among others has an index

pub index_below : (names : List (List ℕ)) (s : List ℕ) → among names s ≡ true → index names s < length names
unfolding among index
index_below [] s e = absurd (let z : ◌≡◌ {A = ℕ} 0 1 = cc in omega arith)
index_below (n ∷ names) s e = go (same n s) (index_below names s) e
  where
    go : (b : Bool) → (among names s ≡ true → index names s < length names) → elim b [ true ↦ true | false ↦ among names s ] ≡ true → elim b [ true ↦ zero | false ↦ suc (index names s) ] < suc (length names)
    go true ih h = zero-lt-suc (length names)
    go false ih h = suc-le-suc (ih h)

-- ---- the rules

module _ (names : List (List ℕ)) (n : ℕ) (fit : length names ≤ n) (values : List ℕ → ℕ) (small : (s : List ℕ) → values s ≤ 65535) where
  abbrev term : Ty → Term
  term t = resolve (index names) values t

  same_logs : (t : Ty) → length (logs t) ≡ logs_in (term t)
  unfolding logs logs_in resolve
  same_logs (Ty.number k) = refl
  same_logs (Ty.environment k) = refl
  same_logs (Ty.port k) = refl
  same_logs (Ty.plus s t) = length-append (logs s) (logs t) ∙ ap₂ (λ (i j : ℕ). i + j) (same_logs s) (same_logs t)
  same_logs (Ty.minus s t) = length-append (logs s) (logs t) ∙ ap₂ (λ (i j : ℕ). i + j) (same_logs s) (same_logs t)
  same_logs (Ty.log p t) = omega (arith, same_logs t)
  same_logs (Ty.ceil p t) = refl
  same_logs (Ty.floor p t) = refl
  same_logs (Ty.most p t) = same_logs t
  same_logs (Ty.entry s t) = length-append (logs s) (logs t) ∙ ap₂ (λ (i j : ℕ). i + j) (same_logs s) (same_logs t)
  same_logs (Ty.within p t) = same_logs t

  no_longer : (t : Ty) → length (code (term t)) ≤ type_words t
  unfolding code resolve type_words
  no_longer (Ty.number k) = omega arith
  no_longer (Ty.environment k) = omega arith
  no_longer (Ty.port k) = omega arith
  no_longer (Ty.plus s t) = omega (arith, two_long (code (term s)) (code (term t)) 5, no_longer s, no_longer t)
  no_longer (Ty.minus s t) = omega (arith, two_long (code (term s)) (code (term t)) 6, no_longer s, no_longer t)
  no_longer (Ty.log p t) = omega (arith, one_long (code (term t)) 2, no_longer t)
  no_longer (Ty.ceil p t) = omega (arith, one_long (code (term t)) 4, no_longer t)
  no_longer (Ty.floor p t) = omega (arith, one_long (code (term t)) 3, no_longer t)
  no_longer (Ty.most p t) = omega (arith, no_longer t)
  no_longer (Ty.entry s t) = omega (arith, two_long (code (term s)) (code (term t)) 7, no_longer s, no_longer t)
  no_longer (Ty.within p t) = omega (arith, no_longer t)

  -- after `-` no port's type stands
  closed : (t : Ty) (top : Bool) → rules_broken top false t ≡ [] → Closed (term t)
  unfolding rules_broken resolve when
  closed (Ty.number k) top e = tt
  closed (Ty.environment k) top e = tt
  closed (Ty.port k) top e = absurd (let z : ◌≡◌ {A = ℕ} 0 1 = cc in omega arith)
  closed (Ty.plus s t) top e = (closed s top (none_left _ _ e), closed t top (none_right (rules_broken top false s) _ e))
  closed (Ty.minus s t) top e = (closed s top (none_left _ _ e), closed t false (none_right (rules_broken top false s) _ e))
  closed (Ty.log p t) top e = closed t false (none_right (logs t) _ e)
  closed (Ty.ceil p t) top e = closed t false (none_right (drop 2 (logs t)) _ e)
  closed (Ty.floor p t) top e = closed t false (none_right (drop 2 (logs t)) _ e)
  closed (Ty.most p t) top e = closed t false (none_right (when (not top) p) _ e)
  closed (Ty.entry s t) top e = (closed s top (none_left _ _ e), closed t top (none_right (rules_broken top false s) _ e))
  closed (Ty.within p t) top e = closed t top e

  -- the ports that stand in a type are among the names
  abbrev Known : Ty → Type 0
  Known t = missing names (type_ports t) ≡ []

  both_known : (s t : List Name) → missing names (s ++ t) ≡ [] → (missing names s ≡ []) × (missing names t ≡ [])
  unfolding missing
  both_known s t e =
      let f = each_append (λ (m : Name). when (not (among names m.spelled)) m.at) s t in
      (none_left _ _ (sym f ∙ e), none_right (missing names s) _ (sym f ∙ e))

  two_of : (t : Ty) → drop 2 (logs t) ≡ [] → logs_in (term t) ≤ 2
  two_of t e = omega (arith, at_most_two (logs t) e, same_logs t)

  fine : (t : Ty) (top free : Bool) → rules_broken top free t ≡ [] → Known t → Fine n (term t)
  unfolding rules_broken resolve type_ports missing each
  fine (Ty.number k) top free e w = leb-true k.value 65535 (passed (leb k.value 65535) k.at e)
  fine (Ty.environment k) top free e w = small k.spelled
  fine (Ty.port k) top free e w = lt_of_lt_of_le (index_below names k.spelled (passed (among names k.spelled) k.at (none_left _ _ w))) fit
  fine (Ty.plus s t) top free e w =
      let v = both_known (type_ports s) (type_ports t) w in
      (fine s top free (none_left _ _ e) v.0, fine t top free (none_right (rules_broken top free s) _ e) v.1)
  fine (Ty.minus s t) top free e w =
      let v = both_known (type_ports s) (type_ports t) w in
      let r = none_right (rules_broken top free s) _ e in
      (fine s top free (none_left _ _ e) v.0, fine t false false r v.1, closed t false r)
  fine (Ty.log p t) top free e w = (fine t false free (none_right (logs t) _ e) w, sym (same_logs t) ∙ ap length (none_left (logs t) _ e))
  fine (Ty.ceil p t) top free e w = (fine t false free (none_right (drop 2 (logs t)) _ e) w, two_of t (none_left _ _ e))
  fine (Ty.floor p t) top free e w = (fine t false free (none_right (drop 2 (logs t)) _ e) w, two_of t (none_left _ _ e))
  fine (Ty.most p t) top free e w = fine t false free (none_right (when (not top) p) _ e) w
  fine (Ty.entry s t) top free e w =
      let v = both_known (type_ports s) (type_ports t) w in
      (fine s top free (none_left _ _ e) v.0, fine t top free (none_right (rules_broken top free s) _ e) v.1)
  fine (Ty.within p t) top free e w = fine t top free e w

  pub type_right : (t : Ty) → type_faults t ≡ [] → type_words t ≤ 64 → Known t → TypeOf n (term t)
  unfolding type_faults
  type_right t e l w = record {
    fine = fine t true true (none_right (drop 2 (logs t)) _ e) w;
    two = two_of t (none_left _ _ e);
    short = le_trans (no_longer t) l;
  }
