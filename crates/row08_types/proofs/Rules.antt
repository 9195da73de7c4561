-- The places that the walk finds in a type are those of the definition. Assumes nothing.
use mathlib.Core.Path.{◌≡◌, refl, sym, ap, ◌∙◌}
use mathlib.Core.Logic.{⊎_elim}
use mathlib.Core.Bool.{Bool, true, false, not, ◌||◌}
use mathlib.Core.List.{List, [], ◌∷◌, ◌++◌, append_assoc}
use Prim.Native.Nat.{ℕ, zero, suc, ◌+◌, ◌-◌}
use native.Mathlib.Omega.{arith}
use lib.Dec.{leb}
use borrow.Author.Tests.{leb-true, leb-false}
use lib.ListN.{length, drop}
use lib.Seq.{drop-nil}
use Rattle.language.specs.Names.{when}
use Rattle.language.specs.Parts.{each}
use Rattle.language.specs.Tree.{Ty, number, environment, port, plus, minus, log, ceil, floor, most, entry, within}
use Rattle.language.specs.Types.{together, logs, rules_broken, type_faults}
use Rattle.placed.specs.Members.{Member, there}
use Rattle.placed.proofs.Members.{member_none, member_left, member_right, member_append}
use Rattle.placed.proofs.Same.{Same, is, equal, then, beside, swap, Split, both, first, of, into, same_each}
use Rattle.row08_types.proofs.Walks.{places_f, places_t}

-- the logs of a type that are at fault where it stands: all in a log; else those that are third or later with the ones before
abbrev later : Bool → ℕ → List ℕ → List ℕ
later true k l = l
later false k l = drop (together - k) l

drop_both : (n : ℕ) (a b : List ℕ) → drop n (a ++ b) ≡ drop n a ++ drop (n - length a) b
drop_both n [] b = let e : n ≡ n - 0 = omega arith in ap (λ (k : ℕ). drop k b) e ∙ ap (λ (r : List ℕ). r ++ drop (n - 0) b) (sym (drop-nil n))
drop_both zero (x ∷ a) b = let e : 0 ≡ 0 - length (x ∷ a) = omega arith in ap (λ (k : ℕ). (x ∷ a) ++ drop k b) e
drop_both (suc n) (x ∷ a) b = let e : n - length a ≡ suc n - length (x ∷ a) = omega arith in drop_both n a b ∙ ap (λ (k : ℕ). drop n a ++ drop k b) e

later_none : (i : Bool) (k : ℕ) → [] ≡ later i k []
later_none true k = refl
later_none false k = sym (drop-nil (together - k))

later_both : (i : Bool) (k : ℕ) (a b : List ℕ) → later i k (a ++ b) ≡ later i k a ++ later i (k + length a) b
later_both true k a b = refl
later_both false k a b = let e : together - k - length a ≡ together - (k + length a) = omega arith in drop_both (together - k) a b ∙ ap (λ (n : ℕ). drop (together - k) a ++ drop n b) e

drop_member : (n : ℕ) (l : List ℕ) {q : ℕ} → Member q (drop n l) → Member q l
drop_member zero l m = m
drop_member (suc n) [] m = m
drop_member (suc n) (x ∷ l) m = there (drop_member n l m)

-- a log, and those in it, which are at fault anyway
one_and_all : (p : ℕ) (l : List ℕ) → Same (l ++ (p ∷ [])) (l ++ (p ∷ l))
one_and_all p l =
    record {
      to = λ q m. ⊎_elim (λ n. member_left (p ∷ l) n) (λ n. member_right l (member_left l n)) (member_append l m);
      from = λ q m. ⊎_elim (λ n. member_left (p ∷ []) n) (λ n. ⊎_elim (λ r. member_right l r) (λ r. member_left (p ∷ []) r) (member_append (p ∷ []) n)) (member_append l m);
    }

some_again : (n : ℕ) (l : List ℕ) → Same (l ++ []) (l ++ drop n l)
some_again n l = record { to = λ q m. ⊎_elim (λ k. member_left (drop n l) k) (λ k. absurd (member_none k)) (member_append l m); from = λ q m. ⊎_elim (λ k. member_left [] k) (λ k. member_left [] (drop_member n l k)) (member_append l m) }

later_log : (i : Bool) (k p : ℕ) (l : List ℕ) → Same (l ++ when (i || leb together k) p) (l ++ later i k (p ∷ l))
unfolding when
later_log true k p l = one_and_all p l
later_log false k p l = go (leb together k) refl
  where
    go : (b : Bool) → leb together k ≡ b → Same (l ++ when b p) (l ++ drop (together - k) (p ∷ l))
    go true e = let h = leb-true together k e in let z : 0 ≡ together - k = omega arith in then (one_and_all p l) (is (ap (λ (n : ℕ). l ++ drop n (p ∷ l)) z))
    go false e = let h = leb-false together k e in let z : suc (1 - k) ≡ together - k = omega arith in then (some_again (1 - k) l) (is (ap (λ (n : ℕ). l ++ drop n (p ∷ l)) z))

not_not : (b : Bool) → b ≡ not (not b)
not_not true = refl
not_not false = refl

two_rules : {f a g b : List ℕ} (i : Bool) (k : ℕ) (x y : List ℕ) → Split f a (later i k x) → Split g b (later i (k + length x) y) → Split (f ++ g) (a ++ b) (later i k (x ++ y))
two_rules i k x y s t = into (equal _) (is (sym (later_both i k x y))) (both s t)

in_whole : {f a : List ℕ} (i : Bool) (k : ℕ) (l : List ℕ) → Split f a (drop (together - 0) l) → Split f (drop together l ++ a) (later i k [])
in_whole {f} {a} i k l s = of (then s.parts (swap a (drop together l))) (into (equal _) (is (later_none i k)) (first (drop together l ++ a)))

in_log : {f a : List ℕ} (i : Bool) (k p : ℕ) (l : List ℕ) → Split f a l → Split (f ++ when (i || leb together k) p) (l ++ a) (later i k (p ∷ l))
in_log {f} {a} i k p l s =
    record { parts = then (beside s.parts (equal _)) (then (is (append_assoc a l _)) (then (beside (equal a) (later_log i k p l)) (then (is (sym (append_assoc a l _))) (beside (swap a l) (equal _))))) }

rules_same : (t : Ty) (low after nested : Bool) (k : ℕ) → Split (places_f low after nested k t) (rules_broken (not low) (not after) t) (later nested k (logs t))
unfolding places_f rules_broken logs
rules_same (number n) low after nested k = into (equal _) (is (later_none nested k)) (first _)
rules_same (environment n) low after nested k = into (equal []) (is (later_none nested k)) (first [])
rules_same (port n) low after nested k = into (is (ap (λ (b : Bool). when b n.at) (not_not after))) (is (later_none nested k)) (first (when after n.at))
rules_same (plus s t) low after nested k = two_rules nested k (logs s) (logs t) (rules_same s low after nested k) (rules_same t low after nested (k + length (logs s)))
rules_same (minus s t) low after nested k = two_rules nested k (logs s) (logs t) (rules_same s low after nested k) (rules_same t true true nested (k + length (logs s)))
rules_same (log p t) low after nested k = in_log nested k p (logs t) (rules_same t true after true k)
rules_same (ceil p t) low after nested k = in_whole nested k (logs t) (rules_same t true after false 0)
rules_same (floor p t) low after nested k = in_whole nested k (logs t) (rules_same t true after false 0)
rules_same (most p t) low after nested k =
    of (swap (places_f true after nested k t) (when low p)) (into (beside (is (ap (λ (b : Bool). when b p) (not_not low))) (equal _)) (equal _) (both (first (when low p)) (rules_same t true after nested k)))
rules_same (entry s t) low after nested k = two_rules nested k (logs s) (logs t) (rules_same s low after nested k) (rules_same t low after nested (k + length (logs s)))
rules_same (within p t) low after nested k = rules_same t low after nested k

type_same : (t : Ty) → Same (places_t t) (type_faults t)
unfolding type_faults
type_same t = then (rules_same t false false false 0).parts (swap (rules_broken true true t) (drop together (logs t)))

pub types_same : (l : List Ty) → Same (each places_t l) (each type_faults l)
types_same l = same_each places_t type_faults type_same l
