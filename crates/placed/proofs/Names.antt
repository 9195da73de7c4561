-- Names in lists: tests without a fault turned into facts, and where a name stands.
use Prim.Native.Nat.{ℕ, zero, suc, ◌<◌}
use mathlib.Core.Path.{◌≡◌, refl, sym, ap, ap₂, subst}
use mathlib.Core.List.{List, [], ◌∷◌, ◌++◌}
use mathlib.Core.Bool.{Bool, true, false, not, ◌&&◌, ◌||◌, false≢true, true≢false}
use native.Mathlib.Omega.{arith}
use lib.ListN.{length, get_or}
use lib.Dec.{eqb}
use borrow.Author.Tests.{eqb-true, eq-eqb}
use Rattle.language.specs.Text.{Name, same, index, among}
use Rattle.language.specs.Tree.{spelled_of}
use Rattle.language.specs.Names.{when, missing, repeated}
use Rattle.placed.specs.Placed.{Every}
use Rattle.placed.proofs.Every.{append_nils, every_nil, every_map}

-- ## Booleans

pub bool_iff : (a b : Bool) → (a ≡ true → b ≡ true) → (b ≡ true → a ≡ true) → a ≡ b
bool_iff true true f g = refl
bool_iff true false f g = sym (f refl)
bool_iff false true f g = g refl
bool_iff false false f g = refl

pub both_true : (a b : Bool) → (a && b) ≡ true → (a ≡ true) × (b ≡ true)
both_true true b e = (refl, e)
both_true false b e = absurd (false≢true e)

pub true_both : (a b : Bool) → a ≡ true → b ≡ true → (a && b) ≡ true
true_both a b h k = rw (h, k)

pub or_right : (a b : Bool) → b ≡ true → (a || b) ≡ true
or_right true b h = refl
or_right false b h = h

-- ## No fault in a test

pub when_not : (b : Bool) (p : ℕ) → when (not b) p ≡ [] → b ≡ true
unfolding when
when_not true p e = refl
when_not false p e = let z : ◌≡◌ {A = ℕ} 0 1 = cc in absurd (omega arith)

pub when_nil : (b : Bool) (p : ℕ) → when b p ≡ [] → b ≡ false
unfolding when
when_nil false p e = refl
when_nil true p e = let z : ◌≡◌ {A = ℕ} 0 1 = cc in absurd (omega arith)

-- ## Spelling

pub same_refl : (a : List ℕ) → same a a ≡ true
unfolding same
same_refl [] = refl
same_refl (x ∷ a) = rw (eq-eqb x x refl) (same_refl a)

pub same_eq : (a b : List ℕ) → same a b ≡ true → a ≡ b
unfolding same
same_eq [] [] e = refl
same_eq [] (y ∷ b) e = absurd (false≢true e)
same_eq (x ∷ a) [] e = absurd (false≢true e)
same_eq (x ∷ a) (y ∷ b) e = let k = both_true (eqb x y) (same a b) e in ap₂ ◌∷◌ (eqb-true x y k.0) (same_eq a b k.1)

pub among_of : (l : List (List ℕ)) (a n : List ℕ) → among (a ∷ l) n ≡ false → (same a n ≡ false) × (among l n ≡ false)
unfolding among
among_of l a n e = go (same a n) e
  where
    go : (t : Bool) → (elim t [ true ↦ true | false ↦ among l n ]) ≡ false → (t ≡ false) × (among l n ≡ false)
    go true e = absurd (true≢false e)
    go false e = (refl, e)

pub among_append : (l m : List (List ℕ)) (n : List ℕ) → among (l ++ m) n ≡ (among l n || among m n)
unfolding among
among_append [] m n = refl
among_append (a ∷ l) m n = go (same a n) (among_append l m n)
  where
    go : (t : Bool) → among (l ++ m) n ≡ (among l n || among m n) → (elim t [ true ↦ true | false ↦ among (l ++ m) n ]) ≡ ((elim t [ true ↦ true | false ↦ among l n ]) || among m n)
    go true e = refl
    go false e = e

pub among_here : (l : List (List ℕ)) (a : List ℕ) → among (a ∷ l) a ≡ true
unfolding among
among_here l a = rw (among, same_refl a)

pub among_there : (l : List (List ℕ)) (a n : List ℕ) → among l n ≡ true → among (a ∷ l) n ≡ true
unfolding among
among_there l a n h = go (same a n)
  where
    go : (t : Bool) → (elim t [ true ↦ true | false ↦ among l n ]) ≡ true
    go true = refl
    go false = h

-- of every one, and of each name that is among them
pub every_among : (P : List ℕ → Type 0) (l : List (List ℕ)) (n : List ℕ) → Every P l → among l n ≡ true → P n
unfolding among
every_among P [] n e h = absurd (false≢true h)
every_among P (a ∷ l) n e h = go (same a n) refl h (λ k. every_among P l n e.1 k)
  where
    go : (t : Bool) → same a n ≡ t → (elim t [ true ↦ true | false ↦ among l n ]) ≡ true → (among l n ≡ true → P n) → P n
    go true q k r = subst P (same_eq a n q) e.0
    go false q k r = r k

pub among_every : (P : List ℕ → Type 0) (l : List (List ℕ)) → ((n : List ℕ) → among l n ≡ true → P n) → Every P l
among_every P [] f = tt
among_every P (a ∷ l) f = (f a (among_here l a), among_every P l (λ n h. f n (among_there l a n h)))

-- ## Where a name stands

pub index_below : (l : List (List ℕ)) (n : List ℕ) → among l n ≡ true → index l n < length l
unfolding among index
index_below [] n h = absurd (false≢true h)
index_below (a ∷ l) n h = go (same a n) h (λ k. index_below l n k)
  where
    go : (t : Bool) → (elim t [ true ↦ true | false ↦ among l n ]) ≡ true → (among l n ≡ true → index l n < length l) → (elim t [ true ↦ zero | false ↦ suc (index l n) ]) < suc (length l)
    go true k r = omega arith
    go false k r = let q = r k in omega arith

pub index_at : (l : List (List ℕ)) (n : List ℕ) → among l n ≡ true → get_or l (index l n) [] ≡ n
unfolding among index
index_at [] n h = absurd (false≢true h)
index_at (a ∷ l) n h = go (same a n) refl h (λ k. index_at l n k)
  where
    go : (t : Bool) → same a n ≡ t → (elim t [ true ↦ true | false ↦ among l n ]) ≡ true → (among l n ≡ true → get_or l (index l n) [] ≡ n) → get_or (a ∷ l) (elim t [ true ↦ zero | false ↦ suc (index l n) ]) [] ≡ n
    go true q k r = same_eq a n q
    go false q k r = r k

pub length_spelled : (ns : List Name) → length (spelled_of ns) ≡ length ns
unfolding spelled_of
length_spelled [] = refl
length_spelled (n ∷ ns) = ap suc (length_spelled ns)

-- ## Names that come once

abbrev pub Distinct : List (List ℕ) → List Name → Type 0
Distinct seen [] = Unit {0}
Distinct seen (n ∷ ns) = (among seen n.spelled ≡ false) × Distinct (n.spelled ∷ seen) ns

pub repeated_distinct : (seen : List (List ℕ)) (ns : List Name) → repeated seen ns ≡ [] → Distinct seen ns
unfolding repeated
repeated_distinct seen [] e = tt
repeated_distinct seen (n ∷ ns) e = let a = append_nils (when (among seen n.spelled) n.at) _ e in (when_nil _ _ a.0, repeated_distinct (n.spelled ∷ seen) ns a.1)

-- a later name is none of those seen
pub distinct_later : (seen : List (List ℕ)) (ns : List Name) (i : ℕ) → Distinct seen ns → i < length ns → among seen (get_or (spelled_of ns) i []) ≡ false
unfolding spelled_of
distinct_later seen [] i d h = absurd (omega arith)
distinct_later seen (n ∷ ns) zero d h = d.0
distinct_later seen (n ∷ ns) (suc i) d h = (among_of seen n.spelled _ (distinct_later (n.spelled ∷ seen) ns i d.1 (omega arith))).1

pub index_distinct : (seen : List (List ℕ)) (ns : List Name) (i : ℕ) → Distinct seen ns → i < length ns → index (spelled_of ns) (get_or (spelled_of ns) i []) ≡ i
unfolding index spelled_of
index_distinct seen [] i d h = absurd (omega arith)
index_distinct seen (n ∷ ns) zero d h = rw (index, same_refl n.spelled)
index_distinct seen (n ∷ ns) (suc i) d h =
    rw (index, (among_of seen n.spelled (get_or (spelled_of ns) i []) (distinct_later (n.spelled ∷ seen) ns i d.1 (omega arith))).0) (ap suc (index_distinct (n.spelled ∷ seen) ns i d.1 (omega arith)))

-- each of `missing others ns` is among the others
pub missing_none : (others : List (List ℕ)) (ns : List Name) → missing others ns ≡ [] → Every (λ n. among others n.spelled ≡ true) ns
unfolding missing
missing_none others ns e = every_map _ _ (λ n h. when_not _ _ h) ns (every_nil _ ns e)

pub every_spelled : (P : List ℕ → Type 0) (ns : List Name) → Every (λ n. P n.spelled) ns → Every P (spelled_of ns)
unfolding spelled_of
every_spelled P [] e = tt
every_spelled P (n ∷ ns) e = (e.0, every_spelled P ns e.1)

pub spelled_every : (P : List ℕ → Type 0) (ns : List Name) → Every P (spelled_of ns) → Every (λ n. P n.spelled) ns
unfolding spelled_of
spelled_every P [] e = tt
spelled_every P (n ∷ ns) e = (e.0, spelled_every P ns e.1)
