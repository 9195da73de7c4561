-- Where a name stands among the lines of a section: the search, and what its answer tells of the bindings. Assumes nothing.
use mathlib.Core.Path.{◌≡◌, refl, sym, ap, ◌∙◌}
use mathlib.Core.Bool.{Bool, true, false, not}
use mathlib.Core.List.{List, [], ◌∷◌}
use Prim.Native.Nat.{ℕ, zero, suc, ◌+◌, ◌*◌, ◌-◌, ◌≤◌, ◌<◌}
use native.Mathlib.Omega.{arith}
use native.Mathlib.Numerals.{add-one}
use lib.Dec.{eqb, ltb}
use lib.ListN.{length, get_or}
use borrow.Author.Tests.{eq-eqb, ne_eqb, lt-ltb, le-ltb, ltb-true, ltb-false}
use Rattle.language.specs.Text.{same, index, among}
use Rattle.language.specs.Tree.{spelled_of}
use Rattle.language.specs.Bindings.{Binding}
use Rattle.language.specs.Widths.{bound_names, value_in}
use Rattle.binding_names.specs.Names.{line_in}
use Rattle.row09_bindings.specs.Lines.{name_on, names_on, lines_on}
use Rattle.row09_bindings.proofs.Tables.{names_are}

module _ (btext t : List ℕ) (to i : ℕ) where
  pub names_next : i < to → names_on btext t i (to - i) ≡ name_on btext t i ∷ names_on btext t (i + 1) (to - (i + 1))
  unfolding names_on
  names_next h = let e : to - i ≡ suc (to - (i + 1)) = omega arith in rw (e, add-one i)

  pub lines_next : i < to → lines_on btext t i (to - i) ≡ line_in btext t i ∷ lines_on btext t (i + 1) (to - (i + 1))
  unfolding lines_on
  lines_next h = let e : to - i ≡ suc (to - (i + 1)) = omega arith in rw (e, add-one i)

  module _ (s : List ℕ) where
    pub found_here : i < to → same (name_on btext t i) s ≡ true → index (names_on btext t i (to - i)) s ≡ 0
    unfolding index
    found_here h e = ap (λ (l : List (List ℕ)). index l s) (names_next h) ∙ simp (index, e)

    pub found_next : i < to → same (name_on btext t i) s ≡ false → index (names_on btext t i (to - i)) s ≡ suc (index (names_on btext t (i + 1) (to - (i + 1))) s)
    unfolding index
    found_next h e = ap (λ (l : List (List ℕ)). index l s) (names_next h) ∙ simp (index, e)

    pub found_none : to ≤ i → index (names_on btext t i (to - i)) s ≡ 0
    unfolding index names_on
    found_none h = let e : to - i ≡ 0 = omega arith in rw e

-- ---- the answer

-- two tests that agree
ltb_as : (a b c d : ℕ) → (a < b → c < d) → (b ≤ a → d ≤ c) → ltb a b ≡ ltb c d
ltb_as a b c d f g = go (ltb a b) refl
  where
    go : (q : Bool) → ltb a b ≡ q → ltb a b ≡ ltb c d
    go true e = e ∙ sym (lt-ltb c d (f (ltb-true a b e)))
    go false e = e ∙ sym (le-ltb c d (g (ltb-false a b e)))

names_long : (btext t : List ℕ) (from n : ℕ) → length (names_on btext t from n) ≡ n
unfolding names_on
names_long btext t from zero = refl
names_long btext t from (suc n) = ap suc (names_long btext t (suc from) n)

module _ (s : List ℕ) where
  pub index_most : (l : List (List ℕ)) → index l s ≤ length l
  unfolding index
  index_most [] = omega arith
  index_most (n ∷ l) = go (same n s) (index_most l)
    where
      go : (b : Bool) → index l s ≤ length l → elim b as (λ (x : Bool). ℕ) [ true ↦ zero | false ↦ suc (index l s) ] ≤ suc (length l)
      go true h = let k : 0 ≤ suc (length l) = omega arith in k
      go false h = let k : suc (index l s) ≤ suc (length l) = omega arith in k

  pub index_among : (l : List (List ℕ)) → among l s ≡ ltb (index l s) (length l)
  unfolding index among
  index_among [] = refl
  index_among (n ∷ l) = go (same n s) (index_among l)
    where
      go : (b : Bool) → among l s ≡ ltb (index l s) (length l) → elim b as (λ (x : Bool). Bool) [ true ↦ true | false ↦ among l s ] ≡ ltb (elim b as (λ (x : Bool). ℕ) [ true ↦ zero | false ↦ suc (index l s) ]) (suc (length l))
      go true h = sym (lt-ltb 0 (suc (length l)) (omega arith))
      go false h = h ∙ ltb_as (index l s) (length l) (suc (index l s)) (suc (length l)) (λ k. omega arith) (λ k. omega arith)

  index_value : (btext t : List ℕ) (from n : ℕ) → index (names_on btext t from n) s < n → value_in (lines_on btext t from n) s ≡ get_or t (3 * (from + index (names_on btext t from n) s) + 2) 0
  unfolding names_on lines_on index value_in line_in
  index_value btext t from zero h = absurd (omega arith)
  index_value btext t from (suc n) h = go (same (name_on btext t from) s) (index_value btext t (suc from) n) h
    where
      i : ℕ
      i = index (names_on btext t (suc from) n) s

      go : (b : Bool) → (i < n → value_in (lines_on btext t (suc from) n) s ≡ get_or t (3 * (suc from + i) + 2) 0) → elim b as (λ (x : Bool). ℕ) [ true ↦ zero | false ↦ suc i ] < suc n
          → elim b as (λ (x : Bool). ℕ) [ true ↦ get_or t (3 * from + 2) 0 | false ↦ value_in (lines_on btext t (suc from) n) s ] ≡ get_or t (3 * (from + elim b as (λ (x : Bool). ℕ) [ true ↦ zero | false ↦ suc i ]) + 2) 0
      go true g q = ap (λ (k : ℕ). get_or t k 0) (let k : 3 * from + 2 ≡ 3 * (from + 0) + 2 = omega arith in k)
      go false g q = g (let k : suc i < suc n = q in omega arith) ∙ ap (λ (k : ℕ). get_or t k 0) (let k : 3 * (suc from + i) + 2 ≡ 3 * (from + suc i) + 2 = omega arith in k)

-- the answer is the section's end where no line has the name
pub found_lacks : (btext t : List ℕ) (from to : ℕ) → from ≤ to → (s : List ℕ) {r : ℕ} → r ≡ from + index (names_on btext t from (to - from)) s → eqb r to ≡ not (among (names_on btext t from (to - from)) s)
found_lacks btext t from to w s {r} f = go (ltb (index names s) (length names)) refl ∙ ap not (sym (index_among s names))
  where
    names : List (List ℕ)
    names = names_on btext t from (to - from)

    long : length names ≡ to - from
    long = names_long btext t from (to - from)

    go : (b : Bool) → ltb (index names s) (length names) ≡ b → eqb r to ≡ not b
    go true e = let h = ltb-true (index names s) (length names) e in let l = long in ne_eqb r to (λ q. omega arith)
    go false e = let h = ltb-false (index names s) (length names) e in let i = index_most s names in let l = long in eq-eqb r to (omega arith)

-- r is what `found` answers of a section, whose bindings are l
module _ (btext t : List ℕ) (from to : ℕ) (w : from ≤ to) {l : List Binding} (e : lines_on btext t from (to - from) ≡ l) (s : List ℕ) {r : ℕ} (f : r ≡ from + index (names_on btext t from (to - from)) s) where
  pub found_within : r ≤ to
  found_within = let a = index_most s (names_on btext t from (to - from)) in let b = names_long btext t from (to - from) in omega arith

  pub found_among : among (spelled_of (bound_names l)) s ≡ ltb r to
  found_among = sym (ap (λ (l : List (List ℕ)). among l s) (names_are btext t from (to - from) ∙ ap (λ (l : List Binding). spelled_of (bound_names l)) e)) ∙ index_among s (names_on btext t from (to - from))
      ∙ (let b = names_long btext t from (to - from) in ltb_as (index (names_on btext t from (to - from)) s) (length (names_on btext t from (to - from))) r to (λ k. omega arith) (λ k. omega arith))

  pub found_value : r < to → value_in l s ≡ get_or t (3 * r + 2) 0
  found_value h = ap (λ (l : List Binding). value_in l s) (sym e) ∙ index_value s btext t from (to - from) (omega arith) ∙ ap (λ (n : ℕ). get_or t (3 * n + 2) 0) (sym f)
