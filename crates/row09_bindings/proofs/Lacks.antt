-- The lines of a section whose names an actor does not have: the search from the last line to the first. Assumes nothing.
use mathlib.Core.Path.{◌≡◌, sym, ap, ◌∙◌}
use mathlib.Core.Bool.{Bool, true, false, not}
use mathlib.Core.List.{List, ◌++◌}
use Prim.Native.Nat.{ℕ, ◌+◌, ◌*◌, ◌-◌, ◌≤◌, ◌<◌}
use native.Mathlib.Omega.{arith}
use lib.ListN.{get_or}
use Rattle.language.specs.Text.{Name, among, earliest}
use Rattle.language.specs.Parts.{each}
use Rattle.language.specs.Names.{when, missing}
use Rattle.language.specs.Bindings.{Binding}
use Rattle.language.specs.Widths.{bound_names}
use Rattle.binding_names.specs.Names.{line_in}
use Rattle.words.specs.Found.{place_told, earlier_of}
use Rattle.words.specs.Found.{Place}
use Rattle.tape.proofs.Walks.{told_earlier}
use Rattle.placed.proofs.Same.{each_as}
use Rattle.row09_bindings.specs.Lines.{name_on, lines_on}
use Rattle.row09_bindings.proofs.Indices.{lines_next}

pub missing_as : (x y : List (List ℕ)) → ((s : List ℕ) → among x s ≡ among y s) → (ns : List Name) → missing x ns ≡ missing y ns
unfolding missing
missing_as x y h ns = each_as _ _ (λ n. ap (λ (b : Bool). when (not b) n.at) (h n.spelled)) ns

module _ (others : List (List ℕ)) (btext t : List ℕ) (to : ℕ) (ps : List ℕ) where
  -- the places from line i on, before others
  abbrev pub Lacks : ℕ → List ℕ
  Lacks i = missing others (bound_names (lines_on btext t i (to - i))) ++ ps

  pub lacks_none : place_told (earliest ps) ≡ place_told (earliest (Lacks to))
  unfolding lines_on bound_names missing each
  lacks_none = let e : to - to ≡ 0 = omega arith in rw e

  module _ (i : ℕ) (h : 0 < i) (k : i ≤ to) where
    next : Lacks (i - 1) ≡ (when (not (among others (name_on btext t (i - 1)))) (get_or t (3 * (i - 1)) 0) ++ missing others (bound_names (lines_on btext t i (to - i)))) ++ ps
    unfolding bound_names missing each line_in
    next = let e : i - 1 + 1 ≡ i = omega arith in ap (λ (l : List Binding). missing others (bound_names l) ++ ps) (lines_next btext t to (i - 1) (omega arith)) ∙ rw e

    pub lacks_more : {first : Place} → first ≡ place_told (earliest (Lacks i)) → among others (name_on btext t (i - 1)) ≡ false → earlier_of (get_or t (3 * (i - 1)) 0) first ≡ place_told (earliest (Lacks (i - 1)))
    unfolding when
    lacks_more f e = sym (ap (λ (l : List ℕ). place_told (earliest l)) (next ∙ ap (λ (b : Bool). (when (not b) (get_or t (3 * (i - 1)) 0) ++ missing others (bound_names (lines_on btext t i (to - i)))) ++ ps) e) ∙ told_earlier (get_or t (3 * (i - 1)) 0) (Lacks i) ∙ ap (earlier_of (get_or t (3 * (i - 1)) 0)) (sym f))

    pub lacks_same : {first : Place} → first ≡ place_told (earliest (Lacks i)) → among others (name_on btext t (i - 1)) ≡ true → first ≡ place_told (earliest (Lacks (i - 1)))
    unfolding when
    lacks_same f e = f ∙ sym (ap (λ (l : List ℕ). place_told (earliest l)) (next ∙ ap (λ (b : Bool). (when (not b) (get_or t (3 * (i - 1)) 0) ++ missing others (bound_names (lines_on btext t i (to - i)))) ++ ps) e))
