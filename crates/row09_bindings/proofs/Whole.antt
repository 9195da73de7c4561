-- THE THEOREMS: the lines that name nothing of the actor, and the open items of its tape, are the two halves of row 9. Assumes nothing.
use mathlib.Core.Path.{◌≡◌, refl, sym, ap, ap₂, ◌∙◌}
use mathlib.Core.Bool.{Bool, true, false, not, ◌&&◌}
use mathlib.Core.List.{List, [], ◌∷◌, ◌++◌, append-nil}
use Prim.Native.Nat.{ℕ, ◌+◌, ◌*◌, ◌-◌, ◌≤◌, ◌<◌}
use native.Mathlib.Omega.{arith}
use lib.ListN.{length}
use Rattle.language.specs.Text.{among, earliest}
use Rattle.language.specs.Words.{Word}
use Rattle.language.specs.Parts.{each, environment_names}
use Rattle.language.specs.Names.{when, missing, ports}
use Rattle.language.specs.Bindings.{Binding, Bindings}
use Rattle.language.specs.Widths.{bound_names, typeless, strangers, unsettled}
use Rattle.language.specs.Tree.{Port, Actor, spelled_of, port_names}
use Rattle.placed.proofs.Earliest.{earliest_same}
use Rattle.words.specs.Found.{place_told}
use Rattle.tape.specs.Row.{Tells}
use Rattle.tape.specs.Walk.{between}
use Rattle.tape.specs.declared.Class.TheVariants.{Declared, Environment}
use Rattle.tape.proofs.Asks.{told_of_law}
use Rattle.placed.proofs.Same.{each_as}
use Rattle.row06_names.proofs.Whole.{agreed}
use Rattle.bindings.specs.declared.bound.Bound.{Bound}
use Rattle.row09_bindings.specs.Lines.{names_on, lines_on, Binds}
use Rattle.row09_bindings.specs.Walk.{lacking, opens_at}
use Rattle.row09_bindings.proofs.Tables.{names_are, widths_on, values_on}
use Rattle.std.proofs.Math.Bool.{and-true}
use Rattle.row09_bindings.proofs.Opens.{opened, opens}
use Rattle.row09_bindings.proofs.Lacks.{missing_as}
use Rattle.row09_bindings.proofs.Environs.{environs}

module _ (text t : List ℕ) (n many : ℕ) (room : n ≤ length t) (low : 3 * many ≤ n) (high : n < 3 * many + 3) {ws : List Word} {a : Actor} (h : Tells text t n ws a) (bound : Bound) {b : Bindings} (g : Binds bound.text.now bound.table.now bound.lines b) where
  width_lines : lines_on bound.text.now bound.table.now 0 (bound.lines.widths - 0) ≡ b.widths
  width_lines = let e : bound.lines.widths - 0 ≡ bound.lines.widths = omega arith in ap (lines_on bound.text.now bound.table.now 0) e ∙ widths_on g

  value_lines : (end : ℕ) → end ≡ bound.lines.widths + bound.lines.values → lines_on bound.text.now bound.table.now bound.lines.widths (end - bound.lines.widths) ≡ b.values
  value_lines end q = let e : end - bound.lines.widths ≡ bound.lines.values = omega arith in ap (lines_on bound.text.now bound.table.now bound.lines.widths) e ∙ values_on g

  ports_on : (s : List ℕ) → among (between text t Declared 0 many) s ≡ among (spelled_of (port_names a.ports)) s
  unfolding ports
  ports_on s = (agreed text t n many room low high h).declared s

  pub strange_lines : (end : ℕ) → end ≡ bound.lines.widths + bound.lines.values → place_told (earliest (missing (between text t Declared 0 many) (bound_names (lines_on bound.text.now bound.table.now 0 (bound.lines.widths - 0))) ++ (missing (between text t Environment 0 many) (bound_names (lines_on bound.text.now bound.table.now bound.lines.widths (end - bound.lines.widths))) ++ []))) ≡ place_told (earliest (strangers a b))
  unfolding strangers
  strange_lines end q =
      ap (λ (l : List ℕ). place_told (earliest l)) (ap₂ (λ (x y : List ℕ). x ++ y) (ap (λ (l : List Binding). missing (between text t Declared 0 many) (bound_names l)) width_lines ∙ missing_as _ (spelled_of (port_names a.ports)) ports_on (bound_names b.widths))
      (append-nil _ ∙ ap (λ (l : List Binding). missing (between text t Environment 0 many) (bound_names l)) (value_lines end q) ∙ missing_as _ (spelled_of (environment_names a)) (λ s. environs s text t n many room low high h) (bound_names b.values)))

  -- ---- the actor's names

  width_names : names_on bound.text.now bound.table.now 0 bound.lines.widths ≡ spelled_of (bound_names b.widths)
  width_names = names_are bound.text.now bound.table.now 0 bound.lines.widths ∙ ap (λ (l : List Binding). spelled_of (bound_names l)) (widths_on g)

  value_names : names_on bound.text.now bound.table.now bound.lines.widths bound.lines.values ≡ spelled_of (bound_names b.values)
  value_names = names_are bound.text.now bound.table.now bound.lines.widths bound.lines.values ∙ ap (λ (l : List Binding). spelled_of (bound_names l)) (values_on g)

  port_same : (l : List (List ℕ)) (c : Bool) (p : Port) → when (c && not (among l p.called.spelled)) p.called.at ≡ elim c as (λ (x : Bool). List ℕ) [ true ↦ missing l (p.called ∷ []) | false ↦ [] ]
  unfolding missing each when
  port_same l true p = sym (append-nil _)
  port_same l false p = refl

  opened_same : opened (lacking (names_on bound.text.now bound.table.now bound.lines.widths bound.lines.values)) (lacking (names_on bound.text.now bound.table.now 0 bound.lines.widths)) true a ≡ unsettled a b
  unfolding opened unsettled missing
  opened_same =
      ap₂ (λ (x y : List ℕ). x ++ y) (each_as _ _ (λ p. ap (λ (l : List (List ℕ)). when (typeless p.type && not (among l p.called.spelled)) p.called.at) width_names ∙ port_same (spelled_of (bound_names b.widths)) (typeless p.type) p) a.ports)
      (ap₂ (λ (x y : List ℕ). x ++ y) (each_as _ _ (λ m. ap (λ (c : Bool). when c m.called.at) (and-true (typeless m.type))) a.memories) (ap (λ (l : List (List ℕ)). each (told_of_law (lacking l)) (environment_names a)) value_names))

  pub open_items : place_told (earliest (opens_at text t bound many)) ≡ place_told (earliest (unsettled a b))
  open_items =
      let s = opens (lacking (names_on bound.text.now bound.table.now bound.lines.widths bound.lines.values)) (lacking (names_on bound.text.now bound.table.now 0 bound.lines.widths)) true text t n many room low high h in
      ap place_told (earliest_same s.to s.from ∙ ap earliest opened_same)
