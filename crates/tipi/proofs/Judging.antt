-- Rows 6 to 9 together: what follows a refusal, and what they leave where none refuses. Assumes nothing.
use mathlib.Core.Path.{◌≡◌, refl, sym, ap, subst, ◌∙◌}
use mathlib.Core.List.{List, [], ◌∷◌}
use mathlib.Core.Option.{Option, none, some}
use Prim.Native.Nat.{ℕ, min}
use Rattle.language.specs.Text.{earliest}
use Rattle.language.specs.Words.{Word}
use Rattle.language.specs.Tree.{Actor}
use Rattle.language.specs.Parts.{each, actor_items, types}
use Rattle.language.specs.Names.{name_faults}
use Rattle.language.specs.Counts.{limit_faults}
use Rattle.language.specs.Types.{type_faults}
use Rattle.language.specs.Bindings.{Bindings}
use Rattle.language.specs.Widths.{strangers, unsettled}
use Rattle.language.specs.Reading.{Early, stopped, through, refused, row, judged}
use Rattle.language.specs.declared.Text.{Text}
use Rattle.language.specs.declared.Text.TheVariants.{Actor as InActor, Bindings as InBindings}
use Rattle.bindings.specs.declared.bound.Bound.{Bound}
use Rattle.row10_widths.specs.Row.{Passed}
use Rattle.tipi.specs.Told.{answer_of, table_after, stops, After, Heard}
use Rattle.early_rows.specs.Verdicts.{verdict_of, TextsHeld}
use Rattle.plan_answer.specs.Answered.{Answer}
use Rattle.plan_answer.specs.Answered.{Plan, Refused}
use Rattle.early_rows.specs.Verdicts.{Verdict, Stopped, Through}
use Rattle.language.specs.declared.Refusal.{Refusal}
use Rattle.std.specs.Prelude.{Ok, Err}
use Rattle.std.specs.Result.{IsErrAnd}

-- ---- rows 6 to 9 together

-- a refusal as `read` says it
abbrev refuse : Verdict → Answer
refuse (Err why) = Err why
refuse (Ok u) = Plan 0

pub stopped_after : (e : Early) {n p : ℕ} {t : Text} (before : List ℕ) → Stopped n t p ≡ verdict_of e → After e (Refused n t p) before before
unfolding verdict_of answer_of table_after
stopped_after (stopped m u q) before f = record { what = refused m u q; follows = stops; told = record { answer = ap refuse f; table = refl } }
stopped_after (through a b) before f = cc

-- what a `?` hands on
pub passed_up : {e : Early} {why : Refusal} {before after : List ℕ} (r : Answer) → IsErrAnd r (λ y. y ≡ why) → After e (Err why) before after → After e r before after
passed_up (Ok n) h x = absurd h
passed_up {e} {why} {before} {after} (Err y) h x = subst (λ (z : Answer). After e z before after) (ap Err (sym h)) x

row_through : (n : ℕ) (t : Text) (l : List ℕ) (next : Early) → Through ≡ verdict_of (row n t l next) → (l ≡ []) × (Through ≡ verdict_of next) × (row n t l next ≡ next)
unfolding row earliest verdict_of
row_through n t [] next f = (refl, f, refl)
row_through n t (p ∷ l) next f = absurd (go (earliest l) f)
  where
    go : (o : Option ℕ) → Through ≡ verdict_of (elim (elim o as (λ (x : Option ℕ). Option ℕ) [ none ↦ some p | some q ↦ some (min p q) ]) as (λ (x : Option ℕ). Early) [ some q ↦ stopped n t q | none ↦ next ]) → ⊥
    go none z = cc
    go (some q) z = cc

-- what rows 6 to 9 leave where none refuses
pub record Clean (ws : List Word) (a : Actor) (b : Bindings) : Type 0 where
  pub passed : Passed ws a
  pub known : strangers a b ≡ []
  pub settled : unsettled a b ≡ []
  pub whole : judged ws a b ≡ through a b

pub judged_through : (ws : List Word) (a : Actor) (b : Bindings) → Through ≡ verdict_of (judged ws a b) → Clean ws a b
unfolding judged
judged_through ws a b f =
    let c = row_through 6 InActor (name_faults a) _ f in
    let d = row_through 7 InActor (limit_faults ws a) _ c.1 in
    let e = row_through 8 InActor (each type_faults (types (actor_items a))) _ d.1 in
    let g = row_through 9 InBindings (strangers a b) _ e.1 in
    let h = row_through 9 InActor (unsettled a b) _ g.1 in
    record { passed = record { names = c.0; limited = d.0; typed = e.0 }; known = g.0; settled = h.0; whole = c.2 ∙ d.2 ∙ e.2 ∙ g.2 ∙ h.2 }

pub heard : {text t : List ℕ} {n : ℕ} {bound : Bound} {ws : List Word} {a : Actor} {b : Bindings} → TextsHeld text t n bound ws a b → Clean ws a b → Heard text t n bound ws a b
heard h c = record { asked = record { tells = h.tells; binds = h.binds; passed = c.passed }; known = c.known; settled = c.settled }

pub after_as : {e f : Early} {r : Answer} {before after : List ℕ} → f ≡ e → After e r before after → After f r before after
after_as {r = r} {before = before} {after = after} q h = subst (λ (x : Early). After x r before after) (sym q) h
