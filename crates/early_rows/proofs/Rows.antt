-- A row by what its function answers: its refusal, or what follows; a row without a fault has none. Assumes nothing.
use mathlib.Core.Path.{◌≡◌, refl, sym, ap, subst, ◌∙◌}
use mathlib.Core.List.{List, [], ◌∷◌}
use mathlib.Core.Option.{Option, none, some}
use Prim.Native.Nat.{ℕ, min}
use Rattle.language.specs.Text.{earliest}
use Rattle.language.specs.Tree.{Actor}
use Rattle.language.specs.Bindings.{Bindings}
use Rattle.language.specs.Reading.{Early, stopped, through, row}
use Rattle.language.specs.declared.Text.{Text}
use Rattle.words.specs.Found.{place_told}
use Rattle.words.specs.Found.{Place}
use Rattle.std.specs.Prelude.{Some, None, Ok, Err}
use Rattle.std.specs.Result.{IsErrAnd}
use Rattle.language.specs.declared.Refusal.{Refusal}
use Rattle.early_rows.specs.Verdicts.{Verdict, verdict_of, verdict_by}

abbrev pub row_by : ℕ → Text → Early → Place → Early
row_by n t next (Some p) = stopped n t p
row_by n t next None = next

pub row_told : (n : ℕ) (t : Text) (l : List ℕ) (next : Early) {r : Place} → r ≡ place_told (earliest l) → row n t l next ≡ row_by n t next r
unfolding row place_told
row_told n t l next e = go (earliest l) ∙ sym (ap (row_by n t next) e)
  where
    go : (o : Option ℕ) → elim o [ some p ↦ stopped n t p | none ↦ next ] ≡ row_by n t next (place_told o)
    go none = refl
    go (some p) = refl

-- a row that answers nowhere has no fault
abbrev mark : Place → Type 0
mark (Some p) = ⊥
mark None = Unit {0}

pub no_fault : (l : List ℕ) {r : Place} → r ≡ place_told (earliest l) → r ≡ None → l ≡ []
unfolding earliest place_told
no_fault [] e f = refl
no_fault (p ∷ l) e f = absurd (go (earliest l) (sym e ∙ f))
  where
    go : (o : Option ℕ) → place_told (elim o [ none ↦ some p | some q ↦ some (min p q) ]) ≡ None → ⊥
    go none z = subst mark (sym z) tt
    go (some q) z = subst mark (sym z) tt

-- a verdict is a refusal or none
abbrev through_mark : Verdict → Type 0
through_mark (Ok u) = Unit {0}
through_mark (Err f) = ⊥

-- what a `?` hands on
pub refused : (v : Verdict) (x : Refusal) → IsErrAnd v (λ y. y ≡ x) → v ≡ Err x
refused (Ok u) x h = absurd h
refused (Err y) x h = ap Err h

module _ (n : ℕ) (t : Text) (l : List ℕ) (next : Early) {r : Place} (e : r ≡ place_told (earliest l)) {v : Verdict} (f : v ≡ verdict_by n t r) where
  pub stops_at_law : {x : Refusal} → v ≡ Err x → verdict_of (row n t l next) ≡ Err x
  unfolding verdict_by verdict_of
  stops_at_law {x} g = ap verdict_of (row_told n t l next e) ∙ go r (sym f ∙ g)
    where
      go : (r : Place) → verdict_by n t r ≡ Err x → verdict_of (row_by n t next r) ≡ Err x
      go (Some p) h = h
      go None h = absurd (subst through_mark h tt)

  pub goes_on_law : {u : Unit {0}} → v ≡ Ok u → row n t l next ≡ next
  unfolding verdict_by
  goes_on_law {u} g = row_told n t l next e ∙ go r (sym f ∙ g)
    where
      go : (r : Place) → verdict_by n t r ≡ Ok u → row_by n t next r ≡ next
      go (Some p) h = absurd (subst through_mark (sym h) tt)
      go None h = refl

-- the last row
pub ends_law : (n : ℕ) (t : Text) (l : List ℕ) (a : Actor) (b : Bindings) {r : Place} → r ≡ place_told (earliest l) → {v : Verdict} → v ≡ verdict_by n t r → v ≡ verdict_of (row n t l (through a b))
unfolding verdict_by verdict_of
ends_law n t l a b {r} e f = f ∙ go r ∙ sym (ap verdict_of (row_told n t l (through a b) e))
  where
    go : (r : Place) → verdict_by n t r ≡ verdict_of (row_by n t (through a b) r)
    go (Some p) = refl
    go None = refl
