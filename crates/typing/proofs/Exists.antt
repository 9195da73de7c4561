-- Row 10 has an answer for each actor that rows 6 to 8 let through: the least widths, or that there are none. Assumes nothing.
use mathlib.Core.Path.{◌≡◌, refl, sym, ◌∙◌, subst}
use mathlib.Core.Bool.{Bool, true, false}
use mathlib.Core.List.{List, []}
use mathlib.Core.Option.{Option, none, some}
use Prim.Native.Nat.{ℕ, zero, suc, ◌+◌, ◌-◌, ◌*◌, ◌≤◌, ◌<◌}
use native.Mathlib.Nat.{le_refl, not-suc-le-zero}
use native.Mathlib.Omega.{arith}
use lib.Dec.{eqb, leb, ltb}
use lib.ListN.{length, get_or, set, replicate, length-set, length-replicate}
use borrow.Author.Tests.{eqb-true, eqb-false, leb-true, leb-false, ltb-true, ltb-false}
use Rattle.language.specs.Tree.{Ty, Actor}
use Rattle.language.specs.Parts.{each, actor_items, types}
use Rattle.language.specs.Names.{name_faults}
use Rattle.language.specs.Counts.{type_words}
use Rattle.language.specs.Types.{type_faults}
use Rattle.language.specs.Bindings.{Bindings}
use Rattle.language.specs.Widths.{value_in, Resolved}
use Rattle.type_value.specs.Terms.{Term}
use Rattle.typing.specs.Solved.{wanted, Answer, terms_of}
use Rattle.typing.proofs.Progress.{AllFine, Progress, slack, at_zero, zero_small, same, change, less, measure_falls, small_set, finish, none as no_widths}
use Rattle.typing.proofs.Accepted.{All, terms_right}
use Rattle.typing.proofs.Bridge.{answered}

-- what there is to be found
pub record Found (ts : List Term) : Type 0 where
  pub whether : Bool
  pub widths : List ℕ
  pub answer : Answer whether ts widths

module _ (ts : List Term) (g : AllFine ts) where
  -- widths that have come so far: each up to i is its type's value
  record State (ws : List ℕ) (i : ℕ) : Type 0 where
    long : length ws ≡ length ts
    small : (j : ℕ) → get_or ws j 0 ≤ 32
    progress : Progress ts ws i

  abbrev measure : List ℕ → ℕ → ℕ
  measure ws i = slack ws * suc (length ts) + (length ts - i)

  -- the search goes on from here
  abbrev Goes : ℕ → Type 0
  Goes f = (ws : List ℕ) (i : ℕ) → measure ws i < f → State ws i → Found ts

  -- "no widths from 0 to 32 satisfy every type"
  too_wide : (ws : List ℕ) (i : ℕ) → i < length ts → 32 < wanted ts ws i → State ws i → Found ts
  too_wide ws i l h s = record { whether = false; widths = replicate (length ts) 0; answer = (no_widths ts g ws i (wanted ts ws i) l refl h s.progress, refl) }

  kept : (f : ℕ) → Goes f → (ws : List ℕ) (i : ℕ) → measure ws i < suc f → i < length ts → get_or ws i 0 ≡ wanted ts ws i → State ws i → Found ts
  kept f go ws i m l e s = go ws (i + 1) (omega arith) (record { long = s.long; small = s.small; progress = same ts ws i e s.progress })

  raised : (f : ℕ) → Goes f → (ws : List ℕ) (i : ℕ) → measure ws i < suc f → i < length ts → (wanted ts ws i ≡ get_or ws i 0 → ⊥) → wanted ts ws i ≤ 32 → State ws i → Found ts
  raised f go ws i m l n h s =
      let v = wanted ts ws i in
      let lw : i < length ws = subst (λ (k : ℕ). i < k) (sym s.long) l in
      let rises : get_or ws i 0 < v = less ts ws i v l refl n s.progress in
      let falls = measure_falls ws (length ts) i v 0 lw rises h in
      go (set ws i v) 0 (omega (arith, falls)) (record {
        long = length-set ws i v ∙ s.long;
        small = small_set ws i v 32 lw h s.small;
        progress = change ts g ws i v l lw refl s.progress;
      })

  turn : (f : ℕ) → Goes f → (ws : List ℕ) (i : ℕ) → measure ws i < suc f → i < length ts → State ws i → Found ts
  turn f go ws i m l s = by_value (eqb (wanted ts ws i) (get_or ws i 0)) refl (leb (wanted ts ws i) 32) refl
    where
      by_value : (x : Bool) → eqb (wanted ts ws i) (get_or ws i 0) ≡ x → (y : Bool) → leb (wanted ts ws i) 32 ≡ y → Found ts
      by_value true e y h = kept f go ws i m l (sym (eqb-true _ _ e)) s
      by_value false e true h = raised f go ws i m l (eqb-false _ _ e) (leb-true _ _ h) s
      by_value false e false h = too_wide ws i l (leb-false _ _ h) s

  search : (f : ℕ) → Goes f
  search zero ws i m s = absurd (not-suc-le-zero m)
  search (suc f) ws i m s = by_end (ltb i (length ts)) refl (search f)
    where
      by_end : (x : Bool) → ltb i (length ts) ≡ x → Goes f → Found ts
      by_end true e go = turn f go ws i m (ltb-true _ _ e) s
      by_end false e go = record { whether = true; widths = ws; answer = finish ts ws i (ltb-false _ _ e) s.long s.small s.progress }

  -- types that keep the rules have least widths, or none
  pub exists : Found ts
  exists =
      let zeros : List ℕ = replicate (length ts) 0 in
      search (suc (measure zeros 0)) zeros 0 (le_refl _) (record {
        long = length-replicate (length ts) 0;
        small = λ j. zero_small (length ts) j 32;
        progress = at_zero ts (length ts);
      })

-- row 10, where rows 6 to 8 find no fault and what is bound is no larger than a number of a type may be
pub resolves : (a : Actor) (b : Bindings) → name_faults a ≡ [] → each type_faults (types (actor_items a)) ≡ [] → All (λ (t : Ty). type_words t ≤ 64) (types (actor_items a))
    → ((s : List ℕ) → value_in b.widths s ≤ 65535) → ((s : List ℕ) → value_in b.values s ≤ 65535) → (ws : Option (List ℕ)) × Resolved a b ws
resolves a b names typed short widths values =
    let found = exists (terms_of a b) (λ i l. (terms_right a b names typed short widths values i).fine) in
    (elim found.whether [ true ↦ some found.widths | false ↦ none ], answered a b found.whether found.widths found.answer)
