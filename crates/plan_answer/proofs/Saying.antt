-- What row 13 answers, as the reader of texts says it. Assumes nothing.
use mathlib.Core.Path.{◌≡◌, refl, ap, ◌∙◌}
use mathlib.Core.Bool.{Bool, true, false}
use mathlib.Core.List.{List}
use Prim.Native.Nat.{ℕ}
use lib.Dec.{leb}
use lib.ListN.{length, take}
use Rattle.language.specs.declared.Text.TheVariants.{Actor as InActor}
use Rattle.row13_plan.specs.Made.{plan_in}
use Rattle.section_items.specs.Items.{Item}
use Rattle.row13_plan.specs.Made as Making
use Rattle.row13_plan.specs.Made.{table_after as table_with}
use Rattle.std.specs.Prelude.{Option as Optional, Some, None, Ok}
use Rattle.std.specs.Option.{ok_or}
use Rattle.plan_answer.specs.Answered.{Answer, Refused, made_of, sums}

module _ (items : List Item) (code lengths before : List ℕ) {n : ℕ} (e : n ≡ sums lengths) where
  pub made_said : {r : Optional ℕ} {a : Answer} → r ≡ Making.answer_of (plan_in items (take n code) lengths) before → a ≡ ok_or r (record { row = 13; text = InActor; place = 0 }) → a ≡ made_of (plan_in items (take (sums lengths) code) lengths) before
  unfolding Making.answer_of made_of
  made_said f g = g ∙ ap (λ (r : Optional ℕ). ok_or r (record { row = 13; text = InActor; place = 0 })) f ∙ go (leb (length (plan_in items (take n code) lengths)) (length before)) ∙ ap (λ (k : ℕ). made_of (plan_in items (take k code) lengths) before) e
    where
      go : (b : Bool) → ◌≡◌ {A = Answer} (ok_or (elim b as (λ (x : Bool). Optional ℕ) [ true ↦ Some (length (plan_in items (take n code) lengths)) | false ↦ None ]) (record { row = 13; text = InActor; place = 0 })) (elim b [ true ↦ Ok (length (plan_in items (take n code) lengths)) | false ↦ Refused 13 InActor 0 ])
      go true = refl
      go false = refl

  pub made_tabled : {after : List ℕ} → after ≡ table_with (plan_in items (take n code) lengths) before → after ≡ table_with (plan_in items (take (sums lengths) code) lengths) before
  made_tabled f = f ∙ ap (λ (k : ℕ). table_with (plan_in items (take k code) lengths) before) e
