-- Two texts are read in one way, so that what `read` promises decides its answer and its table; and where it answers with a plan, which plan that is. Assumes nothing.
use mathlib.Core.Path.{◌≡◌, refl, sym, ap, subst, ◌∙◌}
use mathlib.Core.Bool.{Bool, true, false}
use mathlib.Core.List.{List}
use mathlib.Core.Option.{Option}
use Prim.Native.Nat.{ℕ}
use native.Mathlib.Omega.{arith}
use lib.Dec.{leb}
use borrow.Author.Tests.{leb-true}
use lib.ListN.{length, take}
use lib.Seq.{sets, sets-eq, take_at}
use Rattle.language.specs.Words.{Word, words_of, words}
use Rattle.language.specs.Tree.{Actor}
use Rattle.language.specs.Bindings.{Bindings}
use Rattle.language.specs.Widths.{Resolved}
use Rattle.language.specs.Sizes.{Setting}
use Rattle.language.specs.Reading as Reading
use Rattle.language.specs.Reading.{Early, stopped, through, refused, accepted, Reads, reads_early, reads_late, early, late}
use Rattle.language.specs.declared.Text.TheVariants.{Actor as InActor}
use Rattle.typing.proofs.Bridge.{one_resolved}
use Rattle.plan_of.specs.PlanOf.{plan_of}
use Rattle.plan_of.specs.Theorems.{Planned}
use Rattle.plan_of.proofs.Theorems.{reads_planned}
use Rattle.row13_plan.specs.Made as Making
use Rattle.tipi.specs.Told.{answer_of, table_after, Read}
use Rattle.plan_answer.specs.Answered.{made_of}
use Rattle.plan_answer.specs.Answered.{Answer}
use Rattle.plan_answer.specs.Answered.{Plan, Refused}
use Rattle.std.specs.Prelude.{Ok, Err}

-- ---- one way

as_answer : Early → Reading.Answer → Reading.Answer
as_answer (stopped n t p) x = refused n t p
as_answer (through a b) x = x

late_once : (a b' : Actor × Bindings) (ws vs : Option (List ℕ)) → a ≡ b' → Resolved a.0 a.1 ws → Resolved b'.0 b'.1 vs → late a.0 a.1 ws ≡ late b'.0 b'.1 vs
late_once a b' ws vs e f g = subst (λ (c : Actor × Bindings). Resolved c.0 c.1 vs → late a.0 a.1 ws ≡ late c.0 c.1 vs) e (λ h. ap (late a.0 a.1) (one_resolved a.0 a.1 ws vs f h)) g

pub reads_once : (text bindings : List ℕ) (x y : Reading.Answer) → Reads text bindings x → Reads text bindings y → x ≡ y
unfolding as_answer
reads_once text bindings x y (reads_early e) (reads_early f) = ap (λ (z : Early). as_answer z x) (sym e ∙ f)
reads_once text bindings x y (reads_early e) (reads_late ws f r) = absurd (let q = sym e ∙ f in let z : ◌≡◌ {A = ℕ} 0 1 = cc in omega arith)
reads_once text bindings x y (reads_late ws e r) (reads_early f) = absurd (let q = sym e ∙ f in let z : ◌≡◌ {A = ℕ} 0 1 = cc in omega arith)
reads_once text bindings x y (reads_late {a = a} {b = b} ws e r) (reads_late {a = c} {b = d} vs f s) =
    let q = sym e ∙ f in let u : a ≡ c = cc in let v : b ≡ d = cc in late_once (a, b) (c, d) ws vs (pairs u v) r s
  where
    pairs : {a c : Actor} {b d : Bindings} → a ≡ c → b ≡ d → ◌≡◌ {A = Actor × Bindings} (a, b) (c, d)
    pairs u v = cc

-- what `read` promises decides its answer and its table
pub read_decided : {text bindings : List ℕ} {r s : Answer} {before after past : List ℕ} → Read text bindings r before after → Read text bindings s before past → (r ≡ s) × (after ≡ past)
read_decided {text} {bindings} {before = before} h k =
    let e = reads_once text bindings h.what k.what h.reads k.reads in
    (h.told.answer ∙ ap (λ (x : Reading.Answer). answer_of x before) e ∙ sym k.told.answer, h.told.table ∙ ap (λ (x : Reading.Answer). table_after x before) e ∙ sym k.told.table)

-- ---- what a plan means

-- a plan that was given: the setting that the texts were read as, its plan at the table's start, and all that holds of it
pub record PlanGiven (text bindings after : List ℕ) (l : ℕ) : Type 0 where
  pub setting : Setting
  pub reads : Reads text bindings (accepted setting)
  pub plan : take l after ≡ plan_of setting
  pub ws : List Word
  pub worded : words_of text ≡ words ws
  pub planned : Planned ws setting

abbrev pub is_plan : Answer → Type 0
is_plan (Ok l) = Unit {0}
is_plan (Err why) = ⊥

abbrev length_of : Answer → ℕ
length_of (Ok l) = l
length_of (Err why) = 0

module _ (text bindings before after : List ℕ) (l : ℕ) where
  roomy : (s : Setting) (b : Bool) → leb (length (plan_of s)) (length before) ≡ b
      → ◌≡◌ {A = Answer} (Plan l) (elim b [ true ↦ Plan (length (plan_of s)) | false ↦ Refused 13 InActor 0 ]) → ◌≡◌ {A = List ℕ} after (elim b [ true ↦ sets before 0 (plan_of s) | false ↦ before ]) → take l after ≡ plan_of s
  roomy s true q e f =
      let n = ap length_of e in
      let h = leb-true (length (plan_of s)) (length before) q in
      ap (take l) (f ∙ sets-eq (plan_of s) before 0 (omega (arith, h))) ∙ take_at (plan_of s) _ l (sym n)
  roomy s false q e f = absurd (subst is_plan e tt)

  given : (x : Reading.Answer) → Reads text bindings x → Plan l ≡ answer_of x before → after ≡ table_after x before → PlanGiven text bindings after l
  unfolding answer_of table_after made_of Making.table_after
  given (refused n t p) r e f = absurd (subst is_plan e tt)
  given (accepted s) r e f =
      let q = reads_planned text bindings s r in
      record { setting = s; reads = r; plan = roomy s (leb (length (plan_of s)) (length before)) refl e f; ws = q.0; worded = q.1; planned = q.2 }

-- where `read` answers with a plan, the first numbers of the table are the plan of what the texts were read as (`Planned`; that its widths are the least ones is Demands' `least`)
pub read_given : {text bindings before after : List ℕ} {l : ℕ} → Read text bindings (Plan l) before after → PlanGiven text bindings after l
read_given {text} {bindings} {before} {after} {l} h = given text bindings before after l h.what h.reads h.told.answer h.told.table
