-- `tipi_read` meets its contract: the answer of `tipi::read`, as numbers. Assumes nothing.
use mathlib.Core.Path.{◌≡◌, refl, ap, subst}
use mathlib.Core.List.{List}
use Prim.Native.Nat.{ℕ}
use lib.ListN.{set}
use Rattle.language.specs.declared.Refusal.{Refusal}
use Rattle.language.specs.declared.Text.{Text}
use Rattle.language.specs.declared.Text.TheVariants.{Actor, Bindings}
use Rattle.std.specs.Prelude.{Ok, Err}
use Rattle.tipi.specs.Told.{Read}
use Rattle.plan_answer.specs.Answered.{Answer}
use denote.Enum.Declared.{tag_of}
use Rattle.language.specs.contracts.Text.{the_type}
use Rattle.tipi_abi.specs.Numbers.{row_of, place_of, number_of, text_of, Numbered}
use Rattle.tipi_abi.proofs.tipi_read.Goals as goal

-- the number of a text is its variant's
tagged : (t : Text) → tag_of the_type t ≡ number_of t
unfolding number_of
tagged Actor = refl
tagged Bindings = refl

-- a plan is told by 0, its length and 0
plan_told : {text bindings before after told : List ℕ} {r : Answer} (n : ℕ) → r ≡ Ok n → Read text bindings r before after → Numbered text bindings 0 before after told (set (set told 0 n) 1 0)
unfolding row_of place_of text_of
plan_told {text} {bindings} {before} {after} n e h =
    record { answer = Ok n; reads = subst (λ (x : Answer). Read text bindings x before after) e h; number = refl; others = refl }

-- a refusal by its row, its place and the number of its text
refusal_told : {text bindings before after told : List ℕ} {r : Answer} (why : Refusal) (t : ℕ) → r ≡ Err why → t ≡ number_of why.text → Read text bindings r before after
    → Numbered text bindings why.row before after told (set (set told 0 why.place) 1 t)
unfolding row_of place_of text_of
refusal_told {text} {bindings} {before} {after} {told} why t e f h =
    record { answer = Err why; reads = subst (λ (x : Answer). Read text bindings x before after) e h; number = refl; others = ap (set (set told 0 why.place) 1) f }

pub returns-in-Ok : goal.returns-in-Ok
returns-in-Ok c = plan_told _ c.in-Ok.is c.read.ensures

pub returns-in-Err : goal.returns-in-Err
returns-in-Err c = refusal_told _ _ c.in-Err.is (tagged _) c.read.ensures
