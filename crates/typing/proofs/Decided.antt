-- The promises of `solve`, `value_at`, `width_at` and `position_at` decide their results, and that of `solve` each width afterwards. Assumes nothing.
use mathlib.Core.Path.{◌≡◌, refl, sym, ◌∙◌}
use mathlib.Core.Bool.{Bool, true, false}
use mathlib.Core.List.{List}
use Prim.Native.Nat.{ℕ}
use native.Mathlib.Nat.{le_antisymm}
use lib.ListN.{length}
use lib.Seq.{ext_get_or}
use Rattle.type_value.specs.Terms.{Term, TypeOf, Small}
use Rattle.type_value.specs.Walk.{TermStands}
use Rattle.typing.specs.Solved.{Answer}

pub one_answer : (ts : List Term) (r s : Bool) (ws vs : List ℕ) → Answer r ts ws → Answer s ts vs → (r ≡ s) × (ws ≡ vs)
one_answer ts true true ws vs a b =
    (refl, ext_get_or 0 ws vs (a.solves.long ∙ sym b.solves.long) (λ i h. le_antisymm (a.least vs b.solves i) (b.least ws a.solves i)))
one_answer ts true false ws vs a b = absurd (b.0 ws a.solves)
one_answer ts false true ws vs a b = absurd (a.0 vs b.solves)
one_answer ts false false ws vs a b = (refl, a.1 ∙ sym b.1)

-- what is told of every type whose code stands there, where one does, is told of one result
pub one_result : {A : Type 0} (f : Term → A) (ws l : List ℕ) (from end : ℕ) → Small ws → (t : Term) × TermStands t l from end × TypeOf (length ws) t → (r s : A)
    → ((t : Term) → TermStands t l from end → TypeOf (length ws) t → Small ws → r ≡ f t) → ((t : Term) → TermStands t l from end → TypeOf (length ws) t → Small ws → s ≡ f t) → r ≡ s
one_result f ws l from end h g r s x y = x g.0 g.1 g.2 h ∙ sym (y g.0 g.1 g.2 h)
