-- The walk over a type's items leaves the type's code on those that wait. Assumes nothing.
use mathlib.Core.Path.{◌≡◌, refl, ap, ◌∙◌}
use mathlib.Core.List.{List, [], ◌∷◌, ◌++◌, append-nil}
use Prim.Native.Nat.{ℕ, ◌+◌, ◌*◌, ◌^◌, ◌<◌}
use borrow.Author.Tests.{lt-ltb}
use Rattle.language.specs.Text.{index}
use Rattle.language.specs.Tree.{Ty, number, environment, port, plus, minus, log, ceil, floor, most, entry, within}
use Rattle.tape.specs.Tape.{flat_t, NUMBER, ENVIRONMENT, PORT, PLUS, MINUS, LOG, CEIL, FLOOR, MOST, ENTRY, WITHIN}
use Rattle.tape.proofs.Tapes.{Goes, goes_both, goes_item}
use Rattle.type_value.specs.Terms.{code, resolve}
use Rattle.item_writes.specs.Walk.{Around, State, step, takes, without, grown, leaf, ends, joins, when, named_out, written}

-- names spelled as the walk finds them, and leaves that 32 bits hold
abbrev pub Sound : Around → Ty → Type 0
Sound a (number n) = n.value * 8 < 2 ^ 32
Sound a (environment n) = (a.called n.at ≡ n.spelled) × (a.value n.spelled * 8 < 2 ^ 32)
Sound a (port n) = (a.called n.at ≡ n.spelled) × (index a.ports n.spelled * 8 + 1 < 2 ^ 32)
Sound a (plus s t) = Sound a s × Sound a t
Sound a (minus s t) = Sound a s × Sound a t
Sound a (log p t) = Sound a t
Sound a (ceil p t) = Sound a t
Sound a (floor p t) = Sound a t
Sound a (most p t) = Sound a t
Sound a (entry s t) = Sound a s × Sound a t
Sound a (within p t) = Sound a t

abbrev pub with_types : State → List (List ℕ) → State
with_types s l = record { types = l; out = s.out; lets = s.lets; vals = s.vals; size = s.size }

-- what a type's item makes of a state, with the numbers written as they were
kept : (s : State) (l m : List (List ℕ)) → m ≡ l → ◌≡◌ {A = State} (record { types = m; out = s.out ++ []; lets = s.lets; vals = s.vals; size = s.size }) (with_types s l)
kept s l m e = let o = append-nil s.out in cc

leaf_is : (k : ℕ) → k < 2 ^ 32 → leaf k ≡ k
unfolding leaf when
leaf_is k h = rw (lt-ltb k (2 ^ 32) h, when)

pub types_go : (a : Around) (s : State) (t : Ty) → Sound a t → Goes (step a) s (flat_t t) (with_types s (code (resolve (index a.ports) a.value t) ∷ s.types))
unfolding flat_t code resolve step takes without grown ends joins when named_out written
types_go a s (number n) h = goes_item NUMBER n.at n.value (kept s _ _ (ap (λ (k : ℕ). (k ∷ []) ∷ s.types) (leaf_is (n.value * 8) h)))
types_go a s (environment n) h =
    goes_item ENVIRONMENT n.at 0 (kept s _ _ (ap (λ (m : List ℕ). (leaf (a.value m * 8) ∷ []) ∷ s.types) h.0 ∙ ap (λ (k : ℕ). (k ∷ []) ∷ s.types) (leaf_is (a.value n.spelled * 8) h.1)))
types_go a s (port n) h =
    goes_item PORT n.at 0
    (kept s _ _ (ap (λ (m : List ℕ). (leaf (index a.ports m * 8 + 1) ∷ []) ∷ s.types) h.0 ∙ ap (λ (k : ℕ). (k ∷ []) ∷ s.types) (leaf_is (index a.ports n.spelled * 8 + 1) h.1)))
types_go a s (plus x y) h = goes_both (goes_both (types_go a s x h.0) (types_go a (with_types s (code (resolve (index a.ports) a.value x) ∷ s.types)) y h.1)) (goes_item PLUS 0 0 (kept s _ _ refl))
types_go a s (minus x y) h = goes_both (goes_both (types_go a s x h.0) (types_go a (with_types s (code (resolve (index a.ports) a.value x) ∷ s.types)) y h.1)) (goes_item MINUS 0 0 (kept s _ _ refl))
types_go a s (log p x) h = goes_both (types_go a s x h) (goes_item LOG p 0 (kept s _ _ refl))
types_go a s (ceil p x) h = goes_both (types_go a s x h) (goes_item CEIL p 0 (kept s _ _ refl))
types_go a s (floor p x) h = goes_both (types_go a s x h) (goes_item FLOOR p 0 (kept s _ _ refl))
types_go a s (most p x) h = goes_both (types_go a s x h) (goes_item MOST p 0 (kept s _ _ refl))
types_go a s (entry x y) h = goes_both (goes_both (types_go a s x h.0) (types_go a (with_types s (code (resolve (index a.ports) a.value x) ∷ s.types)) y h.1)) (goes_item ENTRY 0 0 (kept s _ _ refl))
types_go a s (within p x) h = goes_both (types_go a s x h) (goes_item WITHIN p 0 (kept s _ _ refl))
