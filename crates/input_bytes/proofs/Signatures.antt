-- The values of a line by the plan are those by the signature, where the plan says of each port whether it is an input. Assumes nothing.
use mathlib.Core.Path.{◌≡◌, refl, sym, ap, ap₂, ◌∙◌, fun_ext}
use mathlib.Core.Bool.{Bool, true, false}
use mathlib.Core.List.{List, [], ◌∷◌, ◌++◌}
use Prim.Native.Nat.{ℕ, zero, suc, ◌+◌, ◌<◌}
use lib.Dec.{eqb, ltb}
use lib.ListN.{length, get_or, drop, get_or-append}
use lib.Seq.{get_or-drop}
use native.Mathlib.Omega.{arith}
use borrow.Author.Tests.{eqb-true}
use Rattle.language.specs.Text.{Name, among}
use Rattle.language.specs.Bindings.{Got, got, after, byte, number_up_to}
use Rattle.language.specs.Worked.{CycleRead, line, port_values, turn, output_slots, cycle_line}
use Rattle.language.specs.Meaning.{Outcome}
use Rattle.language.specs.Names.{input_names}
use Rattle.language.specs.Tree.{Actor}
use Rattle.plan.specs.Layout.{port_at}
use Rattle.cycle_line.specs.Shown.{ports_of, outputs_from, shown_of}

-- ---- a cycle's line by the plan

-- a value for each input among k ports from i on, 0 for an output
unfoldable pub values_from : List ℕ → ℕ → ℕ → List ℕ → Got (List ℕ)
values_from p zero i bs = got [] bs
values_from p (suc k) i bs =
    elim (ltb (port_at p i) 256) [
      | true ↦ byte 32 bs (λ r. after (number_up_to 18_446_744_073_709_551_615 r) (λ v x. after (values_from p k (i + 1) x) (λ l y. got (v ∷ l) y)))
      | false ↦ after (values_from p k (i + 1) bs) (λ l y. got (0 ∷ l) y)
    ]

-- a whole line
unfoldable pub plan_turn : List ℕ → List ℕ → Got CycleRead
plan_turn p bs = after (number_up_to 4_294_967_295 bs) (λ v r. after (values_from p (ports_of p) 0 r) (λ l x. byte 10 x (λ y. got (record { mask = v; values = l }) y)))

-- ---- and by the signature

-- one port after the other
pub data Kinds (p : List ℕ) (ins : List (List ℕ)) : ℕ → List Name → Type 0 where
  no_port : {i : ℕ} → Kinds p ins i []
  a_port : {i : ℕ} {n : Name} {ns : List Name} → ltb (port_at p i) 256 ≡ among ins n.spelled → Kinds p ins (i + 1) ns → Kinds p ins i (n ∷ ns)

pub values_agree : (p : List ℕ) (ins : List (List ℕ)) (ns : List Name) (i : ℕ) → Kinds p ins i ns → (bs : List ℕ) → values_from p (length ns) i bs ≡ port_values ins ns bs
unfolding values_from port_values
values_agree p ins [] i no_port bs = refl
values_agree p ins (n ∷ ns) i (a_port e k) bs =
    ap₂ (λ (b : Bool) (f : List ℕ → Got (List ℕ)).
    elim b as (λ (z : Bool). Got (List ℕ)) [
      | true ↦ byte 32 bs (λ r. after (number_up_to 18_446_744_073_709_551_615 r) (λ v x. after (f x) (λ l y. got (v ∷ l) y)))
      | false ↦ after (f bs) (λ l y. got (0 ∷ l) y)
    ]) e (fun_ext (λ x. values_agree p ins ns (i + 1) k x))

-- a line by the plan is a line by the signature
pub turns_agree : (a : Actor) (p : List ℕ) → ports_of p ≡ length a.signature → Kinds p (input_names a.ports) 0 a.signature → (bs : List ℕ) → plan_turn p bs ≡ turn a bs
unfolding plan_turn turn
turns_agree a p e k bs =
    ap (λ (n : ℕ). after {T = CycleRead} (number_up_to 4_294_967_295 bs) (λ v r. after (values_from p n 0 r) (λ l x. byte 10 x (λ y. got (record { mask = v; values = l }) y)))) e
    ∙ ap (λ (f : List ℕ → Got (List ℕ)). after {T = CycleRead} (number_up_to 4_294_967_295 bs) (λ v r. after (f r) (λ l x. byte 10 x (λ y. got (record { mask = v; values = l }) y)))) (fun_ext (λ r. values_agree p (input_names a.ports) a.signature 0 k r))

-- ---- the outputs of a cycle's line

outputs_agree : (p : List ℕ) (ins : List (List ℕ)) (ns : List Name) (i : ℕ) (o l : List ℕ) → Kinds p ins i ns → ((j : ℕ) → j < length ns → get_or o (i + j) 0 ≡ get_or l j 0) → outputs_from p o (length ns) i ≡ output_slots ins ns l
unfolding outputs_from output_slots
outputs_agree p ins [] i o l no_port h = refl
outputs_agree p ins (n ∷ ns) i o l (a_port e k) h =
    let z : get_or o i 0 ≡ get_or l 0 0 = ap (λ (x : ℕ). get_or o x 0) (let q : i ≡ i + 0 = omega arith in q) ∙ h 0 (omega arith) in
    let r = outputs_agree p ins ns (i + 1) o (drop 1 l) k (λ j q. ap (λ (x : ℕ). get_or o x 0) (let y : i + 1 + j ≡ i + (1 + j) = omega arith in y) ∙ h (1 + j) (omega arith) ∙ sym (get_or-drop 1 l j 0)) in
    ap₂ (λ (b : Bool) (v : ℕ). elim b as (λ (x : Bool). List ℕ) [ true ↦ outputs_from p o (length ns) (i + 1) | false ↦ v ∷ outputs_from p o (length ns) (i + 1) ]) e z
    ∙ ap (λ (t : List ℕ). elim (among ins n.spelled) as (λ (x : Bool). List ℕ) [ true ↦ t | false ↦ get_or l 0 0 ∷ t ]) r

pub lines_agree : (a : Actor) (p : List ℕ) → ports_of p ≡ length a.signature → Kinds p (input_names a.ports) 0 a.signature → (o : Outcome) (l : List ℕ) → length o.outputs ≡ length a.signature
    → shown_of p o.answer o.count (o.outputs ++ l) ≡ cycle_line a o
unfolding shown_of cycle_line
lines_agree a p e k o l h = go (eqb o.answer 0) refl
  where
    slots : outputs_from p (o.outputs ++ l) (ports_of p) 0 ≡ output_slots (input_names a.ports) a.signature o.outputs
    slots =
        ap (λ (n : ℕ). outputs_from p (o.outputs ++ l) n 0) e
        ∙ outputs_agree p (input_names a.ports) a.signature 0 (o.outputs ++ l) o.outputs k
        (λ j q. ap (λ (x : ℕ). get_or (o.outputs ++ l) x 0) (let y : 0 + j ≡ j = omega arith in y) ∙ get_or-append o.outputs l 0 j (omega arith))

    go : (b : Bool) → eqb o.answer 0 ≡ b → shown_of p o.answer o.count (o.outputs ++ l) ≡ cycle_line a o
    go true q = simp (shown_of, cycle_line, q) (ap₂ (λ (n : ℕ) (t : List ℕ). line (n ∷ o.count ∷ t)) (eqb-true o.answer 0 q) slots)
    go false q = simp (shown_of, cycle_line, q)
