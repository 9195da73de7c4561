-- A run, cycle by cycle, on lists. Assumes nothing.
use Prim.Native.Nat.{ℕ, suc, ◌+◌, ◌-◌, ◌*◌, ◌≤◌, ◌<◌}
use mathlib.Core.Path.{◌≡◌, refl, sym, ap, ap₂, ◌∙◌, subst}
use mathlib.Core.List.{List, [], ◌∷◌, ◌++◌, append-nil, append_assoc}
use mathlib.Core.Bool.{Bool, true, false, ◌&&◌}
use native.Mathlib.Numerals.{add-one}
use native.Mathlib.Nat.{mul-le-mul_right, suc-mul}
use native.Mathlib.Omega.{arith}
use lib.Dec.{eqb}
use lib.ListN.{length, get_or, set, take, drop, length-append, length-take, length-drop, drop_of_length-le}
use lib.Seq.{take_all, take_at, drop_at, length-take-le, drop-cons, drop-drop, take-suc-set, lt-length-set}
use borrow.Author.Tests.{eqb-true, eq-eqb}
use Rattle.language.specs.Parts.{each}
use Rattle.language.specs.Meaning.{Outcome, memory_left}
use Rattle.plan.specs.Layout.{port_count, memory_count, cells_before}
use Rattle.plan.specs.Sound.{sound_of}
use Rattle.plan.proofs.Tests.{and_left, and_right}
use Rattle.judged.specs.declared.Refusal.TheVariants.{Unsound, Miscounted}
use Rattle.judged.specs.Answers.{number_of}
use Rattle.turn.specs.Cycle.{cycle_of}
use Rattle.judged.specs.Tests.{counts}
use Rattle.turn.specs.Turn.{outcome}
use Rattle.cycle.specs.Run.{Result, result, before, turns_of, tables_fit, run_of, cycles_of, turns_in, left_by}
use Rattle.turn.proofs.Outcomes.{counted, counts_told}

-- k cycles are over: what they left, and what those after them will leave
pub record Runs (p masks values memory₀ outputs₀ : List ℕ) (k at : ℕ) (memory outputs answers : List ℕ) : Type 0 where
  pub cells : (turns_of p masks values memory₀ outputs₀).memory ≡ (turns_of p (drop k masks) (drop at values) memory (drop at outputs₀)).memory
  pub slots : (turns_of p masks values memory₀ outputs₀).outputs ≡ take at outputs ++ (turns_of p (drop k masks) (drop at values) memory (drop at outputs₀)).outputs
  pub told : (turns_of p masks values memory₀ outputs₀).answers ≡ take (k * 2) answers ++ (turns_of p (drop k masks) (drop at values) memory (drop at outputs₀)).answers
  pub ended : (turns_of p masks values memory₀ outputs₀).answer ≡ (turns_of p (drop k masks) (drop at values) memory (drop at outputs₀)).answer
  pub later : drop at outputs ≡ drop at outputs₀

pub runs_start : (p masks values memory outputs answers : List ℕ) → Runs p masks values memory outputs 0 0 memory outputs answers
runs_start p masks values memory outputs answers = record { cells = refl; slots = refl; told = refl; ended = refl; later = refl }

pub next_fits : (k n l at : ℕ) → at ≡ k * n → k < l → at + n ≤ l * n
next_fits k n l at e h = let m : suc k * n ≤ l * n = mul-le-mul_right n h in omega (arith, suc-mul k n)

pub next_at : (k n at : ℕ) → at ≡ k * n → at + n ≡ (k + 1) * n
next_at k n at e = rw (add-one k, suc-mul k n) (omega arith)

two_set : (l : List ℕ) (i a c : ℕ) → i + 1 < length l → take (i + 2) (set (set l i a) (i + 1) c) ≡ take i l ++ (a ∷ c ∷ [])
two_set l i a c h =
    let e : i + 2 ≡ suc (i + 1) = omega arith in
    rw (e, take-suc-set (set l i a) (i + 1) c (lt-length-set l i a h), add-one i, take-suc-set l i a (omega arith)) (append_assoc (take i l) (a ∷ []) (c ∷ []))

-- a table whose part from a place on was written
part_taken : (d ys rest : List ℕ) (at n : ℕ) → at ≤ length d → length ys ≡ n → take (at + n) (take at d ++ (ys ++ rest)) ≡ take at d ++ ys
part_taken d ys rest at n h e =
    ap (take (at + n)) (sym (append_assoc (take at d) ys rest))
    ∙ take_at (take at d ++ ys) rest (at + n) (length-append (take at d) ys ∙ ap₂ ◌+◌ (length-take-le at d h) e)

part_left : (d ys rest : List ℕ) (at n : ℕ) → at ≤ length d → length ys ≡ n → drop (at + n) (take at d ++ (ys ++ rest)) ≡ rest
part_left d ys rest at n h e =
    ap (drop (at + n)) (sym (append_assoc (take at d) ys rest))
    ∙ drop_at (take at d ++ ys) rest (at + n) (length-append (take at d) ys ∙ ap₂ ◌+◌ (length-take-le at d h) e)

pub part_ports : (d : List ℕ) (at n k : ℕ) → k ≡ n → at + n ≤ length d → length (take k (drop at d)) ≡ n
part_ports d at n k e h = rw e (simp (length-take, length-drop) (omega arith))

module _ (p masks values memory₀ outputs₀ : List ℕ) (k at : ℕ) (memory outputs answers : List ℕ) (h : k < length masks)
    (r : Runs p masks values memory₀ outputs₀ k at memory outputs answers) where
  -- the next cycle over some outputs, and those after it
  abbrev now_over : List ℕ → Outcome
  now_over l = cycle_of p (get_or masks k 0) (take (port_count p) (drop at values)) memory (take (port_count p) l)

  one_more : {o : Outcome} → o ≡ now_over (drop at outputs) → turns_of p (drop k masks) (drop at values) memory (drop at outputs₀)
      ≡ before o (turns_of p (drop (k + 1) masks) (drop (at + port_count p) values) o.memory (drop (at + port_count p) outputs₀))
  unfolding turns_of
  one_more {o} u =
      rw (drop-cons masks k 0 h, add-one k, ← drop-drop (port_count p) at values, ← drop-drop (port_count p) at outputs₀)
      (ap (λ (x : Outcome). before x (turns_of p (drop (suc k) masks) (drop (port_count p) (drop at values)) x.memory (drop (port_count p) (drop at outputs₀)))) (ap now_over (sym r.later) ∙ sym u))

  pub runs_next : {answer count : ℕ} {m ys t : List ℕ} → at + port_count p ≤ length outputs → k * 2 + 1 < length answers → outcome answer count ys m ≡ now_over (drop at outputs) → length ys ≡ port_count p
      → t ≡ take at outputs ++ (ys ++ drop (port_count p) (drop at outputs)) → Runs p masks values memory₀ outputs₀ (k + 1) (at + port_count p) m t (set (set answers (k * 2) answer) (k * 2 + 1) count)
  unfolding before
  runs_next {answer} {count} {m} {ys} {t} l j u long e =
      let q = one_more u in
      let w : at ≤ length outputs = omega arith in
      let left = drop (port_count p) (drop at outputs) in
      let a : take (at + port_count p) t ≡ take at outputs ++ ys = ap (take (at + port_count p)) e ∙ part_taken outputs ys left at (port_count p) w long in
      let f : (k + 1) * 2 ≡ k * 2 + 2 = omega arith in
      let b : take ((k + 1) * 2) (set (set answers (k * 2) answer) (k * 2 + 1) count) ≡ take (k * 2) answers ++ (answer ∷ count ∷ []) = rw f (two_set answers (k * 2) answer count j) in
      record {
        cells = r.cells ∙ ap (λ (x : Result). x.memory) q;
        slots = r.slots ∙ ap (λ (x : Result). take at outputs ++ x.outputs) q ∙ sym (append_assoc (take at outputs) ys _) ∙ rw a;
        told = r.told ∙ ap (λ (x : Result). take (k * 2) answers ++ x.answers) q ∙ sym (append_assoc (take (k * 2) answers) (answer ∷ count ∷ []) _) ∙ rw b;
        ended = r.ended ∙ ap (λ (x : Result). x.answer) q;
        later = ap (drop (at + port_count p)) e ∙ part_left outputs ys left at (port_count p) w long ∙ ap (drop (port_count p)) r.later ∙ drop-drop (port_count p) at outputs₀;
      }

none_left : (p masks values memory outputs : List ℕ) → masks ≡ [] → turns_of p masks values memory outputs ≡ result 0 memory [] []
unfolding turns_of
none_left p masks values memory outputs e = rw e

pub runs_end : (p masks values memory₀ outputs₀ : List ℕ) (k at : ℕ) (memory outputs answers : List ℕ) → length masks ≤ k → length outputs ≤ at → length answers ≤ k * 2
    → Runs p masks values memory₀ outputs₀ k at memory outputs answers → result 0 memory outputs answers ≡ turns_of p masks values memory₀ outputs₀
runs_end p masks values memory₀ outputs₀ k at memory outputs answers h l j r =
    let e = ends_so in
    let a : (turns_of p masks values memory₀ outputs₀).outputs ≡ outputs = r.slots ∙ ap (λ (x : Result). take at outputs ++ x.outputs) e ∙ append-nil (take at outputs) ∙ take_all at outputs l in
    let b : (turns_of p masks values memory₀ outputs₀).answers ≡ answers = r.told ∙ ap (λ (x : Result). take (k * 2) answers ++ x.answers) e ∙ append-nil (take (k * 2) answers) ∙ take_all (k * 2) answers j in
    let c : (turns_of p masks values memory₀ outputs₀).memory ≡ memory = r.cells ∙ ap (λ (x : Result). x.memory) e in
    let d : (turns_of p masks values memory₀ outputs₀).answer ≡ 0 = r.ended ∙ ap (λ (x : Result). x.answer) e in
    rw (← a, ← b, ← c, ← d)
  where
    ends_so : turns_of p (drop k masks) (drop at values) memory (drop at outputs₀) ≡ result 0 memory [] []
    ends_so = none_left p (drop k masks) (drop at values) memory (drop at outputs₀) (drop_of_length-le masks h)

-- ---- the tables of a run stand for calls of `cycle`, one after the other

pub turns_are : (p masks values memory outputs : List ℕ) → turns_of p masks values memory outputs ≡ left_by memory (cycles_of p (turns_in (port_count p) masks values outputs) memory)
unfolding turns_of before left_by cycles_of turns_in memory_left each
turns_are p [] values memory outputs = refl
turns_are p (m ∷ ms) values memory outputs =
    let o = cycle_of p m (take (port_count p) values) memory (take (port_count p) outputs) in
    ap (before o) (turns_are p ms (drop (port_count p) values) o.memory (drop (port_count p) outputs))

-- ---- the tests of a run

module _ (p masks values memory outputs answers : List ℕ) where
  by_tables : Bool → Result
  by_tables b = elim b [ false ↦ result (number_of Miscounted) memory outputs answers | true ↦ turns_of p masks values memory outputs ]

  by_plan : Bool → Result
  by_plan b = elim b [ false ↦ result (number_of Unsound) memory outputs answers | true ↦ by_tables (tables_fit p masks values memory outputs answers) ]

  pub run_20 : sound_of p ≡ false → run_of p masks values memory outputs answers ≡ result (number_of Unsound) memory outputs answers
  unfolding run_of by_plan by_tables
  run_20 h = ap by_plan h

  pub run_21 : sound_of p ≡ true → tables_fit p masks values memory outputs answers ≡ false → run_of p masks values memory outputs answers ≡ result (number_of Miscounted) memory outputs answers
  unfolding run_of by_plan by_tables
  run_21 h k = ap by_plan h ∙ ap by_tables k

  pub run_0 : sound_of p ≡ true → tables_fit p masks values memory outputs answers ≡ true → run_of p masks values memory outputs answers ≡ turns_of p masks values memory outputs
  unfolding run_of by_plan by_tables
  run_0 h k = ap by_plan h ∙ ap by_tables k

  pub tables_told : tables_fit p masks values memory outputs answers ≡ true
      → (length values ≡ length masks * port_count p) × (length outputs ≡ length masks * port_count p) × (length answers ≡ length masks * 2) × (length memory ≡ cells_before p (memory_count p))
  unfolding tables_fit
  tables_told h =
      let a = and_left (eqb (length values) (length masks * port_count p) && eqb (length outputs) (length masks * port_count p) && eqb (length answers) (length masks * 2)) (eqb (length memory) (cells_before p (memory_count p))) h in
      let b = and_left (eqb (length values) (length masks * port_count p) && eqb (length outputs) (length masks * port_count p)) (eqb (length answers) (length masks * 2)) a in (
        eqb-true (length values) (length masks * port_count p) (and_left (eqb (length values) (length masks * port_count p)) (eqb (length outputs) (length masks * port_count p)) b),
        eqb-true (length outputs) (length masks * port_count p) (and_right (eqb (length values) (length masks * port_count p)) (eqb (length outputs) (length masks * port_count p)) b),
        eqb-true (length answers) (length masks * 2) (and_right (eqb (length values) (length masks * port_count p) && eqb (length outputs) (length masks * port_count p)) (eqb (length answers) (length masks * 2)) a),
        eqb-true (length memory) (cells_before p (memory_count p)) (and_right (eqb (length values) (length masks * port_count p) && eqb (length outputs) (length masks * port_count p) && eqb (length answers) (length masks * 2)) (eqb (length memory) (cells_before p (memory_count p))) h),
      )

-- a cycle's part of the tables has a number for each port
pub part_counts : (p values memory outputs : List ℕ) (at n : ℕ) → n ≡ port_count p → at + n ≤ length values → at + n ≤ length outputs → length memory ≡ cells_before p (memory_count p)
    → counts p (take (at + n - at) (drop at values)) memory (take (at + n - at) (drop at outputs)) ≡ true
part_counts p values memory outputs at n e h k m =
    let d : at + n - at ≡ n = omega arith in
    rw d (counted p (take n (drop at values)) memory (take n (drop at outputs)) (simp (length-take, length-drop) (omega arith)) (simp (length-take, length-drop) (omega arith)) m)

-- the tables have room for the next cycle
pub room_for : (p masks values memory outputs answers : List ℕ) (k at n : ℕ) → tables_fit p masks values memory outputs answers ≡ true → n ≡ port_count p → at ≡ k * n → k < length masks
    → (at + n ≤ length values) × (at + n ≤ length outputs) × (k * 2 + 1 < length answers)
room_for p masks values memory outputs answers k at n h e q l =
    let t = tables_told p masks values memory outputs answers h in
    let f : at + n ≤ length masks * port_count p = subst (λ (i : ℕ). at + n ≤ length masks * i) e (next_fits k n (length masks) at q l) in
    (omega (arith, t.0), omega (arith, t.1), omega (arith, t.2))

-- ---- a cycle is a run of one

pub one_fits : (p values memory outs : List ℕ) (mask : ℕ) → counts p values memory outs ≡ true → tables_fit p (mask ∷ []) values memory outs (0 ∷ 0 ∷ []) ≡ true
unfolding tables_fit
one_fits p values memory outs mask h =
    let t = counts_told p values memory outs h in
    let e : length (mask ∷ []) * port_count p ≡ port_count p = omega arith in
    ap₂ ◌&&◌ (ap₂ ◌&&◌ (ap₂ ◌&&◌ (eq-eqb (length values) (length (mask ∷ []) * port_count p) (t.0 ∙ sym e)) (eq-eqb (length outs) (length (mask ∷ []) * port_count p) (t.1 ∙ sym e))) refl)
    (eq-eqb (length memory) (cells_before p (memory_count p)) t.2)

pub one_cycle : (p : List ℕ) (mask : ℕ) (values memory outs m o a : List ℕ) → counts p values memory outs ≡ true → result 0 m o a ≡ turns_of p (mask ∷ []) values memory outs
    → outcome (get_or a 0 0) (get_or a 1 0) o m ≡ cycle_of p mask values memory outs
unfolding turns_of before
one_cycle p mask values memory outs m o a h e =
    let t = counts_told p values memory outs h in
    let v : take (port_count p) values ≡ values = take_all (port_count p) values (omega (arith, t.0)) in
    let w : take (port_count p) outs ≡ outs = take_all (port_count p) outs (omega (arith, t.1)) in
    ap (λ (r : Result). outcome (get_or r.answers 0 0) (get_or r.answers 1 0) r.outputs r.memory) e
    ∙ rw (v, w) (ap (λ (l : List ℕ). outcome (cycle_of p mask values memory outs).answer (cycle_of p mask values memory outs).count l (cycle_of p mask values memory outs).memory)
    (append-nil (cycle_of p mask values memory outs).outputs))
