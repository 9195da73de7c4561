-- THE PAGE PROVED: the three demands of specs/Demands.antt, with no premise. Assumes nothing.
use mathlib.Core.Path.{◌≡◌, refl, sym, ap, subst, ◌∙◌}
use mathlib.Core.Logic.{◌↔◌, ⊎_elim}
use mathlib.Core.Bool.{Bool, true, false}
use mathlib.Core.List.{List, ◌++◌}
use mathlib.Core.Option.{Option, none, some}
use Prim.Native.Nat.{ℕ, ◌+◌, ◌*◌, ◌≤◌, ◌<◌}
use native.Mathlib.Omega.{arith}
use lib.Dec.{leb}
use borrow.Author.Tests.{le-leb, lt-leb}
use lib.ListN.{length, get_or, take, drop}
use lib.Seq.{sets, sets-eq, take_at, drop_at}
use Rattle.language.specs.Text.{earliest}
use Rattle.language.specs.Words.{Word, words_of, words}
use Rattle.language.specs.Tree.{Actor}
use Rattle.language.specs.Bindings.{Bindings}
use Rattle.language.specs.Types.{exact_of}
use Rattle.language.specs.Widths.{Want, exactly, valued, wants, value_in, port_width, wanted_width, type_width, Satisfies, Least, Resolved}
use Rattle.language.specs.Sizes.{Setting, size_faults}
use Rattle.language.specs.Presence.{presence_faults}
use Rattle.language.specs.Reading as Reading
use Rattle.language.specs.Reading.{Early, stopped, through, refused, accepted, Reads, reads_early, reads_late, early, late}
use Rattle.language.specs.declared.Text.{Text}
use Rattle.language.specs.declared.Text.TheVariants.{Actor as InActor}
use Rattle.typing.proofs.Sentence.{exact_positive, width_sentence, width_only}
use Rattle.turn.specs.Cycle.{refused_by, cycle_of}
use Rattle.cycle.proofs.Answered.{cycle_answered, run_answered}
use Rattle.plan_of.specs.PlanOf.{plan_of}
use Rattle.plan_of.specs.Theorems.{Planned}
use Rattle.plan_of.proofs.Read.{reads_accepted}
use Rattle.plan_of.proofs.Theorems.{reads_planned}
use Rattle.plan_of.proofs.Alike.{cycles_alike}
use Rattle.lines.proofs.Placed.{line_around}
use Rattle.row13_plan.specs.Made as Making
use Rattle.tipi.specs.Told.{answer_of, table_after, Read}
use Rattle.plan_answer.specs.Answered.{made_of}
use Rattle.tipi.specs.Demands.{RefusedCycle, Demand1, Demand2, HasWidth, Fulfils, LeastWidths, DemandWidths, Means, DemandLine, Demands}
use Rattle.plan_answer.specs.Answered.{Answer}
use Rattle.plan_answer.specs.Answered.{Plan, Refused}
use Rattle.tipi.proofs.Answers.{answers}
use Rattle.tipi.proofs.Theorems.{reads_once, is_plan, read_given}

-- ---- 1

-- a reading refusal leaves the table
refused_leaves : {text bindings table after : List ℕ} {n p : ℕ} {t : Text} → Read text bindings (Refused n t p) table after → after ≡ table
unfolding answer_of table_after made_of Making.table_after
refused_leaves {table = table} {after} {n} {p} {t} h = by h.what h.told.answer h.told.table
  where
    full : (s : Setting) (b : Bool) → ◌≡◌ {A = Answer} (Refused n t p) (elim b [ true ↦ Plan (length (plan_of s)) | false ↦ Refused 13 InActor 0 ]) → ◌≡◌ {A = List ℕ} after (elim b [ true ↦ sets table 0 (plan_of s) | false ↦ table ]) → after ≡ table
    full s true e f = absurd (subst is_plan (sym e) tt)
    full s false e f = f

    by : (x : Reading.Answer) → Refused n t p ≡ answer_of x table → after ≡ table_after x table → after ≡ table
    by (refused m u q) e f = f
    by (accepted s) e f = full s (leb (length (plan_of s)) (length table)) e f

refused_cycle : (plan : List ℕ) (mask : ℕ) (values memory outputs : List ℕ) → ((cycle_of plan mask values memory outputs).answer ≡ 0 → ⊥) → RefusedCycle (cycle_of plan mask values memory outputs) memory outputs
unfolding refused_by
refused_cycle plan mask values memory outputs n =
    ⊎_elim (λ e. absurd (n e)) (λ r. rw r.3 (record { number = (r.1, r.2); stands = refl })) (cycle_answered plan mask values memory outputs)

demand_1 : Demand1
demand_1 = record { reading = λ h. refused_leaves h; cycling = refused_cycle; running = run_answered; alike = cycles_alike }

-- ---- 2

module _ {text bindings table after : List ℕ} {r : Answer} (h : Read text bindings r table after) where
  -- what `read` promises, of the one answer
  told : (x : Reading.Answer) → Reads text bindings x → (r ≡ answer_of x table) × (after ≡ table_after x table)
  told x y =
      let e = reads_once text bindings h.what x h.reads y in
      (h.told.answer ∙ ap (λ (z : Reading.Answer). answer_of z table) e, h.told.table ∙ ap (λ (z : Reading.Answer). table_after z table) e)

  told_refused : {n p : ℕ} {t : Text} → Reads text bindings (refused n t p) → (r ≡ Refused n t p) × (after ≡ table)
  unfolding answer_of table_after
  told_refused y = told _ y

  module _ (s : Setting) (y : Reads text bindings (accepted s)) where
    told_plan : length (plan_of s) ≤ length table
        → (r ≡ Plan (length (plan_of s))) × (take (length (plan_of s)) after ≡ plan_of s) × (drop (length (plan_of s)) after ≡ drop (length (plan_of s)) table)
    unfolding answer_of table_after made_of Making.table_after
    told_plan l =
        let q = told (accepted s) y in
        let b = le-leb (length (plan_of s)) (length table) l in
        let z : after ≡ plan_of s ++ drop (0 + length (plan_of s)) table = rw (table_after, Making.table_after, b) at q.1 ∙ sets-eq (plan_of s) table 0 (omega arith) in
        let n : 0 + length (plan_of s) ≡ length (plan_of s) = omega arith in (
          rw (answer_of, made_of, b) at q.0,
          ap (take (length (plan_of s))) z ∙ take_at (plan_of s) (drop (0 + length (plan_of s)) table) (length (plan_of s)) refl,
          ap (drop (length (plan_of s))) z ∙ drop_at (plan_of s) (drop (0 + length (plan_of s)) table) (length (plan_of s)) refl ∙ ap (λ (k : ℕ). drop k table) n,
        )

    told_no_room : length table < length (plan_of s) → (r ≡ Refused 13 InActor 0) × (after ≡ table)
    unfolding answer_of table_after made_of Making.table_after
    told_no_room l =
        let q = told (accepted s) y in
        let b = lt-leb (length (plan_of s)) (length table) l in
        (rw (answer_of, made_of, b) at q.0, rw (table_after, Making.table_after, b) at q.1)

room_enough : {text bindings : List ℕ} {ws : List Word} (s : Setting) → Reads text bindings (accepted s) → words_of text ≡ words ws → length (plan_of s) ≤ 64 + 8 * length ws
room_enough {text} {bindings} {ws} s y e =
    let q = reads_planned text bindings s y in
    let f = sym q.1 ∙ e in
    let z : q.0 ≡ ws = cc in
    rw z at q.2.short

demand_2 : Demand2
demand_2 = record {
  some_answer = answers;
  one_answer = reads_once;
  refuses = λ h y. told_refused h y;
  accepts = λ s h y l. told_plan h s y l;
  no_room = λ s h y l. told_no_room h s y l;
  room = λ s y e. room_enough s y e;
}

-- ---- widths: what `Satisfies` says by computing a type's value, 01's sentence says by comparing it

module _ (a : Actor) (b : Bindings) (ws : List ℕ) where
  has_width : (x : Want) (v : ℕ) → v ≡ wanted_width a b ws x → HasWidth a b ws x v
  unfolding wanted_width
  has_width (exactly n) v e = e
  has_width (valued t) v e = λ w h. rw e (width_sentence a b ws t w h)

  width_had : (x : Want) (v : ℕ) → HasWidth a b ws x v → v ≡ wanted_width a b ws x
  unfolding wanted_width type_width
  width_had (exactly n) v h = h
  width_had (valued t) v h = let p = exact_positive (port_width a ws) (value_in b.values) t in width_only (exact_of (port_width a ws) (value_in b.values) t) v p.0 p.1 h

  fulfils_so : Satisfies a b ws → Fulfils a b ws
  fulfils_so s = record { long = s.long; small = s.small; equal = λ i h. has_width (get_or (wants a b) i (exactly 0)) (get_or ws i 0) (s.equal i h) }

  satisfies_so : Fulfils a b ws → Satisfies a b ws
  satisfies_so f = record { long = f.long; small = f.small; equal = λ i h. width_had (get_or (wants a b) i (exactly 0)) (get_or ws i 0) (f.equal i h) }

least_so : (a : Actor) (b : Bindings) (ws : List ℕ) → Least a b ws → LeastWidths a b ws
least_so a b ws l = record { fulfils = fulfils_so a b ws l.satisfies; least = λ vs f. l.least vs (satisfies_so a b vs f) }

-- row 10 alone is answered by 10
not_ten : (c : Actor) (d : Bindings) (ws : List ℕ) → late c d (some ws) ≡ refused 10 InActor 0 → ⊥
unfolding late
not_ten c d ws q = sizes (earliest (size_faults (record { actor = c; bindings = d; widths = ws }))) (earliest (presence_faults c)) q
  where
    sizes : (x y : Option ℕ)
        → ◌≡◌ {A = Reading.Answer} (elim x [ some p ↦ refused 11 InActor p | none ↦ elim y [ some p ↦ refused 12 InActor p | none ↦ accepted (record { actor = c; bindings = d; widths = ws }) ] ]) (refused 10 InActor 0) → ⊥
    sizes (some p) y q = let z : ◌≡◌ {A = ℕ} 11 10 = cc in omega arith
    sizes none (some p) q = let z : ◌≡◌ {A = ℕ} 12 10 = cc in omega arith
    sizes none none q = let z : ◌≡◌ {A = ℕ} 0 1 = cc in omega arith

unresolved : (a c : Actor) (b d : Bindings) (ws : Option (List ℕ)) → c ≡ a → d ≡ b → Resolved c d ws → late c d ws ≡ refused 10 InActor 0 → Resolved a b none
unresolved a c b d none p q r f = subst (λ (z : Actor). Resolved z b none) p (subst (λ (z : Bindings). Resolved c z none) q r)
unresolved a c b d (some ws) p q r f = absurd (not_ten c d ws f)

module _ (text bindings : List ℕ) (a : Actor) (b : Bindings) (e : early text bindings ≡ through a b) where
  ten_means : (x : Reading.Answer) → Reads text bindings x → x ≡ refused 10 InActor 0 → Resolved a b none
  ten_means x (reads_early f) q = absurd (let g = sym f ∙ e in let z : ◌≡◌ {A = ℕ} 0 1 = cc in omega arith)
  ten_means x (reads_late {a = c} {b = d} ws f r) q = let g = sym f ∙ e in let u : c ≡ a = cc in let v : d ≡ b = cc in unresolved a c b d ws u v r q

  ten_exactly : Reads text bindings (refused 10 InActor 0) ↔ ((vs : List ℕ) → Fulfils a b vs → ⊥)
  unfolding late
  ten_exactly = (λ y vs f. ten_means (refused 10 InActor 0) y refl vs (satisfies_so a b vs f), λ n. reads_late none e (λ vs s. n vs (fulfils_so a b vs s)))

demand_widths : DemandWidths
demand_widths = record {
  least = λ {text} {bindings} s y. least_so s.actor s.bindings s.widths (reads_accepted text bindings (accepted s) s y refl).is.least;
  none = λ text bindings a b e. ten_exactly text bindings a b e;
}

-- ---- 3

-- the plan of what the texts are read as means what they mean
plan_means : (text bindings : List ℕ) (s : Setting) (ws : List Word) → Reads text bindings (accepted s) → Planned ws s → Means text bindings (plan_of s)
plan_means text bindings s ws y p = record {
  setting = s;
  reads = y;
  sound = p.sound;
  small = p.small;
  inputs = p.inputs;
  outputs = p.outputs;
  memories = p.memories;
  cycle = p.means;
  cycles = p.calls;
  runs = p.runs;
  uncounted = p.uncounted;
  unfit = p.unfit;
}

given_means : {text bindings table after : List ℕ} {l : ℕ} → Read text bindings (Plan l) table after → Means text bindings (take l after)
given_means {text} {bindings} h = let g = read_given h in subst (Means text bindings) (sym g.plan) (plan_means text bindings g.setting g.ws g.reads g.planned)

demand_line : DemandLine
demand_line = record { around = line_around; at_fault = λ {text} {bindings} {p = p} {t = t} h a b r at s. line_around text bindings a b t p r at s }

pub demands : Demands
demands = record { first = demand_1; second = demand_2; widths = demand_widths; third = record { means = λ h. given_means h }; line = demand_line }
