-- The cycles of a run, from a plan that agrees with its text: what is written is what document 01 says. Assumes nothing: what a plan has to agree in is a record, `Agrees`.
use mathlib.Core.Path.{◌≡◌, refl, sym, ap, ap₂, ◌∙◌, subst}
use Rattle.std.specs.Prelude.{None}
use mathlib.Core.Bool.{false}
use mathlib.Core.List.{List, [], ◌++◌}
use Prim.Native.Nat.{ℕ, zero, suc, ◌≤◌}
use native.Mathlib.Omega.{arith}
use lib.ListN.{length, take, drop}
use lib.Seq.{take_at, length-take-le}
use Rattle.language.specs.Bindings.{Got, got, lost}
use Rattle.language.specs.Sizes.{Setting}
use Rattle.language.specs.Meaning.{Outcome, cycle, cell_widths}
use Rattle.language.specs.Worked.{CycleRead, is_bad, line, cycle_line, turn, cycles}
use Rattle.plan_of.specs.PlanOf.{plan_of}
use Rattle.turn.specs.Cycle.{cycle_of}
use Rattle.figures.specs.declared.Stage.TheVariants.{Line, Through}
use Rattle.figures.specs.declared.State.{State}
use Rattle.figures.specs.States.{start_of}
use Rattle.input_bytes.specs.Lines.{cells_of, done_of, outputs_after, memory_after, turned_of}
use Rattle.cycle_line.specs.Shown.{ports_of, shown_of}
use Rattle.input_bytes.specs.Bytes.{Machine, machine, stated, lined, ended_of}
use Rattle.tipirun.specs.Machine.{passed_by}
use Rattle.tipirun.proofs.Stages.{over_line, same_plan}
use Rattle.tipirun.proofs.Onward.{From, closed, through_closed}
use Rattle.tipirun.proofs.CountLines.{Enters}
use Rattle.tipirun.proofs.TextRuns.{still_comes}
use Rattle.input_bytes.proofs.Lengths.{cycle_cells, cycle_slots}
use Rattle.tipirun.proofs.LineValues.{Slots, Turns, turn_run}
use Rattle.input_bytes.proofs.Signatures.{plan_turn}
use Rattle.input_bytes.proofs.Spent.{given_of}

-- a plan as its text has it
pub record Agrees (s : Setting) : Type 0 where
  pub ports : ports_of (plan_of s) ≡ length s.actor.signature
  pub cells : cells_of (plan_of s) ≡ length (cell_widths s)
  pub turns : (bs : List ℕ) → plan_turn (plan_of s) bs ≡ turn s.actor bs
  pub lines : (o : Outcome) (l : List ℕ) → length o.outputs ≡ length s.actor.signature → shown_of (plan_of s) o.answer o.count (o.outputs ++ l) ≡ cycle_line s.actor o
  pub means : (mask : ℕ) (values memory outputs : List ℕ) → length values ≡ length s.actor.signature → length outputs ≡ length s.actor.signature → length memory ≡ length (cell_widths s)
      → cycle_of (plan_of s) mask values memory outputs ≡ cycle s (record { mask = mask; values = values; memory = memory }) outputs

module _ (s : Setting) (a : Agrees s) where
  -- the machine before a line: the memory and the outputs stand in their tables
  pub record AtLine (m : Machine) (t : State) (memory outputs : List ℕ) : Type 0 where
    pub stage : t.stage ≡ Line
    pub number : t.number ≡ None
    pub port : t.port ≡ 0
    pub plan : take t.plan m.plan ≡ plan_of s
    pub values : Slots (plan_of s) m.values
    pub cells : take (cells_of (plan_of s)) m.memory ≡ memory
    pub slots : take (ports_of (plan_of s)) m.outputs ≡ outputs
    pub size : length memory ≡ length (cell_widths s)
    pub count : length outputs ≡ length s.actor.signature

  no_cycles : (m : Machine) (t : State) (memory outputs bs out : List ℕ) → AtLine m t memory outputs → t.left ≡ 0 → Enters (stated m t) bs out → out ≡ line memory
  unfolding passed_by ended_of
  no_cycles m t memory outputs bs out x z y =
      let l : t.left ≤ 0 = omega arith in
      let q = y.what in
      closed bs (machine (start_of t Through 0) m.actor m.bindings m.plan m.values m.outputs m.memory []) out Through refl through_closed
      (subst (λ (k : Machine). From k bs out)
      (ap₂ (λ (r : State) (p : List ℕ). machine r m.actor m.bindings p m.values m.outputs m.memory []) (sym (over_line q t m.plan l x.stage)) (sym (same_plan q t m.plan Line l x.stage refl)))
      y.rest)
      ∙ ap (λ (p : List ℕ). line (take (cells_of p) m.memory)) x.plan ∙ ap line x.cells

  -- a cycle of the machine is a cycle of the text
  done_is : (m : Machine) (t : State) (memory outputs v : List ℕ) (u : CycleRead) → AtLine m t memory outputs → Slots (plan_of s) v → take (ports_of (plan_of s)) v ≡ u.values → done_of (plan_of s) u.mask v m.outputs m.memory ≡ cycle s (given_of u memory) outputs
  unfolding done_of
  done_is m t memory outputs v u x w e =
      ap (λ (l : List ℕ). cycle_of (plan_of s) u.mask l (take (cells_of (plan_of s)) m.memory) (take (ports_of (plan_of s)) m.outputs)) e
      ∙ ap₂ (cycle_of (plan_of s) u.mask u.values) x.cells x.slots
      ∙ a.means u.mask u.values memory outputs (sym (ap length e) ∙ length-take-le (ports_of (plan_of s)) v w.long ∙ a.ports) x.count x.size

  -- ---- one cycle: the line that is written for it, and the machine before the next

  module _ (m : Machine) (t : State) (memory outputs v : List ℕ) (u : CycleRead) (x : AtLine m t memory outputs) (w : Slots (plan_of s) v) (e : take (ports_of (plan_of s)) v ≡ u.values) where
    line_is : (turned_of t u.mask (plan_of s) v m.outputs m.memory).wrote ≡ cycle_line s.actor (cycle s (given_of u memory) outputs)
    unfolding turned_of outputs_after
    line_is =
        ap (λ (o : Outcome). shown_of (plan_of s) o.answer o.count (o.outputs ++ drop (ports_of (plan_of s)) m.outputs)) (done_is m t memory outputs v u x w e)
        ∙ a.lines (cycle s (given_of u memory) outputs) (drop (ports_of (plan_of s)) m.outputs) (cycle_slots s (given_of u memory) outputs x.count)

    cells_after : take (cells_of (plan_of s)) (turned_of t u.mask (plan_of s) v m.outputs m.memory).memory ≡ (cycle s (given_of u memory) outputs).memory
    unfolding turned_of memory_after
    cells_after =
        ap (λ (o : Outcome). take (cells_of (plan_of s)) (o.memory ++ drop (cells_of (plan_of s)) m.memory)) (done_is m t memory outputs v u x w e)
        ∙ take_at (cycle s (given_of u memory) outputs).memory (drop (cells_of (plan_of s)) m.memory) (cells_of (plan_of s)) (cycle_cells s (given_of u memory) outputs ∙ x.size ∙ sym a.cells)

    slots_after : take (ports_of (plan_of s)) (turned_of t u.mask (plan_of s) v m.outputs m.memory).outputs ≡ (cycle s (given_of u memory) outputs).outputs
    unfolding turned_of outputs_after
    slots_after =
        ap (λ (o : Outcome). take (ports_of (plan_of s)) (o.outputs ++ drop (ports_of (plan_of s)) m.outputs)) (done_is m t memory outputs v u x w e)
        ∙ take_at (cycle s (given_of u memory) outputs).outputs (drop (ports_of (plan_of s)) m.outputs) (ports_of (plan_of s)) (cycle_slots s (given_of u memory) outputs x.count ∙ sym a.ports)

    next_stands : AtLine (lined m (turned_of t u.mask (plan_of s) v m.outputs m.memory)) (turned_of t u.mask (plan_of s) v m.outputs m.memory).state (cycle s (given_of u memory) outputs).memory (cycle s (given_of u memory) outputs).outputs
    unfolding turned_of
    next_stands =
        record {
          stage = refl;
          number = refl;
          port = refl;
          plan = x.plan;
          values = w;
          cells = cells_after;
          slots = slots_after;
          size = cycle_cells s (given_of u memory) outputs ∙ x.size;
          count = cycle_slots s (given_of u memory) outputs x.count;
        }

  next_left : (t : State) (mask : ℕ) (p v o m : List ℕ) (k : ℕ) → t.left ≡ suc k → (turned_of t mask p v o m).state.left ≡ k
  unfolding turned_of
  next_left t mask p v o m k e = omega arith

  quietly : (m : Machine) (bs out : List ℕ) → Enters m bs out → Enters (stated m m.state) bs out
  unfolding passed_by
  quietly m bs out x = record { what = x.what; judges = record { read = x.judges.read }; rest = x.rest }

  -- ---- cycle after cycle

  abbrev Tells : ℕ → Type 0
  Tells k = (m : Machine) (t : State) (memory outputs bs out : List ℕ) → AtLine m t memory outputs → t.left ≡ k → Enters (stated m t) bs out → out ≡ cycles s k memory outputs bs

  by_turn : (k : ℕ) → Tells k → (m : Machine) (t : State) (memory outputs out : List ℕ) → AtLine m t memory outputs → t.left ≡ suc k → (z : Got CycleRead) → Turns (plan_of s) t m out z
      → out ≡ elim z [ lost r ↦ is_bad | got u r ↦ cycle_line s.actor (cycle s (given_of u memory) outputs) ++ cycles s k (cycle s (given_of u memory) outputs).memory (cycle s (given_of u memory) outputs).outputs r ]
  unfolding Turns
  by_turn k ih m t memory outputs out x l (lost r) y = y
  by_turn k ih m t memory outputs out x l (got u r) y =
      y.runs.both
      ∙ ap₂ (λ (p q : List ℕ). p ++ q) (line_is m t memory outputs y.values u x y.slots y.first)
      (ih (lined m (turned_of t u.mask (plan_of s) y.values m.outputs m.memory)) (turned_of t u.mask (plan_of s) y.values m.outputs m.memory).state
      (cycle s (given_of u memory) outputs).memory (cycle s (given_of u memory) outputs).outputs r y.runs.later
      (next_stands m t memory outputs y.values u x y.slots y.first) (next_left t u.mask (plan_of s) y.values m.outputs m.memory k l)
      (quietly (lined m (turned_of t u.mask (plan_of s) y.values m.outputs m.memory)) r y.runs.later y.runs.enters))

  pub cycles_run : (k : ℕ) → Tells k
  unfolding cycles
  cycles_run zero = λ m t memory outputs bs out x l y. no_cycles m t memory outputs bs out x l y
  cycles_run (suc k) = λ m t memory outputs bs out x l y.
      by_turn k (cycles_run k) m t memory outputs out x l (turn s.actor bs)
      (subst (Turns (plan_of s) t m out) (a.turns bs)
      (turn_run (plan_of s) m t out x.stage (omega arith) x.port x.plan x.values bs x.number (still_comes (stated m t) bs out (omega arith) y)))
