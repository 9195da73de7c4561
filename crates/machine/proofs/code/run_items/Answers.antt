-- `run_items` meets its contract. Assumes nothing.
use native.Mathlib.Omega.{arith}
use Prim.Native.Nat.{◌+◌, ◌-◌, ◌*◌, ◌≤◌, ◌<◌}
use mathlib.Core.Path.{◌≡◌, refl, sym, ◌∙◌}
use mathlib.Core.List.{[]}
use lib.ListN.{length}
use Rattle.plan.specs.Waits.{top}
use Rattle.plan.specs.Items.{item_at}
use Rattle.item_steps.specs.Machine.{state, exec1}
use Rattle.machine.specs.Safety.{items_from}
use Rattle.machine.proofs.Turns.{safe_any, exec_turn, exec_done, turn_found, turn_ready, left_state, left_turn, not_bad, ran_of}
use borrow.Author.Rules.{rules}
use Rattle.machine.proofs.code.run_items.Goals as goal

pub loop-i-init : goal.loop-i-init
unfolding top
loop-i-init g c =
    let args = c.args in
    let e : args.items - 0 ≡ args.items = omega arith in
    let f : args.from + 4 * 0 ≡ args.from = omega arith in
    record {
      few = omega arith;
      run = λ present taken safe given qs b. (
        state [] args.slots.now args.outputs.now qs,
        record { waits = refl; slot = refl; output = refl; write = b },
        rw (e, f) (safe_any args.plan.now present taken (items_from args.plan.now args.from args.items) [] args.slots.now args.outputs.now [] qs safe),
        rw (e, f),
      );
    }

pub fetch_sound-item-requires : goal.fetch_sound-item-requires
fetch_sound-item-requires g c =
    let args = c.args in
    let loop = c.loop-i in
    let safe = c.requires.safe_items in
    let u = loop.invariant.run safe.1 safe.2 safe.4 safe.3 c.requires.tables.1.0 c.requires.tables.1.1 in (
      omega (arith, safe.0),
      not_bad (turn_ready args.plan.now safe.1 safe.2 args.values.now args.memory.now safe.3 (args.from + 4 * loop.i) args.items loop.i loop.n loop.slots loop.outputs
          loop.invariant.few (omega arith) (omega (arith, safe.0)) u.1 u.2),
    )

-- first that memory has room for a value of the type of the tables, then each clause
pub step-n-requires : goal.step-n-requires
step-n-requires g c =
    let args = c.args in
    let loop = c.loop-i in
    let safe = c.requires.safe_items in
    let u = loop.invariant.run safe.1 safe.2 safe.4 safe.3 c.requires.tables.1.0 c.requires.tables.1.1 in (
      search rules,
      (
        (loop.invariant.few, c.requires.tables.0),
        rw c.fetch_sound-item.ensures (turn_ready args.plan.now safe.1 safe.2 args.values.now args.memory.now safe.3 (args.from + 4 * loop.i) args.items loop.i loop.n loop.slots loop.outputs
            loop.invariant.few (omega arith) (omega (arith, safe.0)) u.1 u.2),
      ),
    )

pub loop-i-preserved : goal.loop-i-preserved
loop-i-preserved g c =
    let args = c.args in
    let loop = c.loop-i in
    let at = args.from + 4 * loop.i in
    let k : loop.i < args.items = omega arith in
    let z : at + 4 * (args.items - loop.i) ≤ length args.plan.now = omega (arith, c.requires.safe_items.0) in
    let e : args.from + 4 * (loop.i + 1) ≡ at + 4 = omega arith in
    record {
      few = c.step-n.ensures.waits_le_waiting;
      run = λ present taken safe given qs b. let u = loop.invariant.run present taken safe given qs b in (
        exec1 args.values.now args.memory.now (item_at args.plan.now at) u.0,
        left_turn args.values.now c.fetch_sound-item.ensures (left_state u.1) (c.step-n.ensures.fact u.0.writes u.1.write),
        rw e (turn_found args.plan.now present taken args.values.now args.memory.now given at args.items loop.i k z u.0 u.2).safe,
        rw e (sym (exec_turn args.values.now args.memory.now args.plan.now at args.items loop.i u.0 k z) ∙ u.3),
      );
    }

pub returns : goal.returns
returns g c =
    let args = c.args in
    let loop = c.loop-i in
    let safe = c.requires.safe_items in
    λ qs b. let u = loop.invariant.run safe.1 safe.2 safe.4 safe.3 qs b in
    ran_of u.1 (sym (exec_done args.values.now args.memory.now args.plan.now (args.from + 4 * loop.i) args.items loop.i u.0 (omega arith)) ∙ u.3)
