-- `check_step` meets its contract. Assumes nothing.
use mathlib.Core.Path.{sym, ◌∙◌}
use Rattle.std.specs.Prelude.{None}
use Rattle.plan.specs.Sound.{memory_ok, slot_width, keepable}
use Rattle.plan.specs.Waits.{top}
use Rattle.plan.proofs.Arms.{leaves}
use Rattle.soundness.specs.Steps.{push_over}
use Rattle.soundness.proofs.Laws.{left_width}
use Rattle.soundness.proofs.steps.check_step.Goals as goal

pub returns-in_err-w-in_default : goal.returns-in_err-w-in_default
unfolding push_over
returns-in_err-w-in_default c =
    let a = c.args in
    rw c.from_residual.ensures (record {
      stands = tt;
      same = left_width a.plan.now a.present a.taken a.ls.now a.state.assigned a.i (top a.ws.now a.state.waits) (leaves a.i c.in_default.not-Keep c.in_default.not-Assign c.in_default.not-Write) None (sym c.in_err-w-in_default.ensures);
    })

pub returns-in-Keep : goal.returns-in-Keep
unfolding slot_width keepable
returns-in-Keep c =
    let ws = c.args.ws.now in
    record { stands = c.keep.ensures.stands ws c.requires.0; same = rw c.in-Keep.is (c.keep.ensures.same ws c.waiting.ensures.0) }

pub returns-in-Assign : goal.returns-in-Assign
returns-in-Assign c =
    let ws = c.args.ws.now in
    let ls = c.args.ls.now in
    record { stands = (c.assign.ensures ls).stands ws c.requires.0; same = rw c.in-Assign.is ((c.assign.ensures ls).same ws c.waiting-in-Assign.ensures.0) }

pub returns-in-Write : goal.returns-in-Write
unfolding memory_ok
returns-in-Write c =
    let ws = c.args.ws.now in
    let ls = c.args.ls.now in
    record { stands = (c.write.ensures ls).stands ws c.requires.0; same = rw c.in-Write.is ((c.write.ensures ls).same ws c.waiting-in-Write.ensures.0) }

pub returns-in_ok-w-in_default : goal.returns-in_ok-w-in_default
returns-in_ok-w-in_default c =
    let a = c.args in
    record {
      stands = c.push_over.ensures.stands;
      same = (rw c.takes.ensures at (c.push_over.ensures.same a.ls.now))
          ∙ left_width a.plan.now a.present a.taken a.ls.now a.state.assigned a.i (top a.ws.now a.state.waits) (leaves a.i c.in_default.not-Keep c.in_default.not-Assign c.in_default.not-Write) _ (sym c.in_ok-w-in_default.ensures);
    }
