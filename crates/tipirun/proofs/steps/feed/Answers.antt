-- `feed` meets its contract: once the rest has run, all has. Assumes nothing.
use mathlib.Core.Path.{ap, ◌∙◌}
use native.Mathlib.Omega.{arith}
use lib.ListN.{length}
use lib.Seq.{length-sets}
use Rattle.tipirun.proofs.Bytewise.{starts, more, all_fed}
use Rattle.tipirun.proofs.steps.feed.Goals as goal

pub loop-b-init : goal.loop-b-init
loop-b-init c = starts _ _ _

pub step-t-requires : goal.step-t-requires
step-t-requires c = let x = c.loop-b.invariant in omega (arith, c.requires, x.place, x.short, ap length x.written ∙ length-sets c.args.tables.now.out c.args.s.at x.wrote)

pub loop-b-preserved : goal.loop-b-preserved
loop-b-preserved c = more _ _ _ _ _ _ _ _ (omega arith) c.loop-b.invariant c.step-t.ensures

pub returns : goal.returns
returns c = all_fed _ _ _ _ _ _ (omega arith) (omega arith) c.loop-b.invariant
