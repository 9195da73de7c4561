-- `ranges::copies` meets its contract: after i turns r is i copies. Assumes nothing.
use mathlib.Core.Path.{refl, ap, ◌∙◌}
use Prim.Native.Nat.{ℕ}
use native.Mathlib.Omega.{arith}
use Rattle.language.specs.Values.{copies_of}
use Rattle.ranges.proofs.Parts.{copies_more, copies_room}
use Rattle.ranges.proofs.copies.Goals as goal

pub loop-i-init : goal.loop-i-init
unfolding copies_of
loop-i-init c = refl

pub beside-r-requires : goal.beside-r-requires
beside-r-requires c = copies_room 64 c.loop-i._i c.args.k c.args.w c.args.a c.loop-i.r c.loop-i-test.true c.loop-i.invariant c.requires.holds c.requires.whole

pub loop-i-preserved : goal.loop-i-preserved
loop-i-preserved c = c.beside-r.ensures ∙ copies_more c.loop-i._i c.args.w c.args.a c.loop-i.r c.loop-i.invariant

pub returns : goal.returns
returns c = c.loop-i.invariant ∙ ap (λ (x : ℕ). copies_of x c.args.w c.args.a) (omega arith)
