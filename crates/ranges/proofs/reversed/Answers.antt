-- `ranges::reversed` meets its contract: after k turns r is the k low bits, the lowest first. Assumes nothing.
use mathlib.Core.Path.{refl, ap, ◌∙◌}
use Prim.Native.Nat.{ℕ, ◌/◌, ◌^◌}
use native.Mathlib.Omega.{arith}
use Rattle.language.specs.Values.{number_of}
use Rattle.bits.specs.Reversal.{reversed_of}
use Rattle.ranges.proofs.Parts.{reversed_more, reversed_room}
use Rattle.ranges.proofs.reversed.Goals as goal

pub loop-k-init : goal.loop-k-init
unfolding reversed_of number_of
loop-k-init c = refl

pub beside-r-requires : goal.beside-r-requires
beside-r-requires c = reversed_room 64 c.loop-k.k c.args.a c.loop-k.r (c.args.a / 2 ^ c.loop-k.k) (omega arith) c.loop-k.invariant

pub loop-k-preserved : goal.loop-k-preserved
loop-k-preserved c = c.beside-r.ensures ∙ reversed_more c.loop-k.k c.args.a c.loop-k.r (c.args.a / 2 ^ c.loop-k.k) c.loop-k.invariant refl

pub returns : goal.returns
returns c = c.loop-k.invariant ∙ ap (λ (y : ℕ). reversed_of y c.args.a) (omega arith)
