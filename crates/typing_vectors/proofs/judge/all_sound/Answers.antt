-- `typing_vectors::judge::all_sound` meets its contract: the types so far. Assumes nothing.
use mathlib.Core.Path.{◌≡◌}
use native.Mathlib.Omega.{arith}
use lib.ListN.{length}
use Rattle.typing_vectors.proofs.Listing.{none, more, all}
use Rattle.typing_vectors.proofs.judge.all_sound.Goals as goal

pub loop-i-init : goal.loop-i-init
loop-i-init c = none c.args.code.now c.args.starts.now c.args.ends.now (length c.args.starts.now)

pub loop-i-preserved : goal.loop-i-preserved
loop-i-preserved c =
    let a = c.sound.ensures c.if-not-sound.false in
    more c.args.code.now c.args.starts.now c.args.ends.now (length c.args.starts.now) c.loop-i.i a.0 c.loop-i.invariant a.1 a.2

pub returns : goal.returns
returns c =
    let e : c.loop-i.i ≡ length c.args.starts.now = omega arith in
    λ t. all c.args.code.now c.args.starts.now c.args.ends.now c.loop-i.i e c.requires c.loop-i.invariant
