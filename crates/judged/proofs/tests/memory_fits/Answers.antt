-- `memory_fits` meets its contract. Assumes nothing.
use native.Mathlib.Omega.{arith}
use Prim.Native.Nat.{◌+◌, ◌-◌}
use mathlib.Core.Path.{◌≡◌, ◌∙◌}
use Rattle.plan.specs.Layout.{memory_width_at, memory_size_at, cells_before}
use Rattle.judged.specs.Tests.{memory_fits}
use Rattle.judged.proofs.Firing.{bits_fit}
use Rattle.judged.proofs.tests.memory_fits.Goals as goal

pub returns : goal.returns
unfolding memory_fits
returns c =
    let p = c.args.plan.now in
    let m = c.args.m in
    let first = c.cells_before-first.result in
    let e : first + c.place-size.result - first ≡ memory_size_at p m = omega (arith, c.place-size.ensures.0, c.memory_size.ensures) in
    c.within.ensures ∙ rw (c.together.ensures, c.memory_width.ensures, e, c.cells_before-first.ensures.0) (bits_fit p c.args.memory.now (cells_before p m) (memory_width_at p m) (memory_size_at p m) c.requires)
