-- `typing_vectors::type_row` is safe and ends. Assumes nothing.
use mathlib.Core.Path.{sym}
use mathlib.Core.List.{◌++◌}
use Prim.Native.Nat.{◌≤◌}
use native.Mathlib.Omega.{arith}
use lib.ListN.{length, drop}
use lib.Seq.{length-take-le, length_front}
use Rattle.typing_vectors.proofs.type_row.Goals as goal

pub slice_bounds-numbers-end-2 : goal.slice_bounds-numbers-end-2
slice_bounds-numbers-end-2 c =
    let s = c in
    sym (length-take-le s.args.n s.args.ws.now s.requires.2)

pub slice_bounds-print_type-end-2 : goal.slice_bounds-print_type-end-2
slice_bounds-print_type-end-2 c =
    let s = c in
    let w = s.args.ws.now in
    let l = c.numbers.new.to in
    let h : s.args.n ≤ length (l ++ drop s.args.n w) = omega (arith, length_front w l s.args.n c.numbers.auto.to) in
    sym (length-take-le s.args.n (l ++ drop s.args.n w) h)
