-- `typing_vectors::system_row` is safe and ends. Assumes nothing.
use mathlib.Core.Path.{◌≡◌, sym, ◌∙◌, subst}
use mathlib.Core.List.{List}
use Prim.Native.Nat.{ℕ, ◌≤◌}
use lib.ListN.{length, take}
use lib.Seq.{length-take-le}
use Rattle.typing_vectors.proofs.system_row.Goals as goal

-- a part of a list that is as long as it was
front : (d e : List ℕ) (n : ℕ) → length e ≡ length d → n ≤ length d → length (take n e) ≡ n
front d e n l h = length-take-le n e (subst (λ (k : ℕ). n ≤ k) (sym l) h)

pub slice_bounds-print_system-end-2 : goal.slice_bounds-print_system-end-2
slice_bounds-print_system-end-2 c =
    let s = c in
    sym (front s.args.starts.now c.numbers.new.to s.args.n c.numbers.auto.to s.requires.n_in_bounds.0)

pub slice_bounds-print_system-end-4 : goal.slice_bounds-print_system-end-4
slice_bounds-print_system-end-4 c =
    let s = c in
    sym (front s.args.ends.now c.numbers-2.new.to s.args.n c.numbers-2.auto.to s.requires.n_in_bounds.1)

pub slice_bounds-print_system-end-6 : goal.slice_bounds-print_system-end-6
slice_bounds-print_system-end-6 c =
    let s = c in
    sym (length-take-le s.args.n s.args.ws.now s.requires.n_in_bounds.2)

pub print_system-requires : goal.print_system-requires
print_system-requires c =
    let s = c in
    let code = s.args.code.now in
    let starts = s.args.starts.now in
    let ends = s.args.ends.now in
    let a = front starts c.numbers.new.to s.args.n c.numbers.auto.to s.requires.n_in_bounds.0 in
    let b = front s.args.ends.now c.numbers-2.new.to s.args.n c.numbers-2.auto.to s.requires.n_in_bounds.1 in
    let d = length-take-le s.args.n s.args.ws.now s.requires.n_in_bounds.2 in
    (a ∙ sym b, d ∙ sym a)
