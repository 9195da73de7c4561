-- `bindings::line` meets its contract: the line is its name and its value, and storing it leaves the lines before. Assumes nothing.
use native.Mathlib.Omega.{arith}
use mathlib.Core.Path.{◌≡◌, refl}
use Prim.Native.Nat.{◌+◌, ◌-◌, ◌*◌, ◌≤◌}
use native.Mathlib.Nat.{add-zero}
use mathlib.Core.List.{[], ◌∷◌}
use lib.ListN.{length}
use Rattle.bindings.specs.Steps.{line_told}
use Rattle.binding_numbers.proofs.Numbers.{number_went, number_lost, went_in, went_small, lost_in, exit}
use Rattle.bindings.proofs.Rows.{name_went, name_lost, nameless, valueless, line_read, lines_kept, named_stored, went_fits, three_stored}
use Rattle.bindings.proofs.line.Goals as goal

pub returns-in_err-called : goal.returns-in_err-called
unfolding line_told
returns-in_err-called c =
    let w = c.name.ensures.reads in
    let e = c.in_err-called.was in
    rw (exit c.from_residual.ensures.1)
    (record {
      reads = record { tells = nameless _ _ _ _ (name_lost _ w e); inside = lost_in w e; small = omega arith };
      kept = refl;
      named = rw add-zero c.requires.lent.named;
    })

pub returns-in_err-bound : goal.returns-in_err-bound
unfolding line_told
returns-in_err-bound c =
    let w = c.blank_number.ensures in
    let e = c.in_err-bound.was in
    rw (exit c.from_residual-in_err-bound.ensures.1)
    (record {
      reads = record {
        tells = valueless _ _ _ _ (name_went _ c.name.ensures.reads c.in_ok-called.was) (number_lost w e);
        inside = lost_in w e;
        small = omega arith;
      };
      kept = refl;
      named = rw add-zero c.requires.lent.named;
    })

pub returns : goal.returns
unfolding line_told
returns c =
    let args = c.args in
    let t = args.table.now in
    let x = args.text.now in
    let called = c.in_ok-called.called in
    let bound = c.in_ok-bound.bound in
    let name = c.name in
    let w = c.blank_number.ensures in
    let h : 3 * args.i + 3 ≤ length t = omega (arith, c.requires.lent.wide, c.requires.i_lt_lines) in
    let k : 3 * args.i + 3 - 3 * args.i ≡ 3 = omega arith in
    rw (three_stored t _ (3 * args.i) _ (args.from ∷ called.number ∷ bound.number ∷ []) c.copy_from_slice.ensures.after k h)
    (record {
      reads = record {
        tells = line_read x t _ args.i args.from _ _ (omega arith) c.requires.lent.inside (name_went _ name.ensures.reads c.in_ok-called.was)
            (number_went w c.in_ok-bound.was);
        inside = went_in w c.in_ok-bound.was;
        small = went_small w c.in_ok-bound.was;
      };
      kept = lines_kept x t (3 * args.i) (args.from ∷ called.number ∷ bound.number ∷ []) args.i (omega arith);
      named = named_stored x t args.i _ _ _ (omega arith) c.requires.lent.named (went_fits name.ensures c.in_ok-called.was);
    })
