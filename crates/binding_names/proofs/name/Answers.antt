-- `binding_names::name` meets its contract: the name goes on from its bytes so far as it does from its start. Assumes nothing.
use native.Mathlib.Omega.{arith}
use mathlib.Core.Path.{◌≡◌, sym, ◌∙◌}
use Prim.Native.Nat.{◌+◌}
use native.Mathlib.Nat.{add-zero, add_assoc}
use Rattle.language.specs.Words.{name_byte}
use lib.ListN.{get_or, take, drop, length}
use Rattle.binding_names.specs.Names.{names_before, name_told}
use Rattle.binding_names.proofs.Names.{fresh_over, fresh_digit, fresh_other, name_more, name_ends, name_stops, name_over, goes_most, run_length}
use Rattle.spelling.proofs.Laws.{both_right}
use Rattle.binding_names.proofs.name.Goals as goal
use Rattle.binding_names.proofs.name.Goals.{else-from-text-via-then-from-text+else-is_digit, else-from-text-via-else-from-text}

pub returns-then-is_digit : goal.returns-then-is_digit
unfolding name_told
returns-then-is_digit c = record { reads = record { tells = fresh_digit _ _ c.if-from-text.true _ (sym c.is_digit.ensures ∙ c.if-is_digit.true); inside = omega arith; small = omega arith }; fits = omega arith }

pub loop-n-init : goal.loop-n-init
loop-n-init c = (
  omega arith,
  rw add-zero
      (sym (elim c.else-from-text.branch [
        | else-from-text-via-then-from-text+else-is_digit w ↦ fresh_other _ _ w.if-from-text.true _ (sym w.is_digit.ensures ∙ w.if-is_digit.false)
        | else-from-text-via-else-from-text w ↦ fresh_over _ _ _ w.if-from-text.false
      ])),
)

pub returns-then-ends : goal.returns-then-ends
unfolding name_told
returns-then-ends c =
    let args = c.args in
    let loop = c.loop-n in
    record {
      reads = record {
        tells = sym loop.invariant.1 ∙ name_ends args.text.now args.from loop.n (omega arith) _
            (sym c.goes_on.ensures ∙ c.if-not-goes_on.true) (sym c.may_end-ends.ensures ∙ c.if-ends.true);
        inside = omega arith;
        small = omega arith;
      };
      fits = omega arith;
    }

pub returns-else-ends : goal.returns-else-ends
unfolding name_told
returns-else-ends c =
    let args = c.args in
    let loop = c.loop-n in
    record {
      reads = record {
        tells = sym loop.invariant.1 ∙ name_stops args.text.now args.from loop.n (omega arith) _
            (sym c.goes_on.ensures ∙ c.if-not-goes_on.true) (sym c.may_end-ends.ensures ∙ c.if-ends.false);
        inside = omega arith;
        small = omega arith;
      };
      fits = omega arith;
    }

pub loop-n-preserved : goal.loop-n-preserved
loop-n-preserved c =
    let args = c.args in
    let loop = c.loop-n in
    let seen = names_before args.text.now args.table.now args.k in
    let e = sym c.goes_on.ensures ∙ c.if-not-goes_on.false in
    let l = run_length args.text.now args.from (loop.n + 1) (omega arith) in (
      omega (
        arith,
        l,
        goes_most seen (take (loop.n + 1) (drop args.from args.text.now)) (both_right (name_byte (get_or args.text.now (args.from + loop.n) 0)) _ e),
      ),
      rw (← add_assoc args.from loop.n 1) (sym (name_more args.text.now args.from loop.n (omega arith) _ e) ∙ loop.invariant.1),
    )

pub returns : goal.returns
unfolding name_told
returns c =
    let args = c.args in
    let e : length args.text.now ≡ args.from + c.loop-n.n = omega arith in
    record {
      reads = record {
        tells = rw e (sym c.loop-n.invariant.1 ∙ name_over args.text.now (args.from + c.loop-n.n) _ _ (omega arith));
        inside = omega arith;
        small = omega arith;
      };
      fits = omega arith;
    }
