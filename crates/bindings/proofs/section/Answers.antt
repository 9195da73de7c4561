-- `bindings::section` meets its contract. Assumes nothing.
use native.Mathlib.Omega.{arith}
use mathlib.Core.Path.{◌∙◌}
use Rattle.bindings.specs.Steps.{lines_told}
use Rattle.binding_numbers.proofs.Numbers.{lost_in, number_went, number_lost, exit}
use Rattle.bindings.proofs.Rows.{section_lost, section_went, named_none}
use Rattle.bindings.proofs.section.Goals as goal

pub returns-in_err-count : goal.returns-in_err-count
unfolding lines_told
returns-in_err-count c =
    let w = c.number_line.ensures in
    let e = c.in_err-count.was in
    rw (exit c.from_residual.ensures.1)
    (record {
      reads = record { tells = section_lost _ _ _ (number_lost w e); inside = lost_in w e; small = omega arith };
      named = named_none _ _;
    })

pub returns : goal.returns
returns c =
    let w = c.each_line.ensures in
    record {
      reads = record {
        tells = section_went _ _ _ (number_went c.number_line.ensures c.in_ok-count.was) ∙ w.reads.tells;
        inside = w.reads.inside;
        small = w.reads.small;
      };
      named = w.named;
    }
