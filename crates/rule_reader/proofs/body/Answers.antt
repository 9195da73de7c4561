-- `rule_reader::body` meets its contract. Assumes nothing.
use native.Mathlib.Omega.{arith}
use Rattle.readers.proofs.Fixed.{s_unbrace}
use Rattle.readers.proofs.Laws.{on_more, same_err}
use Rattle.readers.proofs.Spells.{until_ok, until_missed, until_err, found_at}
use Rattle.readers.specs.Meets.{read}
use Rattle.tape.specs.Tape.{flat_rule}
use Rattle.rule_reader.specs.Tails.{body_p}
use Rattle.rule_reader.proofs.body.Goals as goal

pub returns-in_err-x : goal.returns-in_err-x
unfolding body_p
returns-in_err-x c = rw (same_err c.from_residual.ensures.1) (record {
  moved = record { to = c.in_err-x.ensures.moved.to };
  agrees = λ M f h called es on. until_err M s_unbrace _ _ (c.in_err-x.ensures.agrees M f (omega (arith, c.requires)));
})

pub returns-in_err-y : goal.returns-in_err-y
unfolding body_p
returns-in_err-y c = rw (same_err c.from_residual-in_err-y.ensures.1) (record {
  moved = omega (arith, c.requires, c.in_ok-x.ensures.moved.to, c.in_err-y.ensures);
  agrees = λ M f h called es on. until_missed M s_unbrace _ _ (c.in_ok-x.ensures.agrees M f (omega (arith, c.requires))) c.in_err-y.ensures;
})

pub emit-requires : goal.emit-requires
emit-requires c = omega (arith, c.requires, c.in_ok-x.ensures.moved.to, c.in_ok-y.ensures, found_at (omega arith) c.in_ok-y.ensures)

pub returns : goal.returns
unfolding body_p flat_rule
returns c = record {
  moved = omega (arith, c.requires, c.in_ok-x.ensures.moved.to, c.in_ok-y.ensures, found_at (omega arith) c.in_ok-y.ensures, c.emit.ensures);
  agrees = λ M f h called es on. until_ok M s_unbrace _ _ (c.in_ok-x.ensures.agrees M f (omega (arith, c.requires))) c.in_ok-y.ensures (λ a p on₁.
      read (on_more (on_more on on₁) c.emit.ensures));
}
