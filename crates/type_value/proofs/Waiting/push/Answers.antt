-- `type_value::Waiting::push` meets its contract. Assumes nothing.
use mathlib.Core.Path.{◌∙◌}
use native.Mathlib.Omega.{arith}
use Rattle.type_value.proofs.Cells.{how_many, put_on}
use Rattle.type_value.proofs.Waiting.push.Goals as goal

pub returns-then-self-eq-WORDS : goal.returns-then-self-eq-WORDS
returns-then-self-eq-WORDS c = how_many c.args.self.now.values c.args.self.now.n ∙ c.if-self-eq-WORDS.true

pub returns : goal.returns
returns c =
    let l = c.args.self.now.values in
    let n = c.args.self.now.n in
    (omega (arith, how_many l n, c.args.self.now.few, c.if-self-eq-WORDS.false), put_on l n c.args.x (omega arith))
