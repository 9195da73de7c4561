-- `type_nodes::port_index` meets its contract: the ports passed have other names. Assumes nothing.
use Rattle.std.proofs.Common.{◌≡◌, ℕ, arith, refl, sym, ap, ◌+◌, ◌-◌, ◌∙◌}
use Rattle.language.specs.Text.{index}
use Rattle.placed.specs.Placed.{name_from}
use Rattle.type_nodes.specs.Codes.{signed_names}
use Rattle.type_nodes.proofs.Turns.{port_at_law, port_on, port_none}
use Rattle.type_nodes.proofs.port_index.Goals as goal

pub loop-i-init : goal.loop-i-init
loop-i-init c =
    let z : c.args.ports - 0 ≡ c.args.ports = omega arith in
    let e = ap (λ (m : ℕ). index (signed_names c.args.text.now c.args.tape.now 1 m) (name_from c.args.text.now c.args.place)) z in
    omega (arith, e)

pub returns-then-same_name : goal.returns-then-same_name
returns-then-same_name c = (
  port_at_law c.args.text.now c.args.tape.now (name_from c.args.text.now c.args.place) c.loop-i.i c.args.ports c.loop-i-test.true refl
      (sym c.same_name.ensures ∙ c.if-same_name.true)
      ∙ c.loop-i.invariant,
  omega arith,
)

pub loop-i-preserved : goal.loop-i-preserved
loop-i-preserved c =
    port_on c.args.text.now c.args.tape.now (name_from c.args.text.now c.args.place) c.loop-i.i c.args.ports c.loop-i-test.true refl
    (sym c.same_name.ensures ∙ c.if-same_name.false)
    ∙ c.loop-i.invariant

pub returns : goal.returns
returns c =
    let z : c.args.ports - c.loop-i.i ≡ 0 = omega arith in
    let e = port_none c.args.text.now c.args.tape.now (name_from c.args.text.now c.args.place) (c.loop-i.i + 1) z in
    (omega (arith, c.loop-i.invariant), omega arith)
