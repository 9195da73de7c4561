-- `type_value::Waiting::turn` meets its contract: a node does what its kind says. Assumes nothing.
use mathlib.Core.Path.{sym, ap, ◌∙◌}
use mathlib.Core.List.{[]}
use native.Mathlib.Omega.{arith}
use Prim.Native.Nat.{ℕ}
use Rattle.language.specs.Types.{whole_of}
use Rattle.type_value.specs.Walk.{unary_kind, binary_kind}
use Rattle.type_value.proofs.Tested.{number_leaf, port_leaf, leaf_out, leaf_done, one_turned, two_turned, one_kind, two_kind}
use Rattle.type_value.proofs.Waiting.turn.Goals as goal

pub returns-then-ws-i : goal.returns-then-ws-i
returns-then-ws-i c = leaf_out _ _ _ [] c.in-Port.ensures.0 (omega (arith, c.in-Port.ensures.1))

pub returns-in-Number : goal.returns-in-Number
returns-in-Number c =
    let e = c.in-Number.ensures in
    leaf_done _ c.args.word _ _ (omega (arith, e.0)) (λ h. absurd (omega (arith, e.0))) c.number.result
    (c.number.ensures ∙ ap (λ (n : ℕ). whole_of n 0) (c.from.ensures ∙ sym e.1) ∙ sym (number_leaf c.args.ws.now c.args.word e.0)) c.push.result c.push.ensures

pub returns-else-ws-i : goal.returns-else-ws-i
returns-else-ws-i c =
    let e = c.in-Port.ensures in
    leaf_done _ c.args.word _ _ (omega (arith, e.0)) (λ h. omega (arith, e.1)) c.number-in-Port.result
    (c.number-in-Port.ensures ∙ ap (λ (n : ℕ). whole_of n 0) c.from-in-Port.ensures ∙ sym (port_leaf c.args.ws.now c.args.word c.in-Port.i e.0 e.1)) c.push-in-Port.result c.push-in-Port.ensures

pub returns-in-One : goal.returns-in-One
returns-in-One c =
    let k = one_kind c.in-One.op in
    one_turned _ _ _ _ (unary_kind c.in-One.op) c.in-One.ensures k.0 k.1 c.on_last.result c.on_last.ensures

pub returns-in-Two : goal.returns-in-Two
returns-in-Two c = two_turned _ _ _ _ (binary_kind c.in-Two.op) c.in-Two.ensures (two_kind c.in-Two.op) c.on_last_two.result c.on_last_two.ensures
