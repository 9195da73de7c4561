-- `settle::steps::step` meets its contract: each part leaves what one turn asks, within the bounds of one item more. Assumes nothing.
use mathlib.Core.Path.{ap, ap₂, ◌∙◌}
use mathlib.Core.List.{List, ◌++◌}
use Prim.Native.Nat.{ℕ, ◌+◌, ◌≤◌}
use native.Mathlib.Omega.{arith}
use lib.ListN.{length, take}
use Rattle.tape.specs.Walk.{op_at, place_at, value_at}
use Rattle.laws.proofs.Tables.{stored, unstored}
use Rattle.item_writes.specs.Walk.{without, grown, around_of}
use Rattle.item_writes.specs.Tables.{waits_in, numbers_of}
use Rattle.settle.proofs.Turns.{lets_within, vals_within, turn}
use Rattle.settle.proofs.steps.step.Goals as goal

pub written-w-requires : goal.written-w-requires
written-w-requires c =
    let pre = c.requires in
    let few = c.args.given.few in
    (pre.0, omega (arith, pre.0, pre.1, few), omega (arith, pre.0, pre.2, few), pre.4)

pub without-left-requires : goal.without-left-requires
without-left-requires c =
    let pre = c.requires in
    let few = c.args.given.few in
    (omega (arith, pre.4.types, pre.0, pre.2, few), pre.4.ordered)

pub grow-grown-requires : goal.grow-grown-requires
grow-grown-requires c =
    let pre = c.requires in
    let few = c.args.given.few in
    let l = c.without-left.ensures.0 in
    (omega (arith, l.types, pre.4.types, pre.0, pre.2, few), omega (arith, l.nodes, pre.4.nodes, pre.0, pre.1, few), l.ordered)

pub put-requires : goal.put-requires
put-requires c =
    let pre = c.requires in
    let few = c.args.given.few in
    omega (arith, pre.4.out, pre.3)

pub lets_after-requires : goal.lets_after-requires
lets_after-requires c =
    let pre = c.requires in
    let few = c.args.given.few in
    omega (arith, pre.0, few)

pub vals_after-requires : goal.vals_after-requires
vals_after-requires c =
    let pre = c.requires in
    let few = c.args.given.few in
    omega (arith, pre.4.vals, pre.0, few)

pub returns : goal.returns
returns c =
    let pre = c.requires in
    let written = c.written-w in
    let growth = c.growth-g in
    let takes = c.takes in
    let the-without = c.without-left in
    let grow = c.grow-grown in
    let put = c.put in
    let lets-after = c.lets_after in
    let vals-after = c.vals_after in
    let t =
    c
    in
    let b = pre.4 in
    let l = the-without.ensures.0 in
    let g = grow.ensures in
    let few = put.ensures.few in
    let out = put.ensures.end in
    let o = op_at t.args.given.tape.now t.args.i in
    let fits : t.args.far.out + length (numbers_of written.result) ≤ length t.args.out.now = omega (arith, few, b.out, pre.3) in
    record {
      bounded = record {
        types = omega (arith, g.types, l.types, b.types);
        nodes = omega (arith, g.nodes, l.nodes, b.nodes);
        out = omega (arith, few, out, b.out);
        lets = omega (arith, lets-after.ensures, lets_within o t.args.i t.args.far.lets b.lets);
        vals = omega
            (arith, vals-after.ensures, vals_within o t.args.far.vals t.args.i b.vals);
        ordered = g.ordered;
      };
      kept = record {
        more = omega (arith, out);
        past = rw (out, put.ensures.put)
            (unstored t.args.out.now (numbers_of written.result) t.args.far.out fits);
      };
      state = turn t.args.given.text.now t.args.given.tape.now t.args.given.many t.args.given.bound t.args.given.widths.now t.args.code.now t.args.starts.now t.args.out.now t.args.i t.args.far _ _ _ _
          b.lets
          (record {
            types = g.is ∙ growth.ensures t.args.given.widths.now _ ∙ ap
                (grown
                (around_of t.args.given.text.now t.args.given.tape.now t.args.given.many t.args.given.bound.text.now t.args.given.bound.table.now
                t.args.given.bound.lines t.args.given.widths.now)
                o (place_at t.args.given.tape.now t.args.i) (value_at t.args.given.tape.now t.args.i))
                (the-without.ensures.1 t.args.code.now ∙ ap
                (λ (n : ℕ). without n (waits_in t.args.code.now t.args.starts.now t.args.far.waits)) takes.ensures);
            wrote = ap₂ (λ (n : ℕ) (x : List ℕ). take n x) out put.ensures.put ∙ stored t.args.out.now (numbers_of written.result)
                t.args.far.out fits ∙ ap (λ (x : List ℕ). take t.args.far.out t.args.out.now ++ x) (written.ensures t.args.out.now);
            lets
                = lets-after.ensures;
            vals = vals-after.ensures;
            size = c.size_after.ensures;
          });
    }
