-- `row13_plan::made` meets its contract: the sections stand one after the other, and their room was tested. Assumes nothing.
use native.Mathlib.Omega.{arith}
use Prim.Native.Nat.{ℕ, ◌+◌, ◌*◌}
use lib.ListN.{length}
use mathlib.Core.Path.{◌≡◌}
use mathlib.Core.List.{List}
use Rattle.settled.specs.Form.{RULE, OR, MEMORY, SIGNED}
use Rattle.section_items.specs.Items.{Item, counted, items_of}
use Rattle.row13_plan.proofs.Whole.{Asked, plan_long, short_answer, short_table, room_ports, room_memories, room_groups, room_rules, room_code, whole_long, whole_table, whole_answer}
use Rattle.row13_plan.proofs.made.Goals as goal

-- the plan has as many numbers as were summed
asked : (items : List Item) (code lengths t : List ℕ) {ports memories groups rules : ℕ} → ports ≡ counted SIGNED items → memories ≡ counted MEMORY items
    → groups ≡ counted OR items → rules ≡ counted RULE items → Asked items code lengths t (6 + ports + 2 * memories + groups + 3 * rules + length code)
asked items code lengths t p m g r = record { size = plan_long items code lengths p m g r }

pub returns-then-plan-whole : goal.returns-then-plan-whole
returns-then-plan-whole c = record { answer = short_answer (asked (items_of c.args.items.now) c.args.code.now c.args.lengths.now c.args.plan.now c.count-ports.ensures.0 c.count-memories.ensures.0 c.count-groups.ensures.0 c.count-rules.ensures.0) c.if-plan-whole.true; table = short_table (asked (items_of c.args.items.now) c.args.code.now c.args.lengths.now c.args.plan.now c.count-ports.ensures.0 c.count-memories.ensures.0 c.count-groups.ensures.0 c.count-rules.ensures.0) c.if-plan-whole.true }

pub put_section-a-requires : goal.put_section-a-requires
put_section-a-requires c = record { few = c.requires.few; n_in_bounds = room_ports (asked (items_of c.args.items.now) c.args.code.now c.args.lengths.now c.args.plan.now c.count-ports.ensures.0 c.count-memories.ensures.0 c.count-groups.ensures.0 c.count-rules.ensures.0) c.if-plan-whole.false }

pub put_section-b-requires : goal.put_section-b-requires
put_section-b-requires c = record { few = c.requires.few; n_in_bounds = room_memories (asked (items_of c.args.items.now) c.args.code.now c.args.lengths.now c.args.plan.now c.count-ports.ensures.0 c.count-memories.ensures.0 c.count-groups.ensures.0 c.count-rules.ensures.0) c.if-plan-whole.false c.put_section-a.ensures }

pub put_section-c-requires : goal.put_section-c-requires
put_section-c-requires c =
    let pre = c.requires in
    let if1 = c.if-plan-whole in
    let put-section = c.put_section-a in
    let put-section2 = c.put_section-b in record {
      few = pre.few;
      n_in_bounds = room_groups (asked (items_of c.args.items.now) c.args.code.now c.args.lengths.now c.args.plan.now c.count-ports.ensures.0 c.count-memories.ensures.0 c.count-groups.ensures.0 c.count-rules.ensures.0) if1.false put-section.ensures
          put-section2.ensures;
    }

pub put_section-d-requires : goal.put_section-d-requires
put_section-d-requires c =
    let pre = c.requires in
    let if1 = c.if-plan-whole in
    let put-section = c.put_section-a in
    let put-section2 = c.put_section-b in
    let put-section3 = c.put_section-c in record {
      few = pre.few;
      n_in_bounds = room_rules (asked (items_of c.args.items.now) c.args.code.now c.args.lengths.now c.args.plan.now c.count-ports.ensures.0 c.count-memories.ensures.0 c.count-groups.ensures.0 c.count-rules.ensures.0)
          if1.false put-section.ensures put-section2.ensures put-section3.ensures;
    }

pub put_code-requires : goal.put_code-requires
put_code-requires c =
    let pre = c.requires in
    let if1 = c.if-plan-whole in
    let put-section = c.put_section-a in
    let put-section2 = c.put_section-b in
    let put-section3 = c.put_section-c in
    let put-section4 = c.put_section-d in (
      pre.code_few,
      room_code
          (asked (items_of c.args.items.now) c.args.code.now c.args.lengths.now c.args.plan.now c.count-ports.ensures.0 c.count-memories.ensures.0 c.count-groups.ensures.0 c.count-rules.ensures.0)
          if1.false put-section.ensures put-section2.ensures put-section3.ensures put-section4.ensures,
    )

pub overflow_cast-result : goal.overflow_cast-result
overflow_cast-result c =
    let pre = c.requires in
    let count = c.count-ports in
    let count2 = c.count-memories in
    let count3 = c.count-groups in
    let count4 = c.count-rules in
    omega (arith, count.ensures.1, count2.ensures.1, count3.ensures.1, count4.ensures.1, pre.code_few)

pub shape_of-plan : goal.shape_of-plan
shape_of-plan c =
    let if1 = c.if-plan-whole in
    let put-section = c.put_section-a in
    let put-section2 = c.put_section-b in
    let put-section3 = c.put_section-c in
    let put-section4 = c.put_section-d in
    whole_long
    (asked (items_of c.args.items.now) c.args.code.now c.args.lengths.now c.args.plan.now c.count-ports.ensures.0 c.count-memories.ensures.0 c.count-groups.ensures.0 c.count-rules.ensures.0)
    if1.false put-section.ensures put-section2.ensures put-section3.ensures put-section4.ensures c.put_code.ensures

pub returns : goal.returns
returns c =
    let if1 = c.if-plan-whole in
    let put-section = c.put_section-a in
    let put-section2 = c.put_section-b in
    let put-section3 = c.put_section-c in
    let put-section4 = c.put_section-d in record {
      answer = whole_answer
          (asked (items_of c.args.items.now) c.args.code.now c.args.lengths.now c.args.plan.now c.count-ports.ensures.0 c.count-memories.ensures.0 c.count-groups.ensures.0 c.count-rules.ensures.0)
          if1.false;
      table = whole_table
          (asked (items_of c.args.items.now) c.args.code.now c.args.lengths.now c.args.plan.now c.count-ports.ensures.0 c.count-memories.ensures.0 c.count-groups.ensures.0 c.count-rules.ensures.0)
          if1.false put-section.ensures put-section2.ensures put-section3.ensures put-section4.ensures c.put_code.ensures;
    }
