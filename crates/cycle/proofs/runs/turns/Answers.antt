-- `turns` meets its contract. Assumes nothing.
use native.Mathlib.Omega.{arith}
use Prim.Native.Nat.{ℕ, ◌+◌, ◌-◌, ◌*◌, ◌≤◌}
use mathlib.Core.Path.{◌≡◌, refl, sym, ap, ap₂, ◌∙◌, subst}
use mathlib.Core.List.{◌++◌}
use lib.ListN.{length, set, take, drop, length-set}
use Rattle.plan.specs.Layout.{port_count}
use Rattle.judged.proofs.Fired.{sound_sections}
use Rattle.turn.specs.Turn.{outcome}
use Rattle.turn.proofs.Outcomes.{cells_few}
use Rattle.cycle.proofs.Night.{Runs, runs_start, next_at, runs_next, runs_end, tables_told, part_ports, part_counts, room_for}
use borrow.Author.Rules.{rules}
use Rattle.cycle.proofs.runs.turns.Goals as goal

pub loop-k-init : goal.loop-k-init
loop-k-init c =
    let args = c.args in
    let p = args.plan.now in
    let e = c.place-n.ensures.0 ∙ c.port_count.ensures in
    let z : 0 * c.place-n.result ≡ 0 = omega arith in
    record {
      runs = rw z (runs_start p args.masks.now args.values.now args.memory.now args.outputs.now args.answers.now);
      room = room_for p args.masks.now args.values.now args.memory.now args.outputs.now args.answers.now 0 (0 * c.place-n.result) c.place-n.result c.requires.answers_value e refl;
    }

pub overflow_mul-at : goal.overflow_mul-at
overflow_mul-at c = let room = c.loop-k.invariant.room c.loop-k-test.true in omega (arith, room.0)

pub overflow_add-end : goal.overflow_add-end
overflow_add-end c = let room = c.loop-k.invariant.room c.loop-k-test.true in omega (arith, room.0)

pub offset_bounds-values-at : goal.offset_bounds-values-at
offset_bounds-values-at c = let room = c.loop-k.invariant.room c.loop-k-test.true in omega (arith, room.0)

-- first that memory has room for a value of the type of the tables, then each clause
pub turn-requires : goal.turn-requires
turn-requires c =
    let args = c.args in
    let loop = c.loop-k in
    let p = args.plan.now in
    let e = c.place-n.ensures.0 ∙ c.port_count.ensures in
    let room = loop.invariant.room c.loop-k-test.true in
    let t = tables_told p args.masks.now args.values.now args.memory.now args.outputs.now args.answers.now c.requires.answers_value in (
      search rules,
      (
        c.requires.plan_value,
        (
          part_counts p args.values.now loop.memory loop.outputs _ c.place-n.result e (omega (arith, room.0)) (omega (arith, room.1)) (loop.auto.memory ∙ t.3),
          omega (arith, loop.auto.memory, t.3, cells_few p (sound_sections p c.requires.plan_value).0),
        ),
      ),
    )

pub bounds-answers-q : goal.bounds-answers-q
bounds-answers-q c = let room = c.loop-k.invariant.room c.loop-k-test.true in omega (arith, room.2)

pub bounds-answers-q-in-loop-k : goal.bounds-answers-q-in-loop-k
bounds-answers-q-in-loop-k c =
    let room = c.loop-k.invariant.room c.loop-k-test.true in
    rw (length-set c.loop-k.answers (c.loop-k.k * 2) c.from-done.result.answer) (omega (arith, room.2))

pub loop-k-preserved : goal.loop-k-preserved
loop-k-preserved c =
    let args = c.args in
    let loop = c.loop-k in
    let p = args.plan.now in
    let n = c.place-n.result in
    let e = c.place-n.ensures.0 ∙ c.port_count.ensures in
    let room = loop.invariant.room c.loop-k-test.true in
    let at = loop.k * n in
    let ys = c.turn.new.outputs in
    let done = c.from-done.result in
    let d : at + n - at ≡ port_count p = omega (arith, e) in
    let fits : at + port_count p ≤ length loop.outputs = omega (arith, room.1, e) in
    let long : length ys ≡ port_count p = c.turn.auto.outputs ∙ part_ports loop.outputs at (port_count p) (at + n - at) d fits in
    let t = take at loop.outputs ++ (ys ++ drop (at + n - at) (drop at loop.outputs)) in
    let back : t ≡ take at loop.outputs ++ (ys ++ drop (port_count p) (drop at loop.outputs)) = ap (λ (i : ℕ). take at loop.outputs ++ (ys ++ drop i (drop at loop.outputs))) d in
    let both = set (set loop.answers (loop.k * 2) done.answer) (loop.k * 2 + 1) done.present in
    let next : at + port_count p ≡ (loop.k + 1) * n = ap (λ (i : ℕ). at + i) (sym e) ∙ next_at loop.k n at refl in
    let told = ap₂ (λ (a i : ℕ). outcome a i ys c.turn.new.memory) c.from-done.ensures.0 c.from-done.ensures.1 in
    record {
      runs = subst (λ (x : ℕ). Runs p args.masks.now args.values.now args.memory.now args.outputs.now (loop.k + 1) x c.turn.new.memory t both) next
          (runs_next p args.masks.now args.values.now args.memory.now args.outputs.now loop.k at loop.memory loop.outputs loop.answers
          c.loop-k-test.true loop.invariant.runs fits (omega (arith, room.2)) (told ∙ (rw d at c.turn.ensures)) long back);
      room = room_for p args.masks.now args.values.now args.memory.now args.outputs.now args.answers.now (loop.k + 1) ((loop.k + 1) * n) n c.requires.answers_value e refl;
    }

pub returns : goal.returns
returns c =
    let args = c.args in
    let loop = c.loop-k in
    let p = args.plan.now in
    let t = tables_told p args.masks.now args.values.now args.memory.now args.outputs.now args.answers.now c.requires.answers_value in
    let k : loop.k ≡ length args.masks.now = omega arith in
    let z : loop.k * c.place-n.result ≡ length args.masks.now * port_count p = ap₂ ◌*◌ k (c.place-n.ensures.0 ∙ c.port_count.ensures) in
    let a : length loop.answers ≤ loop.k * 2 = omega (arith, t.2) in
    runs_end p args.masks.now args.values.now args.memory.now args.outputs.now loop.k (loop.k * c.place-n.result) loop.memory loop.outputs loop.answers c.loop-k-test.false
    (omega (arith, t.1)) a loop.invariant.runs
