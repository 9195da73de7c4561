-- `typing::solve` meets its contract: the widths rise from zeros and stay below every solution. Assumes nothing.
use mathlib.Core.Path.{sym, ap, ◌∙◌, subst}
use Prim.Native.Nat.{ℕ, ◌≤◌, ◌<◌}
use native.Mathlib.Omega.{arith}
use lib.ListN.{length, replicate, length-set}
use Rattle.typing.proofs.Progress.{begins, in_range, told, none, all_fine, same, change, less, measure_falls, small_set, finish}
use Rattle.typing.proofs.solve.Goals as goal

pub loop-i-init : goal.loop-i-init
loop-i-init c =
    let s = c in
    let b = begins s.args.starts.now c.fill.new.self (length s.args.ws.now) (c.fill.ensures.after (λ y e. e)) s.requires.ws_len in
    (b.0, b.1, λ ts k. b.2 ts)

pub bounds-ends-i : goal.bounds-ends-i
bounds-ends-i c =
    let s = c in
    omega (arith, s.requires.coded.1.count, s.requires.coded.1.counted)

pub shape_of-ws-then-from-v : goal.shape_of-ws-then-from-v
shape_of-ws-then-from-v c =
    let l = c.loop-i in
    c.fill-then-from-v.ensures.len ∙ l.invariant.0 ∙ sym c.requires.ws_len

pub returns-then-from-v : goal.returns-then-from-v
returns-then-from-v c =
    let s = c in
    let code = s.args.code.now in
    let starts = s.args.starts.now in
    let ends = s.args.ends.now in
    let l = c.loop-i in
    let w = c.width_at-v in
    let h : l.i < length starts = omega arith in
    let g : 32 < w.result = omega (arith, c.from.ensures) in
    λ ts k. (
      none ts (all_fine ts code starts ends k) l.ws l.i w.result (in_range ts code starts ends k l.i h)
          (told ts code starts ends k l.ws l.i w.result l.invariant.0 l.invariant.1 h w.ensures.each_type) g (l.invariant.2 ts k),
      c.fill-then-from-v.ensures.after (λ y e. e) ∙ ap (λ (n : ℕ). replicate {A = ℕ} n 0) (l.invariant.0 ∙ k.count),
    )

pub loop-i-preserved-then-w-ws : goal.loop-i-preserved-then-w-ws
loop-i-preserved-then-w-ws c =
    let s = c in
    let code = s.args.code.now in
    let starts = s.args.starts.now in
    let ends = s.args.ends.now in
    let l = c.loop-i in
    let w = c.width_at-v in
    let h : l.i < length starts = omega arith in
    (l.invariant.0, l.invariant.1, λ ts k. same ts l.ws l.i (sym c.if-w-ws.true ∙ told ts code starts ends k l.ws l.i w.result l.invariant.0 l.invariant.1 h w.ensures.each_type) (l.invariant.2 ts k))

pub loop-i-smaller : goal.loop-i-smaller
loop-i-smaller c =
    let s = c in
    let code = s.args.code.now in
    let starts = s.args.starts.now in
    let ends = s.args.ends.now in
    let l = c.loop-i in
    let w = c.width_at-v in
    let g = s.requires.coded in
    let h : l.i < length starts = omega arith in
    let hw : l.i < length l.ws = omega arith in
    let e = told g.0 code starts ends g.1 l.ws l.i w.result l.invariant.0 l.invariant.1 h w.ensures.each_type in
    measure_falls l.ws (length starts) l.i w.result _ hw (less g.0 l.ws l.i w.result (in_range g.0 code starts ends g.1 l.i h) e c.if-w-ws.false (l.invariant.2 g.0 g.1)) (omega arith)

pub loop-i-preserved : goal.loop-i-preserved
loop-i-preserved c =
    let s = c in
    let code = s.args.code.now in
    let starts = s.args.starts.now in
    let ends = s.args.ends.now in
    let l = c.loop-i in
    let w = c.width_at-v in
    let h : l.i < length starts = omega arith in
    let hw : l.i < length l.ws = omega arith in (
      length-set l.ws l.i w.result ∙ l.invariant.0,
      small_set l.ws l.i w.result 32 hw (omega arith) l.invariant.1,
      λ ts k. change ts (all_fine ts code starts ends k) l.ws l.i w.result (in_range ts code starts ends k l.i h) hw
          (told ts code starts ends k l.ws l.i w.result l.invariant.0 l.invariant.1 h w.ensures.each_type) (l.invariant.2 ts k),
    )

pub shape_of-ws : goal.shape_of-ws
shape_of-ws c = c.loop-i.invariant.0 ∙ sym c.requires.ws_len

pub returns : goal.returns
returns c =
    let l = c.loop-i in
    let h : length c.args.starts.now ≤ l.i = omega arith in
    λ ts k. finish ts l.ws l.i (subst (λ (n : ℕ). n ≤ l.i) k.count h) (l.invariant.0 ∙ k.count) l.invariant.1 (l.invariant.2 ts k)
