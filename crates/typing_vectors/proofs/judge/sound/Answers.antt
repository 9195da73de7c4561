-- `typing_vectors::judge::sound` meets its contract: the types that wait have the code that is passed. Assumes nothing.
use mathlib.Core.Path.{◌≡◌, refl, sym, subst}
use mathlib.Core.List.{List, []}
use Prim.Native.Nat.{ℕ}
use native.Mathlib.Omega.{arith}
use lib.Dec.{lit≤}
use borrow.Author.Tests.{ltb-true}
use Rattle.type_value.specs.Walk.{part}
use Rattle.typing_vectors.specs.Judged.{codes, Held}
use Rattle.typing_vectors.proofs.Holding.{part_longer, part_empty, whole}
use Rattle.typing_vectors.proofs.judge.sound.Goals as goal

pub loop-i-init : goal.loop-i-init
unfolding codes
loop-i-init c = (lit≤ tt, refl, ([], tt, sym (part_empty c.args.code.now c.args.from)))

pub loop-i-preserved : goal.loop-i-preserved
loop-i-preserved c =
    let s = c.args in
    let l = c.loop-i in
    let h = c.in-Some.ensures.held in (
      h.0,
      c.in-Some.ensures.marks_len,
      subst (λ (ks : List ℕ). Held s.unknowns c.step.new.marks c.in-Some.r ks) (sym (part_longer s.code.now s.from l.i l.auto.i (omega arith)))
          (h.1 (part s.code.now s.from l.i) l.invariant.2),
    )

pub returns-then-n-eq1 : goal.returns-then-n-eq1
returns-then-n-eq1 c =
    let s = c.args in
    let l = c.loop-i in
    let e : l.i ≡ s.end = omega arith in
    λ t. whole s.unknowns s.code.now l.marks s.from s.end l.n c.if-n-eq1.true c.if-code-end.false c.if-end-from-gt64.false (ltb-true _ _ t)
    (subst (λ (i : ℕ). Held s.unknowns l.marks l.n (part s.code.now s.from i)) e l.invariant.2)
