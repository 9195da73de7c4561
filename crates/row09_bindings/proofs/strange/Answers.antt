-- `row09_bindings::strange` meets its contract: the place is the earliest of the lines passed, from the last one back. Assumes nothing.
use Rattle.std.proofs.Common.{◌≡◌, arith, sym, ap, ◌∙◌, ℕ}
use Rattle.language.specs.Text.{among, earliest}
use Rattle.words.specs.Found.{place_told}
use Rattle.tape.specs.Walk.{between}
use Rattle.row09_bindings.proofs.Lacks.{Lacks, lacks_none, lacks_more, lacks_same}
use Rattle.row09_bindings.proofs.strange.Goals as goal

pub loop-i-init : goal.loop-i-init
loop-i-init c = (omega arith, λ ps e. e ∙ lacks_none (between c.args.text.now c.args.tape.now c.args.class 0 c.args.many) c.args.bound.text.now c.args.bound.table.now c.args.to ps)

pub loop-i-preserved-then-not-said : goal.loop-i-preserved-then-not-said
loop-i-preserved-then-not-said c =
    let names = between c.args.text.now c.args.tape.now c.args.class 0 c.args.many in (
      omega arith,
      λ ps e. c.earlier-first.ensures ∙ lacks_more names c.args.bound.text.now c.args.bound.table.now c.args.to ps c.loop-i.i (omega arith) (omega arith) (c.loop-i.invariant.1 ps e)
          (ap (among names) (sym c.line_name.ensures) ∙ sym c.said.ensures ∙ c.if-not-said.true),
    )

pub loop-i-preserved : goal.loop-i-preserved
loop-i-preserved c =
    let names = between c.args.text.now c.args.tape.now c.args.class 0 c.args.many in (
      omega arith,
      λ ps e. lacks_same names c.args.bound.text.now c.args.bound.table.now c.args.to ps c.loop-i.i (omega arith) (omega arith) (c.loop-i.invariant.1 ps e)
          (ap (among names) (sym c.line_name.ensures) ∙ sym c.said.ensures ∙ c.if-not-said.false),
    )

pub returns : goal.returns
returns c =
    let e : c.loop-i.i ≡ c.args.from = omega arith in
    λ ps f. c.loop-i.invariant.1 ps f
    ∙ ap (λ (i : ℕ). place_told (earliest (Lacks (between c.args.text.now c.args.tape.now c.args.class 0 c.args.many) c.args.bound.text.now c.args.bound.table.now c.args.to ps i))) e
