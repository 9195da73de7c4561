-- `name_marks::mark` meets its contract: the words passed are marked, and those that are left are as they were. Assumes nothing.
use native.Mathlib.Omega.{arith}
use mathlib.Core.Path.{◌≡◌, refl, ap, subst, ◌∙◌}
use Prim.Native.Nat.{ℕ}
use Rattle.readers.specs.Marks.{count}
use Rattle.name_marks.specs.Marking.{Remarked, memories_on, name_mark}
use Rattle.name_marks.proofs.Marked.{remarked_start, remarked_word, remarked_skip}
use Rattle.name_marks.proofs.mark.Goals as goal
use Rattle.name_marks.proofs.mark.Goals.{then-words-i-eq-NAME, else-words-i-eq-NAME}

pub loop-i-init : goal.loop-i-init
loop-i-init c = remarked_start

pub loop-i-preserved : goal.loop-i-preserved
unfolding count
loop-i-preserved c = elim c.if-words-i-eq-NAME.branch [
  | then-words-i-eq-NAME w ↦ rw w.words-is (remarked_word c.loop-i.invariant w.if-words-i-eq-NAME.true (omega (arith, c.loop-i.invariant.size, c.requires.tabled, c.loop-i-test)) refl refl
      (w.value.ensures ∙ ap (name_mark (memories_on c.args.text.now c.args.items.now.tape c.args.items.now.n)) w.part.ensures))
  | else-words-i-eq-NAME w ↦ rw w.words-is (remarked_skip c.loop-i.invariant w.if-words-i-eq-NAME.false)
]

pub returns : goal.returns
unfolding count
returns c = let e : c.loop-i.i ≡ count c.args.words.now = omega arith in
    subst (λ (i : ℕ). Remarked c.args.text.now (memories_on c.args.text.now c.args.items.now.tape c.args.items.now.n) i c.args.words.now c.loop-i.words) e c.loop-i.invariant
