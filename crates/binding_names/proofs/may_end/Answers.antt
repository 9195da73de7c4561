-- `binding_names::may_end` meets its contract. Assumes nothing.
use mathlib.Core.Path.{sym, ap, ◌∙◌}
use mathlib.Core.Bool.{not}
use mathlib.Core.List.{List}
use Prim.Native.Nat.{ℕ}
use Rattle.language.specs.Text.{among}
use Rattle.language.specs.Words.{good_name}
use Rattle.binding_names.specs.Names.{lines_in, names_of}
use Rattle.binding_names.proofs.Names.{ends_bad, ends_good, part_is}
use Rattle.binding_names.proofs.may_end.Goals as goal

pub returns-then-good_name : goal.returns-then-good_name
returns-then-good_name c =
    let args = c.args in
    let p = part_is args.text.now args.from args.n in
    ap not (c.taken.ensures ∙ ap (λ (l : List ℕ). among (names_of (lines_in args.text.now args.table.now args.k)) l) p)
    ∙ sym (ends_good _ _ (ap good_name (sym p) ∙ sym c.good_name.ensures ∙ c.if-good_name.true))

pub returns-else-good_name : goal.returns-else-good_name
returns-else-good_name c =
    c.if-good_name.false ∙ sym (ends_bad _ _ (ap good_name (sym (part_is c.args.text.now c.args.from c.args.n)) ∙ sym c.good_name.ensures ∙ c.if-good_name.false))
