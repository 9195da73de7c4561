-- `part_lengths::too_long` meets its contract. Assumes nothing.
use Rattle.std.proofs.Common.{sym, ap, ◌∙◌, List, ℕ}
use Rattle.language.specs.Text.{earliest}
use Rattle.words.specs.Found.{place_told}
use Rattle.part_lengths.specs.Parts.{places_in}
use Rattle.part_lengths.proofs.Backs.{short, long}
use Rattle.part_lengths.proofs.too_long.Goals as goal

pub returns-then-part-most : goal.returns-then-part-most
returns-then-part-most c = short _ c.args.limit c.args.part.words c.args.part.start c.if-part-most.true

pub returns : goal.returns
returns c =
    c.word_after.ensures ∙ ap (λ (l : List ℕ). place_told (earliest l))
    (sym (long (places_in c.args.table.now 0 c.args.many) c.args.limit c.args.part.words c.args.part.start c.if-part-most.false))
