-- `readers::look::unary_number` meets its contract: its table is a test at each of its entries, which antt computes; past it no word is fixed. Assumes nothing.
use mathlib.Core.Path.{refl, sym, ap, ◌∙◌}
use Prim.Native.String.{String}
use Rattle.language.specs.Grammar.{prefixes, prefix_in}
use Rattle.readers.specs.Marks.{unary_of, unary_in, fixed_of}
use Rattle.signs.specs.Kinds.{spelled_words}
use Rattle.readers.proofs.Table.{at_least, figure_law}
use Rattle.readers.proofs.Spells.{fixed_past}
use Rattle.readers.specs.declared.look.TheConstants.{UNARIES}
use Rattle.readers.proofs.look.unary_number.Goals as goal

pub figure-requires : goal.figure-requires
figure-requires c = at_least 48 UNARIES tt

pub returns : goal.returns
unfolding unary_of unary_in prefix_in prefixes fixed_of spelled_words
returns c = c.figure.ensures ∙ figure_law UNARIES 48 0 unary_of refl tt (λ k h. sym (ap (λ (s : String). unary_in (prefix_in prefixes s)) (fixed_past k h))) c.args.k
