-- `readers::look::binary_number` meets its contract: its table is a test at each of its entries, which antt computes; past it no word is fixed. Assumes nothing.
use mathlib.Core.Path.{refl, sym, ap, ◌∙◌}
use Prim.Native.String.{String}
use Rattle.language.specs.Grammar.{operators, operator_in}
use Rattle.readers.specs.Marks.{binary_of, binary_in, fixed_of}
use Rattle.signs.specs.Kinds.{spelled_words}
use Rattle.readers.proofs.Table.{at_least, figure_law}
use Rattle.readers.proofs.Spells.{fixed_past}
use Rattle.readers.specs.declared.look.TheConstants.{BINARIES}
use Rattle.readers.proofs.look.binary_number.Goals as goal

pub figure-requires : goal.figure-requires
figure-requires c = at_least 97 BINARIES tt

pub returns : goal.returns
unfolding binary_of binary_in operator_in operators fixed_of spelled_words
returns c = c.figure.ensures ∙ figure_law BINARIES 97 0 binary_of refl tt (λ k h. sym (ap (λ (s : String). binary_in (operator_in operators s)) (fixed_past k h))) c.args.k
