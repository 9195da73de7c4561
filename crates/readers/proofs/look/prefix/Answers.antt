-- `readers::look::prefix` meets its contract: its table is a test at each of its entries, which antt computes; past it no word is fixed. Assumes nothing.
use mathlib.Core.Path.{◌≡◌, refl, sym, ap, ◌∙◌}
use mathlib.Core.Bool.{Bool, true, false}
use Prim.Native.Nat.{ℕ}
use Prim.Native.String.{String}
use lib.Dec.{eqb}
use Rattle.language.specs.Grammar.{prefixes, prefix_in}
use Rattle.tape.specs.Tape.{one_if}
use Rattle.readers.specs.Marks.{is_mark, is_some, fixed_of}
use Rattle.signs.specs.Kinds.{spelled_words}
use Rattle.readers.proofs.Table.{at_least, figure_law}
use Rattle.readers.proofs.Spells.{fixed_past}
use Rattle.readers.specs.declared.look.TheConstants.{MARKS}
use Rattle.readers.proofs.look.prefix.Goals as goal

is_one : (b : Bool) → eqb (one_if b) 1 ≡ b
unfolding one_if
is_one true = refl
is_one false = refl

pub figure-requires : goal.figure-requires
figure-requires c = at_least 48 MARKS tt

pub returns : goal.returns
unfolding one_if is_mark is_some prefix_in prefixes fixed_of spelled_words
returns c = ap (λ (n : ℕ). eqb n 1)
    (c.figure.ensures ∙ figure_law MARKS 48 0 (λ k. one_if (is_mark k)) refl tt (λ k h. sym (ap (λ (s : String). one_if (is_some (prefix_in prefixes s))) (fixed_past k h))) c.args.k)
    ∙ is_one (is_mark c.args.k)
