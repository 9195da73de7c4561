-- `readers::look::level` meets its contract: its table is a test at each of its entries, which antt computes; past it no word is fixed. Assumes nothing.
use Rattle.std.proofs.Common.{◌≡◌, ℕ, ◌+◌, ◌-◌, ◌≤◌, Bool, true, false, refl, sym, ap, ◌∙◌, arith}
use Prim.Native.String.{String}
use lib.Dec.{leb, ltb, leb→le}
use lib.ListN.{get_or}
use borrow.Author.Tests.{ltb-true}
use Rattle.language.specs.Grammar.{operators, operator_in}
use Rattle.readers.specs.Marks.{level_of, level_in, fixed_of, figure_of}
use Rattle.signs.specs.Kinds.{spelled_words}
use Rattle.readers.proofs.Table.{at, at_least, figure_law}
use Rattle.readers.proofs.Spells.{fixed_past}
use Rattle.readers.specs.declared.look.TheConstants.{LEVELS}
use Rattle.readers.proofs.look.level.Goals as goal

levels : (k : ℕ) → figure_of LEVELS 48 9 k ≡ level_of k
unfolding level_of level_in operator_in operators fixed_of spelled_words
levels = figure_law LEVELS 48 9 level_of refl tt (λ k h. sym (ap (λ (s : String). level_in (operator_in operators s)) (fixed_past k h)))

-- a word that is no operator has no level below the loosest, nor has the end
wordy : (k : ℕ) → 9 ≤ k + figure_of LEVELS 48 9 k
wordy k = go (ltb k 65) refl
  where
    go : (b : Bool) → ltb k 65 ≡ b → 9 ≤ k + elim b [ true ↦ get_or LEVELS k 0 - 48 | false ↦ 9 ]
    go true q = leb→le 9 _ (at (λ k x. leb 9 (k + (x - 48))) LEVELS tt k (ltb-true k 65 q))
    go false q = omega arith

pub figure-requires : goal.figure-requires
figure-requires c = at_least 48 LEVELS tt

pub returns : goal.returns
returns c = record { is = c.figure.ensures ∙ levels c.args.k; word = rw c.figure.ensures (wordy c.args.k) }
