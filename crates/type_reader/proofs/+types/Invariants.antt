-- The cycle of the types meets its contracts. Assumes nothing.
use Prim.Native.Nat.{◌+◌, ◌*◌, ◌-◌}
use Rattle.language.specs.Parser.{type_l, entry_l}
use Rattle.tape.specs.Tape.{flat_t}
use Rattle.readers.specs.Marks.{count}
use Rattle.readers.proofs.Turns.{Turned}
use Rattle.type_reader.proofs.+types.Given as goal

abbrev pub decreases-entries : goal.decreases-entries
decreases-entries l = 8 * (count l.words.now - l.at) + 0

abbrev pub decreases-function : goal.decreases-function
decreases-function l = 8 * (count l.words.now - l.at) + 1

abbrev pub decreases-most : goal.decreases-most
decreases-most l = 8 * (count l.words.now - l.at) + 1

abbrev pub decreases-sums : goal.decreases-sums
decreases-sums l = 8 * (count l.words.now - l.at) + 0

abbrev pub decreases-term : goal.decreases-term
decreases-term l = 8 * (count l.words.now - l.at) + 2

abbrev pub decreases-typ : goal.decreases-typ
decreases-typ l = 8 * (count l.words.now - l.at) + 3

abbrev pub decreases-within : goal.decreases-within
decreases-within l = 8 * (count l.words.now - l.at) + 1

abbrev pub invariant-entries-loop-items : goal.invariant-entries-loop-items
invariant-entries-loop-items l = Turned flat_t (λ ms f a ws. entry_l f a ws) l.words l.initial.x l.initial.items.n l.initial.items.tape l.x l.items.n l.items.tape

abbrev pub decreases-entries-loop-items : goal.decreases-entries-loop-items
decreases-entries-loop-items l = count l.words - l.x

abbrev pub invariant-sums-loop-at : goal.invariant-sums-loop-at
invariant-sums-loop-at l = Turned flat_t (λ ms f a ws. type_l f a ws) l.words l.initial.x l.initial.items.n l.initial.items.tape l.x l.items.n l.items.tape

abbrev pub decreases-sums-loop-at : goal.decreases-sums-loop-at
decreases-sums-loop-at l = count l.words - l.x
