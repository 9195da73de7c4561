-- The cycle of the expressions meets its contracts. Assumes nothing.
use Prim.Native.Nat.{◌+◌, ◌*◌, ◌-◌}
use Rattle.language.specs.Parser.{cond_l, bin_l, part_l}
use Rattle.tape.specs.Tape.{flat}
use Rattle.readers.specs.Marks.{count}
use Rattle.readers.proofs.Turns.{Turned}
use Rattle.type_reader.proofs.Operands.{}
use Rattle.expression_reader.proofs.+expressions.Given as goal

abbrev pub decreases-arms : goal.decreases-arms
decreases-arms l = 8 * (count l.words.now - l.at) + 1

abbrev pub decreases-binary : goal.decreases-binary
decreases-binary l = 8 * (count l.words.now - l.at) + 4

abbrev pub decreases-choices : goal.decreases-choices
decreases-choices l = 8 * (count l.words.now - l.at) + 0

abbrev pub decreases-default : goal.decreases-default
decreases-default l = 8 * (count l.words.now - l.at) + 0

abbrev pub decreases-either : goal.decreases-either
decreases-either l = 8 * (count l.words.now - l.at) + 4

abbrev pub decreases-expr : goal.decreases-expr
decreases-expr l = 8 * (count l.words.now - l.at) + 5

abbrev pub decreases-inside : goal.decreases-inside
decreases-inside l = 8 * (count l.words.now - l.at) + 2

abbrev pub decreases-joined : goal.decreases-joined
decreases-joined l = 8 * (count l.words.now - l.at) + 2

abbrev pub decreases-labelled : goal.decreases-labelled
decreases-labelled l = 8 * (count l.words.now - l.at) + 0

abbrev pub decreases-named : goal.decreases-named
decreases-named l = 8 * (count l.words.now - l.at) + 2

abbrev pub decreases-number : goal.decreases-number
decreases-number l = 8 * (count l.words.now - l.at) + 2

abbrev pub decreases-operand : goal.decreases-operand
decreases-operand l = 8 * (count l.words.now - l.at) + 3

abbrev pub decreases-operators : goal.decreases-operators
decreases-operators l = 8 * (count l.words.now - l.at) + 0

abbrev pub decreases-parts : goal.decreases-parts
decreases-parts l = 8 * (count l.words.now - l.at) + 0

abbrev pub decreases-select : goal.decreases-select
decreases-select l = 8 * (count l.words.now - l.at) + 2

abbrev pub decreases-unary : goal.decreases-unary
decreases-unary l = 8 * (count l.words.now - l.at) + 2

abbrev pub invariant-choices-loop-items : goal.invariant-choices-loop-items
invariant-choices-loop-items l = Turned flat (λ ms f a ws. cond_l ms f l.arm a ws) l.words l.initial.x l.initial.items.n l.initial.items.tape l.x l.items.n l.items.tape

abbrev pub decreases-choices-loop-items : goal.decreases-choices-loop-items
decreases-choices-loop-items l = count l.words - l.x

abbrev pub invariant-operators-loop-at : goal.invariant-operators-loop-at
invariant-operators-loop-at l = Turned flat (λ ms f a ws. bin_l ms f l.arm l.below a ws) l.words l.initial.x l.initial.items.n l.initial.items.tape l.x l.items.n l.items.tape

abbrev pub decreases-operators-loop-at : goal.decreases-operators-loop-at
decreases-operators-loop-at l = count l.words - l.x

abbrev pub invariant-parts-loop-items : goal.invariant-parts-loop-items
invariant-parts-loop-items l = Turned flat (λ ms f a ws. part_l ms f a ws) l.words l.initial.x l.initial.items.n l.initial.items.tape l.x l.items.n l.items.tape

abbrev pub decreases-parts-loop-items : goal.decreases-parts-loop-items
decreases-parts-loop-items l = count l.words - l.x
