-- THE THEOREM: the reader of actors is the grammar. Assumes nothing.
use mathlib.Core.Path.{refl}
use mathlib.Core.List.{[]}
use native.Mathlib.Omega.{arith}
use lib.ListN.{length}
use Rattle.language.specs.Grammar.{Actors}
use Rattle.language.specs.Parser.{actor_p, parse}
use Rattle.language.specs.Statement.{Correct}
use Rattle.language.proofs.Laws.{Never}
use Rattle.language.proofs.Whole.{correct_of}
use Rattle.language.proofs.Actors.{actor_good, actor_settled, actor_complete, actor_pair}

pub grammar_correct : Correct Actors parse
unfolding parse
grammar_correct = correct_of Actors actor_p _ (λ r. Never) actor_good (λ ws t d f. actor_complete d f []) length (λ ws. actor_settled _ ws (omega arith))
    actor_pair (λ r s i. i) parse (λ ws. refl)
