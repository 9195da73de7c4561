-- How many words types and whole expressions have, where row 7 finds no fault. Assumes nothing: these are definitions.
use Rattle.std.specs.Prelude.{◌≡◌, List, [], ◌≤◌}
use Rattle.language.specs.Words.{Word}
use Rattle.language.specs.Tree.{Actor}
use Rattle.language.specs.Limits.{limits}
use Rattle.language.specs.Parts.{each, type_start, start, wholes, statements, actor_items, types}
use Rattle.language.specs.Counts.{type_words, expr_words, word_after}
use Rattle.placed.specs.Placed.{Every}

-- row 7 finds a type and a whole expression of too many words: its first word is among the actor's, and as many follow
pub record Worded (ws : List Word) (a : Actor) : Type 0 where
  pub in_types : Every (λ t. word_after ws (type_start t) limits.typeWords ≡ [] → type_words t ≤ limits.typeWords) (types (actor_items a))
  pub in_wholes : Every (λ e. word_after ws (start e) limits.expressionWords ≡ [] → expr_words e ≤ limits.expressionWords) (each wholes (statements a))

-- "type 64 words; expression 256 words"
pub record Short (a : Actor) : Type 0 where
  pub in_types : Every (λ t. type_words t ≤ limits.typeWords) (types (actor_items a))
  pub in_wholes : Every (λ e. expr_words e ≤ limits.expressionWords) (each wholes (statements a))
